-- The bytes of an input are fed in order: some and then others are all of them.
use mathlib.Core.List.{List, [], ◌∷◌, ◌++◌}
use mathlib.Core.Path.{◌≡◌, refl, ap, ◌∙◌}
use Prim.Native.Nat.{ℕ, ◌+◌, ◌<◌}
use native.Mathlib.Numerals.{add-one}
use lib.ListN.{length, get_or, take}
use lib.Seq.{take-suc}
use Rattle.lines.specs.Input.{Lent, fed, fed_all}

pub fed_all-append : (s : Lent) (xs ys : List ℕ) → fed_all s (xs ++ ys) ≡ fed_all (fed_all s xs) ys
unfolding fed_all
fed_all-append s [] ys = refl
fed_all-append s (x ∷ xs) ys = fed_all-append (fed s x) xs ys

-- one byte more
pub fed_all-next : (s : Lent) (input : List ℕ) (i : ℕ) → i < length input
    → fed_all s (take (i + 1) input) ≡ fed (fed_all s (take i input)) (get_or input i 0)
unfolding fed_all
fed_all-next s input i h =
    ap (λ (n : ℕ). fed_all s (take n input)) (add-one i)
    ∙ ap (fed_all s) (take-suc input i 0 h)
    ∙ fed_all-append s (take i input) (get_or input i 0 ∷ [])
