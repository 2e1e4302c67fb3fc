-- A set within another, by one mask.
use mathlib.Core.Bool.{Bool, true, false, not, ◌&&◌, ◌||◌}
use mathlib.Core.Path.{◌≡◌, refl, sym, ap, ◌∙◌}
use Prim.Native.Nat.{ℕ, ◌^◌, ◌<◌}
use lib.Bits.{bit_and}
use lib.Dec.{eqb}
use borrow.Author.Tests.{eqb-true, eq-eqb}
use Rattle.basics.proofs.Cases.{test-ext}
use Rattle.basics.specs.Lists.{every}
use Rattle.basics.proofs.Lists.{every-at, at_every}
use Rattle.itemset.specs.Set.{has}
use Rattle.itemset.proofs.Laws.{has-below, set-ext}
use Rattle.itemset.proofs.Bits.{has-and}

and-or : (a b : Bool) → (a && b) ≡ a → (not a || b) ≡ true
and-or true b e = e
and-or false b e = refl

or-and : (a b : Bool) → (a ≡ true → (not a || b) ≡ true) → (a && b) ≡ a
or-and true b h = h refl
or-and false b h = refl

pub subset-mask : (s t n : ℕ) → s < 2 ^ n
    → eqb (bit_and s t) s ≡ every n (λ k. not (has s k) || has t k)
subset-mask s t n l =
    test-ext _ _
    (λ e. at_every n _ (λ k b. and-or (has s k) (has t k)
    (sym (has-and s t k) ∙ ap (λ (x : ℕ). has x k) (eqb-true (bit_and s t) s e))))
    (λ e. eq-eqb _ _ (set-ext (bit_and s t) s (λ k. has-and s t k
    ∙ or-and (has s k) (has t k) (λ h. every-at n _ e k (has-below s k n l h)))))
