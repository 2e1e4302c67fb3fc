-- Lists of bytes: numbers below 256. Past the end of a list `get_or` gives 0, which is one.
use mathlib.Core.Bool.{true}
use mathlib.Core.List.{List, [], ◌∷◌, ◌++◌}
use mathlib.Core.Path.{◌≡◌}
use Prim.Native.Nat.{ℕ, zero, suc, ◌<◌}
use lib.Dec.{ltb, lit<}
use lib.ListN.{take, drop}
use lib.Pow.{are_bytes}
use borrow.Author.Tests.{ltb-true}
use Rattle.basics.proofs.Cases.{and_left, and_right}
use Rattle.hexadecimal.specs.Bytes.{EachByte}

pub each_byte-are_bytes : (s : List ℕ) → are_bytes s ≡ true → EachByte s
each_byte-are_bytes [] e i = lit< tt
each_byte-are_bytes (b ∷ s) e zero = ltb-true b 256 (and_left (ltb b 256) (are_bytes s) e)
each_byte-are_bytes (b ∷ s) e (suc i) =
    each_byte-are_bytes s (and_right (ltb b 256) (are_bytes s) e) i

pub each_byte-one : (b : ℕ) → b < 256 → EachByte (b ∷ [])
each_byte-one b h zero = h
each_byte-one b h (suc i) = lit< tt

pub each_byte-append : (s t : List ℕ) → EachByte s → EachByte t → EachByte (s ++ t)
each_byte-append [] t p q i = q i
each_byte-append (b ∷ s) t p q zero = p zero
each_byte-append (b ∷ s) t p q (suc i) = each_byte-append s t (λ j. p (suc j)) q i

pub each_byte-drop : (k : ℕ) (s : List ℕ) → EachByte s → EachByte (drop k s)
each_byte-drop zero s h i = h i
each_byte-drop (suc k) [] h i = lit< tt
each_byte-drop (suc k) (b ∷ s) h i = each_byte-drop k s (λ j. h (suc j)) i

pub each_byte-take : (k : ℕ) (s : List ℕ) → EachByte s → EachByte (take k s)
each_byte-take zero s h i = lit< tt
each_byte-take (suc k) [] h i = lit< tt
each_byte-take (suc k) (b ∷ s) h zero = h zero
each_byte-take (suc k) (b ∷ s) h (suc i) = each_byte-take k s (λ j. h (suc j)) i
