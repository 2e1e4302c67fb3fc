-- Laws of `sets`, a run of stores: of two runs that lie side by side the first may be made before
-- or after the second.
use mathlib.Core.List.{List, [], ◌∷◌, ◌++◌}
use mathlib.Core.Path.{◌≡◌, refl, sym, ap, ◌∙◌}
use Prim.Native.Nat.{ℕ, suc, ◌+◌, ◌≤◌}
use native.Mathlib.Nat.{add-zero, zero-add}
use native.Mathlib.Omega.{arith}
use lib.ListN.{length, drop, set}
use lib.Seq.{sets, sets-eq, set_comm}

module _ {A : Type 0} where
  pub sets-append : (l : List A) (i : ℕ) (a b : List A)
      → sets l i (a ++ b) ≡ sets (sets l i a) (i + length a) b
  sets-append l i [] b = ap (λ (k : ℕ). sets l k b) (sym (add-zero i))
  sets-append l i (x ∷ a) b =
      sets-append (set l i x) (suc i) a b
      ∙ ap (λ (k : ℕ). sets (sets (set l i x) (suc i) a) k b) (omega arith)

  -- a run right behind a run is one run
  pub sets-join : (l : List A) (i j : ℕ) (a b : List A) → j ≡ i + length a
      → sets (sets l i a) j b ≡ sets l i (a ++ b)
  sets-join l i j a b e = ap (λ (k : ℕ). sets (sets l i a) k b) e ∙ sym (sets-append l i a b)

  -- a store behind a run
  pub sets-set : (l : List A) (i j : ℕ) (a : List A) (x : A) → i + length a ≤ j
      → sets (set l j x) i a ≡ set (sets l i a) j x
  sets-set l i j [] x h = refl
  sets-set l i j (y ∷ a) x h =
      ap (λ (r : List A). sets r (suc i) a) (set_comm l j i x y (omega arith))
      ∙ sets-set (set l i y) (suc i) j a x (omega arith)

  -- a run behind a run
  pub sets-sets : (l : List A) (i j : ℕ) (a b : List A) → i + length a ≤ j
      → sets (sets l j b) i a ≡ sets (sets l i a) j b
  sets-sets l i j a [] h = refl
  sets-sets l i j a (x ∷ b) h =
      sets-sets (set l j x) i (suc j) a b (omega arith)
      ∙ ap (λ (r : List A). sets r (suc j) b) (sets-set l i j a x h)

  -- a run from the front on
  pub sets-front : (l a : List A) → length a ≤ length l → sets l 0 a ≡ a ++ drop (length a) l
  sets-front l a h =
      sets-eq a l 0 (omega arith) ∙ ap (λ (k : ℕ). a ++ drop k l) (zero-add (length a))
