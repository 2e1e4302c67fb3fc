-- Runs of words: a run that is stored word by word, and what a block holds within a run and outside
-- it.
use mathlib.Core.List.{List, [], ◌∷◌, ◌++◌}
use mathlib.Core.Logic.{◌≢◌}
use mathlib.Core.Path.{◌≡◌, refl, sym, ap, ◌∙◌}
use Prim.Native.Nat.{ℕ, zero, suc, ◌+◌, ◌≤◌, ◌<◌}
use native.Mathlib.Nat.{not-suc-le-zero, le_of_suc-le-suc, add-zero}
use native.Mathlib.Omega.{arith}
use lib.ListN.{length, get_or, set, take, drop, length-set, length-drop}
use lib.Seq.{sets, sets-eq, paste, length-sets, length-take-le, get_or-set_same, get_or-set_other}

module _ {A : Type 0} where
  -- one more word at the end of a run
  pub sets-snoc : (l : List A) (i : ℕ) (vs : List A) (a : A)
      → sets l i (vs ++ a ∷ []) ≡ set (sets l i vs) (i + length vs) a
  sets-snoc l i [] a = ap (λ (k : ℕ). set l k a) (sym (add-zero i))
  sets-snoc l i (v ∷ vs) a =
      sets-snoc (set l i v) (suc i) vs a
      ∙ ap (λ (k : ℕ). set (sets (set l i v) (suc i) vs) k a) (omega arith)

  -- outside a run nothing changes
  pub get_d_sets_before : (l : List A) (i : ℕ) (vs : List A) (j : ℕ) (d : A) → j < i
      → get_or (sets l i vs) j d ≡ get_or l j d
  get_d_sets_before l i [] j d h = refl
  get_d_sets_before l i (a ∷ vs) j d h =
      get_d_sets_before (set l i a) (suc i) vs j d (omega arith)
      ∙ get_or-set_other l i j a d (λ e. omega arith)

  pub get_or-sets-behind : (l : List A) (i : ℕ) (vs : List A) (j : ℕ) (d : A) → i + length vs ≤ j
      → get_or (sets l i vs) j d ≡ get_or l j d
  get_or-sets-behind l i [] j d h = refl
  get_or-sets-behind l i (a ∷ vs) j d h =
      get_or-sets-behind (set l i a) (suc i) vs j d (omega arith)
      ∙ get_or-set_other l i j a d (λ e. omega arith)

  -- a run that fits is read back
  pub get_or-sets-within : (l : List A) (i : ℕ) (vs : List A) (f : ℕ) (d : A)
      → i + length vs ≤ length l → f < length vs
      → get_or (sets l i vs) (i + f) d ≡ get_or vs f d
  get_or-sets-within l i [] f d h k = absurd (not-suc-le-zero k)
  get_or-sets-within l i (a ∷ vs) zero d h k =
      ap (λ (j : ℕ). get_or (sets (set l i a) (suc i) vs) j d) (add-zero i)
      ∙ get_d_sets_before (set l i a) (suc i) vs i d (omega arith)
      ∙ get_or-set_same l i a d (omega arith)
  get_or-sets-within l i (a ∷ vs) (suc f) d h k =
      ap (λ (j : ℕ). get_or (sets (set l i a) (suc i) vs) j d) (omega arith)
      ∙ get_or-sets-within (set l i a) (suc i) vs f d (simp length-set (omega arith))
      (le_of_suc-le-suc k)

  -- ---- words that move down the block by `by` places

  pub moved_down : (l : List A) (from by k n : ℕ) → from + by + k ≤ length l → n ≡ k
      → paste l from (drop (from + by) l) n ≡ sets l from (take k (drop (from + by) l))
  moved_down l from by k n h e =
      let s : List A = drop (from + by) l in
      let len : length (take k s) ≡ k = length-take-le k s (simp length-drop (omega arith)) in
      rw (e, sets-eq (take k s) l from (omega arith), len) refl

  -- ---- a run of words from place i on, and one word more elsewhere, at place j: how the block changes at an append and when one is taken out

  module _ (l : List A) (i : ℕ) (vs : List A) (j : ℕ) (a d : A) where
    pub run_length : length (set (sets l i vs) j a) ≡ length l
    run_length = length-set (sets l i vs) j a ∙ length-sets l i vs

    pub run-before : (k : ℕ) → k < i → k ≢ j → get_or (set (sets l i vs) j a) k d ≡ get_or l k d
    run-before k h n = get_or-set_other (sets l i vs) j k a d n ∙ get_d_sets_before l i vs k d h

    pub run-behind : (k : ℕ) → i + length vs ≤ k → k ≢ j
        → get_or (set (sets l i vs) j a) k d ≡ get_or l k d
    run-behind k h n = get_or-set_other (sets l i vs) j k a d n ∙ get_or-sets-behind l i vs k d h

    pub run-within : (k f : ℕ) → k ≡ i + f → f < length vs → i + length vs ≤ length l → k ≢ j
        → get_or (set (sets l i vs) j a) k d ≡ get_or vs f d
    run-within k f e g h n =
        get_or-set_other (sets l i vs) j k a d n
        ∙ ap (λ (m : ℕ). get_or (sets l i vs) m d) e
        ∙ get_or-sets-within l i vs f d h g

    pub run-elsewhere : j < length l → get_or (set (sets l i vs) j a) j d ≡ a
    run-elsewhere h = get_or-set_same (sets l i vs) j a d (omega (arith, length-sets l i vs))
