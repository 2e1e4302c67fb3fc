-- Lists whose elements are held place by place: one more at the end, one taken out, and the list
-- read back.
use mathlib.Core.List.{List, [], ◌∷◌, ◌++◌}
use mathlib.Core.Path.{◌≡◌, refl, ◌∙◌, subst}
use Prim.Native.Nat.{ℕ, zero, suc, ◌≤◌, ◌<◌}
use native.Mathlib.Nat.{le_of_suc-le-suc, not-suc-le-zero}
use native.Mathlib.Omega.{arith}
use lib.Dec.{ltb}
use lib.ListN.{length, get_or, length-append, get_or-append}
use lib.Seq.{ext_get_or, get_or_at}
use borrow.Author.Tests.{ltb-true, ltb-false}
use Rattle.basics.proofs.Cases.{by-test}
use Rattle.basics.specs.Lists.{table, without}
use Rattle.basics.proofs.Lists.{length-table, table_at, length_without}

module _ {A : Type 0} where
  -- each element is held at its place
  abbrev pub Each : (ℕ → A → Type 0) → List A → Type 0
  Each Holds xs = (i : ℕ) → i < length xs → (none : A) → Holds i (get_or xs i none)

  pub each_append : (Holds : ℕ → A → Type 0) (xs : List A) (x : A) → Each Holds xs
      → Holds (length xs) x → Each Holds (xs ++ x ∷ [])
  each_append Holds xs x e h i l none =
      by-test (ltb i (length xs))
      (λ t. let below : i < length xs = ltb-true i (length xs) t in
      rw (get_or-append xs (x ∷ []) none i below) (e i below none))
      (λ t. let last : length xs ≡ i =
      omega (arith, ltb-false i (length xs) t, length-append xs (x ∷ [])) in
      subst (λ (j : ℕ). Holds j (get_or (xs ++ x ∷ []) j none)) last
      (rw (get_or_at xs x [] none (length xs) refl) h))

  -- ---- one taken out

  get_or-without-before : (xs : List A) (i j : ℕ) (none : A) → j < i
      → get_or (without i xs) j none ≡ get_or xs j none
  unfolding without
  get_or-without-before [] i j none h = refl
  get_or-without-before (x ∷ xs) zero j none h = absurd (not-suc-le-zero h)
  get_or-without-before (x ∷ xs) (suc i) zero none h = refl
  get_or-without-before (x ∷ xs) (suc i) (suc j) none h =
      get_or-without-before xs i j none (le_of_suc-le-suc h)

  get_or-without-behind : (xs : List A) (i j : ℕ) (none : A) → i ≤ j
      → get_or (without i xs) j none ≡ get_or xs (suc j) none
  unfolding without
  get_or-without-behind [] i j none h = refl
  get_or-without-behind (x ∷ xs) zero j none h = refl
  get_or-without-behind (x ∷ xs) (suc i) zero none h = absurd (not-suc-le-zero h)
  get_or-without-behind (x ∷ xs) (suc i) (suc j) none h =
      get_or-without-behind xs i j none (le_of_suc-le-suc h)

  -- earlier elements stay at their places, later ones move up by one
  pub each-without : (Held Holds : ℕ → A → Type 0) (xs : List A) (i : ℕ) → i < length xs
      → ((j : ℕ) (x : A) → j < i → Held j x → Holds j x)
      → ((j : ℕ) (x : A) → i ≤ j → suc j < length xs → Held (suc j) x → Holds j x)
      → Each Held xs → Each Holds (without i xs)
  each-without Held Holds xs i h stay move e j l none =
      by-test (ltb j i)
      (λ t. let below : j < i = ltb-true j i t in
      rw (get_or-without-before xs i j none below)
      (stay j (get_or xs j none) below (e j (omega arith) none)))
      (λ t. let behind : i ≤ j = ltb-false j i t in
      let inside : suc j < length xs = omega (arith, length_without i xs h) in
      rw (get_or-without-behind xs i j none behind)
      (move j (get_or xs (suc j) none) behind inside (e (suc j) inside none)))

  -- ---- read back

  pub table-each : (f : ℕ → A) (xs : List A) → Each (λ i x. f i ≡ x) xs → table (length xs) f ≡ xs
  table-each f xs e =
      ext_get_or (f 0) (table (length xs) f) xs (length-table (length xs) f)
      (λ i l.
      let below : i < length xs = omega (arith, length-table (length xs) f) in
      table_at (length xs) f i (f 0) below ∙ e i below (f 0))
