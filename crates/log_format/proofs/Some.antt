-- Laws of the searches: what a search that succeeds found, and its steps from a place on.
use mathlib.Core.Bool.{Bool, true, false, ◌&&◌, ◌||◌}
use mathlib.Core.List.{List, [], ◌∷◌}
use mathlib.Core.Logic.{inl, inr, ⊎_elim}
use mathlib.Core.Path.{◌≡◌, refl, sym, ◌∙◌, subst}
use Prim.Native.Nat.{ℕ, zero, suc, ◌+◌, ◌-◌, ◌≤◌, ◌<◌}
use native.Mathlib.Nat.{sub-eq-zero_of_le}
use native.Mathlib.Numerals.{add-one}
use native.Mathlib.Omega.{arith}
use lib.Dec.{eqb, ltb}
use lib.ListN.{length, get_or}
use borrow.Author.Tests.{eqb-true, eqb-false, ltb-true, ltb-false}
use Rattle.basics.proofs.Cases.{by-test, not-both, or_cases, or_left, or_right, test-ext}
use Rattle.basics.specs.Lists.{In}
use Rattle.basics.proofs.Lists.{in-get_or}
use Rattle.log_format.specs.Some.{some, some_from, first_from}

module _ {A : Type 0} where
  -- ---- some: an element passes the test

  pub some_in : (p : A → Bool) (xs : List A) → some p xs ≡ true → (x : A) × In x xs × (p x ≡ true)
  unfolding some
  some_in p [] e = not-both e refl
  some_in p (x ∷ xs) e =
      let later : some p xs ≡ true → (y : A) × In y (x ∷ xs) × (p y ≡ true) =
      λ r. (let f = some_in p xs r in (f.0, inr f.1, f.2)) in
      ⊎_elim (λ h. (x, inl refl, h)) later (or_cases (p x) (some p xs) e)

  pub in_some : (p : A → Bool) (xs : List A) (x : A) → In x xs → p x ≡ true → some p xs ≡ true
  unfolding some
  in_some p [] x i e = absurd i
  in_some p (y ∷ ys) x (inl i) e = or_left (p y) (some p ys) (subst (λ (z : A). p z ≡ true) i e)
  in_some p (y ∷ ys) x (inr i) e = or_right (p y) (some p ys) (in_some p ys x i e)

  pub some_at : (p : A → Bool) (xs : List A) (d : A) → some p xs ≡ true → (j : ℕ) × (j < length xs)
      × (p (get_or xs j d) ≡ true)
  unfolding some
  some_at p [] d e = not-both e refl
  some_at p (x ∷ xs) d e =
      let later : some p xs ≡ true → (j : ℕ) × (j < length (x ∷ xs))
      × (p (get_or (x ∷ xs) j d) ≡ true) =
      λ r. (let f = some_at p xs d r in (suc f.0, omega (arith, f.1), f.2)) in
      ⊎_elim (λ h. (0, omega arith, h)) later (or_cases (p x) (some p xs) e)

  pub at_some : (p : A → Bool) (xs : List A) (d : A) (j : ℕ) → j < length xs
      → p (get_or xs j d) ≡ true → some p xs ≡ true
  at_some p xs d j h e = in_some p xs (get_or xs j d) (in-get_or xs j d h) e
  -- the rest of a list, from its j-th element on

-- ---- some_from: one of the d numbers from k on passes the test

pub some_from-at : (d k : ℕ) (p : ℕ → Bool) → some_from d k p ≡ true → (j : ℕ) × (k ≤ j) × (j < k + d)
    × (p j ≡ true)
unfolding some_from
some_from-at zero k p e = not-both e refl
some_from-at (suc d) k p e =
    let later : some_from d (suc k) p ≡ true → (j : ℕ) × (k ≤ j) × (j < k + suc d) × (p j ≡ true) =
    λ r. (let f = some_from-at d (suc k) p r in
    (f.0, omega (arith, f.1), omega (arith, f.2), f.3)) in
    ⊎_elim (λ h. (k, omega arith, omega arith, h)) later (or_cases (p k) (some_from d (suc k) p) e)

pub at-some_from : (d k : ℕ) (p : ℕ → Bool) (j : ℕ) → k ≤ j → j < k + d → p j ≡ true
    → some_from d k p ≡ true
unfolding some_from
at-some_from zero k p j l h e = absurd (omega arith)
at-some_from (suc d) k p j l h e =
    by-test (eqb j k)
    (λ t. or_left (p k) (some_from d (suc k) p) (subst (λ (i : ℕ). p i ≡ true) (eqb-true j k t) e))
    (λ t. or_right (p k) (some_from d (suc k) p)
    (at-some_from d (suc k) p j (omega (arith, eqb-false j k t)) (omega arith) e))

-- below a bound n
pub some_from-end : (n k : ℕ) (p : ℕ → Bool) → n ≤ k → some_from (n - k) k p ≡ false
unfolding some_from
some_from-end n k p h = rw (sub-eq-zero_of_le h)

left : (n k : ℕ) → k < n → n - k ≡ suc (n - (k + 1))
left n k h = omega arith

pub some_from-here : (n k : ℕ) (p : ℕ → Bool) → k < n → p k ≡ true → some_from (n - k) k p ≡ true
unfolding some_from
some_from-here n k p h e = rw (left n k h) (or_left (p k) (some_from (n - (k + 1)) (suc k) p) e)

pub some_from-next : (n k : ℕ) (p : ℕ → Bool) → k < n → p k ≡ false
    → some_from (n - k) k p ≡ some_from (n - (k + 1)) (k + 1) p
unfolding some_from
some_from-next n k p h e = rw (left n k h, e, ← add-one k)

pub some_from-ext : (d k : ℕ) (p q : ℕ → Bool) → ((j : ℕ) → k ≤ j → j < k + d → p j ≡ q j)
    → some_from d k p ≡ some_from d k q
some_from-ext d k p q h =
    test-ext (some_from d k p) (some_from d k q)
    (λ e. (let f = some_from-at d k p e in
    at-some_from d k q f.0 f.1 f.2 (sym (h f.0 f.1 f.2) ∙ f.3)))
    (λ e. (let f = some_from-at d k q e in
    at-some_from d k p f.0 f.1 f.2 (h f.0 f.1 f.2 ∙ f.3)))

-- from a number on, nothing passes the test
pub some_from-above : (p : ℕ → Bool) (n k : ℕ) → k ≤ n
    → ((j : ℕ) → k ≤ j → j < n → p j ≡ false) → some_from n 0 p ≡ some_from k 0 p
some_from-above p n k l none =
    test-ext (some_from n 0 p) (some_from k 0 p)
    (λ e.
    let f = some_from-at n 0 p e in
    at-some_from k 0 p f.0 (omega arith)
    (by-test (ltb f.0 k)
    (λ t. omega (arith, ltb-true f.0 k t))
    (λ t. not-both f.3 (none f.0 (ltb-false f.0 k t) (omega (arith, f.2)))))
    f.3)
    (λ e. (let f = some_from-at k 0 p e in
    at-some_from n 0 p f.0 (omega arith) (omega (arith, f.2)) f.3))

pub some_from-or : (d k : ℕ) (p q : ℕ → Bool)
    → some_from d k (λ j. p j || q j) ≡ (some_from d k p || some_from d k q)
some_from-or d k p q =
    test-ext (some_from d k (λ j. p j || q j)) (some_from d k p || some_from d k q)
    (λ e.
    let f = some_from-at d k (λ j. p j || q j) e in
    ⊎_elim
    (λ h. or_left (some_from d k p) (some_from d k q) (at-some_from d k p f.0 f.1 f.2 h))
    (λ h. or_right (some_from d k p) (some_from d k q) (at-some_from d k q f.0 f.1 f.2 h))
    (or_cases (p f.0) (q f.0) f.3))
    (λ e.
    ⊎_elim
    (λ h. (let f = some_from-at d k p h in
    at-some_from d k (λ j. p j || q j) f.0 f.1 f.2
    (or_left (p f.0) (q f.0) f.3)))
    (λ h. (let f = some_from-at d k q h in
    at-some_from d k (λ j. p j || q j) f.0 f.1 f.2
    (or_right (p f.0) (q f.0) f.3)))
    (or_cases (some_from d k p) (some_from d k q) e))

pub some_from-and : (d k : ℕ) (b : Bool) (p : ℕ → Bool)
    → some_from d k (λ j. b && p j) ≡ (b && some_from d k p)
unfolding some_from
some_from-and d k true p = refl
some_from-and zero k false p = refl
some_from-and (suc d) k false p = some_from-and d (suc k) false p

-- ---- first_from: the first of the d numbers from k on that passes the test; k + d where none does

pub first_from-here : (n k : ℕ) (p : ℕ → Bool) → k < n → p k ≡ true → first_from (n - k) k p ≡ k
unfolding first_from
first_from-here n k p h e = rw (left n k h, e)

pub first_from-next : (n k : ℕ) (p : ℕ → Bool) → k < n → p k ≡ false
    → first_from (n - k) k p ≡ first_from (n - (k + 1)) (k + 1) p
unfolding first_from
first_from-next n k p h e = rw (left n k h, e, ← add-one k)

pub first_from-end : (n k : ℕ) (p : ℕ → Bool) → n ≤ k → first_from (n - k) k p ≡ k
unfolding first_from
first_from-end n k p h = rw (sub-eq-zero_of_le h)

pub first_from-le : (d k : ℕ) (p : ℕ → Bool) → first_from d k p ≤ k + d
unfolding first_from
first_from-le zero k p = omega arith
first_from-le (suc d) k p = by-test (p k) (λ e. rw e (omega arith))
    (λ e. rw e (omega (arith, first_from-le d (suc k) p)))

pub first_from-ge : (d k : ℕ) (p : ℕ → Bool) → k ≤ first_from d k p
unfolding first_from
first_from-ge zero k p = omega arith
first_from-ge (suc d) k p = by-test (p k) (λ e. rw e (omega arith))
    (λ e. rw e (omega (arith, first_from-ge d (suc k) p)))

pub first_from-holds : (d k : ℕ) (p : ℕ → Bool) → first_from d k p < k + d
    → p (first_from d k p) ≡ true
unfolding first_from
first_from-holds zero k p h = absurd (omega arith)
first_from-holds (suc d) k p h =
    let rest : first_from d (suc k) p < k + suc d → p (first_from d (suc k) p) ≡ true =
    λ l. first_from-holds d (suc k) p (omega arith) in
    by-test (p k) (λ e. rw e e) (λ e. rw e (rest (rw e at h)))

pub first_from-none : (d k : ℕ) (p : ℕ → Bool) (j : ℕ) → k ≤ j → j < first_from d k p → p j ≡ false
unfolding first_from
first_from-none zero k p j l h = absurd (omega arith)
first_from-none (suc d) k p j l h =
    let rest : suc k ≤ j → j < first_from d (suc k) p → p j ≡ false =
    λ a b. first_from-none d (suc k) p j a b in
    by-test (p k)
    (λ e. absurd (none (rw e at h)))
    (λ e.
    by-test (eqb j k)
    (λ t. subst (λ (i : ℕ). p i ≡ false) (sym (eqb-true j k t)) e)
    (λ t. rest (omega (arith, eqb-false j k t)) (rw e at h)))
  where
    none : j < k → ⊥
    none b = omega arith
