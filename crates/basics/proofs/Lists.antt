-- Lists with a test: membership, all, how many, the list without a place, the list without those
-- that pass; numbers below a bound with a test. Each definition is followed by its laws.
use mathlib.Core.Bool.{Bool, true, false, cond}
use mathlib.Core.List.{List, [], ◌∷◌, ◌++◌, map, Sublistᴰ}
use mathlib.Core.Logic.{◌⊎◌, inl, inr, ⊎_elim}
use mathlib.Core.Path.{◌≡◌, refl, sym, ap, ◌∙◌, subst}
use Prim.Native.Nat.{ℕ, zero, suc, ◌+◌, ◌≤◌, ◌<◌, zero-le}
use native.Mathlib.Nat.{le_of_suc-le-suc, not-suc-le-zero, add_assoc, zero-add}
use native.Mathlib.Omega.{arith}
use lib.ListN.{length, get_or, length-append, get_or-append}
use lib.Seq.{get_or_at}
use lib.Dec.{eqb}
use borrow.Author.Tests.{eqb-true, eqb-false}
use Rattle.basics.proofs.Cases.{by-test, not-both, and_left, and_right, and_both}
use Rattle.basics.specs.Lists.{In, all, counted, without, dropped, table, every}

module _ {A : Type 0} where
  -- ---- In: x is an element of a list

  pub in_left : (x : A) (xs ys : List A) → In x xs → In x (xs ++ ys)
  in_left x [] ys e = absurd e
  in_left x (z ∷ xs) ys (inl e) = inl e
  in_left x (z ∷ xs) ys (inr e) = inr (in_left x xs ys e)

  pub in_right : (x : A) (xs ys : List A) → In x ys → In x (xs ++ ys)
  in_right x [] ys e = e
  in_right x (z ∷ xs) ys e = inr (in_right x xs ys e)

  pub in-append : (x : A) (xs ys : List A) → In x (xs ++ ys) → In x xs ⊎ In x ys
  in-append x [] ys e = inr e
  in-append x (z ∷ xs) ys (inl e) = inl (inl e)
  in-append x (z ∷ xs) ys (inr e) = ⊎_elim (λ p. inl (inr p)) (λ p. inr p) (in-append x xs ys e)

  pub in-get_or : (xs : List A) (i : ℕ) (d : A) → i < length xs → In (get_or xs i d) xs
  in-get_or [] i d h = absurd (not-suc-le-zero h)
  in-get_or (x ∷ xs) zero d h = inl refl
  in-get_or (x ∷ xs) (suc i) d h = inr (in-get_or xs i d (le_of_suc-le-suc h))

  -- ---- all: every element passes the test

  pub all_in : (p : A → Bool) (xs : List A) → all p xs ≡ true → (x : A) → In x xs → p x ≡ true
  unfolding all
  all_in p [] e x i = absurd i
  all_in p (y ∷ ys) e x (inl i) = subst (λ (z : A). p z ≡ true) (sym i)
      (and_left (p y) (all p ys) e)
  all_in p (y ∷ ys) e x (inr i) = all_in p ys (and_right (p y) (all p ys) e) x i

  pub in_all : (p : A → Bool) (xs : List A) → ((x : A) → In x xs → p x ≡ true) → all p xs ≡ true
  unfolding all
  in_all p [] h = refl
  in_all p (y ∷ ys) h = and_both (p y) (all p ys) (h y (inl refl))
      (in_all p ys (λ x i. h x (inr i)))

  -- ---- counted: how many elements pass the test

  pub counted-append : (p : A → Bool) (xs ys : List A)
      → counted p (xs ++ ys) ≡ counted p xs + counted p ys
  unfolding counted
  counted-append p [] ys = sym (zero-add (counted p ys))
  counted-append p (x ∷ xs) ys =
      ap (λ (n : ℕ). cond (p x) 1 0 + n) (counted-append p xs ys)
      ∙ sym (add_assoc (cond (p x) 1 0) (counted p xs) (counted p ys))

  pub counted-in : (p : A → Bool) (xs : List A) (x : A) → In x xs → p x ≡ true → 1 ≤ counted p xs
  unfolding counted
  counted-in p [] x i e = absurd i
  counted-in p (y ∷ ys) x (inl i) e = rw (subst (λ (z : A). p z ≡ true) i e) (omega arith)
  counted-in p (y ∷ ys) x (inr i) e = omega (arith, counted-in p ys x i e)

  pub counted_none : (p : A → Bool) (xs : List A) → counted p xs ≡ 0 → (x : A) → In x xs
      → p x ≡ false
  counted_none p xs e x i = by-test (p x) (λ t. absurd (absent (counted-in p xs x i t))) (λ f. f)
    where
      absent : 1 ≤ counted p xs → ⊥
      absent h = omega arith

  pub none-counted : (p : A → Bool) (xs : List A) → ((x : A) → In x xs → p x ≡ false)
      → counted p xs ≡ 0
  unfolding counted
  none-counted p [] h = refl
  none-counted p (y ∷ ys) h = rw (h y (inl refl)) (rw (none-counted p ys (λ x i. h x (inr i))) refl)

  pub counted-ext : (p q : A → Bool) (xs : List A) → ((x : A) → In x xs → p x ≡ q x)
      → counted p xs ≡ counted q xs
  unfolding counted
  counted-ext p q [] h = refl
  counted-ext p q (y ∷ ys) h = rw (h y (inl refl))
      (rw (counted-ext p q ys (λ x i. h x (inr i))) refl)

  pub counted-all : (p : A → Bool) (xs : List A) → ((x : A) → In x xs → p x ≡ true)
      → counted p xs ≡ length xs
  unfolding counted
  counted-all p [] h = refl
  counted-all p (y ∷ ys) h = rw (h y (inl refl), counted-all p ys (λ x i. h x (inr i)))
      (omega arith)

  pub counted-le : (p : A → Bool) (xs : List A) → counted p xs ≤ length xs
  unfolding counted
  counted-le p [] = zero-le
  counted-le p (x ∷ xs) =
      by-test (p x) (λ e. rw e (omega (arith, counted-le p xs)))
      (λ e. rw e (omega (arith, counted-le p xs)))

  -- ---- without: the list without the element at a place; later ones move up by one

  pub in_without : (x : A) (i : ℕ) (xs : List A) → In x (without i xs) → In x xs
  unfolding without
  in_without x i [] e = absurd e
  in_without x zero (y ∷ ys) e = inr e
  in_without x (suc i) (y ∷ ys) (inl e) = inl e
  in_without x (suc i) (y ∷ ys) (inr e) = inr (in_without x i ys e)

  pub length_without : (i : ℕ) (xs : List A) → i < length xs
      → suc (length (without i xs)) ≡ length xs
  unfolding without
  length_without i [] h = absurd (not-suc-le-zero h)
  length_without zero (x ∷ xs) h = refl
  length_without (suc i) (x ∷ xs) h = ap suc (length_without i xs (le_of_suc-le-suc h))

  pub counted-without : (p : A → Bool) (i : ℕ) (xs : List A) (d : A) → i < length xs
      → cond (p (get_or xs i d)) 1 0 + counted p (without i xs) ≡ counted p xs
  unfolding without counted
  counted-without p i [] d h = absurd (not-suc-le-zero h)
  counted-without p zero (x ∷ xs) d h = refl
  counted-without p (suc i) (x ∷ xs) d h =
      omega (arith, counted-without p i xs d (le_of_suc-le-suc h))

  pub all_without : (p : A → Bool) (i : ℕ) (xs : List A) → all p xs ≡ true
      → all p (without i xs) ≡ true
  all_without p i xs e = in_all p (without i xs) (λ x h. all_in p xs e x (in_without x i xs h))

  -- ---- a list with elements taken out, the others in their order

  pub sublist-in : {xs ys : List A} → Sublistᴰ xs ys → (x : A) → In x xs → In x ys
  sublist-in Sublistᴰ.slnil x i = i
  sublist-in (Sublistᴰ.cons s) x i = inr (sublist-in s x i)
  sublist-in (Sublistᴰ.cons-cons e s) x (inl f) = inl (f ∙ e)
  sublist-in (Sublistᴰ.cons-cons e s) x (inr i) = inr (sublist-in s x i)

  pub length-sublist : {xs ys : List A} → Sublistᴰ xs ys → length xs ≤ length ys
  length-sublist Sublistᴰ.slnil = zero-le
  length-sublist (Sublistᴰ.cons s) = omega (arith, length-sublist s)
  length-sublist (Sublistᴰ.cons-cons e s) = omega (arith, length-sublist s)

  -- ---- dropped: the elements that don't pass the test, in their order

  pub dropped-sublist : (p : A → Bool) (xs : List A) → Sublistᴰ (dropped p xs) xs
  unfolding dropped
  dropped-sublist p [] = Sublistᴰ.slnil
  dropped-sublist p (x ∷ xs) =
      by-test (p x) (λ e. rw e (Sublistᴰ.cons (dropped-sublist p xs)))
      (λ e. rw e (Sublistᴰ.cons-cons refl (dropped-sublist p xs)))

  -- what doesn't pass stays, and what passes is gone
  pub in-dropped : (p : A → Bool) (xs : List A) (x : A) → In x xs → p x ≡ false
      → In x (dropped p xs)
  unfolding dropped
  in-dropped p [] x i e = i
  in-dropped p (y ∷ ys) x (inl i) e = rw (subst (λ (z : A). p z ≡ false) i e) (inl i)
  in-dropped p (y ∷ ys) x (inr i) e =
      by-test (p y) (λ t. rw t (in-dropped p ys x i e)) (λ t. rw t (inr (in-dropped p ys x i e)))

  pub dropped-in : (p : A → Bool) (xs : List A) (x : A) → In x (dropped p xs) → p x ≡ false
  unfolding dropped
  dropped-in p [] x i = absurd i
  dropped-in p (y ∷ ys) x i =
      by-test (p y) (λ t. dropped-in p ys x (rw t at i))
      (λ t. ⊎_elim (λ e. subst (λ (z : A). p z ≡ false) (sym e) t) (dropped-in p ys x) (rw t at i))

  pub dropped-append : (p : A → Bool) (xs ys : List A)
      → dropped p (xs ++ ys) ≡ dropped p xs ++ dropped p ys
  unfolding dropped
  dropped-append p [] ys = refl
  dropped-append p (x ∷ xs) ys =
      by-test (p x) (λ e. rw e (dropped-append p xs ys))
      (λ e. rw e (ap (λ (l : List A). x ∷ l) (dropped-append p xs ys)))

  pub dropped-ext : (p q : A → Bool) (xs : List A) → ((x : A) → In x xs → p x ≡ q x)
      → dropped p xs ≡ dropped q xs
  unfolding dropped
  dropped-ext p q [] h = refl
  dropped-ext p q (x ∷ xs) h = rw (h x (inl refl), dropped-ext p q xs (λ y i. h y (inr i))) refl

  pub length-dropped : (p : A → Bool) (xs : List A)
      → length (dropped p xs) + counted p xs ≡ length xs
  unfolding dropped counted
  length-dropped p [] = refl
  length-dropped p (x ∷ xs) =
      by-test (p x) (λ e. rw e (omega (arith, length-dropped p xs)))
      (λ e. rw e (omega (arith, length-dropped p xs)))

-- ---- map

pub in_map : {A B : Type 0} (f : A → B) (y : B) (xs : List A) → In y (map f xs) → (x : A) × In x xs
    × (y ≡ f x)
in_map f y [] e = absurd e
in_map f y (x ∷ xs) (inl e) = (x, inl refl, e)
in_map f y (x ∷ xs) (inr e) = let r = in_map f y xs e in (r.0, inr r.1, r.2)

pub map-in : {A B : Type 0} (f : A → B) (x : A) (xs : List A) → In x xs → In (f x) (map f xs)
map-in f x [] e = absurd e
map-in f x (y ∷ ys) (inl e) = inl (ap f e)
map-in f x (y ∷ ys) (inr e) = inr (map-in f x ys e)

pub map-append : {A B : Type 0} (f : A → B) (xs ys : List A)
    → map f (xs ++ ys) ≡ map f xs ++ map f ys
map-append f [] ys = refl
map-append f (x ∷ xs) ys = ap (λ (l : List _). f x ∷ l) (map-append f xs ys)

pub map-map : {A B C : Type 0} (f : A → B) (g : B → C) (xs : List A)
    → map g (map f xs) ≡ map (λ x. g (f x)) xs
map-map f g [] = refl
map-map f g (x ∷ xs) = ap (λ (l : List _). g (f x) ∷ l) (map-map f g xs)

pub map-without : {A B : Type 0} (f : A → B) (i : ℕ) (xs : List A)
    → map f (without i xs) ≡ without i (map f xs)
unfolding without
map-without f i [] = refl
map-without f zero (x ∷ xs) = refl
map-without f (suc i) (x ∷ xs) = ap (λ (l : List _). f x ∷ l) (map-without f i xs)

pub counted-map : {A B : Type 0} (f : A → B) (p : B → Bool) (xs : List A)
    → counted p (map f xs) ≡ counted (λ x. p (f x)) xs
unfolding counted
counted-map f p [] = refl
counted-map f p (x ∷ xs) = ap (λ (n : ℕ). cond (p (f x)) 1 0 + n) (counted-map f p xs)

-- ---- table: f of each number below n, ascending

pub length-table : {A : Type 0} (n : ℕ) (f : ℕ → A) → length (table n f) ≡ n
unfolding table
length-table zero f = refl
length-table (suc n) f = length-append (table n f) (f n ∷ []) ∙ omega (arith, length-table n f)

pub table_at : {A : Type 0} (n : ℕ) (f : ℕ → A) (i : ℕ) (d : A) → i < n → get_or (table n f) i d ≡ f i
unfolding table
table_at zero f i d h = absurd (not-suc-le-zero h)
table_at (suc n) f i d h =
    by-test (eqb i n)
    (λ e. subst (λ (j : ℕ). get_or (table n f ++ f n ∷ []) j d ≡ f j) (sym (eqb-true i n e))
    (get_or_at (table n f) (f n) [] d n (length-table n f)))
    (λ e. let below : i < n = omega (arith, eqb-false i n e) in
    get_or-append (table n f) (f n ∷ []) d i
    (subst (λ (m : ℕ). i < m) (sym (length-table n f)) below) ∙ table_at n f i d below)

pub in_table : {A : Type 0} (n : ℕ) (f : ℕ → A) (i : ℕ) → i < n → In (f i) (table n f)
in_table {A} n f i l =
    subst (λ (x : A). In x (table n f)) (table_at n f i (f i) l)
    (in-get_or (table n f) i (f i) (omega (arith, length-table n f)))

pub table-ext : {A : Type 0} (n : ℕ) (f g : ℕ → A) → ((i : ℕ) → i < n → f i ≡ g i)
    → table n f ≡ table n g
unfolding table
table-ext zero f g h = refl
table-ext (suc n) f g h = rw (table-ext n f g (λ i l. h i (omega arith)), h n (omega arith)) refl

-- ---- every: a test holds of every number below n

pub every-at : (n : ℕ) (p : ℕ → Bool) → every n p ≡ true → (k : ℕ) → k < n → p k ≡ true
unfolding every
every-at zero p e k h = absurd (not-suc-le-zero h)
every-at (suc n) p e k h =
    by-test (eqb k n)
    (λ t. subst (λ (j : ℕ). p j ≡ true) (sym (eqb-true k n t)) (and_right (every n p) (p n) e))
    (λ f. every-at n p (and_left (every n p) (p n) e) k (omega (arith, eqb-false k n f)))

pub at_every : (n : ℕ) (p : ℕ → Bool) → ((k : ℕ) → k < n → p k ≡ true) → every n p ≡ true
unfolding every
at_every zero p h = refl
at_every (suc n) p h = and_both (every n p) (p n) (at_every n p (λ k l. h k (omega arith)))
    (h n (omega arith))

-- or fails of one
pub not-every : (n : ℕ) (p : ℕ → Bool) → every n p ≡ false → (k : ℕ) × (k < n) × (p k ≡ false)
unfolding every
not-every zero p e = not-both refl e
not-every (suc n) p e =
    by-test (p n)
    (λ t. by-test (every n p) (λ h. not-both (and_both (every n p) (p n) h t) e)
    (λ h. let rest = not-every n p h in (rest.0, omega (arith, rest.1), rest.2)))
    (λ t. (n, omega arith, t))
