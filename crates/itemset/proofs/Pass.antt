-- A loop that goes through a set's items: a fold whose turn does something at a member of s and
-- nothing elsewhere. What it keeps, the rows that it fills and the list that it makes longer follow
-- from what it does at one item.
use mathlib.Core.Bool.{true, false, cond}
use mathlib.Core.List.{List, [], ◌∷◌, ◌++◌, map, append-nil, append_assoc}
use mathlib.Core.Path.{◌≡◌, refl, sym, ◌∙◌}
use Prim.Native.Nat.{ℕ, suc, ◌+◌, ◌<◌}
use native.Mathlib.Omega.{arith}
use lib.Dec.{eqb, ltb}
use lib.ListN.{length, length-append, length-map}
use borrow.Author.Tests.{eqb-true, eqb-false, ltb-true, ltb-false, lt-ltb, le-ltb}
use Rattle.basics.specs.Fold.{up_to}
use Rattle.basics.proofs.Cases.{by-test}
use Rattle.basics.proofs.Fold.{up_to-all}
use Rattle.basics.proofs.Lists.{map-append}
use Rattle.itemset.specs.Set.{has, rank, upto, members}
use Rattle.itemset.proofs.Members.{upto-suc, length-members-rank}

-- by the number of turns: what holds at the start, is brought on by a member's turn, and is not
-- lost by a number that is no member
pub pass : {X : Type 0} (s n : ℕ) (P : ℕ → X → Type 0) (f : X → ℕ → X) (x : X) → P 0 x
    → ((k : ℕ) (y : X) → k < n → has s k ≡ true → P k y → P (suc k) (f y k))
    → ((k : ℕ) (y : X) → has s k ≡ false → P k y → P (suc k) y)
    → P n (up_to (λ y k. cond (has s k) (f y k) y) x n)
pass s n P f x first here beside =
    up_to-all P (λ y k. cond (has s k) (f y k) y) x n first
    (λ k y l h. by-test (has s k) (λ e. rw e (here k y l e h)) (λ e. rw e (beside k y e h)))

-- what each member's turn keeps
pub pass-keeps : {X : Type 0} (s n : ℕ) (P : X → Type 0) (f : X → ℕ → X) (x : X) → P x
    → ((k : ℕ) (y : X) → k < n → has s k ≡ true → P y → P (f y k))
    → P (up_to (λ y k. cond (has s k) (f y k) y) x n)
pass-keeps s n P f x first here = pass s n (λ k y. P y) f x first here (λ k y e h. h)

-- ---- rows that are filled, item by item

-- row g at the members of s below n, and row f elsewhere
unfoldable pub filled : {A : Type 0} → ℕ → ℕ → (ℕ → A) → (ℕ → A) → ℕ → A
filled s n f g j = cond (ltb j n) (cond (has s j) (g j) (f j)) (f j)

module _ {A : Type 0} (s : ℕ) (f g : ℕ → A) where
  pub filled-below : (n j : ℕ) → j < n → filled s n f g j ≡ cond (has s j) (g j) (f j)
  unfolding filled
  filled-below n j l = rw (lt-ltb j n l)

  pub filled_at : (n j : ℕ) → j < n → has s j ≡ true → filled s n f g j ≡ g j
  filled_at n j l e = filled-below n j l ∙ rw e

  pub filled-before : (n j : ℕ) → (j < n → ⊥) → filled s n f g j ≡ f j
  unfolding filled
  filled-before n j l = rw (le-ltb j n (omega (arith, l)))

  filled_none : filled s 0 f g ≡ f
  filled_none = λ i j. filled-before 0 j (λ l. omega arith) i

  -- one number more leaves the others
  filled-other : (n j : ℕ) → (j ≡ n → ⊥) → filled s n f g j ≡ filled s (suc n) f g j
  unfolding filled
  filled-other n j o =
      by-test (ltb j n)
      (λ e. rw (e, lt-ltb j (suc n) (omega (arith, ltb-true j n e))) refl)
      (λ e. rw (e, le-ltb j (suc n) (omega (arith, ltb-false j n e))) refl)

  filled-here : (n : ℕ) → has s n ≡ true
      → (λ j. cond (eqb j n) (g n) (filled s n f g j)) ≡ filled s (suc n) f g
  filled-here n m =
      λ i j. by-test {P = cond (eqb j n) (g n) (filled s n f g j) ≡ filled s (suc n) f g j}
      (eqb j n)
      (λ e. rw (e, eqb-true j n e) (sym (filled_at (suc n) n (omega arith) m)))
      (λ e. rw e (filled-other n j (eqb-false j n e))) i

  filled_beside : (n : ℕ) → has s n ≡ false → filled s n f g ≡ filled s (suc n) f g
  filled_beside n m =
      λ i j. by-test {P = filled s n f g j ≡ filled s (suc n) f g j} (eqb j n)
      (λ e. rw (
        eqb-true j n e,
        filled-before n n (λ l. omega arith),
        filled-below (suc n) n (omega arith),
        m,
      ))
      (λ e. filled-other n j (eqb-false j n e)) i

-- a pass whose turn puts the item's word of g, and of g', into two rows; the item still has f's
pub pass-fills-two : {X A B : Type 0} (s n : ℕ) (P : (ℕ → A) → (ℕ → B) → X → Type 0)
    (step : X → ℕ → X) (x : X) (f g : ℕ → A) (f' g' : ℕ → B) → P f f' x
    → ((k : ℕ) (y : X) (r : ℕ → A) (r' : ℕ → B) → k < n → r k ≡ f k → P r r' y
    → P (λ j. cond (eqb j k) (g k) (r j)) (λ j. cond (eqb j k) (g' k) (r' j)) (step y k))
    → P (filled s n f g) (filled s n f' g')
    (up_to (λ y k. cond (has s k) (step y k) y) x n)
pass-fills-two s n P step x f g f' g' first turn =
    pass s n (λ k y. P (filled s k f g) (filled s k f' g') y) step x
    (rw (filled_none s f g, filled_none s f' g') first)
    (λ k y l e h.
    rw (← filled-here s f g k e, ← filled-here s f' g' k e)
    (turn k y _ _ l (filled-before s f g k k (λ l. omega arith)) h))
    (λ k y e h. rw (← filled_beside s f g k e, ← filled_beside s f' g' k e) h)

pub pass-fills : {X A : Type 0} (s n : ℕ) (P : (ℕ → A) → X → Type 0) (step : X → ℕ → X) (x : X)
    (f g : ℕ → A) → P f x
    → ((k : ℕ) (y : X) (r : ℕ → A) → k < n → r k ≡ f k → P r y
    → P (λ j. cond (eqb j k) (g k) (r j)) (step y k))
    → P (filled s n f g) (up_to (λ y k. cond (has s k) (step y k) y) x n)
pass-fills s n P step x f g first turn =
    pass-fills-two {B = ℕ} s n (λ r r' y. P r y) step x f g (λ j. 0) (λ j. 0) first
    (λ k y r r' l e h. turn k y r l e h)

-- ---- a list that grows by g k at each item k

module _ {A : Type 0} (g : ℕ → A) (s : ℕ) (xs : List A) where
  -- the list before item k
  abbrev grown : ℕ → List A
  grown k = xs ++ map g (members k s)

  grown-none : grown 0 ≡ xs
  unfolding upto
  grown-none = append-nil xs

  grown-more : (k : ℕ) → has s k ≡ true → grown k ++ g k ∷ [] ≡ grown (suc k)
  grown-more k e =
      rw (upto-suc k (has s), e, map-append g (members k s) (k ∷ []))
      (append_assoc xs (map g (members k s)) (g k ∷ []))

  grown-same : (k : ℕ) → has s k ≡ false → grown k ≡ grown (suc k)
  grown-same k e = rw (upto-suc k (has s), e, append-nil (members k s))

  pub length-grown : (k : ℕ) → length (xs ++ map g (members k s)) ≡ length xs + rank s k
  length-grown k = omega (
    arith,
    length-append xs (map g (members k s)),
    length-map (members k s) g,
    length-members-rank s k,
  )

pub pass-grows : {X A : Type 0} (s n : ℕ) (P : List A → X → Type 0) (step : X → ℕ → X) (x : X)
    (g : ℕ → A) (xs : List A) → P xs x
    → ((k : ℕ) (y : X) (ys : List A) → k < n → has s k ≡ true → length ys ≡ length xs + rank s k
    → P ys y → P (ys ++ g k ∷ []) (step y k))
    → P (xs ++ map g (members n s)) (up_to (λ y k. cond (has s k) (step y k) y) x n)
pass-grows s n P step x g xs first turn =
    pass s n (λ k y. P (grown g s xs k) y) step x
    (rw (grown-none g s xs) first)
    (λ k y l e h. rw (← grown-more g s xs k e) (turn k y _ l e (length-grown g s xs k) h))
    (λ k y e h. rw (← grown-same g s xs k e) h)
