-- Lists with a test: membership, all, how many, the list without a place, the list without those
-- that pass; numbers below a bound with a test.
use Rattle.std.specs.Prelude.{Bool, true, cond, ◌&&◌, List, [], ◌∷◌, ◌++◌, ◌⊎◌, ◌≡◌, ℕ, zero, suc, ◌+◌}

module _ {A : Type 0} where
  -- ---- In: x is an element of a list

  abbrev pub In : A → List A → Type 0
  In x [] = ⊥
  In x (y ∷ ys) = (x ≡ y) ⊎ In x ys

  -- ---- all: every element passes the test

  unfoldable pub all : (A → Bool) → List A → Bool
  all p [] = true
  all p (x ∷ xs) = p x && all p xs

  -- ---- counted: how many elements pass the test

  unfoldable pub counted : (A → Bool) → List A → ℕ
  counted p [] = 0
  counted p (x ∷ xs) = cond (p x) 1 0 + counted p xs

  -- ---- without: the list without the element at a place; later ones move up by one

  unfoldable pub without : ℕ → List A → List A
  without i [] = []
  without zero (x ∷ xs) = xs
  without (suc i) (x ∷ xs) = x ∷ without i xs

  -- ---- dropped: the elements that don't pass the test, in their order

  unfoldable pub dropped : (A → Bool) → List A → List A
  dropped p [] = []
  dropped p (x ∷ xs) = let rest = dropped p xs in cond (p x) rest (x ∷ rest)

-- ---- table: f of each number below n, ascending

unfoldable pub table : {A : Type 0} → ℕ → (ℕ → A) → List A
table zero f = []
table (suc n) f = table n f ++ f n ∷ []

-- ---- every: a test holds of every number below n

unfoldable pub every : ℕ → (ℕ → Bool) → Bool
every zero p = true
every (suc n) p = every n p && p n
