-- Searches: that some element of a list passes a test, that some number from k on does, and which
-- is the first.
use Rattle.std.specs.Prelude.{Bool, false, cond, ◌||◌, List, [], ◌∷◌, ℕ, zero, suc}

module _ {A : Type 0} where
  -- ---- some: an element passes the test

  unfoldable pub some : (A → Bool) → List A → Bool
  some p [] = false
  some p (x ∷ xs) =
      let rest = some p xs in
      p x || rest

-- ---- some_from: one of the d numbers from k on passes the test

unfoldable pub some_from : ℕ → ℕ → (ℕ → Bool) → Bool
some_from zero k p = false
some_from (suc d) k p =
    let rest = some_from d (suc k) p in
    p k || rest

-- ---- first_from: the first of the d numbers from k on that passes the test; k + d where none does

unfoldable pub first_from : ℕ → ℕ → (ℕ → Bool) → ℕ
first_from zero k p = k
first_from (suc d) k p =
    let rest = first_from d (suc k) p in
    cond (p k) k rest
