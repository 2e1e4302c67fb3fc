-- What a test tells, as one law for each test that goes both ways: `simp tells at e` turns a chain
-- of tests into plain facts, and `simp tells` turns the chain to prove into the facts that prove
-- it.
use mathlib.Core.Bool.{Bool, true, false, not, beq, ◌&&◌, ◌||◌}
use mathlib.Core.List.{List}
use mathlib.Core.Logic.{◌↔◌, ◌≢◌}
use mathlib.Core.Path.{◌≡◌, refl, sym}
use Prim.Native.Nat.{ℕ, ◌≤◌, ◌<◌}
use lib.Dec.{eqb, ltb, leb}
use borrow.Author.Tests.{leb-true, leb-false, ltb-true, ltb-false, eqb-true, eqb-false, eq-eqb}
use borrow.Author.Tests.{ne_eqb, lt-ltb, le-ltb, le-leb, lt-leb}
use Rattle.basics.proofs.Cases.{not-both, and_left, and_right, and_both, not-true, not-false}
use Rattle.basics.proofs.Cases.{beq-true, or-neither}
use Rattle.basics.specs.Lists.{In, all, every}
use Rattle.basics.proofs.Lists.{all_in, in_all, every-at, at_every}

-- ---- && || and not

pub tells-and : (a b : Bool) → ((a && b) ≡ true) ↔ ((a ≡ true) × (b ≡ true))
tells-and a b = (λ e. (and_left a b e, and_right a b e), λ p. and_both a b p.0 p.1)

pub tells-or : (a b : Bool) → ((a || b) ≡ true) ↔ (a ≡ false → b ≡ true)
tells-or true b = (λ e f. not-both refl f, λ h. refl)
tells-or false b = (λ e f. e, λ h. h refl)

pub tells-neither : (a b : Bool) → ((a || b) ≡ false) ↔ ((a ≡ false) × (b ≡ false))
tells-neither true b = (or-neither true b, λ p. p.0)
tells-neither false b = (or-neither false b, λ p. p.1)

pub tells-not : (b : Bool) → (not b ≡ true) ↔ (b ≡ false)
tells-not true = (not-true true, sym)
tells-not false = (not-true false, λ e. refl)

pub tells-not-false : (b : Bool) → (not b ≡ false) ↔ (b ≡ true)
tells-not-false true = (not-false true, λ e. refl)
tells-not-false false = (not-false false, sym)

pub tells-same : (a b : Bool) → (beq a b ≡ true) ↔ (a ≡ b)
tells-same true b = (beq-true true b, λ e. rw (← e))
tells-same false b = (beq-true false b, λ e. rw (← e))

-- ---- tests on numbers

pub tells-le : (a b : ℕ) → (leb a b ≡ true) ↔ (a ≤ b)
tells-le a b = (leb-true a b, le-leb a b)

pub tells-not-le : (a b : ℕ) → (leb a b ≡ false) ↔ (b < a)
tells-not-le a b = (leb-false a b, lt-leb a b)

pub tells-lt : (a b : ℕ) → (ltb a b ≡ true) ↔ (a < b)
tells-lt a b = (ltb-true a b, lt-ltb a b)

pub tells-not-lt : (a b : ℕ) → (ltb a b ≡ false) ↔ (b ≤ a)
tells-not-lt a b = (ltb-false a b, le-ltb a b)

pub tells-eq : (a b : ℕ) → (eqb a b ≡ true) ↔ (a ≡ b)
tells-eq a b = (eqb-true a b, eq-eqb a b)

pub tells-ne : (a b : ℕ) → (eqb a b ≡ false) ↔ (a ≢ b)
tells-ne a b = (eqb-false a b, ne_eqb a b)

-- ---- of every number below a bound, of every element of a list

pub tells-every : (n : ℕ) (p : ℕ → Bool) → (every n p ≡ true) ↔ ((k : ℕ) → k < n → p k ≡ true)
tells-every n p = (every-at n p, at_every n p)

pub tells_all : {A : Type 0} (p : A → Bool) (xs : List A) → (all p xs ≡ true)
    ↔ ((x : A) → In x xs → p x ≡ true)
tells_all p xs = (all_in p xs, in_all p xs)

pub ruleset tells = (
  tells-and,
  tells-or,
  tells-neither,
  tells-not,
  tells-not-false,
  tells-same,
  tells-lt,
  tells-not-lt,
  tells-le,
  tells-not-le,
  tells-eq,
  tells-ne,
  tells-every,
  tells_all,
)
