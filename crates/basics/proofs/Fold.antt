-- A loop as a fold: f at each number below n, in order.
use mathlib.Core.Path.{◌≡◌, refl, ap, ◌∙◌}
use Prim.Native.Nat.{ℕ, zero, suc, ◌+◌, ◌<◌, ◌≤◌}
use native.Mathlib.Nat.{le_antisymm}
use native.Mathlib.Numerals.{add-one}
use native.Mathlib.Omega.{arith}
use Rattle.basics.specs.Fold.{up_to}

pub up_to-suc : {A : Type 0} (f : A → ℕ → A) (a : A) (n : ℕ) → up_to f a (suc n) ≡ f (up_to f a n) n
unfolding up_to
up_to-suc f a n = refl

-- what holds at the start, and is kept by each turn, holds at the end
pub up_to-all : {A : Type 0} (P : ℕ → A → Type 0) (f : A → ℕ → A) (a : A) (n : ℕ)
    → P 0 a → ((k : ℕ) (x : A) → k < n → P k x → P (suc k) (f x k)) → P n (up_to f a n)
unfolding up_to
up_to-all P f a zero first turn = first
up_to-all P f a (suc n) first turn =
    turn n (up_to f a n) (omega arith) (up_to-all P f a n first (λ k x h. turn k x (omega arith)))

-- ---- a loop that runs a fold, turn by turn

module _ {A : Type 0} (f : A → ℕ → A) (a : A) where
  pub turn-first : a ≡ up_to f a 0
  unfolding up_to
  turn-first = refl

  -- one turn more takes x to y
  pub turn-next : (x y : A) (k : ℕ) → x ≡ up_to f a k → y ≡ f x k → y ≡ up_to f a (k + 1)
  unfolding up_to
  turn-next x y k e g = rw (add-one k) (g ∙ ap (λ (z : A). f z k) e)

  pub turn_last : (x : A) (k n : ℕ) → x ≡ up_to f a k → k ≤ n → n ≤ k → x ≡ up_to f a n
  turn_last x k n e l h = e ∙ ap (up_to f a) (le_antisymm l h)
