-- A loop as a fold: f at each number below n, in order.
use Rattle.std.specs.Prelude.{ℕ, zero, suc}

unfoldable pub up_to : {A : Type 0} → (A → ℕ → A) → A → ℕ → A
up_to f a zero = a
up_to f a (suc n) = f (up_to f a n) n
