-- A loop that runs a fold on a block: f at each number below n, in order, lengths kept.
use mathlib.Core.List.{List}
use mathlib.Core.Path.{◌≡◌, refl, ◌∙◌}
use Prim.Native.Nat.{ℕ, ◌+◌, ◌≤◌, ◌<◌}
use native.Mathlib.Omega.{arith}
use lib.ListN.{length}
use Rattle.basics.specs.Fold.{up_to}
use Rattle.basics.proofs.Fold.{turn-first, turn-next, turn_last}

-- k turns of n take a to b
pub record Turns (f : List ℕ → ℕ → List ℕ) (n : ℕ) (a b : List ℕ) (k : ℕ) : Type 0 where
  pub within : k ≤ n
  pub done : b ≡ up_to f a k
  pub long : length b ≡ length a

pub turns-first : {f : List ℕ → ℕ → List ℕ} {n : ℕ} {a : List ℕ} → Turns f n a a 0
turns-first {f} {n} {a} = record { within = omega arith; done = turn-first f a; long = refl }

pub turns_next : {f : List ℕ → ℕ → List ℕ} {n : ℕ} {a b c : List ℕ} {k : ℕ} → Turns f n a b k
    → k < n → c ≡ f b k → length c ≡ length b → Turns f n a c (k + 1)
turns_next {f} {n} {a} {b} {c} {k} t l e long =
    record {
      within = omega arith;
      done = turn-next f a b c k t.done e;
      long = long ∙ t.long;
    }

pub turns-last : {f : List ℕ → ℕ → List ℕ} {n : ℕ} {a b : List ℕ} {k : ℕ} → Turns f n a b k
    → n ≤ k → b ≡ up_to f a n
turns-last {f} {n} {a} {b} {k} t h = turn_last f a b k n t.done t.within h
