-- The laws of the least member from an item on, `least_from`, by induction on how many items are
-- looked at: it is within them, it is a member unless it is their end, and no item before it is
-- one.
use mathlib.Core.Bool.{true, false}
use mathlib.Core.Path.{◌≡◌}
use mathlib.Core.Logic.{⊎_elim}
use Prim.Native.Nat.{ℕ, zero, suc, ◌+◌, ◌≤◌, ◌<◌}
use native.Mathlib.Nat.{eq-or-lt_of_le}
use native.Mathlib.Omega.{arith}
use Rattle.itemset.specs.Set.{has, least_from}
use Rattle.basics.proofs.Cases.{by-test}

pub least-here : (d s k : ℕ) → has s k ≡ true → least_from (suc d) s k ≡ k
unfolding least_from
least-here d s k e = rw e

pub least-next : (d s k : ℕ) → has s k ≡ false → least_from (suc d) s k ≡ least_from d s (suc k)
unfolding least_from
least-next d s k e = rw e

pub least-ge : (d s k : ℕ) → k ≤ least_from d s k
unfolding least_from
least-ge zero s k = omega arith
least-ge (suc d) s k = by-test (has s k) (λ e. rw e (omega arith))
    (λ e. rw e (omega (arith, least-ge d s (suc k))))

pub least-le : (d s k : ℕ) → least_from d s k ≤ k + d
unfolding least_from
least-le zero s k = omega arith
least-le (suc d) s k = by-test (has s k) (λ e. rw e (omega arith))
    (λ e. rw e (omega (arith, least-le d s (suc k))))

pub least-has : (d s k : ℕ) → least_from d s k < k + d → has s (least_from d s k) ≡ true
unfolding least_from
least-has zero s k h = absurd (omega arith)
least-has (suc d) s k h =
    by-test (has s k) (λ e. rw (least-here d s k e) e) (λ e. rw (least-next d s k e)
    (least-has d s (suc k) (omega (arith, least-next d s k e))))

pub least-none : (d s k j : ℕ) → k ≤ j → j < least_from d s k → has s j ≡ false
unfolding least_from
least-none zero s k j l h = absurd (omega arith)
least-none (suc d) s k j l h =
    by-test (has s k) (λ e. absurd (omega (arith, least-here d s k e))) (λ e.
    ⊎_elim
    (λ z. rw (← z) e)
    (λ g. least-none d s (suc k) j g (omega (arith, least-next d s k e)))
    (eq-or-lt_of_le l))
