-- The greatest number that a client knows: no number of its view is greater, and in range it has
-- 32 bits.
use mathlib.Core.Path.{sym, subst}
use Prim.Native.Nat.{ℕ, zero, suc, ◌^◌, ◌≤◌, ◌<◌}
use native.Mathlib.Omega.{arith}
use lib.Dec.{eqb}
use borrow.Author.Tests.{eqb-true, eqb-false}
use Rattle.basics.proofs.Cases.{by-test}
use Rattle.protocol.specs.declared.Entry.{Entry}
use Rattle.protocol.specs.Tables.{Sizes, number_of}
use Rattle.protocol.specs.Steps.{greatest_in}
use Rattle.protocol.proofs.Ranges.Values.{StampInRange, EntriesInRange}

pub greatest-ge : (view : ℕ → Entry) (n k : ℕ) → k < n
    → number_of (view k).stamp ≤ greatest_in view n
unfolding greatest_in
greatest-ge view zero k l = elim l [ ]
greatest-ge view (suc n) k l =
    by-test (eqb k n)
    (λ e. subst (λ (i : ℕ). number_of (view i).stamp ≤ greatest_in view (suc n))
    (sym (eqb-true k n e)) (omega arith))
    (λ e. omega (arith, greatest-ge view n k (omega (arith, eqb-false k n e))))

-- entries in range have numbers of 32 bits
stamp-fits : (z : Sizes) (s : ℕ) → StampInRange z s → number_of s < 2 ^ 32
stamp-fits z s r =
    by-test (eqb s 0) (λ e. omega (arith, eqb-true s 0 e)) (λ e. (r (eqb-false s 0 e)).fits)

pub greatest-fits : (z : Sizes) (view : ℕ → Entry) → EntriesInRange z view
    → (n : ℕ) → n ≤ z.items → greatest_in view n < 2 ^ 32
unfolding greatest_in
greatest-fits z view h zero b = omega arith
greatest-fits z view h (suc n) b =
    omega (
      arith,
      greatest-fits z view h n (omega arith),
      stamp-fits z (view n).stamp (h n b).stamp,
    )
