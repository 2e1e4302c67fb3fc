-- A set touches at most as many partitions as it has items: each item, taken in turn, touches at
-- most one more.
use mathlib.Core.Bool.{Bool, true, false, cond, ◌&&◌, ◌||◌}
use mathlib.Core.Path.{◌≡◌, refl}
use Prim.Native.Nat.{ℕ, zero, suc, ◌+◌, ◌-◌, ◌^◌, ◌≤◌, ◌<◌, min}
use native.Mathlib.Omega.{arith}
use lib.Dec.{eqb}
use lib.ListN.{length, length-map}
use borrow.Author.Tests.{eqb-true, eqb-false}
use Rattle.basics.proofs.Cases.{by-test}
use Rattle.itemset.specs.Set.{has, count, rank, upto}
use Rattle.itemset.proofs.Counts.{rank-suc, rank-all}
use Rattle.itemset.proofs.Members.{length-upto-suc}
use Rattle.protocol.specs.Tables.{Tables, partition_of}
use Rattle.protocol.specs.Steps.{touches, commits}

-- ---- How many numbers pass a test

length-zero : (p : ℕ → Bool) → length (upto 0 p) ≡ 0
unfolding upto
length-zero p = refl

length_none : (m : ℕ) (p : ℕ → Bool) → ((k : ℕ) → p k ≡ false) → length (upto m p) ≡ 0
length_none zero p h = length-zero p
length_none (suc m) p h = omega (arith, rw (h m) at (length-upto-suc m p), length_none m p h)

either-more : (a b : Bool) → cond (a || b) 1 0 ≤ cond a 1 0 + cond b 1 0
either-more true b = omega arith
either-more false b = omega arith

length-either : (m : ℕ) (p q : ℕ → Bool)
    → length (upto m (λ k. p k || q k)) ≤ length (upto m p) + length (upto m q)
length-either zero p q = omega (arith, length-zero (λ k. p k || q k))
length-either (suc m) p q =
    omega (
      arith,
      length-upto-suc m
          (λ k. p k || q k),
      length-upto-suc m p,
      length-upto-suc m q,
      length-either m p q,
      either-more (p m) (q m),
    )

length-one : (m j : ℕ) → length (upto m (eqb j)) ≤ min 1 (m - j)
length-one zero j = omega (arith, length-zero (eqb j))
length-one (suc m) j =
    by-test (eqb j m)
    (λ e. omega (arith, rw e at (length-upto-suc m (eqb j)), length-one m j, eqb-true j m e))
    (λ e. omega (arith, rw e at (length-upto-suc m (eqb j)), length-one m j, eqb-false j m e))

-- ---- Partitions touched

-- by item k alone
length-item : (m j : ℕ) (b : Bool) → length (upto m (λ p. b && eqb j p)) ≤ cond b 1 0
length-item m j true = omega (arith, length-one m j)
length-item m j false = omega (arith, length_none m (λ p. false) (λ p. refl))

length-touched : (t : Tables) (s n : ℕ)
    → length (upto t.sizes.partitions (λ p. touches t s p n)) ≤ rank s n
unfolding touches
length-touched t s zero = omega (arith, length_none t.sizes.partitions (λ p. false) (λ p. refl))
length-touched t s (suc n) =
    let m = t.sizes.partitions in
    omega (
      arith,
      length-either m (λ p. touches t s p n) (λ p. has s n && eqb (partition_of t n) p),
      length-item m (partition_of t n) (has s n),
      length-touched t s n,
      rank-suc s n,
    )

pub length-commits : (t : Tables) (s stamp : ℕ) → s < 2 ^ t.sizes.items
    → length (commits t s stamp) ≤ count s
length-commits t s stamp h = simp length-map
    (omega (arith, length-touched t s t.sizes.items, rank-all s t.sizes.items h))
