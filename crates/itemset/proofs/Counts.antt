-- The laws of how many members a set has, `count`, and of how many are below an item, `rank`: each
-- digit counts for itself, the lowest first and then those of half the set.
use mathlib.Core.Bool.{true, false, cond}
use mathlib.Core.Path.{◌≡◌, refl, sym, ap, ◌∙◌}
use Prim.Native.Nat.{ℕ, zero, suc, ◌+◌, ◌/◌, ◌%◌, ◌^◌, ◌≤◌, ◌<◌}
use native.Mathlib.Nat.{pow-suc, le_refl, mod-one}
use native.Mathlib.Decide.{le_ind}
use native.Mathlib.Omega.{arith}
use native.Mathlib.Numerals.{add-one}
use lib.Arith.{bin_ind, lt-one}
use lib.Count.{ones, ones_in, ones_step, ones-le}
use lib.Dec.{eqb}
use lib.Pow.{field, mod-mod-pow}
use Rattle.itemset.specs.Set.{has, count, rank, insert, remove}
use Rattle.itemset.proofs.Laws.{low-set, low_clear, insert-low, insert-half, insert-zero-low}
use Rattle.itemset.proofs.Laws.{insert-zero-half, insert-remove, has-remove-same}
use Rattle.basics.proofs.Cases.{by-test}

-- ---- count

pub count-empty : count 0 ≡ 0
unfolding ones
count-empty = refl

pub count-zero : (s : ℕ) → count s ≡ 0 → s ≡ 0
count-zero =
    bin_ind (λ (s : ℕ). count s ≡ 0 → s ≡ 0) (λ e. refl) (λ s rest e.
    let above : s / 2 ≡ 0 = rest (omega (arith, ones_step s)) in
    omega (arith, ones_step s))

pub count-le : (s n : ℕ) → s < 2 ^ n → count s ≤ n
count-le s n h = ones-le n s h

pub count-insert : (s k : ℕ) → has s k ≡ false → count (insert s k) ≡ suc (count s)
unfolding has
count-insert s zero e =
    omega (
      arith,
      ones_step (insert s zero),
      ap ones
          (insert-zero-half s),
      insert-zero-low s,
      ones_step s,
      low_clear s e,
    )
count-insert s (suc k) e =
    omega (
      arith,
      ones_step (insert s (suc k)),
      ap ones
          (insert-half s k),
      insert-low s k,
      ones_step s,
      count-insert (s / 2) k e,
    )

pub count-remove : (s k : ℕ) → has s k ≡ true → suc (count (remove s k)) ≡ count s
count-remove s k e = sym (count-insert (remove s k) k (has-remove-same s k))
    ∙ ap ones (insert-remove s k e)

-- ---- rank

pub low_digit : (s : ℕ) → s % 2 ≡ cond (eqb (s % 2) 1) 1 0
low_digit s = by-test (eqb (s % 2) 1) (λ e. rw e (low-set s e)) (λ e. rw e (low_clear s e))

pub rank-zero : (s : ℕ) → rank s 0 ≡ 0
unfolding ones_in
rank-zero s = refl

pub rank-suc : (s k : ℕ) → rank s (suc k) ≡ rank s k + cond (has s k) 1 0
unfolding ones_in has
rank-suc s zero = omega (arith, low_digit s)
rank-suc s (suc k) = omega (arith, rank-suc (s / 2) k)

pub rank-all : (s n : ℕ) → s < 2 ^ n → rank s n ≡ count s
unfolding ones_in
rank-all s zero h = rw (lt-one h) (sym count-empty)
rank-all s (suc n) h = omega (arith, ones_step s, rank-all (s / 2) n (omega (arith, pow-suc 2 n)))

pub rank-mod : (s k : ℕ) → rank s k ≡ count (s % 2 ^ k)
unfolding ones_in
rank-mod s zero = rw (mod-one s) (sym count-empty)
rank-mod s (suc k) =
    let low : s % 2 ^ suc k % 2 ≡ s % 2 = rw (add-one k) at (mod-mod-pow s k 1) in
    let half : s % 2 ^ suc k / 2 ≡ s / 2 % 2 ^ k = rw (add-one k) at (field s k 1) in
    omega (arith, ones_step (s % 2 ^ suc k), ap ones half, low, rank-mod (s / 2) k)

pub rank-le : (s j k : ℕ) → j ≤ k → rank s j ≤ rank s k
rank-le s j k l = le_ind (λ (m : ℕ). rank s j ≤ rank s m) (le_refl (rank s j))
    (λ m g e. omega (arith, rank-suc s m)) k l

pub rank-count : (s k : ℕ) → rank s k ≤ count s
unfolding ones_in
rank-count s zero = omega arith
rank-count s (suc k) = omega (arith, ones_step s, rank-count (s / 2) k)

pub rank_lt : (s k : ℕ) → has s k ≡ true → rank s k < count s
rank_lt s k e =
    let here : rank s (suc k) ≡ rank s k + 1 = rw e at (rank-suc s k) in
    omega (arith, rank-count s (suc k))

pub count-some : (s k : ℕ) → has s k ≡ true → 1 ≤ count s
count-some s k e = omega (arith, rank_lt s k e)

-- ---- a set within another

module _ (a s : ℕ) (within : (k : ℕ) → has a k ≡ true → has s k ≡ true) where
  pub rank-within : (n : ℕ) → rank a n ≤ rank s n
  rank-within zero = omega (arith, rank-zero a)
  rank-within (suc n) =
      by-test (has a n)
      (λ e. omega (arith, rw e at (rank-suc a n), rw (within n e) at (rank-suc s n), rank-within n))
      (λ e. omega (arith, rw e at (rank-suc a n), rank-suc s n, rank-within n))

  pub count-within : (n : ℕ) → a < 2 ^ n → count a ≤ count s
  count-within n l = omega (arith, rank-all a n l, rank-within n, rank-count s n)
