-- The operations on sets as operations on bits: union and intersection are `bit_or` and `bit_and`,
-- one item is a power of 2, and each operation of the crate is a mask, a shift or a count of bits.
-- By the members, or digit by digit.
use mathlib.Core.Bool.{Bool, true, false, cond, ◌&&◌, ◌||◌}
use mathlib.Core.Path.{◌≡◌, refl, sym, ap, ◌∙◌}
use Prim.Native.Nat.{ℕ, zero, suc, ◌+◌, ◌-◌, ◌*◌, ◌/◌, ◌%◌, ◌^◌, ◌≤◌, ◌<◌, min, max}
use native.Mathlib.Nat.{zero-add, pow-suc, div-eq_of_lt, le-div_iff_mul-le, div-div-eq-div-mul}
use native.Mathlib.Nat.{one-mul, suc-add, sub-add_cancel}
use native.Mathlib.Omega.{arith}
use lib.Bits.{bit_and, bit_or, and_step, and_self, or_step, and_mask}
use lib.Count.{ones, count_trailing_zeros, under}
use lib.Dec.{eqb, ltb, lit<}
use lib.Arith.{lt-one}
use lib.Pow.{pow_pos, shl_exact}
use borrow.Author.Tests.{eq-eqb, ne_eqb, ltb-true, ltb-false}
use Rattle.itemset.specs.Set.{has, count, rank, insert, remove, all_below, least_from}
use Rattle.itemset.proofs.Laws.{low-set, low_clear, has-power, has-empty, has-insert}
use Rattle.itemset.proofs.Laws.{insert-hasnt, set-ext, remove-low, remove-half}
use Rattle.itemset.proofs.Laws.{remove-zero-low, remove-zero-half}
use Rattle.basics.proofs.Cases.{by-test}
use Rattle.itemset.proofs.Counts.{low_digit, rank-mod}

-- ---- union and intersection

both-low : (a b : ℕ) → eqb (min (a % 2) (b % 2)) 1 ≡ (eqb (a % 2) 1 && eqb (b % 2) 1)
both-low a b =
    by-test (eqb (a % 2) 1)
    (λ e. by-test (eqb (b % 2) 1) (λ f. rw (low-set a e, low-set b f))
    (λ f. rw (low-set a e, low_clear b f)))
    (λ e. by-test (eqb (b % 2) 1) (λ f. rw (low_clear a e, low-set b f))
    (λ f. rw (low_clear a e, low_clear b f)))

either-low : (a b : ℕ) → eqb (max (a % 2) (b % 2)) 1 ≡ (eqb (a % 2) 1 || eqb (b % 2) 1)
either-low a b =
    by-test (eqb (a % 2) 1)
    (λ e. by-test (eqb (b % 2) 1) (λ f. rw (low-set a e, low-set b f))
    (λ f. rw (low-set a e, low_clear b f)))
    (λ e. by-test (eqb (b % 2) 1) (λ f. rw (low_clear a e, low-set b f))
    (λ f. rw (low_clear a e, low_clear b f)))

pub has-and : (s t k : ℕ) → has (bit_and s t) k ≡ (has s k && has t k)
unfolding has
has-and s t zero =
    let low : bit_and s t % 2 ≡ min (s % 2) (t % 2) = omega (arith, and_step s t) in
    rw low (both-low s t)
has-and s t (suc k) =
    let half : bit_and s t / 2 ≡ bit_and (s / 2) (t / 2) = omega (arith, and_step s t) in
    rw half (has-and (s / 2) (t / 2) k)

pub has-or : (s t k : ℕ) → has (bit_or s t) k ≡ (has s k || has t k)
unfolding has
has-or s t zero =
    let low : bit_or s t % 2 ≡ max (s % 2) (t % 2) = omega (arith, or_step s t) in
    rw low (either-low s t)
has-or s t (suc k) =
    let half : bit_or s t / 2 ≡ bit_or (s / 2) (t / 2) = omega (arith, or_step s t) in
    rw half (has-or (s / 2) (t / 2) k)

-- ---- one item

or_swap : (a b : Bool) → (a || b) ≡ (b || a)
or_swap true true = refl
or_swap true false = refl
or_swap false true = refl
or_swap false false = refl

pub has_one : (k j : ℕ) → has (2 ^ k) j ≡ eqb j k
has_one k j =
    let one : insert 0 k ≡ 2 ^ k = insert-hasnt 0 k (has-empty k) ∙ zero-add (2 ^ k) in
    ap (λ (s : ℕ). has s j) (sym one) ∙ has-insert 0 k j
    ∙ rw (has-empty j) (or_swap (eqb j k) false)

-- 1, shifted k places in a word of w
pub one_shifted : (k w : ℕ) → k < w → 1 * 2 ^ k % 2 ^ w ≡ 2 ^ k
one_shifted k w l = shl_exact 1 k w (lit< tt) (omega arith) ∙ one-mul (2 ^ k)

pub insert-or : (s k : ℕ) → insert s k ≡ bit_or s (2 ^ k)
insert-or s k =
    set-ext (insert s k) (bit_or s (2 ^ k))
    (λ j. rw (has-insert s k j, has-or s (2 ^ k) j, has_one k j) (or_swap (eqb j k) (has s j)))

pub and_one : (s k : ℕ) → bit_and s (2 ^ k) ≡ cond (has s k) (2 ^ k) 0
unfolding has
and_one s zero = and_mask s 1 ∙ low_digit s
and_one s (suc k) =
    let half : 2 ^ suc k / 2 ≡ 2 ^ k = omega (arith, pow-suc 2 k) in
    let step : bit_and s (2 ^ suc k) ≡ bit_and (s / 2) (2 ^ k) * 2 =
    omega (arith, and_step s (2 ^ suc k), ap (bit_and (s / 2)) half, pow-suc 2 k) in
    by-test (has (s / 2) k)
    (λ e. rw e (omega (arith, rw e at (and_one (s / 2) k), pow-suc 2 k)))
    (λ e. rw e (omega (arith, rw e at (and_one (s / 2) k))))

pub remove-and : (s k : ℕ) → remove s k ≡ s - bit_and s (2 ^ k)
unfolding remove
remove-and s k = rw (and_one s k) (by-test (has s k) (λ e. rw e) (λ e. rw e (omega arith)))

-- ---- masks, shifts and counts

pub rank-and : (s k : ℕ) → rank s k ≡ count (bit_and s (2 ^ k - 1))
rank-and s k = rank-mod s k ∙ ap ones (sym (and_mask s k))

pub all-below-shift : (s n : ℕ) → all_below s n ≡ eqb (s / 2 ^ n) 0
all-below-shift s n =
    by-test (ltb s (2 ^ n)) (λ e. e ∙ sym (eq-eqb (s / 2 ^ n) 0
    (div-eq_of_lt (ltb-true s (2 ^ n) e)))) (λ e. e ∙ sym (ne_eqb (s / 2 ^ n) 0 (λ z.
    omega (
      arith,
      (le-div_iff_mul-le {x = 1} {y = s}
          (pow_pos n)).1 (omega (arith, ltb-false s (2 ^ n) e)),
    ))))

pub least-shift : (d s k : ℕ) → least_from d s k ≡ k + count_trailing_zeros d (s / 2 ^ k)
unfolding least_from count_trailing_zeros
least-shift zero s k = omega arith
least-shift (suc d) s k =
    let next : s / 2 ^ k / 2 ≡ s / 2 ^ suc k =
    div-div-eq-div-mul s (2 ^ k) 2 ∙ ap (λ (x : ℕ). s / x) (sym (pow-suc 2 k)) in
    by-test (has s k)
    (λ e. rw (e, low-set (s / 2 ^ k) (sym (has-power s k) ∙ e)) (omega arith))
    (λ e. rw (e, low_clear (s / 2 ^ k) (sym (has-power s k) ∙ e), next)
    (omega (arith, least-shift d s (suc k))))

under-min : (b d t u : ℕ) → t ≡ min d u → under b t ≡ min (suc d) (under b u)
under-min zero d t u e = omega arith
under-min (suc b) d t u e = omega arith

trailing-min : (d e n : ℕ) → count_trailing_zeros d n ≡ min d (count_trailing_zeros (d + e) n)
unfolding count_trailing_zeros
trailing-min zero e n = omega arith
trailing-min (suc d) e n = rw (suc-add d e) (under-min (n % 2) d _ _ (trailing-min d e (n / 2)))

-- in a word of n bits
pub least-trailing : (n s k : ℕ) → k ≤ n
    → least_from (n - k) s k ≡ min n (k + count_trailing_zeros n (s / 2 ^ k))
least-trailing n s k l =
    let low : count_trailing_zeros (n - k) (s / 2 ^ k) ≡ min (n - k) (count_trailing_zeros n (s / 2 ^ k)) =
    rw (sub-add_cancel l) at (trailing-min (n - k) k (s / 2 ^ k)) in
    omega (arith, least-shift (n - k) s k)

-- ---- the least member of a set that has one, in a word of n bits

pub least-below : (n s : ℕ) → s < 2 ^ n → 1 ≤ s → count_trailing_zeros n s < n
unfolding count_trailing_zeros
least-below zero s h l = absurd (omega (arith, lt-one h))
least-below (suc n) s h l =
    by-test (eqb (s % 2) 1)
    (λ e. rw (low-set s e) (omega arith))
    (λ e. rw (low_clear s e)
    (omega (
      arith,
      least-below n (s / 2) (omega (arith, pow-suc 2 n))
          (omega (arith, low_clear s e)),
    )))

pub least-member : (n s : ℕ) → s < 2 ^ n → 1 ≤ s → has s (count_trailing_zeros n s) ≡ true
unfolding count_trailing_zeros has
least-member zero s h l = absurd (omega (arith, lt-one h))
least-member (suc n) s h l =
    by-test (eqb (s % 2) 1)
    (λ e. rw (low-set s e) e)
    (λ e. rw (low_clear s e)
    (least-member n (s / 2) (omega (arith, pow-suc 2 n)) (omega (arith, low_clear s e))))

-- `& (s - 1)` takes it out
pub without-least : (n s : ℕ) → s < 2 ^ n → 1 ≤ s
    → bit_and s (s - 1) ≡ remove s (count_trailing_zeros n s)
unfolding count_trailing_zeros
without-least zero s h l = absurd (omega (arith, lt-one h))
without-least (suc n) s h l =
    by-test (eqb (s % 2) 1)
    (λ e.
    let half : (s - 1) / 2 ≡ s / 2 = omega (arith, low-set s e) in
    rw (low-set s e)
    (omega (
      arith,
      and_step s (s - 1),
      ap (bit_and (s / 2)) half,
      and_self (s / 2),
      low-set s e,
      remove-zero-low s,
      remove-zero-half s,
    )))
    (λ e.
    let half : (s - 1) / 2 ≡ s / 2 - 1 = omega (arith, low_clear s e) in
    rw (low_clear s e)
    (omega (
      arith,
      and_step s (s - 1),
      ap (bit_and (s / 2)) half,
      without-least n (s / 2) (omega (arith, pow-suc 2 n)) (omega (arith, low_clear s e)),
      low_clear s e,
      remove-low s (count_trailing_zeros n (s / 2)),
      remove-half s (count_trailing_zeros n (s / 2)),
    )))
