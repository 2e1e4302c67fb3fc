-- Single bits of a word: one that a set lacks, one of a difference, and bit 3 of a number that is
-- given by its digits.
use Rattle.std.proofs.Common.{◌≡◌, ℕ, zero, suc, ◌+◌, ◌*◌, ◌/◌, ◌%◌, ◌^◌, ◌<◌, ◌≤◌, false, not, eqb, ltb, sym, ◌∙◌, arith, ltb-false, ltb-true}
use mathlib.Core.Bool.{beq}
use native.Mathlib.Nat.{div-eq_of_lt-le}
use lib.Bits.{bit_xor, differ, xor_step}
use Rattle.basics.proofs.Cases.{by-test}
use Rattle.itemset.specs.Set.{has}
use Rattle.itemset.proofs.Laws.{low-set, low_clear, has-power}

pub lacks-power : (s k : ℕ) → eqb (s / 2 ^ k % 2) 0 ≡ not (has s k)
lacks-power s k =
    rw (has-power s k)
    (by-test (eqb (s / 2 ^ k % 2) 1) (λ e. rw (low-set (s / 2 ^ k) e))
    (λ e. rw (low_clear (s / 2 ^ k) e)))

differ-low : (a b : ℕ)
    → eqb (differ (a % 2) (b % 2)) 1 ≡ not (beq (eqb (a % 2) 1) (eqb (b % 2) 1))
differ-low a b =
    by-test (eqb (a % 2) 1)
    (λ e. by-test (eqb (b % 2) 1) (λ f. rw (low-set a e, low-set b f))
    (λ f. rw (low-set a e, low_clear b f)))
    (λ e. by-test (eqb (b % 2) 1) (λ f. rw (low_clear a e, low-set b f))
    (λ f. rw (low_clear a e, low_clear b f)))

differ-digit : (a b : ℕ) → differ (a % 2) (b % 2) < 2
differ-digit a b =
    by-test (eqb (a % 2) 1)
    (λ e. by-test (eqb (b % 2) 1) (λ f. rw (low-set a e, low-set b f) (omega arith))
    (λ f. rw (low-set a e, low_clear b f) (omega arith)))
    (λ e. by-test (eqb (b % 2) 1) (λ f. rw (low_clear a e, low-set b f) (omega arith))
    (λ f. rw (low_clear a e, low_clear b f) (omega arith)))

pub has-xor : (s t k : ℕ) → has (bit_xor s t) k ≡ not (beq (has s k) (has t k))
unfolding has
has-xor s t zero =
    let low : bit_xor s t % 2 ≡ differ (s % 2) (t % 2) =
    omega (arith, xor_step s t, differ-digit s t) in
    rw low (differ-low s t)
has-xor s t (suc k) =
    let half : bit_xor s t / 2 ≡ bit_xor (s / 2) (t / 2) =
    omega (arith, xor_step s t, differ-digit s t) in
    rw half (has-xor (s / 2) (t / 2) k)

-- ---- Bit 3

pub digit_low : (x q r : ℕ) → x ≡ 16 * q + r → r < 8 → x / 8 % 2 ≡ 0
digit_low x q r e l = let h : x / 8 ≡ 2 * q = div-eq_of_lt-le 8 (omega arith) (omega arith) in
    omega arith

pub digit-high : (x q r : ℕ) → x ≡ 16 * q + r → 8 ≤ r → r < 16 → x / 8 % 2 ≡ 1
digit-high x q r e l m = let h : x / 8 ≡ 2 * q + 1 =
    div-eq_of_lt-le 8 (omega arith) (omega arith) in omega arith

pub bit-clear : (x : ℕ) → has x 3 ≡ false → x / 8 % 2 ≡ 0
bit-clear x e = low_clear (x / 8) (sym (has-power x 3) ∙ e)

pub clear-bit : (x : ℕ) → x / 8 % 2 ≡ 0 → has x 3 ≡ false
clear-bit x e = has-power x 3 ∙ rw e

-- the part below 16 of a word with it clear is below 8
pub low_part : (a : ℕ) → a / 8 % 2 ≡ 0 → a % 16 < 8
low_part a e =
    by-test (ltb (a % 16) 8) (λ h. ltb-true (a % 16) 8 h) (λ h.
    omega (
      arith,
      ltb-false (a % 16) 8 h,
      digit-high a (a / 16) (a % 16) (omega arith)
          (omega (arith, ltb-false (a % 16) 8 h)) (omega arith),
    ))
