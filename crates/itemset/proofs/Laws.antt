-- The laws of membership, `insert` and `remove`, by induction on the item: the lowest digit is
-- decided, and the rest is the same law for half the set. Two sets with the same members are the
-- same number.
use mathlib.Core.Bool.{Bool, true, false, not, cond, ◌&&◌, ◌||◌, true≢false}
use mathlib.Core.Path.{◌≡◌, refl, sym, ap, ◌∙◌}
use mathlib.Core.Logic.{◌↔◌, ◌≢◌}
use Prim.Native.Nat.{ℕ, zero, suc, ◌+◌, ◌-◌, ◌/◌, ◌%◌, ◌^◌, ◌≤◌, ◌<◌, suc-le-suc}
use native.Mathlib.Nat.{pow-suc, pow-succ', div-one, div-div-eq-div-mul, not-suc-le-zero}
use native.Mathlib.Nat.{le_of_suc-le-suc, le_refl, lt_of_lt_of_le, sub-le, add-sub_cancel}
use native.Mathlib.Nat.{sub-add_cancel}
use native.Mathlib.Omega.{arith}
use lib.Dec.{eqb, ltb, eqb-zero-suc, eqb-suc-zero, eqb-suc-suc}
use lib.Arith.{bin_ind, lt-one}
use lib.Pow.{pow_mono}
use borrow.Author.Tests.{eqb-true, eqb-false, eq-eqb, ne_eqb, ltb-true, ltb-false, lt-ltb, le-ltb}
use Rattle.itemset.specs.Set.{has, insert, insert64, remove, all_below}
use Rattle.basics.proofs.Cases.{by-test}

-- the lowest digit is 1, or it is 0
pub low-set : (s : ℕ) → eqb (s % 2) 1 ≡ true → s % 2 ≡ 1
low-set s e = eqb-true (s % 2) 1 e

pub low_clear : (s : ℕ) → eqb (s % 2) 1 ≡ false → s % 2 ≡ 0
low_clear s e = omega (arith, eqb-false (s % 2) 1 e)

-- ---- has

-- item k as the digit worth 2 ^ k
pub has-power : (s k : ℕ) → has s k ≡ eqb (s / 2 ^ k % 2) 1
unfolding has
has-power s zero = ap (λ (x : ℕ). eqb (x % 2) 1) (sym (div-one s))
has-power s (suc k) = has-power (s / 2) k
    ∙ ap (λ (x : ℕ). eqb (x % 2) 1)
    (div-div-eq-div-mul s 2 (2 ^ k) ∙ ap (λ (x : ℕ). s / x) (sym (pow-succ' 2 k)))

pub has-empty : (k : ℕ) → has 0 k ≡ false
unfolding has
has-empty zero = refl
has-empty (suc k) = has-empty k

-- a member is one of the digits that make up the number
pub has-le : (s k : ℕ) → has s k ≡ true → 2 ^ k ≤ s
unfolding has
has-le s zero e = omega (arith, low-set s e)
has-le s (suc k) e = omega (arith, has-le (s / 2) k e, pow-suc 2 k)

-- ---- sets of items below n

pub below-le : (s n m : ℕ) → s < 2 ^ n → n ≤ m → s < 2 ^ m
below-le s n m h l = lt_of_lt_of_le h (pow_mono l)

pub has_above : (s k n : ℕ) → s < 2 ^ n → n ≤ k → has s k ≡ false
unfolding has
has_above s k zero h l = rw (lt-one h) (has-empty k)
has_above s zero (suc n) h l = absurd (not-suc-le-zero l)
has_above s (suc k) (suc n) h l = has_above (s / 2) k n (omega (arith, pow-suc 2 n))
    (le_of_suc-le-suc l)

pub has-below : (s k n : ℕ) → s < 2 ^ n → has s k ≡ true → k < n
has-below s k n h e = by-test (ltb k n) (ltb-true k n)
    (λ f. absurd (true≢false (sym e ∙ has_above s k n h (ltb-false k n f))))

-- ---- two sets with the same members are equal

pub set-empty : (s : ℕ) → ((k : ℕ) → has s k ≡ false) → s ≡ 0
unfolding has
set-empty =
    bin_ind (λ (s : ℕ). ((k : ℕ) → has s k ≡ false) → s ≡ 0) (λ h. refl) (λ s rest h.
    let above : s / 2 ≡ 0 = rest (λ k. h (suc k)) in
    omega (arith, low_clear s (h zero)))

low-ext : (s t : ℕ) → eqb (s % 2) 1 ≡ eqb (t % 2) 1 → s % 2 ≡ t % 2
low-ext s t e = by-test (eqb (t % 2) 1) (λ f. low-set s (e ∙ f) ∙ sym (low-set t f))
    (λ f. low_clear s (e ∙ f) ∙ sym (low_clear t f))

pub set-ext : (s t : ℕ) → ((k : ℕ) → has s k ≡ has t k) → s ≡ t
unfolding has
set-ext =
    bin_ind (λ (s : ℕ). (t : ℕ) → ((k : ℕ) → has s k ≡ has t k) → s ≡ t)
    (λ t h. sym (set-empty t (λ k. sym (h k) ∙ has-empty k))) (λ s rest t h.
    let above : s / 2 ≡ t / 2 = rest (t / 2) (λ k. h (suc k)) in
    omega (arith, low-ext s t (h zero)))

pub below-has : (s n : ℕ) → ((k : ℕ) → n ≤ k → has s k ≡ false) → s < 2 ^ n
unfolding has
below-has s zero h = omega (arith, set-empty s (λ k. h k (omega arith)))
below-has s (suc n) h = omega (
  arith,
  below-has (s / 2) n
      (λ k l. h (suc k) (suc-le-suc l)),
  pow-suc 2 n,
)

pub all-below : (s n : ℕ) → (all_below s n ≡ true) ↔ ((k : ℕ) → has s k ≡ true → k < n)
all-below s n = (
  λ e k h. has-below s k n (ltb-true s (2 ^ n) e) h,
  λ h. lt-ltb s (2 ^ n) (below-has s n (λ k l. by-test (has s k) (λ e. absurd (omega (arith, h k e))) (λ e. e))),
)

-- a set that is not empty has a member
pub has_some : (s : ℕ) → eqb s 0 ≡ false → (k : ℕ) × (has s k ≡ true)
unfolding has
has_some =
    bin_ind (λ (s : ℕ). eqb s 0 ≡ false → (k : ℕ) × (has s k ≡ true)) (λ e. absurd (true≢false e))
    (λ s rest e.
    by-test (eqb (s % 2) 1) (λ f. (0, f)) (λ f.
    let found = rest (ne_eqb (s / 2) 0 (λ z. eqb-false s 0 e (omega (arith, low_clear s f)))) in
    (suc found.0, found.1)))

-- ---- insert

pub insert-has : (s k : ℕ) → has s k ≡ true → insert s k ≡ s
unfolding insert
insert-has s k e = rw e

pub insert-hasnt : (s k : ℕ) → has s k ≡ false → insert s k ≡ s + 2 ^ k
unfolding insert
insert-hasnt s k e = rw e

-- digit by digit
pub insert-low : (s k : ℕ) → insert s (suc k) % 2 ≡ s % 2
unfolding insert has
insert-low s k = by-test (has (s / 2) k) (λ e. rw e) (λ e. rw e (omega (arith, pow-suc 2 k)))

pub insert-half : (s k : ℕ) → insert s (suc k) / 2 ≡ insert (s / 2) k
unfolding insert has
insert-half s k = by-test (has (s / 2) k) (λ e. rw e) (λ e. rw e (omega (arith, pow-suc 2 k)))

pub insert-zero-low : (s : ℕ) → insert s zero % 2 ≡ 1
unfolding insert has
insert-zero-low s = by-test (eqb (s % 2) 1) (λ e. rw e (low-set s e))
    (λ e. rw e (omega (arith, low_clear s e)))

pub insert-zero-half : (s : ℕ) → insert s zero / 2 ≡ s / 2
unfolding insert has
insert-zero-half s = by-test (eqb (s % 2) 1) (λ e. rw e) (λ e. rw e (omega (arith, low_clear s e)))

pub has-insert : (s k j : ℕ) → has (insert s k) j ≡ (eqb j k || has s j)
unfolding has
has-insert s zero zero = rw (insert-zero-low s)
has-insert s zero (suc j) = rw (insert-zero-half s, eqb-suc-zero j)
has-insert s (suc k) zero = rw (insert-low s k, eqb-zero-suc k)
has-insert s (suc k) (suc j) = rw (insert-half s k, eqb-suc-suc j k) (has-insert (s / 2) k j)

pub has-insert-same : (s k : ℕ) → has (insert s k) k ≡ true
has-insert-same s k = rw (has-insert s k k, eq-eqb k k refl)

pub has-insert-other : (s k j : ℕ) → j ≢ k → has (insert s k) j ≡ has s j
has-insert-other s k j n = rw (has-insert s k j, ne_eqb j k n)

pub insert-below : (s k n : ℕ) → s < 2 ^ n → k < n → insert s k < 2 ^ n
insert-below s k n h l = below-has (insert s k) n
    (λ j g. has-insert-other s k j (omega arith) ∙ has_above s j n h g)

-- in a 64-bit set
pub insert64-lt : (s k : ℕ) → k < 64 → insert64 s k ≡ insert s k
insert64-lt s k l = ap (λ (t : Bool). cond t (insert s k) s) (lt-ltb k 64 l)

pub insert64-ge : (s k : ℕ) → 64 ≤ k → insert64 s k ≡ s
insert64-ge s k l = ap (λ (t : Bool). cond t (insert s k) s) (le-ltb k 64 l)

-- ---- remove

pub remove-has : (s k : ℕ) → has s k ≡ true → remove s k ≡ s - 2 ^ k
unfolding remove
remove-has s k e = rw e

pub remove-hasnt : (s k : ℕ) → has s k ≡ false → remove s k ≡ s
unfolding remove
remove-hasnt s k e = rw e

pub remove-le : (s k : ℕ) → remove s k ≤ s
unfolding remove
remove-le s k = by-test (has s k) (λ e. rw e (sub-le s (2 ^ k))) (λ e. rw e (le_refl s))

-- digit by digit
pub remove-low : (s k : ℕ) → remove s (suc k) % 2 ≡ s % 2
unfolding remove has
remove-low s k = by-test (has (s / 2) k)
    (λ e. rw e (omega (arith, pow-suc 2 k, has-le (s / 2) k e))) (λ e. rw e)

pub remove-half : (s k : ℕ) → remove s (suc k) / 2 ≡ remove (s / 2) k
unfolding remove has
remove-half s k = by-test (has (s / 2) k)
    (λ e. rw e (omega (arith, pow-suc 2 k, has-le (s / 2) k e))) (λ e. rw e)

pub remove-zero-low : (s : ℕ) → remove s zero % 2 ≡ 0
unfolding remove has
remove-zero-low s = by-test (eqb (s % 2) 1) (λ e. rw e (omega (arith, low-set s e)))
    (λ e. rw e (low_clear s e))

pub remove-zero-half : (s : ℕ) → remove s zero / 2 ≡ s / 2
unfolding remove has
remove-zero-half s = by-test (eqb (s % 2) 1) (λ e. rw e (omega (arith, low-set s e))) (λ e. rw e)

pub has-remove : (s k j : ℕ) → has (remove s k) j ≡ (not (eqb j k) && has s j)
unfolding has
has-remove s zero zero = rw (remove-zero-low s)
has-remove s zero (suc j) = rw (remove-zero-half s, eqb-suc-zero j)
has-remove s (suc k) zero = rw (remove-low s k, eqb-zero-suc k)
has-remove s (suc k) (suc j) = rw (remove-half s k, eqb-suc-suc j k) (has-remove (s / 2) k j)

pub has-remove-same : (s k : ℕ) → has (remove s k) k ≡ false
has-remove-same s k = rw (has-remove s k k, eq-eqb k k refl)

pub has-remove-other : (s k j : ℕ) → j ≢ k → has (remove s k) j ≡ has s j
has-remove-other s k j n = rw (has-remove s k j, ne_eqb j k n)

-- ---- one undoes the other

pub remove-insert : (s k : ℕ) → has s k ≡ false → remove (insert s k) k ≡ s
remove-insert s k e =
    remove-has (insert s k) k (has-insert-same s k)
    ∙ rw (insert-hasnt s k e) (add-sub_cancel s (2 ^ k))

pub insert-remove : (s k : ℕ) → has s k ≡ true → insert (remove s k) k ≡ s
insert-remove s k e =
    insert-hasnt (remove s k) k (has-remove-same s k)
    ∙ rw (remove-has s k e) (sub-add_cancel (has-le s k e))
