-- The three words that a loop gathers of a stamp pass exactly when it is in range: bits 3 and 36 of
-- one sum, bit 3 of another, and the size.
use Rattle.std.proofs.Common.{◌≡◌, ℕ, ◌+◌, ◌-◌, ◌*◌, ◌/◌, ◌%◌, ◌^◌, ◌<◌, ◌≤◌, Bool, true, false, cond, not, ◌&&◌, ◌||◌, eqb, ltb, leb, sym, refl, ap, ◌∙◌, ap₂, mod-eq_of_lt, arith, ltb-false, ltb-true, lt-ltb, eq-eqb, eqb-true, le-leb, leb-false, leb-true}
use mathlib.Core.Bool.{beq}
use native.Mathlib.Nat.{div-div-eq-div-mul, div-eq_of_lt, div-eq_of_lt-le}
use borrow.Author.Tests.{lt-leb, eqb-false}
use Rattle.basics.proofs.Cases.{by-test, test-ext, and_left, and_right, and_both, or_left, or_right}
use Rattle.basics.proofs.Cases.{not-true, not-false, beq-true}
use Rattle.itemset.specs.Set.{has, all_below}
use Rattle.itemset.proofs.Laws.{low-set, low_clear, has-power}
use Rattle.protocol.specs.Tables.{number_of, writer_of}
use Rattle.protocol.specs.declared.Entry.{Entry}
use Rattle.protocol.specs.Range.{fits, stamp_in_range, entry_in_range}
use Rattle.gather.specs.Sized.{sized}
use Rattle.gather.specs.Words.{stamp_bits, raising, raised, mixed, roomed, stamps_test}
use Rattle.gather.specs.Words.{entries_test}
use Rattle.gather.proofs.Bits.{has-xor, digit_low, digit-high, bit-clear, clear-bit}
use Rattle.gather.proofs.Parts.{parts_test, stamp-parts}

same_digits : (a b : ℕ) → eqb (a % 2) 1 ≡ eqb (b % 2) 1 → a % 2 ≡ b % 2
same_digits a b e =
    by-test (eqb (b % 2) 1) (λ f. low-set a (e ∙ f) ∙ sym (low-set b f))
    (λ f. low_clear a (e ∙ f) ∙ sym (low_clear b f))

digits_same : (a b : ℕ) → a % 2 ≡ b % 2 → not (beq (eqb (a % 2) 1) (eqb (b % 2) 1)) ≡ false
digits_same a b e = rw e (by-test (eqb (b % 2) 1) (λ f. rw f) (λ f. rw f))

beq_same : (a : Bool) → beq a a ≡ true
beq_same true = refl
beq_same false = refl

-- bit 3 of `mixed` is clear
unmixed : (s : ℕ) → has (mixed s) 3 ≡ false → raised s / 2 ^ 33 / 8 % 2 ≡ raised s / 8 % 2
unmixed s e =
    let h = sym (has-xor (raised s / 2 ^ 33) (raised s) 3) ∙ e in
    same_digits (raised s / 2 ^ 33 / 8) (raised s / 8)
    (sym (has-power (raised s / 2 ^ 33) 3) ∙ beq-true _ _ (not-false _ h) ∙ has-power (raised s) 3)

mixed-not : (s : ℕ) → raised s / 2 ^ 33 / 8 % 2 ≡ raised s / 8 % 2 → has (mixed s) 3 ≡ false
mixed-not s e =
    has-xor (raised s / 2 ^ 33) (raised s) 3
    ∙ ap₂ (λ (x y : Bool). not (beq x y)) (has-power (raised s / 2 ^ 33) 3)
    (has-power (raised s) 3)
    ∙ digits_same (raised s / 2 ^ 33 / 8) (raised s / 8) e

module _ (s : ℕ) (l : s < 2 ^ stamp_bits) where
  plainly : raised s ≡ s + raising
  plainly = mod-eq_of_lt (omega arith)

  parted : s ≡ 16 * number_of s + writer_of s
  parted = omega arith

  top-none : s < 9 → raised s / 2 ^ 33 / 8 % 2 ≡ 0
  top-none m =
      let h : raised s / 2 ^ 33 / 8 ≡ 0 =
      div-div-eq-div-mul (raised s) (2 ^ 33) 8 ∙ div-eq_of_lt (omega (arith, plainly)) in
      omega arith

  top-some : 9 ≤ s → raised s / 2 ^ 33 / 8 % 2 ≡ 1
  top-some m =
      let h : raised s / 2 ^ 33 / 8 ≡ 1 =
      div-div-eq-div-mul (raised s) (2 ^ 33) 8
      ∙ div-eq_of_lt-le (2 ^ 36) (omega (arith, plainly)) (omega (arith, plainly)) in
      omega arith

  low-none : writer_of s ≡ 0 → raised s / 8 % 2 ≡ 0
  low-none m = digit_low (raised s) (number_of s + 4294967295) 7 (omega (arith, plainly, parted))
      (omega arith)

  low-some : 1 ≤ writer_of s → writer_of s ≤ 8 → raised s / 8 % 2 ≡ 1
  low-some m o = digit-high (raised s) (number_of s + 4294967295) (writer_of s + 7)
      (omega (arith, plainly, parted)) (omega arith) (omega arith)

  low-past : 9 ≤ writer_of s → raised s / 8 % 2 ≡ 0
  low-past m = digit_low (raised s) (number_of s + 4294967296) (writer_of s - 9)
      (omega (arith, plainly, parted)) (omega arith)

  room-plainly : (c : ℕ) → roomed c s ≡ s + (7 - c)
  room-plainly c = mod-eq_of_lt (omega arith)

  room-left : (c : ℕ) → c < 8 → writer_of s ≤ c → roomed c s / 8 % 2 ≡ 0
  room-left c m o = digit_low (roomed c s) (number_of s) (writer_of s + (7 - c))
      (omega (arith, room-plainly c, parted)) (omega arith)

  room-none : (c : ℕ) → c < 8 → c < writer_of s → writer_of s ≤ 8 → roomed c s / 8 % 2 ≡ 1
  room-none c m o p =
      digit-high (roomed c s) (number_of s) (writer_of s + (7 - c))
      (omega (arith, room-plainly c, parted)) (omega arith) (omega arith)

  some_number : eqb (number_of s) 0 ≡ false → 16 ≤ s
  some_number g = let n : 1 ≤ number_of s = omega (arith, eqb-false (number_of s) 0 g) in
      omega (arith, parted)

  -- the parts, by the two tests
  same_parts : writer_of s ≤ 8 → raised s / 2 ^ 33 / 8 % 2 ≡ raised s / 8 % 2
      → eqb (writer_of s) 0 ≡ eqb (number_of s) 0
  same_parts low e =
      by-test (eqb (writer_of s) 0)
      (λ h. by-test (eqb (number_of s) 0) (λ g. h ∙ sym g) (λ g.
      h ∙ sym (eq-eqb (number_of s) 0
      (omega (
        arith,
        low-none (eqb-true (writer_of s) 0 h),
        top-some
            (omega (arith, some_number g)),
      )))))
      (λ h. by-test (eqb (number_of s) 0) (λ g.
      let z : number_of s ≡ 0 = eqb-true (number_of s) 0 g in
      let w : 1 ≤ writer_of s = omega (arith, eqb-false (writer_of s) 0 h) in
      eq-eqb (writer_of s) 0 (omega (arith, low-some w low, top-none (omega (arith, parted))))
      ∙ sym g) (λ g. h ∙ sym g))

  to-parts : (c : ℕ) → raised s / 2 ^ 33 / 8 % 2 ≡ raised s / 8 % 2 → c ≤ 8
      → (c < 8 → roomed c s / 8 % 2 ≡ 0) → parts_test c s ≡ true
  to-parts c e m f =
      let low : writer_of s ≤ 8 =
      by-test (leb (writer_of s) 8) (λ h. leb-true (writer_of s) 8 h) (λ h.
      let p = leb-false (writer_of s) 8 h in
      omega (arith, low-past p, top-some (omega (arith, parted)))) in
      let small : writer_of s ≤ c =
      by-test (leb (writer_of s) c) (λ h. leb-true (writer_of s) c h) (λ h.
      let p = leb-false (writer_of s) c h in
      let q : c < 8 = omega arith in
      omega (arith, room-none c q p low, f q)) in
      rw (same_parts low e, beq_same (eqb (number_of s) 0)) (le-leb (writer_of s) c small)

  -- and the tests, by the parts
  from_parts : (c : ℕ) → c ≤ 8 → parts_test c s ≡ true → raised s / 2 ^ 33 / 8 % 2 ≡ raised s / 8 % 2
  from_parts c m e =
      let same : eqb (writer_of s) 0 ≡ eqb (number_of s) 0 = beq-true _ _ (and_left _ _ e) in
      let small : writer_of s ≤ c =
      leb-true (writer_of s) c (and_right (beq (eqb (writer_of s) 0) (eqb (number_of s) 0)) _
      e) in
      by-test (eqb (number_of s) 0)
      (λ g. omega (
        arith,
        low-none (eqb-true (writer_of s) 0 (same ∙ g)),
        top-none
            (omega (arith, parted, eqb-true (writer_of s) 0 (same ∙ g), eqb-true (number_of s) 0 g)),
      ))
      (λ g.
      let w : 1 ≤ writer_of s = omega (arith, eqb-false (writer_of s) 0 (same ∙ g)) in
      omega (arith, low-some w (omega arith), top-some (omega (arith, some_number g))))

sized-number : (s : ℕ) → fits (number_of s) ≡ ltb s (2 ^ stamp_bits)
sized-number s =
    test-ext _ _
    (λ e. lt-ltb s (2 ^ stamp_bits) (omega (arith, ltb-true (number_of s) (2 ^ 32) e)))
    (λ e. lt-ltb (number_of s) (2 ^ 32) (omega (arith, ltb-true s (2 ^ stamp_bits) e)))

-- ---- The law

pub stamp-words : (c items s : ℕ) → c ≤ 8
    → stamps_test c s (mixed s) (roomed c s) ≡ stamp_in_range (sized c items) s
unfolding stamps_test
stamp-words c items s m =
    let size = ltb s (2 ^ stamp_bits) in
    let plain = not (has (mixed s) 3) in
    let room = leb 8 c || not (has (roomed c s) 3) in
    test-ext _ _
    (λ e.
    let t : (size && plain) ≡ true = and_left (size && plain) room e in
    let f : size ≡ true = and_left size plain t in
    let l : s < 2 ^ stamp_bits = ltb-true s (2 ^ stamp_bits) f in
    let r : c < 8 → roomed c s / 8 % 2 ≡ 0 =
    λ q. bit-clear (roomed c s) (not-true _ (rw (lt-leb 8 c q) at (and_right (size
    && plain) room e))) in
    stamp-parts c items s ∙ and_both _ _
    (to-parts s l c (unmixed s (not-true _ (and_right size plain t))) m r) (sized-number s ∙ f))
    (λ e.
    let t = sym (stamp-parts c items s) ∙ e in
    let f : size ≡ true = sym (sized-number s) ∙ and_right (parts_test c s) (fits (number_of s)) t in
    let l : s < 2 ^ stamp_bits = ltb-true s (2 ^ stamp_bits) f in
    let p : parts_test c s ≡ true = and_left (parts_test c s) (fits (number_of s)) t in
    let small : writer_of s ≤ c = leb-true (writer_of s) c
    (and_right (beq (eqb (writer_of s) 0) (eqb (number_of s) 0)) _ p) in
    let r : room ≡ true =
    by-test (leb 8 c) (λ h. or_left (leb 8 c) _ h) (λ h.
    or_right (leb 8 c) _ (ap not (clear-bit (roomed c s)
    (room-left s l c (leb-false 8 c h) small)))) in
    and_both (size && plain) room (and_both size plain f
    (ap not (mixed-not s (from_parts s l c m p)))) r)

-- of 8 clients any word will do for `roomed`
no_room : (c s m r t : ℕ) → 8 ≤ c → stamps_test c s m r ≡ stamps_test c s m t
unfolding stamps_test
no_room c s m r t l = rw (le-leb 8 c l)

-- as the code reads them
pub stamp-read : (c items w : ℕ) {s m r : ℕ} → c ≤ 8 → s ≡ w → m ≡ mixed s
    → r ≡ cond (ltb c 8) (roomed c s) 0
    → stamps_test c s m r ≡ stamp_in_range (sized c items) w
stamp-read c items w {s} {m} {r} l e f g =
    by-test (ltb c 8)
    (λ h. rw (f, rw h at g, e) (stamp-words c items w l))
    (λ h. no_room c s m r (roomed c s) (ltb-false c 8 h) ∙ rw (f, e) (stamp-words c items w l))

pub entry_read : (c items : ℕ) (e : Entry) {s m r t : ℕ} → c ≤ 8 → s ≡ e.stamp → m ≡ mixed s
    → r ≡ cond (ltb c 8) (roomed c s) 0 → t ≡ e.set
    → entries_test c items s m r t ≡ entry_in_range (sized c items) e
unfolding entry_in_range
entry_read c items e l f g h i = ap₂ ◌&&◌ (stamp-read c items e.stamp l f g h)
    (ap (λ (x : ℕ). all_below x items) i)
