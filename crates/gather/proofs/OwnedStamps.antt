-- The word that a loop gathers of a stamp that is not to be initial passes exactly when the stamp
-- is in range and has a writer.
use Rattle.std.proofs.Common.{◌≡◌, ℕ, ◌+◌, ◌-◌, ◌*◌, ◌/◌, ◌%◌, ◌^◌, ◌<◌, ◌≤◌, Bool, true, false, not, ◌&&◌, ◌||◌, eqb, ltb, leb, ◌≢◌, sym, refl, ap, ◌∙◌, mod-eq_of_lt, arith, ltb-false, ltb-true, lt-ltb, ne_eqb, le-leb, leb-false, leb-true}
use native.Mathlib.Nat.{div-eq_of_lt-le, mod-eq-sub-mod, mod-add-mod, add-mod_right}
use Rattle.basics.proofs.Cases.{by-test, test-ext, and_left, and_right, and_both, not-true}
use Rattle.protocol.specs.Tables.{number_of, writer_of}
use Rattle.protocol.specs.Range.{fits, stamp_in_range}
use Rattle.gather.specs.Sized.{sized}
use Rattle.gather.specs.Words.{stamp_bits, lowering, lowered, owned, rest_of, owns_test}
use Rattle.gather.proofs.Gathers.{owns}
use Rattle.gather.proofs.Bits.{digit_low, digit-high, bit-clear, clear-bit, low_part}

-- a word that passes: below 2 ^ 36, and bit 3 is clear
owns-size : (a : ℕ) → owns_test a ≡ true → a < 2 ^ stamp_bits
unfolding owns_test
owns-size a e = ltb-true a (2 ^ stamp_bits) (and_left _ _ e)

owns-digit : (a : ℕ) → owns_test a ≡ true → a / 8 % 2 ≡ 0
unfolding owns_test
owns-digit a e = bit-clear a (not-true _ (and_right (ltb a (2 ^ stamp_bits)) _ e))

owns-pass : (a : ℕ) → a < 2 ^ stamp_bits → a / 8 % 2 ≡ 0 → owns_test a ≡ true
unfolding owns_test
owns-pass a l e = and_both _ _ (lt-ltb a (2 ^ stamp_bits) l) (ap not (clear-bit a e))

parted : (s q r : ℕ) → s ≡ 16 * q + r → r < 16 → (number_of s ≡ q) × (writer_of s ≡ r)
parted s q r e l = let n : number_of s ≡ q = div-eq_of_lt-le 16 (omega arith) (omega arith) in
    (n, omega arith)

abbrev pub later_test : ℕ → ℕ → Bool
later_test c s = leb 1 (number_of s) && (leb 1 (writer_of s) && leb (writer_of s) c)
    && fits (number_of s)

module _ (c s : ℕ) (m : c ≤ 8) (b : s < 2 ^ 64) where
  lowered-some : 17 ≤ s → lowered s ≡ s - 17
  lowered-some l = mod-eq-sub-mod {n = s + lowering} {m = 2 ^ 64} (omega arith)
      ∙ mod-eq_of_lt (omega arith) ∙ omega arith

  lowered_none : s < 17 → 2 ^ stamp_bits ≤ lowered s
  lowered_none l = let e : lowered s ≡ s + lowering = mod-eq_of_lt (omega arith) in
      omega arith

  to-later : owns_test (owned c s) ≡ true → later_test c s ≡ true
  to-later e =
      let y = (lowered s + (24 - c)) % 2 ^ 64 in
      let both : (owns_test (lowered s) && owns_test y) ≡ true = owns.joined (lowered s) y ∙ e in
      let f : owns_test (lowered s) ≡ true = and_left _ _ both in
      let g : owns_test y ≡ true = and_right (owns_test (lowered s)) (owns_test y) both in
      let low : 17 ≤ s = by-test (leb 17 s) (λ h. leb-true 17 s h)
      (λ h. omega (arith, lowered_none (leb-false 17 s h), owns-size (lowered s) f)) in
      let x : lowered s ≡ s - 17 = lowered-some low in
      let small : lowered s % 16 < 8 = low_part (lowered s) (owns-digit (lowered s) f) in
      let parts = parted s (lowered s / 16 + 1) (lowered s % 16 + 1) (omega arith) (omega arith) in
      let plain : y ≡ lowered s + (24 - c) =
      mod-eq_of_lt (omega (arith, owns-size (lowered s) f)) in
      let room : lowered s % 16 + (8 - c) < 8 =
      by-test (ltb (lowered s % 16 + (8 - c)) 8) (λ h. ltb-true _ 8 h) (λ h.
      omega (
        arith,
        ltb-false (lowered s % 16 + (8 - c)) 8 h,
        owns-digit y g,
        digit-high y (lowered s / 16 + 1) (lowered s % 16 + (8 - c)) (omega arith)
            (omega (arith, ltb-false (lowered s % 16 + (8 - c)) 8 h)) (omega arith),
      )) in
      let n : number_of s < 2 ^ 32 = omega (arith, owns-size y g) in
      and_both _ _ (and_both _ _ (le-leb 1 (number_of s) (omega arith))
      (and_both _ _ (le-leb 1 (writer_of s) (omega arith))
      (le-leb (writer_of s) c (omega arith))))
      (lt-ltb (number_of s) (2 ^ 32) n)

  from-later : later_test c s ≡ true → owns_test (owned c s) ≡ true
  from-later e =
      let y = (lowered s + (24 - c)) % 2 ^ 64 in
      let t = and_left (leb 1 (number_of s) && (leb 1 (writer_of s) && leb (writer_of s) c)) _ e in
      let w = and_right (leb 1 (number_of s)) _ t in
      let n : 1 ≤ number_of s = leb-true 1 (number_of s) (and_left _ _ t) in
      let low : 1 ≤ writer_of s = leb-true 1 (writer_of s) (and_left _ _ w) in
      let high : writer_of s ≤ c = leb-true (writer_of s) c (and_right (leb 1 (writer_of s)) _ w) in
      let f : number_of s < 2 ^ 32 =
      ltb-true (number_of s) (2 ^ 32)
      (and_right (leb 1 (number_of s) && (leb 1 (writer_of s) && leb (writer_of s) c)) _ e) in
      let x : lowered s ≡ s - 17 = lowered-some (omega arith) in
      let plain : y ≡ lowered s + (24 - c) = mod-eq_of_lt (omega arith) in
      sym (owns.joined (lowered s) y)
      ∙ and_both _ _
      (owns-pass (lowered s) (omega arith)
      (digit_low (lowered s) (number_of s - 1) (writer_of s - 1) (omega arith) (omega arith)))
      (owns-pass y (omega arith) (digit_low y (number_of s) (writer_of s - 1 + (8 - c)) (omega arith)
      (omega arith)))

-- ---- The law

pub own-word : (c s : ℕ) → c ≤ 8 → s < 2 ^ 64 → owns_test (owned c s) ≡ later_test c s
own-word c s m b = test-ext _ _ (to-later c s m b) (from-later c s m b)

-- a stamp is initial or passes so
order : (a b c : Bool) → ((a && b) && c) ≡ ((a && c) && b)
order true true true = refl
order true true false = refl
order true false true = refl
order true false false = refl
order false b c = refl

pub stamp-word : (c items s : ℕ) → c ≤ 8 → s < 2 ^ 64
    → (eqb s 0 || owns_test (owned c s)) ≡ stamp_in_range (sized c items) s
unfolding stamp_in_range
stamp-word c items s m b =
    ap (λ (x : Bool). eqb s 0 || x)
    (own-word c s m b ∙ order (leb 1 (number_of s)) (leb 1 (writer_of s) && leb (writer_of s) c)
    (fits (number_of s)))

-- so the word of a stamp that may be initial passes exactly when the stamp is in range
pub initial-word : (c items s : ℕ) → s ≡ 0 → owns_test 0 ≡ stamp_in_range (sized c items) s
unfolding stamp_in_range
initial-word c items s e = owns.empty ∙ rw e refl

pub later-word : (c items s : ℕ) {word : ℕ} → c ≤ 8 → s < 2 ^ 64 → s ≢ 0 → word ≡ owned c s
    → owns_test word ≡ stamp_in_range (sized c items) s
later-word c items s m b n e = ap owns_test e ∙ rw (ne_eqb s 0 n) at (stamp-word c items s m b)

-- the same from the stamp itself
pub rest_sum : (c s : ℕ) → c ≤ 8 → (s + rest_of c) % 2 ^ 64 ≡ (lowered s + (24 - c)) % 2 ^ 64
rest_sum c s m =
    let plain : (lowered s + (24 - c)) % 2 ^ 64 ≡ (s + lowering + (24 - c)) % 2 ^ 64 =
    mod-add-mod (s + lowering) (2 ^ 64) (24 - c) in
    by-test (ltb c 8)
    (λ h.
    let l = ltb-true c 8 h in
    let e : s + lowering + (24 - c) ≡ s + (7 - c) + 2 ^ 64 = omega arith in
    rw h (sym (plain ∙ ap (λ (x : ℕ). x % 2 ^ 64) e ∙ add-mod_right (s + (7 - c)) (2 ^ 64))))
    (λ h.
    let e : s + lowering + (24 - c) ≡ s + 18446744073709551615 =
    omega (arith, ltb-false c 8 h) in
    rw h (sym (plain ∙ ap (λ (x : ℕ). x % 2 ^ 64) e)))
