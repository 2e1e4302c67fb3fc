-- A lowercase hexadecimal digit's byte and its value, and the two digits of a byte (document 01:
-- frames).
use mathlib.Core.Bool.{◌&&◌}
use mathlib.Core.List.{[], ◌∷◌}
use mathlib.Core.Path.{◌≡◌, ◌∙◌}
use Prim.Native.Nat.{ℕ, ◌+◌, ◌-◌, ◌*◌, ◌/◌, ◌%◌, ◌≤◌, ◌<◌}
use native.Mathlib.Nat.{lt_irrefl}
use native.Mathlib.Omega.{arith}
use lib.Dec.{leb, ltb}
use borrow.Author.Tests.{ltb-true, ltb-false, le-leb, lt-leb, lt-ltb, le-ltb}
use Rattle.basics.proofs.Cases.{by-test, between, both_below}
use Rattle.hexadecimal.specs.Digit.{digit, pair, hex_digit, hex_byte}

-- ---- digit

pub digit-le : (c : ℕ) → digit c ≤ 16
unfolding digit
digit-le c =
    by-test (leb 48 c && leb c 57)
    (λ e. rw e (omega (arith, between 48 57 c e)))
    (λ e. rw e
    (by-test (leb 97 c && leb c 102)
    (λ f. rw f (omega (arith, between 97 102 c f)))
    (λ f. rw f (omega arith))))

pub digit-hex_digit : (v : ℕ) → v < 16 → digit (hex_digit v) ≡ v
unfolding digit hex_digit
digit-hex_digit v h =
    by-test (ltb v 10)
    (λ e.
    let l = ltb-true v 10 e in
    rw (e, le-leb 48 (48 + v) (omega arith), le-leb (48 + v) 57 (omega arith)) (omega arith))
    (λ e.
    let l = ltb-false v 10 e in
    rw (
      e,
      le-leb 48 (87 + v) (omega arith),
      lt-leb (87 + v) 57 (omega arith),
      le-leb 97 (87 + v)
          (omega arith),
      le-leb (87 + v) 102 (omega arith),
    )
    (omega arith))

-- ---- hex_digit

pub hex_digit-lt : (v : ℕ) → v < 16 → hex_digit v < 256
unfolding hex_digit
hex_digit-lt v h = by-test (ltb v 10) (λ e. rw e (omega arith)) (λ e. rw e (omega arith))

pub hex_digit-digit : (c : ℕ) → digit c < 16 → hex_digit (digit c) ≡ c
unfolding digit hex_digit
hex_digit-digit c h =
    by-test (leb 48 c && leb c 57)
    (λ e.
    let l = between 48 57 c e in
    rw (e, lt-ltb (c - 48) 10 (omega arith)) (omega arith))
    (λ e.
    by-test (leb 97 c && leb c 102)
    (λ f.
    let l = between 97 102 c f in
    rw (e, f, le-ltb (c - 87) 10 (omega arith)) (omega arith))
    (λ f. absurd (lt_irrefl 16 (rw (e, f) at h))))

-- ---- pair

pub pair-le : (h l : ℕ) → pair h l ≤ 256
unfolding pair
pair-le h l =
    by-test (ltb (digit h) 16 && ltb (digit l) 16)
    (λ e. rw e (omega (arith, both_below 16 (digit h) (digit l) e)))
    (λ e. rw e (omega arith))

-- of two digits
pub pair-digits : (h l : ℕ) → digit h < 16 → digit l < 16 → pair h l ≡ digit h * 16 + digit l
unfolding pair
pair-digits h l p q = rw (lt-ltb (digit h) 16 p, lt-ltb (digit l) 16 q)

-- a byte comes of two digits alone
pub pair-both : (h l : ℕ) → pair h l < 256 → (digit h < 16) × (digit l < 16)
unfolding pair
pair-both h l p =
    by-test (ltb (digit h) 16 && ltb (digit l) 16)
    (λ e. both_below 16 (digit h) (digit l) e)
    (λ e. absurd (lt_irrefl 256 (rw e at p)))

pub pair-hex_byte : (b : ℕ) → b < 256 → pair (hex_digit (b / 16)) (hex_digit (b % 16)) ≡ b
pair-hex_byte b h =
    let p = digit-hex_digit (b / 16) (omega arith) in
    let q = digit-hex_digit (b % 16) (omega arith) in
    pair-digits (hex_digit (b / 16)) (hex_digit (b % 16)) (omega arith) (omega arith) ∙ omega arith

pub hex_byte-pair : (h l : ℕ) → pair h l < 256 → hex_byte (pair h l) ≡ h ∷ l ∷ []
hex_byte-pair h l p =
    let d = pair-both h l p in
    let e = pair-digits h l d.0 d.1 in
    let high : pair h l / 16 ≡ digit h = omega arith in
    let low : pair h l % 16 ≡ digit l = omega arith in
    rw (high, low, hex_digit-digit h d.0, hex_digit-digit l d.1)
