-- Bytes as text, two digits a byte, and text as bytes (document 01: frames). The laws go two digits
-- at a time.
use mathlib.Core.Bool.{true, false≢true}
use mathlib.Core.List.{List, [], ◌∷◌, ◌++◌}
use mathlib.Core.Path.{◌≡◌, refl, ap, ap₂}
use Prim.Native.Nat.{ℕ, zero, suc, ◌*◌, ◌/◌, ◌≤◌}
use native.Mathlib.Omega.{arith}
use lib.Dec.{ltb, lit<}
use lib.ListN.{length}
use borrow.Author.Tests.{ltb-true, lt-ltb}
use Rattle.hexadecimal.specs.Bytes.{EachByte}
use Rattle.basics.proofs.Cases.{by-test, and_left, and_right}
use Rattle.hexadecimal.specs.Digit.{pair, hex_byte}
use Rattle.hexadecimal.proofs.Digits.{pair-hex_byte, hex_byte-pair}
use Rattle.hexadecimal.specs.Text.{is_hex, bytes_of, hex_text}

-- ---- hex_text

pub length-hex_text : (bs : List ℕ) → length (hex_text bs) ≡ 2 * length bs
unfolding hex_text
length-hex_text [] = refl
length-hex_text (b ∷ bs) = omega (arith, length-hex_text bs)

pub hex_text-append : (a b : List ℕ) → hex_text (a ++ b) ≡ hex_text a ++ hex_text b
unfolding hex_text
hex_text-append [] b = refl
hex_text-append (x ∷ a) b = ap (λ (t : List ℕ). hex_byte x ++ t) (hex_text-append a b)

pub is_hex-hex_text : (bs : List ℕ) → EachByte bs → is_hex (hex_text bs) ≡ true
unfolding is_hex hex_text
is_hex-hex_text [] h = refl
is_hex-hex_text (b ∷ bs) h =
    rw (pair-hex_byte b (h zero), lt-ltb b 256 (h zero)) (is_hex-hex_text bs (λ i. h (suc i)))

pub bytes_of-hex_text : (bs : List ℕ) → EachByte bs → bytes_of (hex_text bs) ≡ bs
unfolding bytes_of hex_text
bytes_of-hex_text [] h = refl
bytes_of-hex_text (b ∷ bs) h =
    rw (pair-hex_byte b (h zero), lt-ltb b 256 (h zero))
    (ap (λ (t : List ℕ). b ∷ t) (bytes_of-hex_text bs (λ i. h (suc i))))

-- ---- bytes_of

pub length-bytes_of : (s : List ℕ) → is_hex s ≡ true → length (bytes_of s) ≡ length s / 2
unfolding is_hex bytes_of
length-bytes_of [] e = refl
length-bytes_of (h ∷ []) e = refl
length-bytes_of (h ∷ l ∷ s) e =
    rw (and_left (ltb (pair h l) 256) (is_hex s) e)
    (omega (arith, length-bytes_of s (and_right (ltb (pair h l) 256) (is_hex s) e)))

pub length-bytes_of-le : (s : List ℕ) → 2 * length (bytes_of s) ≤ length s
unfolding bytes_of
length-bytes_of-le [] = omega arith
length-bytes_of-le (h ∷ []) = omega arith
length-bytes_of-le (h ∷ l ∷ s) =
    by-test (ltb (pair h l) 256)
    (λ e. rw e (omega (arith, length-bytes_of-le s)))
    (λ e. rw e (omega arith))

pub each_byte-bytes_of : (s : List ℕ) → EachByte (bytes_of s)
unfolding bytes_of
each_byte-bytes_of [] i = lit< tt
each_byte-bytes_of (h ∷ []) i = lit< tt
each_byte-bytes_of (h ∷ l ∷ s) zero =
    by-test (ltb (pair h l) 256)
    (λ e. rw e (ltb-true (pair h l) 256 e))
    (λ e. rw e (lit< tt))
each_byte-bytes_of (h ∷ l ∷ s) (suc i) =
    let rest = each_byte-bytes_of s i in
    by-test (ltb (pair h l) 256) (λ e. rw e rest) (λ e. rw e (lit< tt))

pub hex_text-bytes_of : (s : List ℕ) → is_hex s ≡ true → hex_text (bytes_of s) ≡ s
unfolding is_hex bytes_of hex_text
hex_text-bytes_of [] e = refl
hex_text-bytes_of (h ∷ []) e = absurd (false≢true e)
hex_text-bytes_of (h ∷ l ∷ s) e =
    let t = and_left (ltb (pair h l) 256) (is_hex s) e in
    rw t
    (ap₂ (λ (a b : List ℕ). a ++ b) (hex_byte-pair h l (ltb-true (pair h l) 256 t))
    (hex_text-bytes_of s (and_right (ltb (pair h l) 256) (is_hex s) e)))
