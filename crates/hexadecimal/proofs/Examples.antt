-- The definitions at some frames of document 01, by computing.
use mathlib.Core.Bool.{true, false}
use mathlib.Core.List.{List, [], ◌∷◌}
use mathlib.Core.Path.{◌≡◌, refl}
use Prim.Native.Nat.{ℕ}
use Rattle.hexadecimal.specs.Digit.{digit, pair, hex_digit}
use Rattle.hexadecimal.specs.Line.{line_length, line_end, is_ended}
use Rattle.hexadecimal.specs.Number.{number_at, big_endian}
use Rattle.hexadecimal.specs.Text.{is_hex, bytes_of, hex_text}

-- the lines 0502 and 04, the second without its 0a
text : List ℕ
text = 48 ∷ 53 ∷ 48 ∷ 50 ∷ 10 ∷ 48 ∷ 52 ∷ []

first-line-ends : line_end text 0 ≡ 4
unfolding text line_end line_length
first-line-ends = refl

first-line-is-ended : is_ended text 0 ≡ true
unfolding text line_end line_length
first-line-is-ended = refl

second-line-is-not : is_ended text 5 ≡ false
unfolding text line_end line_length
second-line-is-not = refl

-- 0f and 0F
digits-are-lowercase : pair 48 102 ≡ 15
unfolding pair digit
digits-are-lowercase = refl

uppercase-is-no-digit : pair 48 70 ≡ 256
unfolding pair digit
uppercase-is-no-digit = refl

-- 0502
show-is-hex : is_hex (48 ∷ 53 ∷ 48 ∷ 50 ∷ []) ≡ true
unfolding is_hex pair digit
show-is-hex = refl

show-has-bytes : bytes_of (48 ∷ 53 ∷ 48 ∷ 50 ∷ []) ≡ 5 ∷ 2 ∷ []
unfolding bytes_of pair digit
show-has-bytes = refl

-- 050
odd-is-malformed : is_hex (48 ∷ 53 ∷ 48 ∷ []) ≡ false
unfolding is_hex pair digit
odd-is-malformed = refl

-- 05g2
stops-at-other : bytes_of (48 ∷ 53 ∷ 103 ∷ 50 ∷ []) ≡ 5 ∷ []
unfolding bytes_of pair digit
stops-at-other = refl

-- place 258 of a deliver frame
place-is-258 : number_at 2 (4 ∷ 1 ∷ 2 ∷ []) 1 ≡ 258
unfolding number_at
place-is-258 = refl

place-of-258 : big_endian 2 258 ≡ 1 ∷ 2 ∷ []
unfolding big_endian
place-of-258 = refl

-- 00 and ab
digits-of-bytes : hex_text (0 ∷ 171 ∷ []) ≡ 48 ∷ 48 ∷ 97 ∷ 98 ∷ []
unfolding hex_text hex_digit
digits-of-bytes = refl
