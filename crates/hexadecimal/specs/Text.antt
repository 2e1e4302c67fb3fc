-- Bytes as text, two digits a byte, and text as bytes (document 01: frames).
use Rattle.std.specs.Prelude.{Bool, true, false, cond, ◌&&◌, List, [], ◌∷◌, ◌++◌, ℕ, ltb}
use Rattle.hexadecimal.specs.Digit.{pair, hex_byte}

-- s is an even number of bytes, all of them digits
unfoldable pub is_hex : List ℕ → Bool
is_hex [] = true
is_hex (h ∷ []) = false
is_hex (h ∷ l ∷ s) =
    let rest = is_hex s in
    ltb (pair h l) 256 && rest

-- the bytes of the pairs of s before the first pair that isn't two digits: of all pairs where s is
-- hex
unfoldable pub bytes_of : List ℕ → List ℕ
bytes_of [] = []
bytes_of (h ∷ []) = []
bytes_of (h ∷ l ∷ s) =
    let some = pair h l ∷ bytes_of s in
    cond (ltb (pair h l) 256) some []

-- the digits of bs, two a byte
unfoldable pub hex_text : List ℕ → List ℕ
hex_text [] = []
hex_text (b ∷ bs) = hex_byte b ++ hex_text bs
