-- A lowercase hexadecimal digit's byte and its value, and the two digits of a byte (document 01:
-- frames).
use Rattle.std.specs.Prelude.{Option, Some, None, cond, ◌&&◌, List, [], ◌∷◌, ℕ, ◌+◌, ◌-◌, ◌*◌, ◌/◌, ◌%◌, leb, ltb}

-- x where it is below n
abbrev pub below : ℕ → ℕ → Option ℕ
below n x = cond (ltb x n) (Some x) None

-- the value of a lowercase hexadecimal digit's byte; 16 for any other byte
unfoldable pub digit : ℕ → ℕ
digit c =
    cond (leb 48 c && leb c 57) (c - 48) (cond (leb 97 c && leb c 102) (c - 87) 16)

-- the byte of two digits; 256 where either isn't a digit
unfoldable pub pair : ℕ → ℕ → ℕ
pair h l = cond (ltb (digit h) 16 && ltb (digit l) 16) (digit h * 16 + digit l) 256

-- the byte of the digit whose value is v
unfoldable pub hex_digit : ℕ → ℕ
hex_digit v = cond (ltb v 10) (48 + v) (87 + v)

-- the two digits of b
abbrev pub hex_byte : ℕ → List ℕ
hex_byte b = hex_digit (b / 16) ∷ hex_digit (b % 16) ∷ []
