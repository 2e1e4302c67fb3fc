-- Big-endian numbers: the number of some bytes, and the bytes of a number, most significant first
-- (document 01: frames).
use Rattle.std.specs.Prelude.{List, [], ◌∷◌, ◌++◌, ℕ, zero, suc, ◌+◌, ◌*◌, ◌/◌, ◌%◌, get_or}

-- the number of the n bytes of s that begin at `at`, most significant first; a byte past the end
-- counts 0
unfoldable pub number_at : ℕ → List ℕ → ℕ → ℕ
number_at zero s at = 0
number_at (suc n) s at = number_at n s at * 256 + get_or s (at + n) 0

-- the n lowest bytes of x, most significant first
unfoldable pub big_endian : ℕ → ℕ → List ℕ
big_endian zero x = []
big_endian (suc n) x = big_endian n (x / 256) ++ x % 256 ∷ []
