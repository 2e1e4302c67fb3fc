-- Lists of bytes: numbers below 256. Past the end of a list `get_or` gives 0, which is one.
use Rattle.std.specs.Prelude.{List, ℕ, ◌<◌, get_or}

-- every element of s is a byte
abbrev pub EachByte : List ℕ → Type 0
EachByte s = (i : ℕ) → get_or s i 0 < 256
