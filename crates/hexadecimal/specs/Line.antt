-- Lines of a text, each ended by byte 0a (document 01: frames).
use Rattle.std.specs.Prelude.{Bool, cond, List, [], ◌∷◌, ℕ, suc, ◌+◌, eqb, ltb, length, drop}

-- how many bytes s has before its first 0a; all of them where there is none
unfoldable pub line_length : List ℕ → ℕ
line_length [] = 0
line_length (c ∷ s) =
    let more = suc (line_length s) in
    cond (eqb c 10) 0 more

-- the place of the first 0a of s at or after `at`; the length of s where there is none, and `at`
-- where that is past the end
unfoldable pub line_end : List ℕ → ℕ → ℕ
line_end s at = at + line_length (drop at s)

-- the line that begins at `at` has its 0a
abbrev pub is_ended : List ℕ → ℕ → Bool
is_ended s at = ltb (line_end s at) (length s)
