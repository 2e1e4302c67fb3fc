-- An input, cut into lines after each 0a, and what the driver answers to it: one line a line, each
-- carried out on the block that the line before it left. The driver sees one byte at a time, and
-- keeps one byte more of a line than any frame's has.
use Rattle.std.specs.Prelude.{cond, List, [], ◌∷◌, ◌++◌, ℕ, ◌+◌, eqb, length, take, set}
use Rattle.std.proofs.lemmas.List.Edits.{sets}
use Rattle.store_frames.specs.Limits.{most_line}
use Rattle.lines.specs.Lines.{line_reply, line_block}

-- ---- the whole input

-- a line begun, and never ended
unfoldable pub last_line : List ℕ → List (List ℕ)
last_line [] = []
last_line (x ∷ begun) = (x ∷ begun) ∷ []

-- the lines of an input, the first of which has begun: each with its 0a, which the last one may
-- lack
unfoldable pub lines_from : List ℕ → List ℕ → List (List ℕ)
lines_from begun [] = last_line begun
lines_from begun (c ∷ input) =
    let ended = (begun ++ c ∷ []) ∷ lines_from [] input in
    let longer = lines_from (begun ++ c ∷ []) input in
    cond (eqb c 0x0a) ended longer

abbrev pub lines_of : List ℕ → List (List ℕ)
lines_of input = lines_from [] input

unfoldable pub replies_to : List ℕ → List (List ℕ) → List ℕ
replies_to b [] = []
replies_to b (line ∷ lines) = line_reply b line ++ replies_to (line_block b line) lines

-- the block after them
unfoldable pub lines_block : List ℕ → List (List ℕ) → List ℕ
lines_block b [] = b
lines_block b (line ∷ lines) = lines_block (line_block b line) lines

-- ---- byte by byte: the bytes kept of the line begun

-- the most that are kept
abbrev pub most_kept : ℕ
most_kept = most_line + 1

-- with one byte more
abbrev pub joined : List ℕ → ℕ → List ℕ
joined kept c = take most_kept (kept ++ c ∷ [])

abbrev pub kept_after : List ℕ → ℕ → List ℕ
kept_after kept c = cond (eqb c 0x0a) [] (joined kept c)

abbrev pub byte_reply : List ℕ → List ℕ → ℕ → List ℕ
byte_reply b kept c = cond (eqb c 0x0a) (line_reply b (joined kept c)) []

abbrev pub byte_block : List ℕ → List ℕ → ℕ → List ℕ
byte_block b kept c = cond (eqb c 0x0a) (line_block b (joined kept c)) b

-- at the end of the input: a line begun is a line without its 0a
abbrev pub end_reply : List ℕ → List ℕ → List ℕ
end_reply b [] = []
end_reply b (x ∷ kept) = line_reply b (x ∷ kept)

abbrev pub end_block : List ℕ → List ℕ → List ℕ
end_block b [] = b
end_block b (x ∷ kept) = line_block b (x ∷ kept)

-- all that is answered to these bytes, and at their end
unfoldable pub input_reply : List ℕ → List ℕ → List ℕ → List ℕ
input_reply b kept [] = end_reply b kept
input_reply b kept (c ∷ input) = byte_reply b kept c ++ input_reply (byte_block b kept c)
    (kept_after kept c) input

-- ---- byte by byte, on what the driver lends

-- the block, the buffer of the line begun, how many of its bytes are kept, and the buffer of
-- replies
pub record Lent : Type 0 where
  pub block : List ℕ
  pub line : List ℕ
  pub at : ℕ
  pub output : List ℕ

abbrev pub lent : List ℕ → List ℕ → ℕ → List ℕ → Lent
lent block line at output = record { block = block; line = line; at = at; output = output }

-- the bytes kept of the line begun
abbrev pub kept_of : Lent → List ℕ
kept_of s = take s.at s.line

-- after one byte: what `feed` promises
unfoldable pub fed : Lent → ℕ → Lent
fed s c =
    record {
      block = byte_block s.block (kept_of s) c;
      line = set s.line s.at c;
      at = length (kept_after (kept_of s) c);
      output = sets s.output 0 (byte_reply s.block (kept_of s) c);
    }

-- after these bytes, in order
unfoldable pub fed_all : Lent → List ℕ → Lent
fed_all s [] = s
fed_all s (c ∷ input) = fed_all (fed s c) input

-- after the end of the input: what `end` promises, and no bytes are kept
unfoldable pub closed : Lent → Lent
closed s =
    record {
      block = end_block s.block (kept_of s);
      line = s.line;
      at = 0;
      output = sets s.output 0 (end_reply s.block (kept_of s));
    }
