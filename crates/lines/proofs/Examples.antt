-- Inputs cut into lines, and what the driver answers to those that hold no frame: the expected ones
-- by hand from document 01, and every row by computing.
use mathlib.Core.List.{List, [], ◌∷◌, map}
use mathlib.Core.Path.{◌≡◌, refl}
use Prim.Native.Char.{code}
use Prim.Native.Nat.{ℕ, zero, suc}
use Prim.Native.String.{String, ◌++◌}
use Prim.Native.String.{[] as none, ◌∷◌ as ◌before◌}
use Rattle.hexadecimal.specs.Digit.{digit, pair, hex_digit}
use Rattle.hexadecimal.specs.Number.{number_at, big_endian}
use Rattle.hexadecimal.specs.Text.{is_hex, bytes_of, hex_text}
use Rattle.protocol.specs.Calls.{bytes_of_answer}
use Rattle.store_frames.specs.Answers.{answer_line}
use Rattle.store_frames.specs.StoreFrames.{frame_bytes, parsed}
use Rattle.lines.specs.Input.{last_line, lines_from, lines_of, input_reply}

-- the bytes of a text
bytes : String → List ℕ
bytes none = []
bytes (c before s) = code c ∷ bytes s

-- a text n times
times : ℕ → String → String
times zero s = ""
times (suc n) s = s ++ times n s

-- an input, its lines, and the replies on an empty block
record Row : Type 0 where
  input : String
  lines : List (List ℕ)
  replies : List ℕ

abbrev row : String → List String → String → Row
row input lines replies =
    record { input = input; lines = map bytes lines; replies = bytes replies }

-- what the definitions give
reading : Row → Row
reading r =
    record {
      input = r.input;
      lines = lines_of (bytes r.input);
      replies = input_reply [] [] (bytes r.input);
    }

rows : List Row
rows =
    row "" [] ""
    ∷ row "\n" ("\n" ∷ []) "0f\n"
    ∷ row "\n\n" ("\n" ∷ "\n" ∷ []) "0f\n0f\n"
    -- a tail without 0a
    ∷ row "0502" ("0502" ∷ []) "0f\n"
    ∷ row "zz\n\n0502" ("zz\n" ∷ "\n" ∷ "0502" ∷ []) "0f\n0f\n0f\n"
    -- a line longer than any frame's
    ∷ row (times 600 "0" ++ "\n") ((times 600 "0" ++ "\n") ∷ []) "0f\n"
    ∷ []

examples : map reading rows ≡ rows
unfolding rows reading bytes times lines_from last_line input_reply answer_line frame_bytes parsed
    bytes_of_answer is_hex bytes_of hex_text pair digit hex_digit number_at big_endian
examples = refl
