-- An answer as a line: the digits of its bytes, and then 0a (document 01: frames, answers).
use Rattle.std.specs.Prelude.{List, [], ◌∷◌, ◌++◌, ℕ}
use Rattle.hexadecimal.specs.Text.{hex_text}
use Rattle.protocol.specs.declared.Answer.{Answer}
use Rattle.protocol.specs.Calls.{bytes_of_answer}

-- some bytes as a line
abbrev pub line_of : List ℕ → List ℕ
line_of bytes = hex_text bytes ++ 0x0a ∷ []

-- an answer's line; after a show the bytes of the frame are those of the output
unfoldable pub answer_line : Answer → List ℕ → List ℕ
answer_line a output = line_of (bytes_of_answer a output)
