-- Lines with the frame that each is, and answers with the line that each is: the expected ones by
-- hand from document 01, whose session's lines are among them, and every row by computing.
use mathlib.Core.List.{List, [], ◌∷◌, map}
use mathlib.Core.Path.{◌≡◌, refl}
use Prim.Native.Char.{code}
use Prim.Native.Nat.{ℕ, zero, suc}
use Prim.Native.String.{String, ◌++◌}
use Prim.Native.String.{[] as none, ◌∷◌ as ◌before◌}
use Rattle.std.specs.Prelude.{Option, Some, None}
use Rattle.hexadecimal.specs.Digit.{digit, pair, hex_digit}
use Rattle.hexadecimal.specs.Number.{number_at, big_endian}
use Rattle.hexadecimal.specs.Text.{is_hex, bytes_of, hex_text}
use Rattle.protocol.specs.declared.Answer.{Answer}
use Rattle.protocol.specs.declared.Answer.TheVariants.{Refused, Made, Started, Delivered, Shown}
use Rattle.protocol.specs.declared.Answer.TheVariants.{Cleared, HandedOver, Compared, Checked}
use Rattle.protocol.specs.Calls.{bytes_of_answer}
use Rattle.store_frames.specs.declared.StoreFrame.{StoreFrame}
use Rattle.store_frames.specs.declared.StoreFrame.TheVariants.{Fresh, Read, Write, Deliver}
use Rattle.store_frames.specs.declared.StoreFrame.TheVariants.{Show, FastRead, Mixed}
use Rattle.store_frames.specs.declared.StoreFrame.TheVariants.{Clear, HandOver, Compare}
use Rattle.store_frames.specs.declared.StoreFrame.TheVariants.{Check}
use Rattle.store_frames.specs.declared.Parsed.{Parsed}
use Rattle.store_frames.specs.Answers.{answer_line}
use Rattle.store_frames.specs.StoreFrames.{framed, frame_bytes, parsed, store_frame_of}
use Rattle.store_frames.specs.StoreFrames.{value_bytes, mixed_bytes}

-- the bytes of a text
bytes : String → List ℕ
bytes none = []
bytes (c before s) = code c ∷ bytes s

-- a text n times
times : ℕ → String → String
times zero s = ""
times (suc n) s = s ++ times n s

-- ---- A row: a line, its frame and the bytes of its values

record Row : Type 0 where
  line : String
  frame : Option Parsed
  values : List ℕ

infixl 70 ◌⇒◌
infixl 70 ◌with-values◌
abbrev ◌⇒◌ : String → Option Parsed → Row
line ⇒ frame = record { line = line; frame = frame; values = [] }

abbrev ◌with-values◌ : Row → List ℕ → Row
r with-values values = record { line = r.line; frame = r.frame; values = values }

-- the value bytes that go on to a call
frame_values : StoreFrame → List ℕ → List ℕ
frame_values (Write client s) f = value_bytes f
frame_values (Mixed client r s) f = mixed_bytes f
frame_values (Fresh clients partitions items) f = []
frame_values (Read client s) f = []
frame_values (Deliver place) f = []
frame_values (Show client) f = []
frame_values (FastRead client s) f = []
frame_values Clear f = []
frame_values (HandOver giver receiver) f = []
frame_values (Compare first second) f = []
frame_values Check f = []

handed_on : Option Parsed → List ℕ → List ℕ
handed_on None f = []
handed_on (Some p) f = frame_values p.frame f

-- what the definitions give for its line
reading : Row → Row
reading r =
    record {
      line = r.line;
      frame = store_frame_of (bytes r.line);
      values = handed_on (store_frame_of (bytes r.line)) (frame_bytes (bytes r.line));
    }

rows : List Row
rows =
    -- fresh: clients, partitions, items, in this order
    "01010203\n" ⇒ framed (Fresh 1 2 3) 4
    ∷ "01ffffff\n" ⇒ framed (Fresh 255 255 255) 4
    ∷ "010102\n" ⇒ None
    ∷ "0101020300\n" ⇒ None
    -- read: items 0 and 63
    ∷ "02028000000000000001\n" ⇒ framed (Read 2 0x8000000000000001) 10
    ∷ "020280000000000000\n" ⇒ None
    ∷ "0202800000000000000100\n" ⇒ None
    -- write: as many values as there are bytes for, whatever the set
    ∷ "03018000000000000001\n" ⇒ framed (Write 1 0x8000000000000001) 10
    ∷ "030180000000000000010000000700000008\n" ⇒ framed (Write 1 0x8000000000000001) 18
    with-values (0 ∷ 0 ∷ 0 ∷ 7 ∷ 0 ∷ 0 ∷ 0 ∷ 8 ∷ [])
    ∷ "0301000000000000000301020304\n" ⇒ framed (Write 1 3) 14 with-values (1 ∷ 2 ∷ 3 ∷ 4 ∷ [])
    ∷ "030100000000000000\n" ⇒ None
    ∷ "0301000000000000000300\n" ⇒ None
    ∷ "03010000000000000003000007\n" ⇒ None
    ∷ "030100000000000000030000000700\n" ⇒ None
    -- 64 values, and 65
    ∷ ("03010000000000000003" ++ times 64 "00000000" ++ "\n") ⇒ framed (Write 1 3) 266
    with-values big_endian 256 0
    ∷ ("03010000000000000003" ++ times 64 "00000000" ++ "00\n") ⇒ None
    ∷ ("03010000000000000003" ++ times 65 "00000000" ++ "\n") ⇒ None
    -- deliver: the greater byte first
    ∷ "040102\n" ⇒ framed (Deliver 258) 3
    ∷ "0401\n" ⇒ None
    ∷ "04010200\n" ⇒ None
    -- show
    ∷ "05ff\n" ⇒ framed (Show 255) 2
    ∷ "05\n" ⇒ None
    ∷ "050201\n" ⇒ None
    -- fast read: laid out as a read
    ∷ "06028000000000000001\n" ⇒ framed (FastRead 2 0x8000000000000001) 10
    ∷ "060280000000000000\n" ⇒ None
    ∷ "0602800000000000000100\n" ⇒ None
    -- mixed: the items read, then those written, then as many values as there are bytes for
    ∷ "07028000000000000001000000000000000400000007\n"
    ⇒ framed (Mixed 2 0x8000000000000001 4) 22 with-values (0 ∷ 0 ∷ 0 ∷ 7 ∷ [])
    ∷ "070200000000000000010000000000000002\n" ⇒ framed (Mixed 2 1 2) 18
    ∷ "0702000000000000000100000000000000\n" ⇒ None
    ∷ "07020000000000000001000000000000000200\n" ⇒ None
    ∷ ("070200000000000000010000000000000002" ++ times 64 "00000000" ++ "\n")
    ⇒ framed (Mixed 2 1 2) 274 with-values big_endian 256 0
    ∷ ("070200000000000000010000000000000002" ++ times 65 "00000000" ++ "\n") ⇒ None
    -- clear
    ∷ "40\n" ⇒ framed Clear 1
    ∷ "4000\n" ⇒ None
    -- hand over: the giver, then the receiver
    ∷ "410102\n" ⇒ framed (HandOver 1 2) 3
    ∷ "41ff00\n" ⇒ framed (HandOver 255 0) 3
    ∷ "41\n" ⇒ None
    ∷ "4101\n" ⇒ None
    ∷ "41010203\n" ⇒ None
    -- compare: the first, then the second
    ∷ "420801\n" ⇒ framed (Compare 8 1) 3
    ∷ "420101\n" ⇒ framed (Compare 1 1) 3
    ∷ "42\n" ⇒ None
    ∷ "4208\n" ⇒ None
    ∷ "42080100\n" ⇒ None
    -- check
    ∷ "43\n" ⇒ framed Check 1
    ∷ "4300\n" ⇒ None
    ∷ "430102\n" ⇒ None
    -- kinds that there aren't, and no byte at all
    ∷ "7f\n" ⇒ None
    ∷ "0002\n" ⇒ None
    ∷ "0602\n" ⇒ None
    ∷ "07020000000000000001\n" ⇒ None
    ∷ "2102\n" ⇒ None
    ∷ "220102\n" ⇒ None
    ∷ "44\n" ⇒ None
    ∷ "\n" ⇒ None
    ∷ "" ⇒ None
    -- a last line without its 0a
    ∷ "0502" ⇒ None
    -- a byte that isn't 0a in its place
    ∷ "05020" ⇒ None
    ∷ "0502\r" ⇒ None
    -- lowercase digits and nothing else, two a byte
    ∷ "050a\n" ⇒ framed (Show 10) 2
    ∷ "050A\n" ⇒ None
    ∷ "0502\r\n" ⇒ None
    ∷ "0502zz\n" ⇒ None
    ∷ "05020\n" ⇒ None
    -- document 01's session
    ∷ "01020202\n" ⇒ framed (Fresh 2 2 2) 4
    ∷ "030100000000000000030000000700000008\n" ⇒ framed (Write 1 3) 18
    with-values (0 ∷ 0 ∷ 0 ∷ 7 ∷ 0 ∷ 0 ∷ 0 ∷ 8 ∷ [])
    ∷ "040001\n" ⇒ framed (Deliver 1) 3
    ∷ "02020000000000000003\n" ⇒ framed (Read 2 3) 10
    ∷ "0502\n" ⇒ framed (Show 2) 2
    ∷ []

-- ---- An answer, on an output of three bytes, and its line

record AnswerRow : Type 0 where
  answer : Answer
  line : List ℕ

infixl 70 ◌answered◌
abbrev ◌answered◌ : Answer → String → AnswerRow
answer answered line = record { answer = answer; line = bytes line }

answering : AnswerRow → AnswerRow
answering r = record { answer = r.answer; line = answer_line r.answer (0x21 ∷ 2 ∷ 7 ∷ []) }

answers : List AnswerRow
answers =
    Refused 15 answered "0f\n"
    ∷ Refused 1 answered "01\n"
    ∷ Made answered "00\n"
    ∷ Started 258 answered "000102\n"
    ∷ Delivered 5 258 1 answered "0005010201\n"
    ∷ Delivered 2 2 2 answered "0002000202\n"
    -- of the output, the frame's bytes
    ∷ Shown 2 answered "002102\n"
    ∷ Cleared 258 answered "000102\n"
    -- the log frame, whatever the output
    ∷ HandedOver 1 8 answered "00220108\n"
    ∷ Compared 0 answered "0000\n"
    ∷ Compared 3 answered "0003\n"
    ∷ Refused 19 answered "13\n"
    ∷ Checked answered "00\n"
    ∷ []

-- ---- Each line and each answer is as its row says

examples : (map reading rows ≡ rows) × (map answering answers ≡ answers)
unfolding rows reading handed_on frame_values bytes times answers answering frame_bytes parsed
    answer_line bytes_of_answer
    is_hex bytes_of hex_text pair digit hex_digit number_at big_endian
examples = (refl, refl)
