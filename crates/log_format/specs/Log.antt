-- A log as lines, a line as its frame, a frame as its parts, and which line is malformed (document
-- 01: frames, log frames, refusals 15 and 16; document 02, P6: hand-overs, P7: fast reads, P8:
-- mixed transactions). A later kind of frame joins at `has_read`, `has_write`, `reads_own`, `is_kind`,
-- `end_of` and `shaped`.
use Rattle.std.specs.Prelude.{Bool, cond, not, ◌&&◌, ◌||◌, List, [], ◌∷◌, map, ℕ, ◌+◌, ◌*◌, eqb, leb, ltb, length, get_or, take}
use Rattle.basics.specs.Lists.{every, counted}
use Rattle.hexadecimal.specs.Line.{line_length}
use Rattle.hexadecimal.specs.Number.{number_at}
use Rattle.hexadecimal.specs.Text.{is_hex, bytes_of}
use Rattle.itemset.specs.Set.{rank}
use Rattle.log_format.specs.Some.{some, first_from}

-- ---- lines

-- byte c in front of the first line
abbrev pub joined : ℕ → List (List ℕ) → List (List ℕ)
joined c [] = (c ∷ []) ∷ []
joined c (line ∷ lines) = (c ∷ line) ∷ lines

-- the lines of a log, each with the byte 0a that ends it; the last one may lack it
unfoldable pub lines_of : List ℕ → List (List ℕ)
lines_of [] = []
lines_of (c ∷ s) =
    let rest = lines_of s in
    cond (eqb c 0x0a) ((c ∷ []) ∷ rest) (joined c rest)

-- a line's bytes before its 0a
abbrev pub text_of : List ℕ → List ℕ
text_of line = take (line_length line) line

-- the frame of a line: the bytes of its digits, two a byte; none where it isn't such digits and
-- then 0a
unfoldable pub frame_of : List ℕ → List ℕ
frame_of line =
    cond (ltb (line_length line) (length line) && is_hex (text_of line)) (bytes_of (text_of line)) []

-- a log's frames, one a line
abbrev pub frames_of : List ℕ → List (List ℕ)
frames_of log = map frame_of (lines_of log)

-- ---- stamps

-- a stamp as one number, so that `<` is earlier: the number first, then the writing client (desk);
-- 0 is the initial stamp
abbrev pub stamp_of : ℕ → ℕ → ℕ
stamp_of number client = number * 16 + client

-- ---- frames: kind, client, then the parts that the kind has

abbrev pub kind_of : List ℕ → ℕ
kind_of f = get_or f 0 0

-- the client (desk) of a frame; of a hand-over the giver
abbrev pub client_of : List ℕ → ℕ
client_of f = get_or f 1 0

-- which parts a kind has: `20` is a write, `21` a read, `22` a hand-over, `23` a fast read, `24` a
-- mixed transaction
abbrev pub has_read : ℕ → Bool
has_read kind = eqb kind 0x21 || (eqb kind 0x23 || eqb kind 0x24)

abbrev pub has_write : ℕ → Bool
has_write kind = eqb kind 0x20 || eqb kind 0x24

abbrev pub hands_over : ℕ → Bool
hands_over kind = eqb kind 0x22

-- the kinds whose read part is to see its client's own writes: a fast read's isn't
abbrev pub reads_own : ℕ → Bool
reads_own kind = eqb kind 0x21 || eqb kind 0x24

-- the kinds of log frames
abbrev pub is_kind : ℕ → Bool
is_kind kind = has_read kind || (has_write kind || hands_over kind)

-- how many of the 64 items a set has
abbrev pub count64 : ℕ → ℕ
count64 set = rank set 64

-- ---- the read part: set, then per item number (4), writing client (1), value (4)

-- the items (lines) that a frame shows, each with a stamp of its own; none without a read part
unfoldable pub shown : List ℕ → ℕ
shown f = cond (has_read (kind_of f)) (number_at 8 f 2) 0

-- where the entry of the i-th item shown begins
abbrev pub entry_at : ℕ → ℕ
entry_at i = 10 + 9 * i

abbrev pub entry_number : List ℕ → ℕ → ℕ
entry_number f i = number_at 4 f (entry_at i)

abbrev pub entry_writer : List ℕ → ℕ → ℕ
entry_writer f i = get_or f (entry_at i + 4) 0

unfoldable pub shown_stamp : List ℕ → ℕ → ℕ
shown_stamp f item =
    let i = rank (shown f) item in
    stamp_of (entry_number f i) (entry_writer f i)

unfoldable pub shown_value : List ℕ → ℕ → ℕ
shown_value f item = number_at 4 f (entry_at (rank (shown f) item) + 5)

-- ---- the write part: set, number (4), values (4 each)

-- where it begins: behind the read part, or behind the client
unfoldable pub write_at : List ℕ → ℕ
write_at f = cond (has_read (kind_of f)) (entry_at (count64 (shown f))) 2

-- the items that a frame wrote, all of them with the stamp of its number and client; none without
-- a write part
unfoldable pub written : List ℕ → ℕ
written f = cond (has_write (kind_of f)) (number_at 8 f (write_at f)) 0

-- the number of its write; 0 without a write part
unfoldable pub number_of : List ℕ → ℕ
number_of f = cond (has_write (kind_of f)) (number_at 4 f (write_at f + 8)) 0

unfoldable pub written_stamp : List ℕ → ℕ
written_stamp f = stamp_of (number_of f) (client_of f)

-- where the value of the i-th item written begins
abbrev pub value_at : List ℕ → ℕ → ℕ
value_at f i = write_at f + 12 + 4 * i

unfoldable pub written_value : List ℕ → ℕ → ℕ
written_value f item = number_at 4 f (value_at f (rank (written f) item))

-- ---- a hand-over: behind the giver the receiver (1)

abbrev pub receiver_of : List ℕ → ℕ
receiver_of f = get_or f 2 0

-- where the frame ends: behind its last part
unfoldable pub end_of : List ℕ → ℕ
end_of f =
    cond (hands_over (kind_of f)) 3
    (cond (has_write (kind_of f)) (value_at f (count64 (written f))) (write_at f))

-- ---- what is well-formed

-- a client is 1 to 8
abbrev pub is_client : ℕ → Bool
is_client d = leb 1 d && leb d 8

-- number and writing client are both 0, or at least 1 and 1 to 8
abbrev pub is_whole : ℕ → ℕ → Bool
is_whole number d = (eqb number 0 && eqb d 0) || (leb 1 number && is_client d)

-- the read part, where there is one: a nonempty set, and whole stamps
unfoldable pub entries_whole : List ℕ → Bool
entries_whole f = every (count64 (shown f)) (λ i. is_whole (entry_number f i) (entry_writer f i))

unfoldable pub read_shaped : List ℕ → Bool
read_shaped f = not (has_read (kind_of f)) || (leb 1 (shown f) && entries_whole f)

-- the write part, where there is one: a nonempty set, and a number of 1 or more
unfoldable pub write_shaped : List ℕ → Bool
write_shaped f = not (has_write (kind_of f)) || (leb 1 (written f) && leb 1 (number_of f))

-- the receiver of a hand-over: a client, and not the giver
unfoldable pub hand_over_shaped : List ℕ → Bool
hand_over_shaped f =
    not (hands_over (kind_of f))
    || (is_client (receiver_of f) && not (eqb (receiver_of f) (client_of f)))

-- a log frame: its kind, its client, its parts, and nothing behind them
unfoldable pub shaped : List ℕ → Bool
shaped f =
    is_kind (kind_of f) && (is_client (client_of f)
    && (eqb (length f) (end_of f) && (read_shaped f && (write_shaped f && hand_over_shaped f))))

-- w is of that client, with that number or a greater one
unfoldable pub reaches : ℕ → ℕ → List ℕ → Bool
reaches client number w = eqb (client_of w) client && leb number (number_of w)

-- frame f, below the frames above, is malformed: it is no log frame, or the number of its write
-- doesn't rise over its client's numbers above
unfoldable pub malformed : List (List ℕ) → List ℕ → Bool
malformed above f =
    not (shaped f) || (leb 1 (number_of f) && some (reaches (client_of f) (number_of f)) above)

abbrev pub malformed_at : List (List ℕ) → ℕ → Bool
malformed_at frames i = malformed (take i frames) (get_or frames i [])

-- the first line that passes the test; the number of lines where none does
abbrev pub first_line : (List (List ℕ) → ℕ → Bool) → List (List ℕ) → ℕ
first_line p frames = first_from (length frames) 0 (p frames)

-- ---- the limits

-- 16: over 32,768 bytes or over 256 line ends
unfoldable pub too_long : List ℕ → Bool
too_long log = ltb 32768 (length log) || ltb 256 (counted (λ c. eqb c 0x0a) log)
