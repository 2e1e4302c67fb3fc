-- The store's frames (document 01: store frames): lines of lowercase hexadecimal, two digits a
-- byte, one frame a line, most significant byte first, each ended by byte 0a. Any other line is
-- malformed, and so is a last line without its 0a. A line is all its bytes, its 0a with them.
use Rattle.std.specs.Prelude.{Option, Some, None}
use Rattle.std.specs.Prelude.{Bool, cond, ◌&&◌, List, [], ℕ, ◌+◌, ◌-◌, ◌*◌, ◌/◌, eqb, leb, length, get_or, take, drop}
use Rattle.hexadecimal.specs.Decode.{decoded}
use Rattle.hexadecimal.specs.Number.{number_at}
use Rattle.hexadecimal.specs.Text.{is_hex, bytes_of}
use Rattle.store_frames.specs.Limits.{most_line}
use Rattle.store_frames.specs.declared.StoreFrame.{StoreFrame}
use Rattle.store_frames.specs.declared.StoreFrame.TheVariants.{Fresh, Read, Write, Deliver}
use Rattle.store_frames.specs.declared.StoreFrame.TheVariants.{Show, FastRead, Mixed}
use Rattle.store_frames.specs.declared.StoreFrame.TheVariants.{Clear, HandOver, Compare}
use Rattle.store_frames.specs.declared.StoreFrame.TheVariants.{Check}
use Rattle.store_frames.specs.declared.Parsed.{Parsed}

-- ---- a line's bytes

-- its last byte is 0a
abbrev pub is_ended : List ℕ → Bool
is_ended line = eqb (get_or line (length line - 1) 0) 0x0a

-- what stands before its last byte
abbrev pub text_of : List ℕ → List ℕ
text_of line = take (length line - 1) line

-- the bytes of the digits, two a byte; none where the line isn't such digits and then 0a
unfoldable pub frame_bytes : List ℕ → List ℕ
frame_bytes line = cond (is_ended line && is_hex (text_of line)) (bytes_of (text_of line)) []

-- ---- the frame of some bytes

-- the first byte says which frame it is; no frame begins with 00
abbrev pub kind_of : List ℕ → ℕ
kind_of f = get_or f 0 0

-- a frame of that kind and that many bytes
abbrev pub is_store_frame : ℕ → ℕ → List ℕ → Bool
is_store_frame kind n f = eqb (kind_of f) kind && eqb (length f) n

-- how many values follow so many bytes: 4 bytes each
abbrev pub values_in : ℕ → ℕ → ℕ
values_in head n = (n - head) / 4

-- a frame of that kind, so many bytes and then whole values, 0 to 64 of them
abbrev pub is_valued : ℕ → ℕ → List ℕ → Bool
is_valued kind head f =
    let values = values_in head (length f) in
    is_store_frame kind (head + 4 * values) f && leb values 64

-- `03`: the values follow kind, client and set. `07`: they follow kind, client and two sets
abbrev pub is_write : List ℕ → Bool
is_write f = is_valued 0x03 10 f

abbrev pub is_mixed : List ℕ → Bool
is_mixed f = is_valued 0x07 18 f

-- a frame of so many bytes
abbrev pub framed : StoreFrame → ℕ → Option Parsed
framed frame n = Some (record { frame = frame; length = n })

-- document 02's: `06` desk, set: fast read, 'with the layout and checks of `02`'. `40`: clear. `41`
-- giver, receiver (a byte each): hand over. `42` first, second: compare. 'Store frame `07` is desk,
-- read set, write set, values'. `43`: check the block. Any other is malformed
abbrev pub parsed_later : List ℕ → Option Parsed
parsed_later f =
    let n = length f in
    cond (is_store_frame 0x06 10 f) (framed (FastRead (number_at 1 f 1) (number_at 8 f 2)) n)
    (cond (is_store_frame 0x40 1 f) (framed Clear n)
    (cond (is_store_frame 0x41 3 f) (framed (HandOver (number_at 1 f 1) (number_at 1 f 2)) n)
    (cond (is_store_frame 0x42 3 f) (framed (Compare (number_at 1 f 1) (number_at 1 f 2)) n)
    (cond (is_mixed f) (framed (Mixed (number_at 1 f 1) (number_at 8 f 2) (number_at 8 f 10)) n)
    (cond (is_store_frame 0x43 1 f) (framed Check n)
    None)))))

-- `01` desks, cabinets, lines (a byte each): fresh. `02` desk, set (8 bytes): read. `03` desk, set,
-- values: write. `04` place (2 bytes): deliver. `05` desk: show; or one of document 02's
unfoldable pub parsed : List ℕ → Option Parsed
parsed f =
    let n = length f in
    cond (is_store_frame 0x01 4 f) (framed (Fresh (number_at 1 f 1) (number_at 1 f 2) (number_at 1 f 3))
    n)
    (cond (is_store_frame 0x02 10 f) (framed (Read (number_at 1 f 1) (number_at 8 f 2)) n)
    (cond (is_write f) (framed (Write (number_at 1 f 1) (number_at 8 f 2)) n)
    (cond (is_store_frame 0x04 3 f) (framed (Deliver (number_at 2 f 1)) n)
    (cond (is_store_frame 0x05 2 f) (framed (Show (number_at 1 f 1)) n)
    (parsed_later f)))))

-- the value bytes of a write, and of a mixed start
abbrev pub value_bytes : List ℕ → List ℕ
value_bytes f = drop 10 f

abbrev pub mixed_bytes : List ℕ → List ℕ
mixed_bytes f = drop 18 f

-- ---- a line's frame

abbrev pub store_frame_of : List ℕ → Option Parsed
store_frame_of line = parsed (frame_bytes line)

-- ---- reading it: a line longer than any frame's isn't decoded

abbrev pub is_decoded : List ℕ → Bool
is_decoded line = leb (length line) most_line && is_ended line

abbrev pub decoded_line : List ℕ → Option ℕ
decoded_line line = cond (is_decoded line) (decoded (text_of line)) None

-- the bytes that reading stores: of a malformed line, those before the first pair that isn't two
-- digits
unfoldable pub stored_bytes : List ℕ → List ℕ
stored_bytes line = cond (is_decoded line) (bytes_of (text_of line)) []
