-- The log frame of an ended transaction (document 01, 'Frames'), which a showing writes: a read
-- part and a write part, either of which may be absent. And that of a hand-over.
use Rattle.std.specs.Prelude.{cond, List, [], ◌∷◌, ◌++◌, ℕ, ◌+◌, ◌*◌, eqb}
use Rattle.hexadecimal.specs.Number.{big_endian}
use Rattle.itemset.specs.Set.{members}
use Rattle.protocol.specs.Tables.{ReadPart, WritePart, Ended, shows_read, shows_write, number_of}
use Rattle.protocol.specs.Tables.{writer_of}

-- the bytes of each item in turn
unfoldable pub listed : (ℕ → List ℕ) → List ℕ → List ℕ
listed f [] = []
listed f (k ∷ ks) = f k ++ listed f ks

-- number (4), writing client (1), value (4)
abbrev pub shown_entry : ℕ → ℕ → List ℕ
shown_entry stamp value = big_endian 4 (number_of stamp) ++ big_endian 1
    (writer_of stamp) ++ big_endian 4 value

-- a read part: set, then per item its entry
unfoldable pub read_bytes : ReadPart → List ℕ
read_bytes p =
    big_endian 8 p.set
    ++ listed (λ k. shown_entry (p.asked k) (p.values k)) (members 64 p.set)

-- a write part: set, number, values
unfoldable pub write_bytes : WritePart → List ℕ
write_bytes p =
    big_endian 8 p.set ++ big_endian 4 (number_of p.stamp)
    ++ listed (λ k. big_endian 4 (p.values k)) (members 64 p.set)

-- the byte of a kind: `21` of a read, `20` of a write, `23` of a fast read, `24` of a mixed
-- transaction
abbrev pub frame_byte : ℕ → ℕ
frame_byte kind =
    cond (eqb kind 1) 0x21 (cond (eqb kind 2) 0x20 (cond (eqb kind 3) 0x23 0x24))

-- kind, client, and the parts that the kind shows; empty where none has ended. 'Log frame `24` is
-- desk, read part as in `21`, write part as in `20`, the desk given once' (document 02, P8)
unfoldable pub frame : ℕ → Ended → List ℕ
frame d e =
    let kind = e.kind in
    cond (eqb kind 0) []
    ((frame_byte kind ∷ big_endian 1 d)
    ++ cond (shows_read kind) (read_bytes e.read) []
    ++ cond (shows_write kind) (write_bytes e.write) [])

-- the most bytes that one has: a read part and a write part of all 64 items. (A store's own calls
-- write at most 12 items, but tables in range may hold more.)
abbrev pub most_log_frame : ℕ
most_log_frame = 22 + 9 * 64 + 4 * 64

-- 'A log frame `22` giver, receiver' (document 02, P6)
abbrev pub hand_over_frame : ℕ → ℕ → List ℕ
hand_over_frame giver receiver = 0x22 ∷ big_endian 1 giver ++ big_endian 1 receiver
