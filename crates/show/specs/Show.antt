-- The log frame that a block holds for a client, and its parts as the words of the block give them.
use Rattle.std.specs.Prelude.{Bool, cond, List, [], ◌∷◌, ◌++◌, ℕ, ◌+◌, ◌*◌}
use Rattle.std.proofs.lemmas.List.Edits.{sets}
use Rattle.hexadecimal.specs.Number.{big_endian}
use Rattle.itemset.specs.Set.{has, count, rank, members}
use Rattle.protocol.specs.LogFrame.{listed, shown_entry, frame}
use Rattle.protocol.specs.Tables.{shows_read, shows_write, number_of}
use Rattle.layout.specs.Layout.{scalars, last_stamps, last_values, at, last_kind_at, last_set_at}
use Rattle.layout.specs.Layout.{last_stamp_at, last_write_set_at, item_at, is_mixed_kind, read_value}
use Rattle.layout.specs.Layout.{written_value}
use Rattle.layout.specs.Decode.{client_in}

-- the log frame of client d's last ended transaction; empty where none has ended
abbrev pub frame_in : List ℕ → ℕ → List ℕ
frame_in b d = frame d (client_in b d).last

-- ---- the parts

-- kind and client: what every frame begins with
abbrev pub head : ℕ → ℕ → List ℕ
head byte d = byte ∷ big_endian 1 d

-- the last ended transaction is a mixed one; the items that it wrote, if it did
abbrev pub last_mixed : List ℕ → ℕ → Bool
last_mixed b d = is_mixed_kind (at b scalars (last_kind_at d))

abbrev pub last_written_set : List ℕ → ℕ → ℕ
last_written_set b d =
    cond (last_mixed b d) (at b scalars (last_write_set_at d)) (at b scalars (last_set_at d))

-- item k of a last read part: its number, writing client and value
abbrev pub read_item : List ℕ → ℕ → ℕ → List ℕ
read_item b d k =
    shown_entry (at b last_stamps (item_at d k))
    (read_value (last_mixed b d) (at b last_values (item_at d k)))

-- item k of a last write part: its value
abbrev pub written_item : List ℕ → ℕ → ℕ → List ℕ
written_item b d k = big_endian 4 (written_value (last_mixed b d) (at b last_values (item_at d k)))

-- item k of s, as the n bytes f k, behind those of the items below it, which begin at `first`
abbrev pub put_item : (ℕ → List ℕ) → ℕ → ℕ → ℕ → List ℕ → ℕ → List ℕ
put_item f first n s out k = cond (has s k) (sets out (first + n * rank s k) (f k)) out

-- a read part: set, then per item its entry
abbrev pub read_part : List ℕ → ℕ → ℕ → List ℕ
read_part b d s = big_endian 8 s ++ listed (read_item b d) (members 64 s)

-- a write part: set, number, values
abbrev pub write_part : List ℕ → ℕ → ℕ → List ℕ
write_part b d s =
    big_endian 8 s ++ big_endian 4 (number_of (at b scalars (last_stamp_at d)))
    ++ listed (written_item b d) (members 64 s)

-- ---- and which of them there are, by the kind

abbrev pub read_shown : List ℕ → ℕ → ℕ → ℕ → List ℕ
read_shown b d kind s = cond (shows_read kind) (read_part b d s) []

abbrev pub write_shown : List ℕ → ℕ → ℕ → ℕ → List ℕ
write_shown b d kind s = cond (shows_write kind) (write_part b d s) []

abbrev pub read_length : ℕ → ℕ → ℕ
read_length kind s = cond (shows_read kind) (8 + 9 * count s) 0

abbrev pub write_length : ℕ → ℕ → ℕ
write_length kind s = cond (shows_write kind) (12 + 4 * count s) 0
