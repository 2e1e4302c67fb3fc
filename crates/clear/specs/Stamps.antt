-- The stamps in use as the code gathers them: one for each entry, message, message's latest, client
-- and first reply that there are words for, 0 where there is none; and a table of slots that tells
-- of most stamps at one look whether they are among them.
use Rattle.std.specs.Prelude.{Bool, cond, not, ◌&&◌, ◌||◌, List, ◌≢◌, ◌≡◌, ℕ, ◌+◌, ◌-◌, ◌*◌, ◌/◌, ◌%◌, ◌<◌, eqb, ltb, leb, length, get_or, set}
use Rattle.basics.specs.Lists.{In, all, every, table, dropped}
use Rattle.protocol.specs.declared.Version.{Version}
use Rattle.protocol.specs.Tables.{number_of, writer_of}
use Rattle.protocol.specs.Range.{has_first}
use Rattle.layout.specs.Layout.{most_clients, most_items, most_messages, entry_words, header, scalars}
use Rattle.layout.specs.Layout.{latest, firsts, at, clients_at, items_at, messages_at, mode_at, set_at}
use Rattle.layout.specs.Layout.{stamp_at, write_set_at, is_write_mode, is_mixed_mode, stage_of}
use Rattle.layout.specs.Decode.{read_in, version_in, kind_in}
use Rattle.layout.specs.Encodes.{word}

-- ---- the stamps

-- the entries that there are words for: latest's, and behind them each view's
abbrev pub most_entries : ℕ
most_entries = most_items * (most_clients + 1)

-- the stamp of entry p
unfoldable pub entry_stamp : List ℕ → ℕ → ℕ
entry_stamp b p =
    cond (leb (p / most_items) (at b header clients_at) && ltb (p % most_items) (at b header items_at))
    (at b latest (entry_words * p)) 0

-- word f of message i, if its kind is this one or a greater; a first get (kind 6) has no stamp
unfoldable pub message_stamp : List ℕ → ℕ → ℕ → ℕ → ℕ
message_stamp b kind f i =
    cond (ltb i (at b header messages_at) && leb kind (kind_in b i) && not (eqb (kind_in b i) 6))
    (word b i f) 0

-- the items that client d writes in this mode, if it does
abbrev pub written_by : List ℕ → ℕ → ℕ → ℕ
written_by b d mode =
    cond (is_mixed_mode mode) (at b scalars (write_set_at d)) (at b scalars (set_at d))

-- the stamp of a write, or of a mixed transaction, under way of client i + 1
unfoldable pub write_stamp : List ℕ → ℕ → ℕ
write_stamp b i =
    let mode = at b scalars (mode_at (i + 1)) in
    cond (ltb i (at b header clients_at) && (is_write_mode mode || is_mixed_mode mode)
    && not (eqb (written_by b (i + 1) mode) 0))
    (at b scalars (stamp_at (i + 1))) 0

-- the stamp of first reply p, if it has come: those of each client's items, one client behind the
-- other
unfoldable pub first_stamp : List ℕ → ℕ → ℕ
first_stamp b p =
    let i = p / most_items in
    let k = p % most_items in
    cond (ltb i (at b header clients_at) && ltb k (at b header items_at)
    && has_first (read_in b (i + 1)) k)
    (at b firsts (entry_words * p)) 0

-- where the messages' stamps start, those of their latest, those of writes under way and those of
-- first replies; and how many there are in all
abbrev pub message_stamps : ℕ
message_stamps = most_entries

abbrev pub latest_stamps : ℕ
latest_stamps = message_stamps + most_messages

abbrev pub write_stamps : ℕ
write_stamps = latest_stamps + most_messages

abbrev pub first_stamps : ℕ
first_stamps = write_stamps + most_clients

abbrev pub most_stamps : ℕ
most_stamps = first_stamps + most_items * most_clients

-- a kind that has a stamp has it in word 4, and from kind 5 on its latest's in word 6
unfoldable pub stamp_in : List ℕ → ℕ → ℕ
stamp_in b p =
    cond (ltb p message_stamps) (entry_stamp b p)
    (cond (ltb p latest_stamps) (message_stamp b 1 4 (p - message_stamps))
    (cond (ltb p write_stamps) (message_stamp b 5 6 (p - latest_stamps))
    (cond (ltb p first_stamps) (write_stamp b (p - write_stamps))
    (first_stamp b (p - first_stamps)))))

-- where no client is in a fast read, first replies aren't looked at
unfoldable pub none_fast : List ℕ → Bool
none_fast b = every (at b header clients_at) (λ i. eqb (stage_of (at b scalars (mode_at (i + 1)))) 0)

abbrev pub stamp_count : List ℕ → ℕ
stamp_count b = cond (none_fast b) first_stamps most_stamps

abbrev pub stamps_in : List ℕ → List ℕ
stamps_in b = table (stamp_count b) (stamp_in b)

-- s is none of these stamps
abbrev pub absent : List ℕ → ℕ → Bool
absent stamps s = all (λ r. not (eqb r s)) stamps

-- ---- the slots

abbrev pub most_slots : ℕ
most_slots = 4096

-- the slot of a stamp: the 8 clients of a number side by side, numbers modulo 512
abbrev pub slot_of : ℕ → ℕ
slot_of s = (number_of s * most_clients + writer_of s % most_clients) % most_slots

-- stamp s in its slot, whatever was there
unfoldable pub marked : List ℕ → ℕ → List ℕ
marked slots s = cond (eqb s 0) slots (set slots (slot_of s) s)

-- each slot that isn't 0 has one of the stamps, and each of these finds its slot filled
pub record Marks (stamps slots : List ℕ) : Type 0 where
  pub long : length slots ≡ most_slots
  pub holds : (p : ℕ) → get_or slots p 0 ≢ 0 → In (get_or slots p 0) stamps
  pub filled : (s : ℕ) → In s stamps → s ≢ 0 → get_or slots (slot_of s) 0 ≢ 0

-- ---- the versions that stay

-- of the first n versions those with one of these stamps
unfoldable pub staying : List ℕ → List ℕ → ℕ → List Version
staying stamps b n = dropped (λ v. absent stamps v.stamp) (table n (version_in b))

-- none of the first n has the initial stamp
abbrev pub NoneInitial : List ℕ → ℕ → Type 0
NoneInitial b n = (i : ℕ) → i < n → (version_in b i).stamp ≢ 0
