-- The starts of a read, of a fast read, of a write and of a mixed transaction as changes of the
-- block, item by item.
use Rattle.std.specs.Prelude.{Bool, true, false, cond, List, ℕ, suc, ◌*◌, ◌%◌, ◌^◌, max, get_or}
use Rattle.basics.specs.Fold.{up_to}
use Rattle.hexadecimal.specs.Number.{number_at}
use Rattle.itemset.specs.Set.{has, rank}
use Rattle.protocol.specs.declared.Message.{Message}
use Rattle.protocol.specs.declared.Message.TheVariants.{Prepare, Get, FirstGet}
use Rattle.protocol.specs.Tables.{stamp_of}
use Rattle.protocol.specs.Steps.{choice, greatest_in, version}
use Rattle.layout.specs.Layout.{header, scalars, asked, values, at, store, items_at}
use Rattle.layout.specs.Layout.{mode_at, count_at, set_at, awaited_at, stamp_at, write_set_at}
use Rattle.layout.specs.Layout.{write_awaited_at, item_at, reading, writing, in_first_part, mixing}
use Rattle.layout.specs.Layout.{written_value, written_word}
use Rattle.layout.specs.Decode.{view_in}
use Rattle.slots.specs.Room.{send}

-- a transaction of client d: its mode, and its set, all of it awaited
abbrev pub busy : List ℕ → ℕ → ℕ → ℕ → List ℕ
busy b d mode s = store (store (store b scalars (mode_at d) mode) scalars (set_at d) s) scalars
    (awaited_at d) s

-- message m, for item k, joins where k is one of s
abbrev pub send_item : ℕ → Message → List ℕ → ℕ → List ℕ
send_item s m b k = cond (has s k) (send b m) b

-- ---- a read, ordinary or fast

-- item k: the stamp asked for, no value yet
abbrev pub ask_for : ℕ → ℕ → ℕ → List ℕ → ℕ → List ℕ
ask_for d s stamp b k =
    cond (has s k) (store (store b asked (item_at d k) stamp) values (item_at d k) 0) b

-- of stamps that are chosen already
abbrev pub ask_from : ℕ → ℕ → List ℕ → List ℕ → ℕ → List ℕ
ask_from d s stamps b k = ask_for d s (get_or stamps k 0) b k

abbrev pub ask_item : ℕ → ℕ → ℕ → List ℕ → ℕ → List ℕ
ask_item d s items b k = ask_for d s (choice (view_in b d) k items) b k

-- the get of item k: a first get, or one with the stamp asked for
abbrev pub get_of : Bool → ℕ → ℕ → List ℕ → Message
get_of first d k b = cond first (FirstGet d k) (Get d k (at b asked (item_at d k)))

abbrev pub send_get : Bool → ℕ → ℕ → List ℕ → ℕ → List ℕ
send_get first d s b k = send_item s (get_of first d k b) b k

-- client d has its stamps: it is busy, in this mode, and a get joins for each item
unfoldable pub begun : List ℕ → ℕ → ℕ → ℕ → Bool → ℕ → List ℕ
begun b d s mode first items = up_to (send_get first d s) (busy b d mode s) items

unfoldable pub read_started : List ℕ → ℕ → ℕ → List ℕ
read_started b d s =
    let items = at b header items_at in
    begun (up_to (ask_item d s items) b items) d s reading false items

-- nothing is asked for by its stamp yet
unfoldable pub fast_read_started : List ℕ → ℕ → ℕ → List ℕ
fast_read_started b d s =
    let items = at b header items_at in
    begun (up_to (ask_for d s 0) b items) d s in_first_part true items

-- ---- a write

-- the greatest number among client d's count and its view of the first items
unfoldable pub greatest_on : List ℕ → ℕ → ℕ → ℕ
greatest_on b d items = max (at b scalars (count_at d)) (greatest_in (view_in b d) items)

-- item k of a write, or of the write part of a mixed transaction: the value to be written
abbrev pub value_item : Bool → ℕ → ℕ → List ℕ → List ℕ → ℕ → List ℕ
value_item mixed d s bytes b k = cond (has s k)
    (store b values (item_at d k)
    (written_word mixed (number_at 4 bytes (4 * rank s k) % 2 ^ 32))) b

-- the prepare of item k, with the value kept for it
abbrev pub prepare_of : Bool → ℕ → ℕ → ℕ → ℕ → List ℕ → Message
prepare_of mixed d s stamp k b =
    Prepare (version k (written_value mixed (at b values (item_at d k))) stamp s)

abbrev pub send_prepare : Bool → ℕ → ℕ → ℕ → List ℕ → ℕ → List ℕ
send_prepare mixed d s stamp b k = send_item s (prepare_of mixed d s stamp k b) b k

unfoldable pub write_started : List ℕ → ℕ → ℕ → List ℕ → List ℕ
write_started b d s bytes =
    let items = at b header items_at in
    let count = suc (greatest_on b d items) in
    let stamp = stamp_of count d in
    up_to (send_prepare false d s stamp)
    (store (store (busy (up_to (value_item false d s bytes) b items) d writing s) scalars
    (count_at d) count) scalars (stamp_at d) stamp) items

-- ---- a mixed transaction

-- client d is busy with its read set r and its write set s, all of both awaited, and has its count
-- and stamp
abbrev pub busy_mixed : List ℕ → ℕ → ℕ → ℕ → ℕ → ℕ → List ℕ
busy_mixed b d r s count stamp =
    store (store (store (store (busy b d mixing r) scalars (write_set_at d) s) scalars
    (write_awaited_at d) s) scalars (count_at d) count) scalars (stamp_at d) stamp

-- the gets join, and then the prepares
unfoldable pub mixed_begun : List ℕ → ℕ → ℕ → ℕ → ℕ → ℕ → List ℕ
mixed_begun b d r s stamp items =
    up_to (send_prepare true d s stamp) (up_to (send_get false d r) b items) items

unfoldable pub mixed_started : List ℕ → ℕ → ℕ → ℕ → List ℕ → List ℕ
mixed_started b d r s bytes =
    let items = at b header items_at in
    let count = suc (greatest_on b d items) in
    let stamp = stamp_of count d in
    let kept = up_to (value_item true d s bytes) (up_to (ask_item d r items) b items) items in
    mixed_begun (busy_mixed kept d r s count stamp) d r s stamp items
