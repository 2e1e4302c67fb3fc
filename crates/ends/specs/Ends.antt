-- The end of a transaction of client d as a change of the block.
use Rattle.std.specs.Prelude.{cond, List, ℕ, ◌%◌, eqb}
use Rattle.basics.specs.Fold.{up_to}
use Rattle.itemset.specs.Set.{has, insert64}
use Rattle.protocol.specs.declared.Message.TheVariants.{Commit}
use Rattle.protocol.specs.Tables.{later_of}
use Rattle.layout.specs.Layout.{scalars, asked, values, last_stamps, last_values, at, store, mode_at}
use Rattle.layout.specs.Layout.{set_at, awaited_at, stamp_at, last_kind_at, last_set_at, last_stamp_at}
use Rattle.layout.specs.Layout.{write_set_at, last_write_set_at, item_at, idle, stage_of}
use Rattle.layout.specs.Decode.{view_in}
use Rattle.layout.specs.Store.{store_view}
use Rattle.slots.specs.Room.{send}

-- ---- any kind (1 a read, 2 a write, 3 a fast read, 4 a mixed transaction): it is the last ended
-- one; the client is idle, with no set

abbrev pub ended : List ℕ → ℕ → ℕ → ℕ → List ℕ
ended b d kind s =
    store (store (store (store (store b scalars (last_kind_at d) kind) scalars (last_set_at d) s)
    scalars (mode_at d) idle) scalars (set_at d) 0) scalars (awaited_at d) 0

-- ---- a read: the last ended transaction takes, item by item, the stamps and the values

abbrev pub keep_answer : ℕ → ℕ → List ℕ → ℕ → List ℕ
keep_answer d s b k =
    cond (has s k)
    (store (store b last_stamps (item_at d k) (at b asked (item_at d k))) last_values (item_at d k)
    (at b values (item_at d k))) b

-- the kind that a read in this mode ends as
abbrev pub read_kind : ℕ → ℕ
read_kind mode = cond (eqb (stage_of mode) 0) 1 3

unfoldable pub read_ended : List ℕ → ℕ → ℕ → List ℕ
read_ended b items d =
    let s = at b scalars (set_at d) in
    ended (up_to (keep_answer d s) b items) d (read_kind (at b scalars (mode_at d))) s

-- ---- a write: the view takes it, item by item; values and stamp are kept; commits join

abbrev pub see_item : ℕ → ℕ → ℕ → List ℕ → ℕ → List ℕ
see_item d s stamp b k = cond (has s k)
    (store_view b d k (later_of (view_in b d k) (record { stamp = stamp; set = s }))) b

abbrev pub keep_value : ℕ → ℕ → List ℕ → ℕ → List ℕ
keep_value d s b k = cond (has s k) (store b last_values (item_at d k) (at b values (item_at d k))) b

-- the partitions that the items of s below n lie in, as a set
abbrev pub touch_item : ℕ → ℕ → ℕ → ℕ → ℕ
touch_item partitions s ps k = cond (has s k) (insert64 ps (k % partitions)) ps

unfoldable pub touched : ℕ → ℕ → ℕ → ℕ
touched partitions s n = up_to (touch_item partitions s) 0 n

abbrev pub send_commit : ℕ → ℕ → List ℕ → ℕ → List ℕ
send_commit ps stamp b p = cond (has ps p) (send b (Commit p stamp)) b

-- the client's words, and its view
unfoldable pub write_kept : List ℕ → ℕ → ℕ → ℕ → ℕ → List ℕ
write_kept b items d s stamp =
    store (ended (up_to (keep_value d s) (up_to (see_item d s stamp) b items) items) d 2 s) scalars
    (last_stamp_at d) stamp

unfoldable pub write_ended : List ℕ → ℕ → ℕ → ℕ → ℕ → List ℕ
write_ended b partitions items d stamp =
    let s = at b scalars (set_at d) in
    up_to (send_commit (touched partitions s items) stamp) (write_kept b items d s stamp) partitions

-- ---- a mixed transaction: stamps, values and answers are kept, both values in a word; then the
-- view takes it, and commits join

-- the client's words, and its view
unfoldable pub mixed_kept : List ℕ → ℕ → ℕ → ℕ → ℕ → ℕ → List ℕ
mixed_kept b items d r s stamp =
    let taken = up_to (keep_value d s) (up_to (keep_answer d r) b items) items in
    up_to (see_item d s stamp)
    (store (store (ended taken d 4 r) scalars (last_stamp_at d) stamp) scalars (last_write_set_at d) s)
    items

unfoldable pub mixed_ended : List ℕ → ℕ → ℕ → ℕ → List ℕ
mixed_ended b partitions items d =
    let s = at b scalars (write_set_at d) in
    let stamp = at b scalars (stamp_at d) in
    up_to (send_commit (touched partitions s items) stamp)
    (mixed_kept b items d (at b scalars (set_at d)) s stamp) partitions
