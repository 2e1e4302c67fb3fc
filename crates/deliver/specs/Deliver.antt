-- The seven deliveries as changes of the block.
use Rattle.std.specs.Prelude.{cond, ◌&&◌, List, ℕ, eqb}
use Rattle.itemset.specs.Set.{remove}
use Rattle.protocol.specs.declared.Version.{Version}
use Rattle.protocol.specs.declared.Entry.{Entry}
use Rattle.protocol.specs.declared.Message.{Message}
use Rattle.protocol.specs.declared.Message.TheVariants.{Prepare, Prepared, Commit, Get, Got}
use Rattle.protocol.specs.declared.Message.TheVariants.{FirstGet, FirstReply}
use Rattle.protocol.specs.Tables.{entry_of, writer_of}
use Rattle.protocol.specs.Steps.{version, offered}
use Rattle.layout.specs.Layout.{header, scalars, values, at, store, partitions_at, items_at}
use Rattle.layout.specs.Layout.{versions_at, messages_at, mode_at, awaited_at, write_awaited_at, item_at}
use Rattle.layout.specs.Layout.{is_mixed_mode, with_answer}
use Rattle.layout.specs.Decode.{latest_in, view_in, message_in}
use Rattle.layout.specs.Store.{store_view, store_first, take_out}
use Rattle.slots.specs.Room.{keep, send}
use Rattle.commit.specs.Commit.{commit_delivered}
use Rattle.deliver.specs.declared.Counts.{Counts}
use Rattle.deliver_tests.specs.Tests.{unstored, answer_in, tested_in}
use Rattle.ends.specs.Ends.{read_ended, write_ended, mixed_ended}
use Rattle.second_part.specs.SecondPart.{second_begun}

-- ---- Prepare: the version is stored, the reply joins

unfoldable pub prepare_delivered : List ℕ → Version → List ℕ
prepare_delivered b v = send (keep b v) (Prepared v.item v.stamp)

-- ---- Prepared: item k is struck; with the last one the write ends, or the mixed transaction that
-- awaits no got either

unfoldable pub written_delivered : List ℕ → ℕ → ℕ → ℕ → ℕ → List ℕ
written_delivered b partitions items k stamp =
    let d = writer_of stamp in
    let rest = remove (at b scalars (awaited_at d)) k in
    cond (eqb rest 0) (write_ended b partitions items d stamp) (store b scalars (awaited_at d) rest)

unfoldable pub mixed_prepared : List ℕ → ℕ → ℕ → ℕ → ℕ → List ℕ
mixed_prepared b partitions items d k =
    let rest = remove (at b scalars (write_awaited_at d)) k in
    cond (eqb (at b scalars (awaited_at d)) 0 && eqb rest 0) (mixed_ended b partitions items d)
    (store b scalars (write_awaited_at d) rest)

unfoldable pub prepared_delivered : List ℕ → ℕ → ℕ → ℕ → ℕ → List ℕ
prepared_delivered b partitions items k stamp =
    let d = writer_of stamp in
    cond (is_mixed_mode (at b scalars (mode_at d))) (mixed_prepared b partitions items d k)
    (written_delivered b partitions items k stamp)

-- ---- Commit: commit_delivered, of crate commit

-- ---- Get: the reply joins, with the value and the set of the version found, and the item's latest

unfoldable pub get_delivered : List ℕ → Version → ℕ → ℕ → ℕ → List ℕ
get_delivered b v d k stamp = send b (Got d (version k v.value stamp v.set) (latest_in b k))

-- ---- Got: the version is kept, a mixed transaction's with the value written in one word; the view
-- takes the latest of three; the last one ends the read, or the mixed transaction that awaits no
-- prepared reply either

abbrev pub kept_answer : List ℕ → ℕ → Version → Entry → List ℕ
kept_answer b d v latest =
    let k = v.item in
    let seen = store_view b d k (offered (view_in b d k) v latest) in
    store seen values (item_at d k) (with_answer (is_mixed_mode (at seen scalars (mode_at d)))
    (at seen values (item_at d k)) v.value)

unfoldable pub read_delivered : List ℕ → ℕ → ℕ → Version → Entry → List ℕ
read_delivered b items d v latest =
    let rest = remove (at b scalars (awaited_at d)) v.item in
    let kept = kept_answer b d v latest in
    cond (eqb rest 0) (read_ended kept items d) (store kept scalars (awaited_at d) rest)

unfoldable pub mixed_got : List ℕ → ℕ → ℕ → ℕ → Version → Entry → List ℕ
mixed_got b partitions items d v latest =
    let rest = remove (at b scalars (awaited_at d)) v.item in
    let kept = kept_answer b d v latest in
    cond (eqb rest 0 && eqb (at b scalars (write_awaited_at d)) 0)
    (mixed_ended kept partitions items d) (store kept scalars (awaited_at d) rest)

unfoldable pub got_delivered : List ℕ → ℕ → ℕ → ℕ → Version → Entry → List ℕ
got_delivered b partitions items d v latest =
    cond (is_mixed_mode (at b scalars (mode_at d))) (mixed_got b partitions items d v latest)
    (read_delivered b items d v latest)

-- ---- First get: the reply joins, with the version found, of the latest's stamp

unfoldable pub first_get_delivered : List ℕ → Version → ℕ → ℕ → List ℕ
first_get_delivered b v d k =
    let e = latest_in b k in
    send b (FirstReply d (version k v.value e.stamp v.set) e)

-- ---- First reply: as a got, and its version's stamp and set are kept too; with the last one the
-- first part is over

abbrev pub kept_first : List ℕ → ℕ → Version → Entry → List ℕ
kept_first b d v latest = store_first (kept_answer b d v latest) d v.item (entry_of v)

unfoldable pub first_delivered : List ℕ → ℕ → ℕ → Version → Entry → List ℕ
first_delivered b items d v latest =
    let rest = remove (at b scalars (awaited_at d)) v.item in
    let kept = kept_first b d v latest in
    cond (eqb rest 0) (second_begun kept items d) (store kept scalars (awaited_at d) rest)

-- ---- the message at place i is taken out, and does its work

unfoldable pub message_delivered : List ℕ → Counts → Version → Message → List ℕ
message_delivered b n found (Prepare v) = prepare_delivered b v
message_delivered b n found (Prepared k stamp) =
    prepared_delivered b n.partitions n.items k stamp
message_delivered b n found (Commit p stamp) =
    commit_delivered b n.partitions n.versions p stamp
message_delivered b n found (Get d k stamp) = get_delivered b found d k stamp
message_delivered b n found (Got d v latest) =
    got_delivered b n.partitions n.items d v latest
message_delivered b n found (FirstGet d k) = first_get_delivered b found d k
message_delivered b n found (FirstReply d v latest) = first_delivered b n.items d v latest

abbrev pub counts_in : List ℕ → Counts
counts_in b =
    record {
      partitions = at b header partitions_at;
      items = at b header items_at;
      versions =
          at b header versions_at;
    }

unfoldable pub delivered_block : List ℕ → ℕ → List ℕ
delivered_block b i =
    message_delivered (take_out b (at b header messages_at) i) (counts_in b)
    (answer_in (unstored b (message_in b i)) (tested_in b (at b header versions_at) (message_in b i)))
    (message_in b i)
