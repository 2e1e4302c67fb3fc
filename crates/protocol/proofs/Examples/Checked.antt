-- Rows on checking a block (document 02, P9): blocks that our own calls make pass at every step;
-- of a block with much under way each damage fails the rule that it breaks, and no other; and what
-- the ticket leaves free passes.
use mathlib.Core.Bool.{Bool, cond}
use mathlib.Core.List.{List, [], ◌∷◌, ◌++◌}
use Prim.Native.Nat.{ℕ, zero, suc, ◌-◌, ◌^◌}
use lib.ListN.{take, drop}
use Rattle.basics.specs.Lists.{every, all, counted}
use Rattle.itemset.specs.Set.{has}
use Rattle.protocol.specs.declared.Version.{Version}
use Rattle.protocol.specs.declared.Entry.{Entry}
use Rattle.protocol.specs.declared.Message.{Message}
use Rattle.protocol.specs.declared.Message.TheVariants.{Prepare, Prepared, Commit, Get, Got}
use Rattle.protocol.specs.declared.Message.TheVariants.{FirstGet, FirstReply}
use Rattle.protocol.specs.Tables.{Tables, Client, initial, fresh, resting, no_read, nothing}
use Rattle.protocol.specs.Tables.{stamp_of, put, with_client, with_view, with_latest}
use Rattle.protocol.specs.Tables.{with_versions, with_messages, with_count, with_last}
use Rattle.protocol.specs.Range.{has_first}
use Rattle.protocol.specs.Steps.{stored, found}
use Rattle.protocol.specs.Check.{every_entry, client_sets, clients_sets, sets_held, first_set}
use Rattle.protocol.specs.Check.{write_set, is_whole, all_whole, lines_written, sets_agree}
use Rattle.protocol.specs.Check.{distinct, answered_again, values_held, all_counted}
use Rattle.protocol.specs.Check.{writes_stamped, writes_stored, fits_client, messages_fit}
use Rattle.protocol.specs.Calls.{start_read, start_fast_read, start_write, start_mixed, deliver}
use Rattle.protocol.specs.Calls.{clear, hand_over, check}
use Rattle.protocol.proofs.Examples.Table.{Row, freshly, on, on_each, ◌⇒◌, anything, same}
use Rattle.protocol.proofs.Examples.Table.{value}
use Rattle.protocol.proofs.Examples.Begin.{sizes, entry, version, reader, read_of, fast_of}
use Rattle.protocol.proofs.Examples.Begin.{writer, both, mixed_of, write_of, fast_part}
use Rattle.protocol.proofs.Examples.Begin.{fast_reader, strayed, loaded}

-- ---- Blocks that our own calls make

-- Client 1 writes items 0 and 1; client 2 reads both by a fast read while one of the commits is in
-- flight, so that item 1 is fetched again; client 1 hands over to client 2, which writes item 1.
-- Wrong: a number is below its client's count.
abbrev every_step : Row
every_step =
    record {
      start = freshly (sizes 2 2 2) "00";
      lines =
          check ⇒ "00"
          ∷ start_write 1 3 (value 7 ++ value 8) ⇒ "000002" ∷ check ⇒ "00"
          ∷ deliver 0 ⇒ "0001000200" ∷ check ⇒ "00"
          ∷ deliver 1 ⇒ "0002000100" ∷ check ⇒ "00"
          ∷ deliver 0 ⇒ "0001000100" ∷ check ⇒ "00"
          ∷ deliver 0 ⇒ "0002000202" ∷ check ⇒ "00"
          ∷ deliver 0 ⇒ "0003000100" ∷ check ⇒ "00"
          ∷ start_fast_read 2 3 ⇒ "000003" ∷ check ⇒ "00"
          ∷ deliver 1 ⇒ "0006000300" ∷ check ⇒ "00"
          ∷ deliver 2 ⇒ "0007000200" ∷ check ⇒ "00"
          ∷ deliver 1 ⇒ "0006000200" ∷ check ⇒ "00"
          ∷ deliver 1 ⇒ "0007000200" ∷ check ⇒ "00"
          ∷ clear ⇒ "000000" ∷ check ⇒ "00"
          ∷ deliver 1 ⇒ "0004000200" ∷ check ⇒ "00"
          ∷ deliver 1 ⇒ "0005000101" ∷ check ⇒ "00"
          ∷ hand_over 1 2 ⇒ "00220102" ∷ check ⇒ "00"
          ∷ start_read 1 3 ⇒ "000003" ∷ check ⇒ "00"
          ∷ start_write 2 2 (value 9) ⇒ "000004" ∷ check ⇒ "00"
          ∷ start_write 2 2 (value 9) ⇒ "04" ∷ check ⇒ "00"
          ∷ deliver 0 ⇒ "0003000300" ∷ check ⇒ "00"
          ∷ deliver 0 ⇒ "0004000300" ∷ check ⇒ "00"
          ∷ [];
      after = anything;
    }

-- A mixed transaction that reads both items and writes item 1: its prepared reply comes first, and
-- a got ends it.
abbrev every_mixed_step : Row
every_mixed_step =
    record {
      start = freshly (sizes 2 2 2) "00";
      lines =
          start_mixed 1 3 2 (value 7) ⇒ "000003" ∷ check ⇒ "00"
          ∷ deliver 2 ⇒ "0001000300" ∷ check ⇒ "00"
          ∷ deliver 2 ⇒ "0002000200" ∷ check ⇒ "00"
          ∷ deliver 0 ⇒ "0004000200" ∷ check ⇒ "00"
          ∷ deliver 1 ⇒ "0005000100" ∷ check ⇒ "00"
          ∷ deliver 0 ⇒ "0004000100" ∷ check ⇒ "00"
          ∷ deliver 0 ⇒ "0005000102" ∷ check ⇒ "00"
          ∷ deliver 0 ⇒ "0003000000" ∷ check ⇒ "00"
          ∷ clear ⇒ "000000" ∷ check ⇒ "00"
          ∷ [];
      after = anything;
    }

-- ---- A block with much under way

-- Client 1's first write has ended: items 0 and 1, number 1. Its second, of items 1 and 2, awaits
-- both: item 1 is stored and its reply in flight, item 2's prepare is in flight.
abbrev stock : List Version
stock = version 0 7 1 1 3 ∷ version 1 8 1 1 3 ∷ version 1 5 2 1 6 ∷ []

abbrev writing : Client
writing =
    record {
      count = 2;
      read = no_read;
      write = record { set = 6; awaited = 6; stamp = stamp_of 2 1; values = put (λ k. 5) 2 6 };
      last = write_of 3 (stamp_of 1 1) (λ k. 7);
    }

-- Client 2 reads items 0 and 1, and its last write, cleared away since, was of item 0. Client 3 is
-- in the first part of a fast read of all three, with the first reply for item 1 come.
abbrev reading : Client
reading = with_last (reader 3 3 (stamp_of 1 1) 0) (write_of 1 (stamp_of 4 2) (λ k. 7))

abbrev fetching : Client
fetching =
    fast_reader (fast_part 1 7 5 (λ k. 0) (put (λ k. initial) 1 (entry 1 1 3)) (put (λ k. 0) 1 8))

abbrev pile : List Message
pile =
    Prepare (version 2 6 2 1 6)
    ∷ Prepared 1 (stamp_of 2 1)
    ∷ Get 2 0 (stamp_of 1 1)
    ∷ Got 2 (version 1 8 1 1 3) (entry 1 1 3)
    ∷ FirstReply 3 (version 0 7 1 1 3) (entry 1 1 3)
    ∷ FirstGet 3 2
    ∷ Commit 0 (stamp_of 1 1)
    ∷ []

abbrev seen : ℕ → Entry
seen = put (put (λ k. initial) 0 (entry 1 1 3)) 1 (entry 1 1 3)

abbrev busy_over : ℕ → Tables
busy_over partitions =
    record {
      sizes = sizes 3 partitions 3;
      latest = seen;
      view = put (put (λ d k. initial) 1 seen) 2 (put (λ k. initial) 0 (entry 1 1 3));
      client = put (put (put (λ d. resting 0 nothing) 1 writing) 2 reading) 3 fetching;
      versions = stock;
      messages = pile;
    }

abbrev pub busy : Tables
busy = busy_over 2

-- Client 3 in the second part of a fast read of items 0 and 1: item 1, of which the first reply was
-- initial, is fetched again, or has been.
abbrev second_of : ℕ → (ℕ → ℕ) → (ℕ → ℕ) → Client
second_of awaited asked values =
    fast_reader (fast_part 2 3 awaited asked (put (λ k. entry 1 1 3) 1 initial) values)

abbrev second : (ℕ → ℕ) → List Message → Tables
second values ms =
    with_messages (with_client busy 3 (second_of 2 (λ k. stamp_of 1 1) values)) (take 4 pile ++ ms)

abbrev fetched : ℕ → ℕ → ℕ
fetched v = put (λ k. 7) 1 v

-- Client 2 with a write of item 2 beside its read, number 5: nothing of it is awaited any more, and
-- it is stored with this value and set.
abbrev mixing : ℕ → Client
mixing count = with_count (both reading (writer 4 0 (stamp_of 5 2) 9)) count

abbrev mixed : ℕ → ℕ → Tables
mixed v s = with_versions (with_client busy 2 (mixing 5)) (stock ++ (version 2 v 5 2 s ∷ []))

-- the pile without its message at a place, and with another there
abbrev lacking : ℕ → List Message
lacking i = take i pile ++ drop (suc i) pile

abbrev swapped : ℕ → Message → List Message
swapped i m = take i pile ++ (m ∷ drop (suc i) pile)

-- the block with another stock, with another message, with client 3's view of one item alone, with
-- another latest of an item
abbrev stocked : List Version → Tables
stocked vs = with_versions busy vs

abbrev flying : ℕ → Message → Tables
flying i m = with_messages busy (swapped i m)

abbrev viewing : ℕ → Entry → Tables
viewing k e = with_view busy 3 (put (λ j. initial) k e)

abbrev latest_at : ℕ → Entry → Tables
latest_at k e = with_latest busy (put seen k e)

-- client 2 reads the one item of set s, and asks for this stamp; its message is m
abbrev asking : ℕ → ℕ → Message → Tables
asking s stamp m =
    with_messages (with_client busy 2 (reader s s stamp 0)) (take 2 pile ++ (m ∷ drop 4 pile))

-- client 3, in its first part, has kept this first reply for item k, with this value
abbrev keeping : ℕ → ℕ → Entry → ℕ → Tables
keeping awaited k e v =
    with_messages (with_client busy 3 (fast_reader (fast_part 1 7 awaited (λ j. 0)
    (put (λ j. initial) k e) (put (λ j. 0) k v))))
    (take 4 pile ++ drop 6 pile ++ (FirstGet 3 0 ∷ FirstGet 3 (cond (has awaited 1) 1 2) ∷ []))

-- and in the second part of a fast read of all three, of which item 1 is fetched again
abbrev keeping_still : ℕ → Entry → ℕ → Tables
keeping_still k e v =
    with_messages (with_client busy 3 (fast_reader (fast_part 2 7 2 (put (λ j. stamp_of 1 1) 2 0)
    (put (put (λ j. initial) 0 (entry 1 1 3)) k e) (put (put (λ j. 0) 0 7) k v))))
    (take 4 pile ++ (Get 3 1 (stamp_of 1 1) ∷ []))

-- items 0 to 12, one more than the widest write that a start takes; versions of such a write, and a
-- block in which that write alone has been done
abbrev thirteen : ℕ
thirteen = 2 ^ 13 - 1

abbrev versions_below : ℕ → List Version
versions_below zero = []
versions_below (suc n) = version n 7 1 1 thirteen ∷ versions_below n

abbrev wide : Tables
wide =
    record {
      sizes = sizes 1 1 13;
      latest = λ k. entry 1 1 thirteen;
      view = λ d k. entry 1 1 thirteen;
      client = λ d. resting 1 (write_of thirteen (stamp_of 1 1) (λ k. 7));
      versions = versions_below 13;
      messages = [];
    }

-- ---- What passes

-- Beside the block as it is: both stages of fetching item 1 again. Free are the answers kept
-- from gots, also of a second answer, and those of reads that have ended. Free are, in a first
-- part, the stamp and the value of an item that is still awaited. Free are stored versions of a
-- stamp that isn't whole and occurs nowhere else, and a last ended write that isn't stored or
-- has another client's stamp. A commit may be sent twice, or to a partition without an item of
-- its write. What an idle client's read part holds is free; and a write may have more items than
-- a start takes. Both parts of a mixed transaction may be under way, or one, and what an ended
-- one has read is free.
-- Wrong: a second answer is held to the first reply's value; a commit goes to a partition of its
-- write; a last ended write has its own client's stamp; a first part's value is held before its
-- reply has come; where a first get is in flight no stamp is asked for; a stamp of more than 12
-- versions isn't whole.
abbrev free : Row
free =
    record {
      start = on_each
          (busy
          ∷ second (fetched 0) (Get 3 1 (stamp_of 1 1) ∷ [])
          ∷ second (fetched 0) (Got 3 (version 1 8 1 1 3) initial ∷ [])
          ∷ with_messages (with_client busy 3 (fast_reader (fast_part 2 7 4
          (put (λ k. stamp_of 1 1) 2 0) (put (λ k. initial) 0 (entry 1 1 3))
          (put (fetched 99) 2 0)))) (take 4 pile ++ (Get 3 2 0 ∷ []))
          ∷ with_messages (with_client busy 2 (fast_reader (fast_part 0 3 1
          (put (λ k. stamp_of 1 1) 1 (stamp_of 9 3)) (λ k. initial) (λ k. 99)))) (lacking 3)
          ∷ with_client busy 2 (with_last reading (read_of 3 (λ k. stamp_of 9 3) (λ k. 99)))
          ∷ with_client busy 2 (with_last reading (fast_of 3 (λ k. stamp_of 9 3) (λ k. 99)))
          ∷ with_client busy 2 (with_last reading (mixed_of 3 (λ k. stamp_of 9 3) 1 (stamp_of 4 2)
          (λ k. 99)))
          ∷ mixed 9 4
          ∷ with_messages (with_client busy 2 (both reading (writer 4 4 (stamp_of 5 2) 9)))
          (pile ++ (Prepare (version 2 9 5 2 4) ∷ []))
          ∷ stocked (stock ++ (version 2 9 3 2 5 ∷ []))
          ∷ with_client busy 3 (with_last fetching (write_of 1 (stamp_of 4 2) (λ k. 7)))
          ∷ with_client busy 3 (fast_reader (fast_part 1 7 5 (λ k. stamp_of 9 3)
          (put (λ k. initial) 1 (entry 1 1 3)) (put (λ k. 99) 1 8)))
          ∷ wide
          ∷ with_messages busy (pile ++ (Commit 0 (stamp_of 1 1) ∷ Commit 1 (stamp_of 1 1) ∷ []))
          ∷ with_messages (busy_over 3) (pile ++ (Commit 2 (stamp_of 1 1) ∷ []))
          ∷ with_messages (with_client busy 3 (reader 7 0 (stamp_of 9 2) 99)) (take 4 pile)
          ∷ []);
      lines = check ⇒ "00" ∷ [];
      after = anything;
    }

-- ---- What fails, by one rule alone but in `unheld` and `other_prepares`

abbrev unless : Bool → ℕ → List ℕ
unless passes rule = cond passes [] (rule ∷ [])

-- the rules that the tables break
unfoldable pub failing : Tables → List ℕ
unfolding every all counted has has_first stored found every_entry client_sets clients_sets sets_held
    first_set write_set is_whole all_whole lines_written sets_agree distinct answered_again values_held
    all_counted writes_stamped writes_stored fits_client messages_fit
failing t =
    unless (all_whole t) 1 ++ unless (lines_written t) 2 ++ unless (sets_agree t) 3
    ++ unless (distinct t.versions) 4 ++ unless (values_held t) 5 ++ unless (all_counted t) 6
    ++ unless (writes_stamped t) 7 ++ unless (writes_stored t) 8 ++ unless (messages_fit t) 9

abbrev breaks : List ℕ → List Tables → Row
breaks rules ts =
    record {
      start = on_each ts;
      lines = check ⇒ "13" ∷ [];
      after = λ t. same (failing t) rules;
    }

-- Client 1's second write isn't whole: it stands in a view, a latest, a commit, a get, a got (its
-- version, its latest), a first reply (the same) and a first reply that is kept, in either part.
-- And two commits of writes of which nothing is stored, one of them with no copy of its set.
-- Wrong: of first replies only those that a first part keeps are looked at.
abbrev not_whole : Row
not_whole =
    breaks (1 ∷ [])
    (viewing 2 (entry 2 1 6) ∷ latest_at 2 (entry 2 1 6) ∷ flying 6 (Commit 0 (stamp_of 2 1))
    ∷ asking 2 (stamp_of 2 1) (Get 2 1 (stamp_of 2 1))
    ∷ asking 2 (stamp_of 2 1) (Got 2 (version 1 5 2 1 6) initial)
    ∷ flying 3 (Got 2 (version 1 8 1 1 3) (entry 2 1 6))
    ∷ keeping 5 1 (entry 2 1 6) 5 ∷ keeping_still 1 (entry 2 1 6) 5
    ∷ with_messages (keeping 5 1 (entry 1 1 3) 8)
    (take 4 pile ++ (FirstGet 3 0 ∷ FirstReply 3 (version 2 0 0 0 0) (entry 2 1 6) ∷ []))
    ∷ with_messages (keeping 6 0 (entry 1 1 3) 7)
    (take 4 pile ++ (FirstGet 3 2 ∷ FirstReply 3 (version 1 5 2 1 6) initial ∷ []))
    ∷ flying 6 (Commit 0 (stamp_of 4 2)) ∷ flying 6 (Commit 0 (stamp_of 3 2))
    ∷ [])

-- Client 1's first write stands at item 2, which it didn't write, in each place that has an entry.
-- Wrong: as at `not_whole`.
abbrev not_written : Row
not_written =
    breaks (2 ∷ [])
    (viewing 2 (entry 1 1 3) ∷ latest_at 2 (entry 1 1 3)
    ∷ asking 4 (stamp_of 1 1) (Get 2 2 (stamp_of 1 1))
    ∷ asking 4 (stamp_of 1 1) (Got 2 (version 2 0 1 1 3) initial)
    ∷ asking 4 0 (Got 2 (version 2 0 0 0 0) (entry 1 1 3))
    ∷ with_messages busy (take 5 pile ++ (FirstReply 3 (version 2 0 1 1 3) initial ∷ []))
    ∷ with_messages busy (take 5 pile ++ (FirstReply 3 (version 2 0 0 0 0) (entry 1 1 3) ∷ []))
    ∷ keeping 3 2 (entry 1 1 3) 0 ∷ keeping_still 2 (entry 1 1 3) 0
    ∷ [])

-- A copy of a set is another: of a stored version, whose stamp is whole or under way; of a write
-- under way, whose items are all stored; in a view, a latest, a got and a first reply (version and
-- latest), a first reply kept in either part; of a last ended write, of a stored stamp or of
-- another client's. And the initial stamp's isn't empty.
-- Wrong: as at `not_whole`.
abbrev disagreeing : Row
disagreeing =
    breaks (3 ∷ [])
    (stocked (version 0 7 1 1 3 ∷ version 1 8 1 1 7 ∷ version 1 5 2 1 6 ∷ [])
    ∷ stocked (version 0 7 1 1 3 ∷ version 1 8 1 1 3 ∷ version 1 5 2 1 2 ∷ [])
    ∷ with_messages (stocked (version 0 7 1 1 3 ∷ version 1 8 1 1 3 ∷ version 1 5 2 1 7
    ∷ version 2 6 2 1 7 ∷ [])) (swapped 0 (Prepared 2 (stamp_of 2 1)))
    ∷ viewing 0 (entry 1 1 1) ∷ latest_at 1 (entry 1 1 2)
    ∷ flying 3 (Got 2 (version 1 8 1 1 2) initial)
    ∷ flying 3 (Got 2 (version 1 8 1 1 3) (entry 1 1 2))
    ∷ flying 4 (FirstReply 3 (version 0 7 1 1 1) initial)
    ∷ flying 4 (FirstReply 3 (version 0 7 1 1 3) (entry 1 1 1))
    ∷ keeping 5 1 (entry 1 1 2) 8 ∷ keeping_still 1 (entry 1 1 2) 8
    ∷ keeping_still 0 (entry 1 1 1) 7
    ∷ with_client busy 2 (with_last reading (write_of 1 (stamp_of 1 1) (λ k. 7)))
    ∷ with_client busy 3 (with_last fetching (write_of 3 (stamp_of 4 2) (λ k. 7)))
    ∷ with_client busy 2 (with_last reading (mixed_of 3 (λ k. 0) 1 (stamp_of 1 1) (λ k. 7)))
    ∷ mixed 9 5
    ∷ viewing 0 (entry 0 0 1) ∷ latest_at 2 (entry 0 0 4)
    ∷ flying 3 (Got 2 (version 1 8 1 1 3) (entry 0 0 2))
    ∷ keeping 5 1 (entry 0 0 2) 0
    ∷ with_client busy 2 (with_last reading (write_of 1 0 (λ k. 7)))
    ∷ [])

-- Two versions of item 0 with one stamp.
abbrev two_alike : Row
two_alike = breaks (4 ∷ []) (stocked (stock ++ (version 0 7 1 1 3 ∷ [])) ∷ [])

-- Another value than the version's: a got, a first reply, one that is kept in the first part; in
-- the second of an item that isn't fetched again, and of one whose second answer hasn't come. And
-- another than 0 with the initial stamp.
abbrev other_values : Row
other_values =
    breaks (5 ∷ [])
    (flying 3 (Got 2 (version 1 7 1 1 3) initial)
    ∷ flying 4 (FirstReply 3 (version 0 8 1 1 3) initial)
    ∷ keeping 5 1 (entry 1 1 3) 7
    ∷ second (λ k. 0) (Get 3 1 (stamp_of 1 1) ∷ [])
    ∷ second (λ k. 7) (Get 3 1 (stamp_of 1 1) ∷ [])
    ∷ asking 1 0 (Got 2 (version 0 7 0 0 0) initial)
    ∷ flying 4 (FirstReply 3 (version 0 7 0 0 0) initial)
    ∷ keeping 5 1 initial 8
    ∷ [])

-- Clients 2 and 3 have count 5. A number above it: of a stored version, whole or not; of a last
-- ended write.
abbrev uncounted : Row
uncounted =
    breaks (6 ∷ [])
    (stocked (stock ++ (version 2 9 6 3 4 ∷ []))
    ∷ with_view (stocked (stock ++ (version 2 9 6 3 4 ∷ []))) 3 (put (λ k. initial) 2 (entry 6 3 4))
    ∷ with_client busy 2 (with_last reading (write_of 1 (stamp_of 6 2) (λ k. 7)))
    ∷ with_client busy 2 (with_last reading (mixed_of 3 (λ k. 0) 1 (stamp_of 6 2) (λ k. 7)))
    ∷ [])

-- Number 6 of client 3 with an empty set, in a first reply kept in either part and in a view: no
-- write that is stored, under way or ended has that stamp, so that rules 1 and 2 fail with 6.
-- Wrong: as at `not_whole`.
abbrev unheld : Row
unheld =
    breaks (1 ∷ 2 ∷ 6 ∷ [])
    (keeping 5 1 (entry 6 3 0) 0 ∷ keeping_still 1 (entry 6 3 0) 0 ∷ viewing 2 (entry 6 3 0) ∷ [])

-- Client 1 has counted on since its write under way; so has client 2 since its mixed transaction's.
abbrev counted_on : Row
counted_on =
    breaks (7 ∷ [])
    (with_client busy 1 (with_count writing 3) ∷ with_client (mixed 9 4) 2 (mixing 6) ∷ [])

-- The write part of client 2's mixed transaction has client 3's stamp. Its number is the count of
-- both, and its item is stored.
-- Wrong: of a write under way the number alone is compared.
abbrev other_clients : Row
other_clients =
    breaks (7 ∷ [])
    (with_versions (with_client busy 2 (both reading (writer 4 0 (stamp_of 5 3) 9)))
    (stock ++ (version 2 9 5 3 4 ∷ [])) ∷ [])

-- Of client 1's write under way item 1, no longer awaited or with its reply in flight, isn't
-- stored; or it is stored with another value. The same of client 2's mixed transaction.
abbrev unstored : Row
unstored =
    breaks (8 ∷ [])
    (with_messages (with_client (stocked (version 0 7 1 1 3 ∷ version 1 8 1 1 3 ∷ [])) 1
    (record {
      count = 2;
      read = no_read;
      write = record { set = 6; awaited = 4; stamp = stamp_of 2 1; values = put (λ k. 5) 2 6 };
      last = nothing;
    })) (lacking 1)
    ∷ stocked (version 0 7 1 1 3 ∷ version 1 8 1 1 3 ∷ [])
    ∷ stocked (version 0 7 1 1 3 ∷ version 1 8 1 1 3 ∷ version 1 9 2 1 6 ∷ [])
    ∷ with_client busy 2 (mixing 5)
    ∷ mixed 8 4
    ∷ [])

-- No message for an awaited item, of each kind; two; one for an item that isn't awaited, or of
-- an idle client. A prepare with another value, or already stored, or of its client's last ended
-- write in place of the one under way; a prepared reply, a get and a got with another stamp; a
-- get and a got in the first part; a first get and a first reply in an ordinary read, and in a
-- second part. Of a mixed transaction no message for an item that is read, and one for an item
-- written and no longer awaited.
abbrev misfits : Row
misfits =
    breaks (9 ∷ [])
    (with_messages busy (lacking 0) ∷ with_messages busy (lacking 1) ∷ with_messages busy (lacking 2)
    ∷ with_messages busy (lacking 3) ∷ with_messages busy (lacking 4) ∷ with_messages busy (lacking 5)
    ∷ with_messages busy (pile ++ (Get 2 0 (stamp_of 1 1) ∷ []))
    ∷ with_messages busy (pile ++ (Got 2 (version 0 7 1 1 3) initial ∷ []))
    ∷ with_messages busy (pile ++ (Prepared 1 (stamp_of 2 1) ∷ []))
    ∷ with_messages busy (pile ++ (Get 2 2 0 ∷ [])) ∷ with_messages busy (pile ++ (Get 1 2 0 ∷ []))
    ∷ with_messages busy (pile ++ (FirstGet 3 1 ∷ []))
    ∷ with_messages (fresh (sizes 3 2 3)) (Get 1 0 0 ∷ [])
    ∷ flying 0 (Prepare (version 2 5 2 1 6))
    ∷ stocked (stock ++ (version 2 6 2 1 6 ∷ []))
    ∷ with_messages (with_client busy 2 (both reading (writer 1 1 (stamp_of 5 2) 9)))
    (pile ++ (Prepare (version 0 9 4 2 1) ∷ []))
    ∷ flying 1 (Prepared 1 (stamp_of 1 1))
    ∷ flying 2 (Get 2 0 0) ∷ flying 3 (Got 2 (version 1 0 0 0 0) initial)
    ∷ flying 5 (Get 3 2 0) ∷ flying 5 (Got 3 (version 2 0 0 0 0) initial)
    ∷ flying 2 (FirstGet 2 0) ∷ flying 3 (FirstReply 2 (version 1 8 1 1 3) initial)
    ∷ second (fetched 0) (FirstGet 3 1 ∷ [])
    ∷ second (fetched 0) (FirstReply 3 (version 1 8 1 1 3) initial ∷ [])
    ∷ with_messages (mixed 9 4) (lacking 2)
    ∷ with_messages (mixed 9 4) (pile ++ (Prepared 2 (stamp_of 5 2) ∷ []))
    ∷ [])

-- A prepare's set is another: a copy that disagrees, and a message that does not fit.
abbrev other_prepares : Row
other_prepares = breaks (3 ∷ 9 ∷ []) (flying 0 (Prepare (version 2 6 2 1 4)) ∷ [])

-- 1 comes first; and document 01's block with strays in it is in range, and no block of ours.
abbrev order : Row
order =
    record {
      start = on_each (fresh (sizes 0 2 2) ∷ loaded 101 ∷ []);
      lines = check ⇒ "01" ∷ [];
      after = anything;
    }

abbrev straying : Row
straying = record { start = on strayed; lines = check ⇒ "13" ∷ []; after = anything }

abbrev pub checks : List Row
checks =
    every_step ∷ every_mixed_step ∷ free ∷ not_whole ∷ not_written ∷ disagreeing ∷ two_alike
    ∷ other_values ∷ uncounted ∷ unheld ∷ counted_on ∷ other_clients ∷ unstored ∷ misfits
    ∷ other_prepares ∷ order ∷ straying ∷ []
