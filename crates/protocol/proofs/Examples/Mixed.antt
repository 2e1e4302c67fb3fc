-- Rows on mixed transactions (document 02, P8): their start and its refusals, the two ends, an item
-- in both sets, what enters the view, the load, and the log frame. Each says which wrong
-- definitions it refuses: all of these were tried, with every row by itself.
use mathlib.Core.Bool.{◌&&◌}
use mathlib.Core.List.{List, [], ◌∷◌, ◌++◌}
use Prim.Native.Nat.{ℕ}
use Prim.Native.String.{◌++◌ as append}
use lib.Dec.{eqb}
use lib.ListN.{replicate}
use Rattle.protocol.specs.declared.Entry.{Entry}
use Rattle.protocol.specs.declared.Message.{Message}
use Rattle.protocol.specs.declared.Message.TheVariants.{Prepared, Commit, Got, FirstReply}
use Rattle.protocol.specs.Tables.{Tables, Client, nothing, initial, fresh, resting, stamp_of}
use Rattle.protocol.specs.Tables.{with_client, with_versions, with_messages}
use Rattle.protocol.specs.Calls.{start_read, start_write, start_mixed, deliver, show, clear}
use Rattle.protocol.specs.Calls.{compare}
use Rattle.protocol.proofs.Examples.Table.{Row, freshly, on, ◌⇒◌, ◌keeping◌, anything}
use Rattle.protocol.proofs.Examples.Table.{messages_are, entry_is, value, room}
use Rattle.protocol.proofs.Examples.Begin.{sizes, entry, version, reader, writer, both}
use Rattle.protocol.proofs.Examples.Begin.{seeing, crowded}

-- ---- Whole mixed transactions

-- Desk 1 has written line 0. It reads lines 0 and 1 and writes line 0 anew: with the last prepared
-- reply gots are still awaited, and the last got ends it, sends the commit and shows the old entry
-- of the line written. The row refuses an end with the last prepared reply, gots or none awaited; a
-- prepared reply that strikes its line from those read too; a got that ends it without commits,
-- without outcome 02 or without the view; and a showing of its own write.
abbrev ended_by_got : Row
ended_by_got =
    record {
      start = freshly (sizes 2 2 2) "00";
      lines =
          start_write 1 1 (value 7) ⇒ "000001"
          ∷ deliver 0 ⇒ "0001000100"
          ∷ deliver 0 ⇒ "0002000102"
          ∷ deliver 0 ⇒ "0003000000"
          ∷ start_mixed 1 3 1 (value 8) ⇒ "000003"
          ∷ deliver 2 ⇒ "0001000300"
          ∷ deliver 2 ⇒ "0002000200"
          ∷ deliver 0 ⇒ "0004000200"
          ∷ deliver 0 ⇒ "0004000200"
          ∷ deliver 0 ⇒ "0005000100"
          ∷ show 1 (room 0) ⇒ "04"
          ∷ deliver 0 ⇒ "0005000102"
          ∷ show 1 (room 43) ⇒ "0e" keeping
          "eeeeeeeeeeeeeeeeeeeeeeeeeeeeeeeeeeeeeeeeeeeeeeeeeeeeeeeeeeeeeeeeeeeeeeeeeeeeeeeeeeeeee"
          ∷ show 1 (room 44) ⇒
          (append "0024010000000000000003000000010100000007000000000000000000"
          "00000000000000010000000200000008")
          ∷ deliver 0 ⇒ "0003000000"
          ∷ [];
      after = λ t.
          entry_is (t.latest 0) 2 1 1 && entry_is (t.view 1 0) 2 1 1
          && eqb (t.client 1).read.set 0 && eqb (t.client 1).write.set 0
          && eqb (t.client 1).last.kind 4;
    }

-- Desk 2 reads line 0 and writes both lines. The got strikes line 0 from those read alone; the last
-- prepared reply ends the transaction, and both lines enter the view. The row refuses an end with
-- the last got, prepared replies or none awaited, and a got that strikes its line from those
-- written too.
abbrev ended_by_prepared : Row
ended_by_prepared =
    record {
      start = freshly (sizes 2 2 2) "00";
      lines =
          start_mixed 2 1 3 (value 5 ++ value 6) ⇒ "000003"
          ∷ deliver 0 ⇒ "0004000300"
          ∷ deliver 2 ⇒ "0005000200"
          ∷ deliver 0 ⇒ "0001000200"
          ∷ deliver 0 ⇒ "0001000200"
          ∷ deliver 0 ⇒ "0002000100"
          ∷ deliver 0 ⇒ "0002000202"
          ∷ show 2 (room 39) ⇒
          "00240200000000000000010000000000000000000000000000000003000000010000000500000006"
          ∷ [];
      after = λ t.
          messages_are t.messages ((3 ∷ 0 ∷ 1 ∷ 2 ∷ []) ∷ (3 ∷ 1 ∷ 1 ∷ 2 ∷ []) ∷ [])
          && entry_is (t.view 2 0) 1 2 3 && entry_is (t.view 2 1) 1 2 3;
    }

-- ---- Start

-- Gets ascending, then prepares ascending. The stamps asked for are chosen before its own write,
-- whose number is above all of the view; nothing enters the view yet. 5 is for either set, and 6
-- counts the values of the lines written. The row refuses prepares before gets, gets of its own
-- write, a number that isn't the count then, 5 for one set alone, and 6 by both sets.
abbrev mixed_start : Row
mixed_start =
    record {
      start = on (seeing (entry 2 1 3) (entry 1 2 2));
      lines =
          start_mixed 4 0 0 [] ⇒ "03"
          ∷ start_mixed 0 1 1 (value 5) ⇒ "03"
          ∷ start_mixed 3 0 1 (value 5) ⇒ "05"
          ∷ start_mixed 3 1 0 [] ⇒ "05"
          ∷ start_mixed 3 1 0 (value 5) ⇒ "05"
          ∷ start_mixed 3 4 1 (value 5) ⇒ "05"
          ∷ start_mixed 3 1 4 (value 5) ⇒ "05"
          ∷ start_mixed 3 3 1 (value 5 ++ value 6) ⇒ "06"
          ∷ start_mixed 3 1 3 (value 5) ⇒ "06"
          ∷ start_mixed 3 3 3 (value 5 ++ value 6) ⇒ "000004"
          ∷ start_mixed 3 0 0 [] ⇒ "04"
          ∷ start_read 3 1 ⇒ "04"
          ∷ show 3 (room 1) ⇒ "04" keeping "ee"
          ∷ [];
      after = λ t.
          messages_are t.messages
          ((4 ∷ 3 ∷ 0 ∷ 2 ∷ 1 ∷ [])
          ∷ (4 ∷ 3 ∷ 1 ∷ 2 ∷ 1 ∷ [])
          ∷ (1 ∷ 0 ∷ 5 ∷ 3 ∷ 3 ∷ 3 ∷ [])
          ∷ (1 ∷ 1 ∷ 6 ∷ 3 ∷ 3 ∷ 3 ∷ [])
          ∷ [])
          && eqb (t.client 3).count 3 && entry_is (t.view 3 0) 2 1 3
          && entry_is (t.view 3 1) 1 2 2;
    }

-- 6 before 17 before 7; 17 counts the lines written, and thirteen may be read beside twelve. The
-- row refuses 17 by both sets.
abbrev mixed_widest : Row
mixed_widest =
    record {
      start = on (with_client (fresh (sizes 2 2 13)) 1 (resting 4294967295 nothing));
      lines =
          start_mixed 1 1 8191 [] ⇒ "06"
          ∷ start_mixed 1 1 8191 (replicate 52 0) ⇒ "11"
          ∷ start_mixed 1 1 4095 (replicate 48 0) ⇒ "07"
          ∷ start_mixed 2 8191 4095 (replicate 48 0) ⇒ "000019"
          ∷ [];
      after = anything;
    }

-- 7 before 8 before 9. With 127 messages a line in both sets is one too many; with 125 and 511
-- versions a second line may be read but not written. The row refuses 8 by the union of the sets,
-- and 9 by both sets.
abbrev shared_twice : Row
shared_twice =
    record {
      start = on crowded;
      lines =
          start_mixed 2 1 3 (value 5 ++ value 6) ⇒ "07"
          ∷ start_mixed 1 1 1 (value 5) ⇒ "08"
          ∷ deliver 0 ⇒ "0003007e00"
          ∷ start_mixed 1 1 3 (value 5 ++ value 6) ⇒ "08"
          ∷ deliver 0 ⇒ "0003007d00"
          ∷ start_mixed 1 1 3 (value 5 ++ value 6) ⇒ "09"
          ∷ start_mixed 1 3 1 (value 5) ⇒ "000080"
          ∷ [];
      after = anything;
    }

-- ---- Replies

-- a mixed transaction of client 2 with stamp (5, 2): the items read, of these those awaited, the
-- items written, of these those awaited
abbrev mixing : ℕ → ℕ → ℕ → ℕ → Client
mixing r a s b = both (reader r a 0 9) (writer s b (stamp_of 5 2) 7)

abbrev holding : Client → List Message → Tables
holding c ms = with_messages (with_client (fresh (sizes 3 2 2)) 2 c) ms

-- Each reply is awaited by its own part: line 0 is read and line 1 written. A first reply isn't.
-- The row refuses a got that the write part awaits too, a prepared reply that the read part awaits
-- too, either one awaited whatever its stamp, a first reply that is awaited, and an end with the
-- last got, prepared replies or none awaited.
abbrev stray_mixed : Row
stray_mixed =
    record {
      start = on (holding (mixing 1 1 2 2)
          (Got 2 (version 1 9 0 0 0) initial
          ∷ Prepared 0 (stamp_of 5 2)
          ∷ FirstReply 2 (version 0 9 0 0 0) initial
          ∷ Prepared 1 (stamp_of 4 2)
          ∷ Got 2 (version 0 9 1 1 0) initial
          ∷ Got 2 (version 0 9 0 0 0) initial
          ∷ Prepared 1 (stamp_of 5 2)
          ∷ []));
      lines =
          deliver 0 ⇒ "0b"
          ∷ deliver 1 ⇒ "0b"
          ∷ deliver 2 ⇒ "0b"
          ∷ deliver 3 ⇒ "0b"
          ∷ deliver 4 ⇒ "0b"
          ∷ deliver 5 ⇒ "0005000600"
          ∷ deliver 5 ⇒ "0002000602"
          ∷ [];
      after = anything;
    }

-- With the got that ends it the written line's entry becomes the later of what the got left there
-- and this write. Both rows refuse an end by a got that leaves the view as it was; the second
-- refuses a write that replaces a later entry, and a last got that offers nothing to the view.
abbrev enters : Entry → ℕ → ℕ → ℕ → Row
enters latest number client set =
    record {
      start = on (holding (mixing 1 1 3 0) (Got 2 (version 0 9 0 0 0) latest ∷ []));
      lines = deliver 0 ⇒ "0005000202" ∷ [];
      after = λ t.
          messages_are t.messages ((3 ∷ 0 ∷ 5 ∷ 2 ∷ []) ∷ (3 ∷ 1 ∷ 5 ∷ 2 ∷ []) ∷ [])
          && entry_is (t.view 2 0) number client set && entry_is (t.view 2 1) 5 2 3;
    }

abbrev own_enters : Row
own_enters = enters (entry 5 1 1) 5 2 3

abbrev later_stays : Row
later_stays = enters (entry 5 3 1) 5 3 1

-- The written items enter the view with the end: with the last prepared reply, while a got is
-- awaited, client 2 still stands as client 1, which has seen nothing. The row refuses a view that
-- takes the write with the last prepared reply.
abbrev unseen_before : Row
unseen_before =
    record {
      start = on (holding (mixing 1 1 3 2)
          (Got 2 (version 0 9 0 0 0) initial ∷ Prepared 1 (stamp_of 5 2) ∷ []));
      lines =
          deliver 1 ⇒ "0002000100"
          ∷ compare 2 1 ⇒ "0000"
          ∷ deliver 0 ⇒ "0005000202"
          ∷ compare 2 1 ⇒ "0002"
          ∷ [];
      after = anything;
    }

-- ---- The load

-- Beside 126 messages both prepared replies count, the got that has come doesn't. With the last got
-- they count no more, and two commits join. The row refuses gots that count, and prepared replies
-- that count no more once all have come.
abbrev prepared_count : Row
prepared_count =
    record {
      start = on (holding (mixing 3 2 3 0)
          (replicate 125 (Commit 0 (stamp_of 1 1)) ++ (Got 2 (version 1 9 0 0 0) initial ∷ [])));
      lines = start_read 1 1 ⇒ "08" ∷ deliver 125 ⇒ "0005007f02" ∷ start_read 1 1 ⇒ "000080"
          ∷ start_read 3 1 ⇒ "08" ∷ [];
      after = anything;
    }

-- ---- Clearing

-- Its write is under way until it ends, though every prepared reply has come. The row refuses a
-- clearing that spares the stamps of writes without a read part alone, and one that spares a stamp
-- only while prepared replies are awaited.
abbrev spared_mixed : Row
spared_mixed =
    record {
      start = on (with_versions (holding (mixing 1 1 1 0) [])
          (version 0 7 5 2 1 ∷ version 0 7 4 2 1 ∷ []));
      lines = clear ⇒ "000001" ∷ clear ⇒ "000000" ∷ [];
      after = anything;
    }

-- ---- In range all the same

-- A mixed transaction with the initial stamp, which no call of ours leaves: a got may end it, and
-- its commit is out of range. The row refuses a range that leaves it out.
abbrev initial_stamp : Row
initial_stamp =
    record {
      start = on (holding (both (reader 1 1 0 9) (writer 1 0 0 7))
          (Got 2 (version 0 9 0 0 0) initial ∷ []));
      lines = deliver 0 ⇒ "0005000102" ∷ start_read 1 1 ⇒ "01" ∷ clear ⇒ "01" ∷ [];
      after = anything;
    }

abbrev pub mixes : List Row
mixes =
    ended_by_got
    ∷ ended_by_prepared
    ∷ mixed_start
    ∷ mixed_widest
    ∷ shared_twice
    ∷ stray_mixed
    ∷ own_enters
    ∷ later_stays
    ∷ unseen_before
    ∷ prepared_count
    ∷ spared_mixed
    ∷ initial_stamp
    ∷ []
