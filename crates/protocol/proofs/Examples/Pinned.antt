-- Rows that each refuse a wrong definition which the theorems let pass (docs/PINNED.md).
use mathlib.Core.Bool.{Bool, ◌&&◌}
use mathlib.Core.List.{List, [], ◌∷◌}
use Prim.Native.Nat.{ℕ, ◌+◌, ◌^◌}
use lib.Dec.{eqb}
use lib.ListN.{replicate}
use Rattle.protocol.specs.declared.Message.TheVariants.{Commit, Get, Got, FirstReply}
use Rattle.protocol.specs.Tables.{Tables, Client, Ended, fresh, initial, resting, stamp_of}
use Rattle.protocol.specs.Tables.{put, with_client, with_latest, with_versions, with_messages}
use Rattle.protocol.specs.Tables.{with_last}
use Rattle.protocol.specs.Calls.{start_read, start_fast_read, start_write, deliver, show}
use Rattle.protocol.proofs.Examples.Table.{Row, freshly, on, on_each, ◌⇒◌, ◌keeping◌}
use Rattle.protocol.proofs.Examples.Table.{room, anything, messages_are, entry_is}
use Rattle.protocol.proofs.Examples.Begin.{sizes, entry, version, reader, writer, loaded}
use Rattle.protocol.proofs.Examples.Begin.{read_of, fast_of, write_of, mixed_of, seeing, spent}
use Rattle.protocol.proofs.Examples.Begin.{fast_part, fast_reader, first_part, second_part}

-- fresh tables of two clients, partitions and items, with client 2 like this
abbrev with_second : Client → Tables
with_second c = with_client (fresh (sizes 2 2 2)) 2 c

-- ---- Choice of stamps

-- Line 0's entry counts for line 1 though only line 1 is read.
abbrev asks_outside_the_set : Row
asks_outside_the_set =
    record {
      start = on (seeing (entry 2 1 3) initial);
      lines = start_read 3 2 ⇒ "000001" ∷ [];
      after = λ t. messages_are t.messages ((4 ∷ 3 ∷ 1 ∷ 2 ∷ 1 ∷ []) ∷ []);
    }

-- ---- Load and its limits

-- 126 messages, and a reading desk to which one of its two replies has come: that one counts for
-- nothing, so two lines fit.
abbrev readers_reply : Row
readers_reply =
    record {
      start = on (with_messages (with_second (reader 3 2 0 0))
          (replicate 126 (Commit 0 (stamp_of 1 1))));
      lines = start_read 1 3 ⇒ "000080" ∷ [];
      after = anything;
    }

-- Load 128: 3, 4 and 5 come before 8, for an ordinary read and for a fast one.
abbrev full_and_wrong : Row
full_and_wrong =
    record {
      start = on (loaded 100);
      lines =
          start_read 8 1 ⇒ "08"
          ∷ start_read 8 0 ⇒ "05"
          ∷ start_read 8 16 ⇒ "05"
          ∷ start_read 9 1 ⇒ "03"
          ∷ start_read 1 1 ⇒ "04"
          ∷ start_fast_read 8 1 ⇒ "08"
          ∷ start_fast_read 8 0 ⇒ "05"
          ∷ start_fast_read 8 16 ⇒ "05"
          ∷ start_fast_read 9 1 ⇒ "03"
          ∷ start_fast_read 1 1 ⇒ "04"
          ∷ [];
      after = anything;
    }

-- A busy desk's showing is refused for that, whatever the room; a write brings exactly four bytes a
-- line; a desk at the greatest count may read.
abbrev busy_shows : Row
busy_shows =
    record {
      start = on (with_second (with_last (reader 1 1 0 0) (write_of 1 (stamp_of 1 2) (λ k. 7))));
      lines = show 2 (room 0) ⇒ "04"
          ∷ show 2 (room 18) ⇒ "04" keeping "eeeeeeeeeeeeeeeeeeeeeeeeeeeeeeeeeeee" ∷ [];
      after = anything;
    }

abbrev value_bytes : Row
value_bytes =
    record {
      start = freshly (sizes 2 2 2) "00";
      lines =
          start_write 1 1 (replicate 8 0) ⇒ "06"
          ∷ start_write 1 1 (replicate 5 0) ⇒ "06"
          ∷ start_write 1 1 (replicate 3 0) ⇒ "06"
          ∷ start_write 1 1 (1 ∷ 2 ∷ 3 ∷ 4 ∷ []) ⇒ "000001"
          ∷ [];
      after = λ t. messages_are t.messages ((1 ∷ 0 ∷ 0x01020304 ∷ 1 ∷ 1 ∷ 1 ∷ []) ∷ []);
    }

abbrev spent_reads : Row
spent_reads = record { start = on spent; lines = start_read 1 1 ⇒ "000001" ∷ []; after = anything }

-- ---- Messages and versions

-- A get is answered whatever its desk does.
abbrev idle_get : Row
idle_get =
    record {
      start = on (with_messages (fresh (sizes 2 2 2)) (Get 2 1 0 ∷ []));
      lines = deliver 0 ⇒ "0004000100" ∷ [];
      after = λ t. messages_are t.messages
          ((5 ∷ 2 ∷ 1 ∷ 0 ∷ 0 ∷ 0 ∷ 0 ∷ 0 ∷ 0 ∷ 0 ∷ []) ∷ []);
    }

-- Of two versions alike a commit takes the first one's set.
abbrev first_alike_committed : Row
first_alike_committed =
    record {
      start = on (with_messages (with_versions (fresh (sizes 2 1 2))
          (version 0 7 1 1 1 ∷ version 0 7 1 1 3 ∷ []))
          (Commit 0 (stamp_of 1 1) ∷ []));
      lines = deliver 0 ⇒ "0003000000" ∷ [];
      after = λ t. entry_is (t.latest 0) 1 1 1 && entry_is (t.latest 1) 0 0 0;
    }

-- ---- The last ended transaction

abbrev is_write : Ended → ℕ → ℕ → ℕ → Bool
is_write e set stamp value =
    eqb e.kind 2 && eqb e.write.set set && eqb e.write.stamp stamp
    && eqb (e.write.values 0) value

abbrev is_read : Ended → ℕ → ℕ → ℕ → Bool
is_read e set stamp value =
    eqb e.kind 1 && eqb e.read.set set && eqb (e.read.asked 0) stamp
    && eqb (e.read.values 0) value

-- It is kept while the next one is under way, up to that one's end.
abbrev last_kept : Row
last_kept =
    record {
      start = on (with_client (with_second (resting 0 (read_of 1 (λ k. 17) (λ k. 8)))) 1
          (resting 1 (write_of 1 17 (λ k. 7))));
      lines = start_read 1 2 ⇒ "000001" ∷ start_write 2 2 (replicate 4 0) ⇒ "000002"
          ∷ deliver 0 ⇒ "0004000200" ∷ deliver 0 ⇒ "0001000200" ∷ [];
      after = λ t. is_write (t.client 1).last 1 17 7 && is_read (t.client 2).last 1 17 8;
    }

-- ---- In range all the same

-- a writing desk with the initial stamp, with another's, with a number over its count; a latest
-- whose set is empty or lacks its line
abbrev odd_but_in_range : Row
odd_but_in_range =
    record {
      start = on_each
          (with_second (writer 2 2 0 7) ∷ with_second (writer 2 2 (stamp_of 1 1) 7)
          ∷ with_second (writer 2 2 (stamp_of 6 2) 7)
          ∷ with_latest (fresh (sizes 2 2 2)) (put (λ k. initial) 0 (entry 1 1 0))
          ∷ with_latest (fresh (sizes 2 2 2)) (put (λ k. initial) 0 (entry 1 1 2)) ∷ []);
      lines = start_read 1 1 ⇒ "000001" ∷ deliver 0 ⇒ "0004000100" ∷ [];
      after = anything;
    }

-- what isn't a first reply that has come: of a line that a first part still awaits, of a line that
-- isn't read, of an ordinary read, of an idle desk
abbrev odd_firsts : Row
odd_firsts =
    record {
      start = on_each
          (with_second (first_part 2 2 (λ k. entry 1 3 6) 0)
          ∷ with_second (second_part 2 2 (λ k. 0) (put (λ k. entry 1 3 6) 1 initial) 0)
          ∷ with_second (fast_reader (fast_part 0 3 1 (λ k. 0) (λ k. entry 1 3 6) (λ k. 0)))
          ∷ with_second (fast_reader (fast_part 0 3 0 (λ k. 0) (λ k. entry 1 3 6) (λ k. 0))) ∷ []);
      lines = start_read 1 1 ⇒ "000001" ∷ deliver 0 ⇒ "0004000100" ∷ [];
      after = anything;
    }

-- a got of the initial stamp with a value and with a set, which lacks its line
abbrev odd_reply : Row
odd_reply =
    record {
      start = on (with_messages (with_second (reader 1 1 0 0))
          (Got 2 (version 0 5 0 0 2) initial ∷ []));
      lines = deliver 0 ⇒ "0005000001"
          ∷ show 2 (room 19) ⇒ "0021020000000000000001000000000000000005" ∷ [];
      after = anything;
    }

-- the same of a first reply
abbrev odd_first_reply : Row
odd_first_reply =
    record {
      start = on (with_messages (with_second (first_part 1 1 (λ k. initial) 0))
          (FirstReply 2 (version 0 5 0 0 2) initial ∷ []));
      lines = deliver 0 ⇒ "0007000001"
          ∷ show 2 (room 19) ⇒ "0023020000000000000001000000000000000005" ∷ [];
      after = anything;
    }

-- ---- Log frames

abbrev shown_empty : Row
shown_empty =
    record {
      start = on (with_second (resting 0 (read_of 0 (λ k. 0) (λ k. 0))));
      lines = show 2 (room 9) ⇒ "0e" keeping "eeeeeeeeeeeeeeeeee"
          ∷ show 2 (room 10) ⇒ "0021020000000000000000" ∷ [];
      after = anything;
    }

-- all four bytes of a number and of a value, the first and the last of 64 lines
abbrev wide : ℕ
wide = 1 + 2 ^ 63

abbrev wide_frames : Row
wide_frames =
    record {
      start = on (with_client (with_client (with_client (with_client (fresh (sizes 8 8 64)) 1
          (resting 0 (fast_of wide (λ k. stamp_of 0x01020304 8) (λ k. 0x05060708 + k)))) 2
          (resting 0 (write_of wide (stamp_of 0x01020304 2) (λ k. 0x05060708 + k)))) 8
          (resting 0 (read_of wide (λ k. stamp_of 0x01020304 8) (λ k. 0x05060708 + k)))) 3
          (resting 0 (mixed_of 2 (λ k. stamp_of 0x01020304 8) wide (stamp_of 0x0a0b0c0d 3)
          (λ k. 0x05060708 + k))));
      lines =
          show 1 (room 28) ⇒ "0023018000000000000001010203040805060708010203040805060747"
          ∷ show 2 (room 22) ⇒ "0020028000000000000001010203040506070805060747"
          ∷ show 3 (room 39) ⇒
          "002403000000000000000201020304080506070980000000000000010a0b0c0d0506070805060747"
          ∷ show 8 (room 28) ⇒ "0021088000000000000001010203040805060708010203040805060747"
          ∷ [];
      after = anything;
    }

abbrev pub pinned : List Row
pinned =
    asks_outside_the_set
    ∷ readers_reply
    ∷ full_and_wrong
    ∷ busy_shows
    ∷ value_bytes
    ∷ spent_reads
    ∷ idle_get
    ∷ first_alike_committed
    ∷ last_kept
    ∷ odd_but_in_range
    ∷ odd_firsts
    ∷ odd_reply
    ∷ odd_first_reply
    ∷ shown_empty
    ∷ wide_frames
    ∷ []
