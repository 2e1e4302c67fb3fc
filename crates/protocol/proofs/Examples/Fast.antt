-- Rows on fast reads (document 02, P7): their start, the first replies, which lines are fetched
-- again and how, the ends, and what 11, 12, the load and a clearing make of first replies.
use mathlib.Core.Bool.{◌&&◌, ◌||◌}
use mathlib.Core.List.{List, [], ◌∷◌, ◌++◌}
use Prim.Native.Nat.{ℕ}
use Prim.Native.String.{String}
use lib.Dec.{eqb}
use lib.ListN.{replicate}
use Rattle.basics.specs.Lists.{every}
use Rattle.itemset.specs.Set.{has}
use Rattle.protocol.specs.declared.Version.{Version}
use Rattle.protocol.specs.declared.Entry.{Entry}
use Rattle.protocol.specs.declared.Message.{Message}
use Rattle.protocol.specs.declared.Message.TheVariants.{Commit, Get, Got, FirstGet}
use Rattle.protocol.specs.declared.Message.TheVariants.{FirstReply}
use Rattle.protocol.specs.Tables.{Tables, Client, initial, fresh, stamp_of, number_of, writer_of}
use Rattle.protocol.specs.Tables.{put, with_client, with_view, with_latest, with_versions}
use Rattle.protocol.specs.Tables.{with_messages, resting}
use Rattle.protocol.specs.Calls.{start_read, start_fast_read, start_write, deliver, show, clear}
use Rattle.protocol.proofs.Examples.Table.{Row, freshly, on, ◌⇒◌, ◌keeping◌, value, room}
use Rattle.protocol.proofs.Examples.Table.{anything, messages_are, entry_is}
use Rattle.protocol.proofs.Examples.Begin.{sizes, entry, version, reader, writer, seeing}
use Rattle.protocol.proofs.Examples.Begin.{write_of, first_part, second_part}

-- ---- Whole fast reads

-- Desk 1 writes lines 0 and 1, and its commit at line 1's cabinet stays in flight. The first
-- replies bring desk 2 the write for line 0 and the initial version for line 1, which the write's
-- set shows to be older: line 1 is fetched by stamp, and the read ends with that got. Once the
-- commit has come, the next such read ends with its last first reply.
abbrev fetched_again : Row
fetched_again =
    record {
      start = freshly (sizes 2 2 2) "00";
      lines =
          start_write 1 3 (value 7 ++ value 8) ⇒ "000002"
          ∷ deliver 0 ⇒ "0001000200"
          ∷ deliver 0 ⇒ "0001000200"
          ∷ deliver 0 ⇒ "0002000100"
          ∷ deliver 0 ⇒ "0002000202"
          ∷ deliver 0 ⇒ "0003000100"
          ∷ start_fast_read 2 3 ⇒ "000003"
          ∷ deliver 1 ⇒ "0006000300"
          ∷ deliver 1 ⇒ "0006000300"
          ∷ deliver 1 ⇒ "0007000200"
          ∷ deliver 1 ⇒ "0007000200"
          ∷ deliver 1 ⇒ "0004000200"
          ∷ deliver 1 ⇒ "0005000101"
          ∷ show 2 (room 28) ⇒ "0023020000000000000003000000010100000007000000010100000008"
          ∷ deliver 0 ⇒ "0003000000"
          ∷ start_fast_read 2 3 ⇒ "000002"
          ∷ deliver 1 ⇒ "0006000200"
          ∷ deliver 0 ⇒ "0006000200"
          ∷ deliver 1 ⇒ "0007000100"
          ∷ deliver 0 ⇒ "0007000001"
          ∷ show 2 (room 28) ⇒ "0023020000000000000003000000010100000007000000010100000008"
          ∷ [];
      after = λ t. entry_is (t.view 2 0) 1 1 3 && entry_is (t.view 2 1) 1 1 3;
    }

-- Desk 1's write has ended and its commit is in flight: an ordinary read shows it, a fast one
-- misses it, and falls against the first; what the view holds stays, and the next ordinary read
-- shows the write again.
abbrev misses_own : Row
misses_own =
    record {
      start = freshly (sizes 1 1 1) "00";
      lines =
          start_write 1 1 (value 7) ⇒ "000001"
          ∷ deliver 0 ⇒ "0001000100"
          ∷ deliver 0 ⇒ "0002000102"
          ∷ start_read 1 1 ⇒ "000002"
          ∷ deliver 1 ⇒ "0004000200"
          ∷ deliver 1 ⇒ "0005000101"
          ∷ show 1 (room 19) ⇒ "0021010000000000000001000000010100000007"
          ∷ start_fast_read 1 1 ⇒ "000002"
          ∷ deliver 1 ⇒ "0006000200"
          ∷ deliver 1 ⇒ "0007000101"
          ∷ show 1 (room 19) ⇒ "0023010000000000000001000000000000000000"
          ∷ start_read 1 1 ⇒ "000002"
          ∷ deliver 1 ⇒ "0004000200"
          ∷ deliver 1 ⇒ "0005000101"
          ∷ show 1 (room 19) ⇒ "0021010000000000000001000000010100000007"
          ∷ [];
      after = λ t. entry_is (t.view 1 0) 1 1 1;
    }

-- ---- Start

-- One first get for each line, ascending, whatever the view holds; the checks are a read's. The
-- count stays, and the last transaction.
abbrev fast_start : Row
fast_start =
    record {
      start = on (with_client (seeing (entry 2 1 3) (entry 1 2 2)) 3
          (resting 5 (write_of 1 (stamp_of 1 3) (λ k. 7))));
      lines =
          start_fast_read 4 0 ⇒ "03"
          ∷ start_fast_read 0 1 ⇒ "03"
          ∷ start_fast_read 3 0 ⇒ "05"
          ∷ start_fast_read 3 4 ⇒ "05"
          ∷ start_fast_read 3 3 ⇒ "000002"
          ∷ start_fast_read 3 0 ⇒ "04"
          ∷ show 3 (room 1) ⇒ "04" keeping "ee"
          ∷ [];
      after = λ t.
          messages_are t.messages ((6 ∷ 3 ∷ 0 ∷ []) ∷ (6 ∷ 3 ∷ 1 ∷ []) ∷ [])
          && eqb (t.client 3).read.stage 1 && eqb (t.client 3).read.awaited 3
          && entry_is (t.view 3 0) 2 1 3 && eqb (t.client 3).count 5
          && eqb (t.client 3).last.kind 2 && eqb (t.client 3).last.write.set 1;
    }

-- ---- First gets

-- what a first get is answered with: the latest's version, the first of two alike, with the latest
-- itself; the initial version where the latest is initial, which only damaged tables hold with a
-- set
abbrev latests : Tables
latests =
    with_versions (with_latest (fresh (sizes 2 1 3))
    (put (put (put (λ k. initial) 0 (entry 2 1 1)) 1 (entry 0 0 3)) 2 (entry 9 2 4)))
    (version 0 6 1 1 1 ∷ version 0 7 2 1 3 ∷ version 0 9 2 1 1 ∷ version 1 8 2 1 2 ∷ [])

-- Whatever its desk does, here nothing; 12 where the latest isn't stored, which is so in damaged
-- tables alone, and the message stays.
abbrev answered_first : Row
answered_first =
    record {
      start = on (with_messages latests (FirstGet 2 2 ∷ FirstGet 2 0 ∷ FirstGet 1 1 ∷ []));
      lines = deliver 0 ⇒ "0c" ∷ deliver 1 ⇒ "0006000300" ∷ deliver 1 ⇒ "0006000300" ∷ [];
      after = λ t. messages_are t.messages
          ((6 ∷ 2 ∷ 2 ∷ [])
          ∷ (7 ∷ 2 ∷ 0 ∷ 7 ∷ 2 ∷ 1 ∷ 3 ∷ 2 ∷ 1 ∷ 1 ∷ [])
          ∷ (7 ∷ 1 ∷ 1 ∷ 0 ∷ 0 ∷ 0 ∷ 0 ∷ 0 ∷ 0 ∷ 3 ∷ [])
          ∷ []);
    }

-- ---- Which lines are fetched again

-- desk 3 is in the first part of a fast read of lines 0, 1 and 3, with the first replies of 0 and 1
-- come, and the one of line 3 in flight; what stands at line 2, which it doesn't read, is nobody's
abbrev fetching : Entry → Entry → Version → Tables
fetching e f v =
    with_messages (with_client (fresh (sizes 3 1 4)) 3
    (first_part 11 8 (put (put (put (λ k. initial) 0 e) 1 f) 2 (entry 9 1 15)) 5))
    (FirstReply 3 v initial ∷ [])

-- the last first reply and its answer, the lines awaited again, and the gets of them; its version
-- is kept, and is what the view then has of its line; of a line that isn't fetched again the stamp
-- to be shown is its first reply's
abbrev fetches : Entry → Entry → Version → String → ℕ → List (List ℕ) → Row
fetches e f v answer awaited gets =
    record {
      start = on (fetching e f v);
      lines = deliver 0 ⇒ answer ∷ show 3 (room 0) ⇒ "04" ∷ [];
      after = λ t. messages_are t.messages gets && eqb (t.client 3).read.awaited awaited
          && eqb (t.client 3).read.stage 2 && entry_is ((t.client 3).read.firsts 3)
          (number_of v.stamp) (writer_of v.stamp) v.set
          && entry_is (t.view 3 3) (number_of v.stamp) (writer_of v.stamp) v.set
          && every 4 (λ k. eqb k 2 || has awaited k
          || eqb ((t.client 3).read.asked k) ((t.client 3).read.firsts k).stamp);
    }

-- Line 1 is older than line 0 shows; line 3 isn't, being of the same write. Line 2 isn't read.
abbrev older_than_sibling : Row
older_than_sibling =
    fetches (entry 2 1 15) (entry 1 2 2) (version 3 7 2 1 15) "0007000100" 2
    ((4 ∷ 3 ∷ 1 ∷ 2 ∷ 1 ∷ []) ∷ [])

-- The number comes before the desk: line 3 is older, though its desk is greater.
abbrev older_by_number : Row
older_by_number =
    fetches (entry 2 1 15) (entry 2 2 2) (version 3 7 1 3 8) "0007000100" 8
    ((4 ∷ 3 ∷ 3 ∷ 2 ∷ 1 ∷ []) ∷ [])

-- With equal numbers the greater desk is later: line 1 is no older, line 3 is.
abbrev older_by_client : Row
older_by_client =
    fetches (entry 2 2 15) (entry 2 3 2) (version 3 7 2 1 8) "0007000100" 8
    ((4 ∷ 3 ∷ 3 ∷ 2 ∷ 2 ∷ []) ∷ [])

-- Two lines, ascending; of several siblings that show a line the latest counts, the last reply too.
abbrev two_older : Row
two_older =
    fetches (entry 2 1 3) (entry 1 1 2) (version 3 7 3 1 11) "0007000200" 3
    ((4 ∷ 3 ∷ 0 ∷ 3 ∷ 1 ∷ []) ∷ (4 ∷ 3 ∷ 1 ∷ 3 ∷ 1 ∷ []) ∷ [])

abbrev latest_of_siblings : Row
latest_of_siblings =
    fetches (entry 4 1 3) (entry 1 1 2) (version 3 7 3 1 11) "0007000100" 2
    ((4 ∷ 3 ∷ 1 ∷ 4 ∷ 1 ∷ []) ∷ [])

-- A reply counts for its own line also where its set lacks it (damaged tables).
abbrev lacks_own : Row
lacks_own =
    fetches (entry 5 1 8) (entry 1 1 2) (version 3 7 1 1 8) "0007000100" 8
    ((4 ∷ 3 ∷ 3 ∷ 5 ∷ 1 ∷ []) ∷ [])

-- The view counts for nothing: it has a later entry of every line, and no line is fetched by it.
abbrev view_unasked : Row
view_unasked =
    record {
      start = on (with_view (fetching (entry 2 1 15) (entry 1 2 2) (version 3 7 2 1 15)) 3
          (λ k. entry 9 2 15));
      lines = deliver 0 ⇒ "0007000100" ∷ [];
      after = λ t. messages_are t.messages ((4 ∷ 3 ∷ 1 ∷ 2 ∷ 1 ∷ []) ∷ [])
          && eqb (t.client 3).read.awaited 2 && entry_is (t.view 3 3) 9 2 15;
    }

-- An initial first reply may have a set, in damaged tables alone: its line is older all the same.
abbrev initial_with_set : Row
initial_with_set =
    fetches (entry 0 0 15) (entry 2 1 15) (version 3 7 2 1 15) "0007000100" 1
    ((4 ∷ 3 ∷ 0 ∷ 2 ∷ 1 ∷ []) ∷ [])

-- A line that isn't read is fetched neither, though the write of one that is read wrote it too. The
-- last first reply's latest enters the view, and isn't what is shown.
abbrev unread_sibling : Row
unread_sibling =
    record {
      start = on (with_messages (with_client (fresh (sizes 3 1 2)) 3 (first_part 1 1 (λ k. initial) 0))
          (FirstReply 3 (version 0 7 2 1 3) (entry 3 2 1) ∷ []));
      lines = deliver 0 ⇒ "0007000001"
          ∷ show 3 (room 19) ⇒ "0023030000000000000001000000020100000007" ∷ [];
      after = λ t. entry_is (t.view 3 0) 3 2 1;
    }

-- ---- The ends

-- No line is older: the last first reply ends the read, and its stamp and value are shown too.
abbrev ends_first : Row
ends_first =
    record {
      start = on (fetching (entry 2 1 3) (entry 2 1 3) (version 3 7 1 1 8));
      lines = deliver 0 ⇒ "0007000001"
          ∷ show 3 (room 37) ⇒
          "002303000000000000000b000000020100000005000000020100000005000000010100000007" ∷ [];
      after = λ t. eqb (t.client 3).read.set 0 && eqb (t.client 3).read.stage 0
          && eqb (t.client 3).last.kind 3 && eqb (t.client 3).count 5;
    }

-- In the second part line 1 is awaited again: its second answer replaces the value and the stamp
-- that its first reply had.
abbrev ends_second : Row
ends_second =
    record {
      start = on (with_messages (with_client (fresh (sizes 3 1 4)) 3
          (second_part 11 2 (λ k. stamp_of 2 1) (put (λ k. entry 2 1 15) 1 (entry 1 2 2)) 5))
          (Got 3 (version 1 9 2 1 15) (entry 1 2 2) ∷ []));
      lines = deliver 0 ⇒ "0005000001"
          ∷ show 3 (room 37) ⇒
          "002303000000000000000b000000020100000005000000020100000009000000020100000005" ∷ [];
      after = λ t. eqb (t.client 3).read.stage 0 && entry_is (t.view 3 1) 2 1 15;
    }

-- There is no third part. Only damaged tables have such a got of the second one: its set and stamp
-- show lines 0 and 3 to be older, and the read ends with it all the same.
abbrev no_third_part : Row
no_third_part =
    record {
      start = on (with_messages (with_client (fresh (sizes 3 1 4)) 3
          (second_part 11 2 (put (λ k. stamp_of 1 2) 1 (stamp_of 2 1)) (λ k. entry 1 2 8) 5))
          (Got 3 (version 1 9 2 1 15) initial ∷ []));
      lines = deliver 0 ⇒ "0005000001"
          ∷ show 3 (room 37) ⇒
          "002303000000000000000b000000010200000005000000020100000009000000010200000005" ∷ [];
      after = λ t. messages_are t.messages [] && eqb (t.client 3).read.stage 0;
    }

-- Line 3's first reply has had lines 0 and 1 fetched again. The second answer for line 0 doesn't
-- replace the first reply, which still spares what a clearing would take.
abbrev firsts_stay : Row
firsts_stay =
    record {
      start = on (with_versions (with_messages (with_client (fresh (sizes 3 1 4)) 3
          (second_part 11 3 (λ k. stamp_of 2 1)
          (put (put (λ k. entry 2 1 11) 0 (entry 1 2 1)) 1 (entry 1 3 2)) 5))
          (Got 3 (version 0 9 2 1 11) initial ∷ Get 3 1 (stamp_of 2 1) ∷ []))
          (version 0 7 1 2 1 ∷ []));
      lines = deliver 0 ⇒ "0005000100" ∷ clear ⇒ "000000" ∷ [];
      after = λ t. entry_is ((t.client 3).read.firsts 0) 1 2 1
          && entry_is ((t.client 3).read.firsts 1) 1 3 2
          && eqb (t.client 3).read.awaited 2 && eqb ((t.client 3).read.values 0) 9;
    }

-- ---- Awaited by its line alone, and only in the first part

-- Desk 1 is in a first part and awaits line 1, desk 2 in a second part and awaits line 1 with a
-- stamp; desk 3 reads, desk 4 writes, desk 5 is idle. No got is awaited in the first part, no first
-- reply anywhere else, and neither where its line isn't; a first reply may have any stamp.
abbrev stray_replies : Row
stray_replies =
    record {
      start = on (with_messages (with_client (with_client (with_client (with_client
          (fresh (sizes 5 1 2)) 1 (first_part 3 2 (λ k. entry 1 1 1) 5)) 2
          (second_part 3 2 (λ k. stamp_of 2 1) (λ k. entry 1 1 3) 5)) 3 (reader 3 3 0 0)) 4
          (writer 3 3 (stamp_of 1 4) 0))
          (Got 1 (version 1 7 0 0 0) initial
          ∷ FirstReply 1 (version 0 7 1 1 1) initial
          ∷ FirstReply 2 (version 1 7 2 1 3) initial
          ∷ FirstReply 3 (version 1 0 0 0 0) initial
          ∷ FirstReply 4 (version 1 7 1 4 3) initial
          ∷ FirstReply 5 (version 1 0 0 0 0) initial
          ∷ Got 2 (version 1 7 1 1 3) initial
          ∷ Got 2 (version 0 7 2 1 3) initial
          ∷ FirstReply 1 (version 1 7 9 3 2) initial
          ∷ Got 2 (version 1 7 2 1 3) initial
          ∷ []));
      lines =
          deliver 0 ⇒ "0b"
          ∷ deliver 1 ⇒ "0b"
          ∷ deliver 2 ⇒ "0b"
          ∷ deliver 3 ⇒ "0b"
          ∷ deliver 4 ⇒ "0b"
          ∷ deliver 5 ⇒ "0b"
          ∷ deliver 6 ⇒ "0b"
          ∷ deliver 7 ⇒ "0b"
          ∷ deliver 8 ⇒ "0007000901"
          ∷ deliver 8 ⇒ "0005000801"
          ∷ [];
      after = anything;
    }

-- ---- The view: by the rule for gots, as the replies come

abbrev offering : Entry → Entry → Version → Tables
offering own latest v = with_messages
    (with_client (seeing own initial) 3 (first_part 3 3 (λ k. initial) 0))
    (FirstReply 3 v latest ∷ [])

abbrev becomes : Entry → Entry → Version → ℕ → ℕ → ℕ → Row
becomes own latest v number writer set =
    record {
      start = on (offering own latest v);
      lines = deliver 0 ⇒ "0007000000" ∷ [];
      after = λ t. entry_is (t.view 3 0) number writer set && entry_is (t.view 3 1) 0 0 0;
    }

abbrev own_stays : Row
own_stays = becomes (entry 5 2 1) (entry 5 2 3) (version 0 7 5 2 2) 5 2 1

abbrev latest_before : Row
latest_before = becomes (entry 4 3 3) (entry 5 2 1) (version 0 7 5 2 3) 5 2 1

abbrev version_taken : Row
version_taken = becomes (entry 4 3 3) (entry 5 1 1) (version 0 7 5 2 3) 5 2 3

-- ---- The load

-- desk 2 reads lines 0 and 1 fast, with the reply for line 0 come, beside 126 messages
abbrev crowded_by : Client → Message → Tables
crowded_by c m =
    with_messages (with_client (fresh (sizes 3 2 2)) 2 c)
    (replicate 125 (Commit 0 (stamp_of 1 1)) ++ (m ∷ []))

-- In the first part that reply counts, in the second it doesn't.
abbrev first_counts : Row
first_counts =
    record {
      start = on (crowded_by (first_part 3 2 (λ k. initial) 0) (FirstGet 2 1));
      lines = start_fast_read 1 3 ⇒ "08" ∷ start_read 1 3 ⇒ "08" ∷ start_fast_read 1 1 ⇒ "00007f"
          ∷ start_read 3 1 ⇒ "08" ∷ [];
      after = anything;
    }

abbrev second_counts : Row
second_counts =
    record {
      start = on (crowded_by (second_part 3 2 (λ k. 0) (λ k. initial) 0) (Get 2 1 0));
      lines = start_fast_read 1 3 ⇒ "000080" ∷ start_read 3 1 ⇒ "08" ∷ [];
      after = anything;
    }

-- At load 128 the last first reply of two ends the first part: a get takes its place, and the other
-- counts no more.
abbrev turned_full : Row
turned_full =
    record {
      start = on (crowded_by (first_part 3 2 (λ k. entry 1 1 3) 0)
          (FirstReply 2 (version 1 0 0 0 0) initial));
      lines = start_read 1 1 ⇒ "00007f" ∷ start_read 3 1 ⇒ "08" ∷ deliver 125 ⇒ "0007007f00"
          ∷ start_read 3 1 ⇒ "000080" ∷ [];
      after = anything;
    }

abbrev pub fasts : List Row
fasts =
    fetched_again
    ∷ misses_own
    ∷ fast_start
    ∷ answered_first
    ∷ older_than_sibling
    ∷ older_by_number
    ∷ older_by_client
    ∷ two_older
    ∷ latest_of_siblings
    ∷ lacks_own
    ∷ view_unasked
    ∷ initial_with_set
    ∷ unread_sibling
    ∷ ends_first
    ∷ ends_second
    ∷ no_third_part
    ∷ firsts_stay
    ∷ stray_replies
    ∷ own_stays
    ∷ latest_before
    ∷ version_taken
    ∷ first_counts
    ∷ second_counts
    ∷ turned_full
    ∷ []
