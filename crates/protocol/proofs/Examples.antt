-- Document 01's bench examples for the store (★), its whole session, and rows that tell the steps
-- from near misses: one table, proved by computing every answer through the whole definitions,
-- refusal 1 first.
use mathlib.Core.Bool.{true, ◌&&◌}
use mathlib.Core.List.{List, [], ◌∷◌, ◌++◌}
use mathlib.Core.Path.{◌≡◌, refl}
use Prim.Native.Nat.{ℕ}
use lib.Dec.{eqb}
use lib.ListN.{length, drop}
use Rattle.basics.specs.Lists.{all}
use Rattle.protocol.specs.Calls.{start_read, start_fast_read, start_write, deliver, show, clear}
use Rattle.protocol.specs.Calls.{hand_over, compare, check, start_mixed}
use Rattle.protocol.proofs.Examples.Table.{Row, freshly, on, on_each, ◌⇒◌, ◌keeping◌}
use Rattle.protocol.proofs.Examples.Table.{value, room, anything, right, messages_are}
use Rattle.protocol.proofs.Examples.Table.{entry_is}
use Rattle.protocol.proofs.Examples.Begin.{sizes, entry, loaded, holding, seeing, ahead}
use Rattle.protocol.proofs.Examples.Begin.{spent, crowded, strayed}
use Rattle.protocol.proofs.Examples.Cleared.{clearings}
use Rattle.protocol.proofs.Examples.Checked.{checks, failing}
use Rattle.protocol.proofs.Examples.Faults.{faults}
use Rattle.protocol.proofs.Examples.Falls.{falls}
use Rattle.protocol.proofs.Examples.HandOver.{hand_overs}
use Rattle.protocol.proofs.Examples.Fast.{fasts}
use Rattle.protocol.proofs.Examples.Far.{far, done, shows, ranged}
use Rattle.protocol.proofs.Examples.Mixed.{mixes}
use Rattle.protocol.proofs.Examples.Numbers.{numbers}
use Rattle.protocol.proofs.Examples.Widest.{widest}
use Rattle.protocol.proofs.Examples.Pinned.{pinned}
pub mod Table
pub mod Begin
pub mod Faults
pub mod Pinned
pub mod Numbers
pub mod Falls
pub mod Widest
pub mod Cleared
pub mod HandOver
pub mod Fast
pub mod Checked
pub mod Far
pub mod Mixed

-- the greatest value's four bytes
abbrev greatest : List ℕ
greatest = 0xff ∷ 0xff ∷ 0xff ∷ 0xff ∷ []

-- ---- ★ Fresh

abbrev pub fresh_largest : Row
fresh_largest =
    record {
      start = freshly (sizes 8 8 64) "00";
      lines = show 8 (room 0) ⇒ "0d" ∷ start_read 8 1 ⇒ "000001" ∷ [];
      after = anything;
    }

abbrev pub fresh_too_large : Row
fresh_too_large = record { start = freshly (sizes 9 8 64) "02"; lines = []; after = anything }

-- ---- ★ Load. Of 126, 21 are prepared replies that have come.

-- Two lines bring it to 128, and there it stays when the last reply of a write turns its three
-- others into commits.
abbrev pub load_two_fit : Row
load_two_fit =
    record {
      start = on (loaded 98);
      lines = start_write 8 3 (value 5 ++ value 6) ⇒ "00006b" ∷ deliver 0 ⇒ "0002006e02"
          ∷ start_read 1 1 ⇒ "08" ∷ [];
      after = anything;
    }

abbrev pub load_two_too_many : Row
load_two_too_many =
    record {
      start = on (loaded 99);
      lines = start_read 8 3 ⇒ "08" ∷ start_write 8 3 (value 5 ++ value 6) ⇒ "08"
          ∷ start_read 8 1 ⇒ "00006b" ∷ [];
      after = anything;
    }

-- ---- ★ Versions

-- the two prepares count, so a third line has no place; a read needs none
abbrev pub versions_two_fit : Row
versions_two_fit =
    record {
      start = on (holding 510);
      lines = start_write 1 3 (value 5 ++ value 6) ⇒ "000002" ∷ start_write 2 1 (value 5) ⇒ "09"
          ∷ start_read 2 1 ⇒ "000003" ∷ [];
      after = anything;
    }

abbrev pub versions_two_too_many : Row
versions_two_too_many =
    record {
      start = on (holding 511);
      lines = start_write 1 3 (value 5 ++ value 6) ⇒ "09" ∷ start_write 1 1 (value 5) ⇒ "000001" ∷ [];
      after = anything;
    }

-- ---- ★ Choice of stamps: the gets' desk, line, number and writing desk

abbrev pub asks_sibling : Row
asks_sibling =
    record {
      start = on (seeing (entry 2 1 3) (entry 1 2 2));
      lines = start_read 3 3 ⇒ "000002" ∷ [];
      after = λ t. messages_are t.messages ((4 ∷ 3 ∷ 0 ∷ 2 ∷ 1 ∷ []) ∷ (4 ∷ 3 ∷ 1 ∷ 2 ∷ 1 ∷ [])
          ∷ []);
    }

abbrev pub asks_greater_client : Row
asks_greater_client =
    record {
      start = on (seeing (entry 1 2 1) (entry 1 1 3));
      lines = start_read 3 3 ⇒ "000002" ∷ [];
      after = λ t. messages_are t.messages ((4 ∷ 3 ∷ 0 ∷ 1 ∷ 2 ∷ []) ∷ (4 ∷ 3 ∷ 1 ∷ 1 ∷ 1 ∷ [])
          ∷ []);
    }

-- Three more that tell the pass over the entries from near misses (document 02, P3). An entry that
-- comes after a line names it, and not its own line, for which it counts all the same.
abbrev asks_later_entry : Row
asks_later_entry =
    record {
      start = on (seeing (entry 1 2 1) (entry 2 1 1));
      lines = start_read 3 3 ⇒ "000002" ∷ [];
      after = λ t. messages_are t.messages ((4 ∷ 3 ∷ 0 ∷ 2 ∷ 1 ∷ []) ∷ (4 ∷ 3 ∷ 1 ∷ 2 ∷ 1 ∷ [])
          ∷ []);
    }

-- and one that comes before it
abbrev asks_earlier_entry : Row
asks_earlier_entry =
    record {
      start = on (seeing (entry 2 1 2) (entry 1 2 2));
      lines = start_read 3 3 ⇒ "000002" ∷ [];
      after = λ t. messages_are t.messages ((4 ∷ 3 ∷ 0 ∷ 2 ∷ 1 ∷ []) ∷ (4 ∷ 3 ∷ 1 ∷ 2 ∷ 1 ∷ [])
          ∷ []);
    }

-- and one that comes after the last line that is read
abbrev asks_past_the_set : Row
asks_past_the_set =
    record {
      start = on (seeing (entry 1 2 1) (entry 2 1 3));
      lines = start_read 3 1 ⇒ "000001" ∷ [];
      after = λ t. messages_are t.messages ((4 ∷ 3 ∷ 0 ∷ 2 ∷ 1 ∷ []) ∷ []);
    }

-- ---- Document 01's whole session

abbrev pub whole_session : Row
whole_session =
    record {
      start = freshly (sizes 2 2 2) "00";
      lines =
          start_write 1 3 (value 7 ++ value 8) ⇒ "000002"
          ∷ deliver 0 ⇒ "0001000200"
          ∷ deliver 0 ⇒ "0001000200"
          ∷ deliver 0 ⇒ "0002000100"
          ∷ deliver 0 ⇒ "0002000202"
          ∷ deliver 0 ⇒ "0003000100"
          ∷ start_read 2 3 ⇒ "000003"
          ∷ deliver 1 ⇒ "0004000300"
          ∷ deliver 1 ⇒ "0004000300"
          ∷ deliver 1 ⇒ "0005000200"
          ∷ deliver 1 ⇒ "0005000101"
          ∷ show 2 (room 28) ⇒ "0021020000000000000003000000000000000000000000000000000000"
          ∷ start_read 2 3 ⇒ "000003"
          ∷ deliver 1 ⇒ "0004000300"
          ∷ deliver 1 ⇒ "0004000300"
          ∷ deliver 1 ⇒ "0005000200"
          ∷ deliver 1 ⇒ "0005000101"
          ∷ show 2 (room 28) ⇒ "0021020000000000000003000000010100000007000000010100000008"
          ∷ [];
      after = λ t.
          entry_is (t.latest 0) 1 1 3 && entry_is (t.latest 1) 0 0 0 && entry_is (t.view 2 0) 1 1 3
          && entry_is (t.view 2 1) 1 1 3;
    }

-- ---- Near misses

-- A desk reads its own write though no commit of it has been delivered. Lines 1 and 2 lie in
-- cabinets 1 and 0.
abbrev own_write : Row
own_write =
    record {
      start = freshly (sizes 2 2 3) "00";
      lines =
          start_write 1 6 (value 7 ++ greatest) ⇒ "000002"
          ∷ deliver 0 ⇒ "0001000200"
          ∷ deliver 0 ⇒ "0001000200"
          ∷ deliver 0 ⇒ "0002000100"
          ∷ deliver 0 ⇒ "0002000202"
          ∷ show 1 (room 22) ⇒ "00200100000000000000060000000100000007ffffffff"
          ∷ start_read 1 7 ⇒ "000005"
          ∷ deliver 2 ⇒ "0004000500"
          ∷ deliver 2 ⇒ "0004000500"
          ∷ deliver 2 ⇒ "0004000500"
          ∷ deliver 2 ⇒ "0005000400"
          ∷ deliver 2 ⇒ "0005000300"
          ∷ deliver 2 ⇒ "0005000201"
          ∷ show 1 (room 37) ⇒
          "00210100000000000000070000000000000000000000000101000000070000000101ffffffff"
          ∷ [];
      after = λ t.
          entry_is (t.view 1 1) 1 1 6 && entry_is (t.view 1 2) 1 1 6
          && messages_are t.messages ((3 ∷ 0 ∷ 1 ∷ 1 ∷ []) ∷ (3 ∷ 1 ∷ 1 ∷ 1 ∷ []) ∷ []);
    }

-- A write of which one line is stored and replied is in nobody's view, its writer's included, and
-- in no latest: no read asks for its other line.
abbrev half_stored : Row
half_stored =
    record {
      start = freshly (sizes 2 2 2) "00";
      lines =
          start_write 1 3 (value 7 ++ value 8) ⇒ "000002"
          ∷ deliver 0 ⇒ "0001000200"
          ∷ deliver 1 ⇒ "0002000100"
          ∷ start_read 2 1 ⇒ "000002"
          ∷ deliver 1 ⇒ "0004000200"
          ∷ deliver 1 ⇒ "0005000101"
          ∷ start_read 2 3 ⇒ "000003"
          ∷ deliver 1 ⇒ "0004000300"
          ∷ deliver 1 ⇒ "0004000300"
          ∷ deliver 1 ⇒ "0005000200"
          ∷ deliver 1 ⇒ "0005000101"
          ∷ show 2 (room 28) ⇒ "0021020000000000000003000000000000000000000000000000000000"
          ∷ [];
      after = λ t.
          eqb (length t.versions) 1
          && entry_is (t.latest 0) 0 0 0 && entry_is (t.view 2 0) 0 0 0
          && entry_is (t.view 1 0) 0 0 0 && entry_is (t.view 1 1) 0 0 0;
    }

-- Desk 1's sixth write is later than desk 2's first: a commit of the first that comes late changes
-- no latest. Desk 2's read shows its own write, and brings desk 1's into its view; so its second
-- write is later than both, and its next read shows that.
abbrev late_commit : Row
late_commit =
    record {
      start = on ahead;
      lines =
          start_write 1 1 (value 6) ⇒ "000001"
          ∷ deliver 0 ⇒ "0001000100"
          ∷ deliver 0 ⇒ "0002000102"
          ∷ start_write 2 1 (value 7) ⇒ "000002"
          ∷ deliver 1 ⇒ "0001000200"
          ∷ deliver 1 ⇒ "0002000202"
          ∷ deliver 0 ⇒ "0003000100"
          ∷ deliver 0 ⇒ "0003000000"
          ∷ start_read 2 1 ⇒ "000001"
          ∷ deliver 0 ⇒ "0004000100"
          ∷ deliver 0 ⇒ "0005000001"
          ∷ show 2 (room 19) ⇒ "0021020000000000000001000000010200000007"
          ∷ start_write 2 1 (value 8) ⇒ "000001"
          ∷ deliver 0 ⇒ "0001000100"
          ∷ deliver 0 ⇒ "0002000102"
          ∷ start_read 2 1 ⇒ "000002"
          ∷ deliver 1 ⇒ "0004000200"
          ∷ deliver 1 ⇒ "0005000101"
          ∷ show 2 (room 19) ⇒ "0021020000000000000001000000070200000008"
          ∷ [];
      after = λ t. entry_is (t.latest 0) 6 1 1 && entry_is (t.view 2 0) 7 2 1;
    }

-- ---- Refusals

-- The frame of a one-line write has 18 bytes.
abbrev refusals : Row
refusals =
    record {
      start = on spent;
      lines =
          start_read 0 1 ⇒ "03"
          ∷ start_read 3 0 ⇒ "03"
          ∷ start_read 1 0 ⇒ "05"
          ∷ start_read 1 4 ⇒ "05"
          ∷ start_write 1 0 (value 7) ⇒ "05"
          ∷ start_write 1 3 (value 7) ⇒ "06"
          ∷ start_write 1 1 (value 7) ⇒ "07"
          ∷ deliver 0 ⇒ "0a"
          ∷ show 3 (room 1) ⇒ "03" keeping "ee"
          ∷ show 2 (room 1) ⇒ "0d" keeping "ee"
          ∷ start_write 2 1 (value 7) ⇒ "000001"
          ∷ start_read 2 0 ⇒ "04"
          ∷ start_write 2 0 [] ⇒ "04"
          ∷ show 2 (room 1) ⇒ "04" keeping "ee"
          ∷ deliver 1 ⇒ "0a"
          ∷ deliver 0 ⇒ "0001000100"
          ∷ deliver 0 ⇒ "0002000102"
          ∷ show 2 (room 17) ⇒ "0e" keeping "eeeeeeeeeeeeeeeeeeeeeeeeeeeeeeeeee"
          ∷ show 2 (room 20) ⇒ "00200200000000000000010000000100000007" keeping "eeee"
          ∷ [];
      after = anything;
    }

-- 7, 8 and 9 all apply to the first write, 8 and 9 to the second; once a message is delivered, 9
-- alone
abbrev first_of_several : Row
first_of_several =
    record {
      start = on crowded;
      lines =
          start_write 2 3 (value 5 ++ value 6) ⇒ "07"
          ∷ start_write 1 3 (value 5 ++ value 6) ⇒ "08"
          ∷ deliver 0 ⇒ "0003007e00"
          ∷ start_write 1 3 (value 5 ++ value 6) ⇒ "09"
          ∷ [];
      after = anything;
    }

-- Stray messages. Those that 11 and 12 refuse stay where they are. Gets and commits are delivered
-- whatever their desk does: the get of a version stored twice is answered with the first, its value
-- and its set, and a commit of nothing stored does nothing. At a tie latest keeps its set. The view
-- takes the got's version, which is later than its own entry and the got's latest. The write is
-- shown with the number of its stamp, which isn't its desk's count. The last read asks for the
-- stamp of line 1's entry on both lines: for line 0 by its set, for line 1 as its own.
abbrev strays : Row
strays =
    record {
      start = on strayed;
      lines =
          deliver 0 ⇒ "0b"
          ∷ deliver 1 ⇒ "0b"
          ∷ deliver 2 ⇒ "0b"
          ∷ deliver 3 ⇒ "0b"
          ∷ deliver 4 ⇒ "0b"
          ∷ deliver 5 ⇒ "0b"
          ∷ deliver 6 ⇒ "0b"
          ∷ deliver 7 ⇒ "0c"
          ∷ deliver 8 ⇒ "0004000e00"
          ∷ deliver 8 ⇒ "0004000e00"
          ∷ deliver 8 ⇒ "0003000d00"
          ∷ deliver 8 ⇒ "0003000c00"
          ∷ deliver 8 ⇒ "0005000b01"
          ∷ deliver 8 ⇒ "0002000b02"
          ∷ show 2 (room 19) ⇒ "0021020000000000000001000000010200000008"
          ∷ show 1 (room 22) ⇒ "0020010000000000000003000000010000000700000007"
          ∷ start_read 2 3 ⇒ "00000d"
          ∷ [];
      after = λ t.
          entry_is (t.latest 0) 1 1 1 && entry_is (t.latest 1) 0 0 3 && entry_is (t.view 2 0) 1 2 1
          && messages_are (drop 8 t.messages)
          ((5 ∷ 1 ∷ 1 ∷ 0 ∷ 0 ∷ 0 ∷ 0 ∷ 0 ∷ 0 ∷ 3 ∷ [])
          ∷ (5 ∷ 2 ∷ 0 ∷ 7 ∷ 1 ∷ 1 ∷ 3 ∷ 1 ∷ 1 ∷ 1 ∷ [])
          ∷ (3 ∷ 0 ∷ 1 ∷ 1 ∷ [])
          ∷ (4 ∷ 2 ∷ 0 ∷ 2 ∷ 1 ∷ [])
          ∷ (4 ∷ 2 ∷ 1 ∷ 2 ∷ 1 ∷ [])
          ∷ []);
    }

-- 1 comes before every other, on tables with any one fault
abbrev out_of_range : Row
out_of_range =
    record {
      start = on_each faults;
      lines = start_read 1 1 ⇒ "01" ∷ start_fast_read 1 1 ⇒ "01" ∷ start_write 9 0 [] ⇒ "01"
          ∷ start_mixed 9 0 0 [] ⇒ "01"
          ∷ deliver 0 ⇒ "01"
          ∷ show 1 (room 1) ⇒ "01" keeping "ee" ∷ clear ⇒ "01" ∷ hand_over 1 1 ⇒ "01"
          ∷ compare 9 9 ⇒ "01" ∷ check ⇒ "01" ∷ [];
      after = anything;
    }

-- ---- The table

abbrev rows : List Row
rows =
    fresh_largest
    ∷ fresh_too_large
    ∷ load_two_fit
    ∷ load_two_too_many
    ∷ versions_two_fit
    ∷ versions_two_too_many
    ∷ asks_sibling
    ∷ asks_greater_client
    ∷ asks_later_entry
    ∷ asks_earlier_entry
    ∷ asks_past_the_set
    ∷ whole_session
    ∷ own_write
    ∷ half_stored
    ∷ late_commit
    ∷ refusals
    ∷ first_of_several
    ∷ strays
    ∷ out_of_range
    ∷ numbers ++ (falls ++ (widest ++ (clearings ++ (hand_overs ++ (fasts ++ (mixes
    ++ (checks ++ pinned)))))))

pub examples : all right rows ≡ true
unfolding all right failing
examples = refl

pub far-examples : all (λ b. b) far ≡ true
unfolding all done shows ranged failing
far-examples = refl
