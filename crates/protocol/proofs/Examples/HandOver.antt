-- Rows on handing over (document 02, P6): which entries the receiver takes and what stays, chains
-- of hand-overs, the order of the refusals, and the comparison's four answers.
use mathlib.Core.Bool.{Bool, true, ◌&&◌}
use mathlib.Core.List.{List, [], ◌∷◌}
use Prim.Native.Nat.{ℕ, suc}
use Prim.Native.String.{String}
use lib.Dec.{eqb}
use lib.ListN.{get_or}
use Rattle.protocol.specs.declared.Entry.{Entry}
use Rattle.protocol.specs.Tables.{Tables, Client, nothing, initial, fresh, resting}
use Rattle.protocol.specs.Tables.{with_client, with_view}
use Rattle.protocol.specs.Calls.{start_read, start_write, deliver, show, clear, hand_over}
use Rattle.protocol.specs.Calls.{compare}
use Rattle.protocol.proofs.Examples.Table.{Row, freshly, on, on_each, ◌⇒◌, value}
use Rattle.protocol.proofs.Examples.Table.{room, versions_are}
use Rattle.protocol.proofs.Examples.Begin.{sizes, entry, reader, writer, both}

-- a view with these entries on its first lines, and whether one has them
abbrev view_of : List Entry → ℕ → Entry
view_of es k = get_or es k initial

abbrev view_is : (ℕ → Entry) → ℕ → List Entry → Bool
view_is view k [] = true
view_is view k (e ∷ es) = eqb (view k).stamp e.stamp && eqb (view k).set e.set
    && view_is view (suc k) es

-- ---- What the receiver takes

-- Desk 1 gives, with count 5: of lines 0 and 1 it has the later entry, by the number and by the
-- writing desk, of lines 2 and 3 the earlier one. Of line 4 both have one stamp with different
-- sets, of line 5 the initial one, which only damaged tables hold with a set. Desk 3 has no part in
-- it.
abbrev giving : List Entry
giving = entry 2 1 9 ∷ entry 1 3 6 ∷ entry 1 1 4 ∷ entry 1 1 8 ∷ entry 3 1 16 ∷ entry 0 0 32 ∷ []

abbrev receiving : List Entry
receiving = entry 1 2 1 ∷ entry 1 2 2 ∷ entry 2 1 4 ∷ entry 1 2 8 ∷ entry 3 1 48 ∷ initial ∷ []

abbrev apart : List Entry
apart = entry 9 3 1 ∷ initial ∷ entry 9 3 4 ∷ []

abbrev shift : Tables
shift =
    with_view (with_view (with_view (with_client (fresh (sizes 3 1 6)) 1 (resting 5 nothing)) 1
    (view_of giving)) 2 (view_of receiving)) 3 (view_of apart)

-- It takes the later of both, at a tie its own with its own set; the others' views stay, and so do
-- the counts. No transaction has ended.
abbrev taken : Row
taken =
    record {
      start = on shift;
      lines = hand_over 1 2 ⇒ "00220102" ∷ show 2 (room 0) ⇒ "0d" ∷ compare 1 2 ⇒ "0001" ∷ [];
      after = λ t.
          view_is (t.view 1) 0 giving
          && view_is (t.view 2) 0
          (entry 2 1 9 ∷ entry 1 3 6 ∷ entry 2 1 4 ∷ entry 1 2 8 ∷ entry 3 1 48 ∷ initial ∷ [])
          && view_is (t.view 3) 0 apart
          && eqb (t.client 1).count 5
          && eqb (t.client 2).count 0;
    }

-- ---- Refusals: 1, 3 for either, 18, 4 for either

-- while desk 2 reads, or writes, or does both and awaits a reply of one kind alone
abbrev busy : Client → Tables
busy c = with_client shift 2 c

abbrev reading : ℕ → Client
reading awaited = reader 1 awaited 0 0

abbrev writing : ℕ → Client
writing awaited = writer 1 awaited (entry 1 2 1).stamp 7

-- 18 comes before 4, and 3 before both; nothing changes. A comparison lets desks be busy and equal.
abbrev not_taken : Row
not_taken =
    record {
      start = on_each (busy (reading 1) ∷ busy (writing 1) ∷ busy (both (reading 1) (writing 0))
          ∷ busy (both (reading 0) (writing 1)) ∷ []);
      lines =
          hand_over 1 2 ⇒ "04"
          ∷ hand_over 2 1 ⇒ "04"
          ∷ hand_over 2 2 ⇒ "12"
          ∷ hand_over 1 1 ⇒ "12"
          ∷ hand_over 4 4 ⇒ "03"
          ∷ hand_over 0 0 ⇒ "03"
          ∷ hand_over 4 2 ⇒ "03"
          ∷ hand_over 2 4 ⇒ "03"
          ∷ hand_over 1 0 ⇒ "03"
          ∷ compare 4 4 ⇒ "03"
          ∷ compare 0 1 ⇒ "03"
          ∷ compare 1 4 ⇒ "03"
          ∷ compare 2 2 ⇒ "0000"
          ∷ compare 1 2 ⇒ "0003"
          ∷ hand_over 1 3 ⇒ "00220103"
          ∷ [];
      after = λ t. view_is (t.view 1) 0 giving && view_is (t.view 2) 0 receiving
          && view_is (t.view 3) 0 (entry 9 3 1 ∷ entry 1 3 6 ∷ entry 9 3 4 ∷ entry 1 1 8 ∷ []);
    }

-- ---- Comparisons

-- of two views of lines 0 and 1, each with the other and with itself; no view changes
abbrev stands : List Entry → List Entry → String → String → Row
stands es fs one other =
    record {
      start = on (with_view (with_view (fresh (sizes 2 1 2)) 1 (view_of es)) 2 (view_of fs));
      lines =
          compare 1 2 ⇒ one
          ∷ compare 2 1 ⇒ other
          ∷ compare 1 1 ⇒ "0000"
          ∷ compare 2 2 ⇒ "0000"
          ∷ [];
      after = λ t. view_is (t.view 1) 0 es && view_is (t.view 2) 0 fs;
    }

-- By stamps alone: sets don't count, nor does a line that doesn't exist.
abbrev same : Row
same =
    stands (entry 1 1 1 ∷ entry 2 2 2 ∷ entry 9 1 1 ∷ [])
    (entry 1 1 3 ∷ entry 2 2 0 ∷ entry 8 1 1 ∷ []) "0000" "0000"

-- Behind at the first line, or at the last; by the number before the writing desk.
abbrev behind_first : Row
behind_first = stands (entry 1 2 1 ∷ entry 1 1 2 ∷ []) (entry 2 1 1 ∷ entry 1 1 2 ∷ []) "0001" "0002"

abbrev behind_last : Row
behind_last = stands (entry 1 1 1 ∷ entry 1 1 2 ∷ []) (entry 1 1 1 ∷ entry 1 2 2 ∷ []) "0001" "0002"

abbrev behind_both : Row
behind_both = stands [] (entry 1 1 1 ∷ entry 1 2 2 ∷ []) "0001" "0002"

abbrev neither : Row
neither = stands (entry 1 1 1 ∷ entry 9 1 2 ∷ []) (entry 2 1 1 ∷ entry 1 1 2 ∷ []) "0003" "0003"

-- ---- Chains

-- Desk 1's write has ended, its commit is in the pile. By way of desk 2 desk 3 takes over, reads
-- it, and its next write is later.
abbrev handed_on : Row
handed_on =
    record {
      start = freshly (sizes 3 1 1) "00";
      lines =
          start_write 1 1 (value 7) ⇒ "000001"
          ∷ deliver 0 ⇒ "0001000100"
          ∷ deliver 0 ⇒ "0002000102"
          ∷ compare 3 1 ⇒ "0001"
          ∷ hand_over 1 2 ⇒ "00220102"
          ∷ hand_over 2 3 ⇒ "00220203"
          ∷ compare 3 1 ⇒ "0000"
          ∷ start_read 3 1 ⇒ "000002"
          ∷ deliver 1 ⇒ "0004000200"
          ∷ deliver 1 ⇒ "0005000101"
          ∷ show 3 (room 19) ⇒ "0021030000000000000001000000010100000007"
          ∷ start_write 3 1 (value 9) ⇒ "000002"
          ∷ deliver 1 ⇒ "0001000200"
          ∷ deliver 1 ⇒ "0002000202"
          ∷ show 3 (room 18) ⇒ "00200300000000000000010000000200000009"
          ∷ [];
      after = λ t.
          view_is (t.view 1) 0 (entry 1 1 1 ∷ [])
          && view_is (t.view 2) 0 (entry 1 1 1 ∷ [])
          && view_is (t.view 3) 0 (entry 2 3 1 ∷ []);
    }

-- In the other order desk 3 takes over nothing; nor does a desk what its giver writes later.
abbrev too_early : Row
too_early =
    record {
      start = freshly (sizes 3 1 1) "00";
      lines =
          hand_over 1 3 ⇒ "00220103"
          ∷ start_write 1 1 (value 7) ⇒ "000001"
          ∷ deliver 0 ⇒ "0001000100"
          ∷ deliver 0 ⇒ "0002000102"
          ∷ hand_over 2 3 ⇒ "00220203"
          ∷ hand_over 1 2 ⇒ "00220102"
          ∷ start_read 3 1 ⇒ "000002"
          ∷ deliver 1 ⇒ "0004000200"
          ∷ deliver 1 ⇒ "0005000101"
          ∷ show 3 (room 19) ⇒ "0021030000000000000001000000000000000000"
          ∷ [];
      after = λ t. view_is (t.view 2) 0 (entry 1 1 1 ∷ []) && view_is (t.view 3) 0 (initial ∷ []);
    }

-- What a desk has taken over is in its view: a clearing spares it, though the giver has gone on.
abbrev taken_spares : Row
taken_spares =
    record {
      start = freshly (sizes 2 1 1) "00";
      lines =
          start_write 1 1 (value 7) ⇒ "000001"
          ∷ deliver 0 ⇒ "0001000100"
          ∷ deliver 0 ⇒ "0002000102"
          ∷ deliver 0 ⇒ "0003000000"
          ∷ hand_over 1 2 ⇒ "00220102"
          ∷ start_write 1 1 (value 8) ⇒ "000001"
          ∷ deliver 0 ⇒ "0001000100"
          ∷ deliver 0 ⇒ "0002000102"
          ∷ deliver 0 ⇒ "0003000000"
          ∷ clear ⇒ "000000"
          ∷ hand_over 1 2 ⇒ "00220102"
          ∷ clear ⇒ "000001"
          ∷ [];
      after = λ t. versions_are t.versions ((0 ∷ 8 ∷ 2 ∷ 1 ∷ 1 ∷ []) ∷ []);
    }

abbrev pub hand_overs : List Row
hand_overs =
    taken ∷ not_taken ∷ same ∷ behind_first ∷ behind_last ∷ behind_both ∷ neither ∷ handed_on ∷ too_early
    ∷ taken_spares ∷ []
