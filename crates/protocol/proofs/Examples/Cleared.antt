-- Rows on clearing (document 02, P5): which stamps spare a stored version, the order of what stays,
-- how many went, and the places freed.
use mathlib.Core.List.{List, [], ◌∷◌, ◌++◌}
use Prim.Native.Nat.{ℕ}
use Rattle.protocol.specs.declared.Message.{Message}
use Rattle.protocol.specs.declared.Entry.{Entry}
use Rattle.protocol.specs.declared.Message.TheVariants.{Prepare, Prepared, Commit, Get, Got}
use Rattle.protocol.specs.declared.Message.TheVariants.{FirstReply}
use Rattle.protocol.specs.Tables.{Tables, Client, initial, nothing, fresh, resting, stamp_of}
use Rattle.protocol.specs.Tables.{put, with_client, with_view, with_latest, with_versions}
use Rattle.protocol.specs.Tables.{with_messages, with_write}
use Rattle.protocol.specs.Calls.{start_read, start_write, deliver, show, clear}
use Rattle.protocol.proofs.Examples.Table.{Row, freshly, on, on_each, ◌⇒◌, value}
use Rattle.protocol.proofs.Examples.Table.{room, versions_are}
use Rattle.protocol.proofs.Examples.Begin.{strayed}
use Rattle.protocol.proofs.Examples.Begin.{sizes, entry, version, reader, writer, read_of}
use Rattle.protocol.proofs.Examples.Begin.{fast_of, write_of, holding, fast_part, fast_reader}
use Rattle.protocol.proofs.Examples.Begin.{first_part, second_part}

-- ---- What spares, and what doesn't

-- Four versions. The second and the third are of one write, of lines 0 and 1: number 2, desk 1. The
-- first has that desk, the last that number.
abbrev stock : Tables
stock =
    with_versions (fresh (sizes 2 2 2))
    (version 0 6 1 1 1 ∷ version 0 7 2 1 3 ∷ version 1 8 2 1 3 ∷ version 1 9 2 2 2 ∷ [])

-- that write's stamp is in the view of desk d, or in latest, at line k
abbrev seen_by : ℕ → ℕ → Tables
seen_by d k = with_view stock d (put (λ j. initial) k (entry 2 1 3))

abbrev latest_at : ℕ → Tables
latest_at k = with_latest stock (put (λ j. initial) k (entry 2 1 3))

abbrev in_flight : Message → Tables
in_flight m = with_messages stock (Commit 0 (stamp_of 9 2) ∷ m ∷ [])

-- and for line k in the first replies that a desk keeps
abbrev kept_at : ℕ → ℕ → Entry
kept_at k = put (λ j. initial) k (entry 2 1 3)

abbrev with_second : Client → Tables
with_second c = with_client stock 2 c

abbrev written_by : ℕ → Tables
written_by d = with_client stock d (writer 3 1 (stamp_of 2 1) 7)

-- Its stamp in any one of these places spares it, on both lines, and nothing else: any view, any
-- latest, any message, also of the other line or of none, and a write under way. A got and a first
-- reply hold two. So does a first reply that has come, until its read ends: in the second part also
-- of a line that is awaited again, or whose second answer has come.
abbrev spared : Row
spared =
    record {
      start = on_each
          (seen_by 1 0 ∷ seen_by 1 1 ∷ seen_by 2 0 ∷ seen_by 2 1 ∷ latest_at 0 ∷ latest_at 1
          ∷ in_flight (Prepare (version 1 8 2 1 3))
          ∷ in_flight (Prepared 1 (stamp_of 2 1))
          ∷ in_flight (Commit 1 (stamp_of 2 1))
          ∷ in_flight (Get 2 1 (stamp_of 2 1))
          ∷ in_flight (Got 2 (version 1 8 2 1 3) initial)
          ∷ in_flight (Got 2 (version 1 0 0 0 0) (entry 2 1 3))
          ∷ in_flight (FirstReply 2 (version 1 8 2 1 3) initial)
          ∷ in_flight (FirstReply 2 (version 1 0 0 0 0) (entry 2 1 3))
          ∷ written_by 1 ∷ written_by 2
          ∷ with_second (first_part 3 2 (kept_at 0) 7)
          ∷ with_second (second_part 3 2 (λ k. 0) (kept_at 0) 7)
          ∷ with_second (second_part 3 2 (λ k. 0) (kept_at 1) 7)
          ∷ with_second (second_part 3 1 (λ k. 0) (kept_at 1) 7)
          ∷ []);
      lines = clear ⇒ "000002" ∷ clear ⇒ "000000" ∷ [];
      after = λ t. versions_are t.versions
          ((0 ∷ 7 ∷ 2 ∷ 1 ∷ 3 ∷ []) ∷ (1 ∷ 8 ∷ 2 ∷ 1 ∷ 3 ∷ []) ∷ []);
    }

-- Number and desk count, each with the other. The view's entry is of line 0 and its set has that
-- alone, and what it spares is of line 1; of the latest's the other way round.
abbrev others_spared : Row
others_spared =
    record {
      start = on (with_latest (with_view stock 2 (put (λ k. initial) 0 (entry 2 2 1)))
          (put (λ k. initial) 1 (entry 1 1 2)));
      lines = clear ⇒ "000002" ∷ [];
      after = λ t. versions_are t.versions
          ((0 ∷ 6 ∷ 1 ∷ 1 ∷ 1 ∷ []) ∷ (1 ∷ 9 ∷ 2 ∷ 2 ∷ 2 ∷ []) ∷ []);
    }

-- These don't spare: a desk's last transaction, of any kind; a stamp asked for, with no message; an
-- idle desk's stamp; what stands for the first reply of a line that is still awaited in the first
-- part, or isn't read, or of an ordinary read; views and latest of desks and lines that don't
-- exist.
abbrev not_spared : Row
not_spared =
    record {
      start = on_each
          (with_second (resting 2 (write_of 3 (stamp_of 2 1) (λ k. 7)))
          ∷ with_second (resting 2 (read_of 3 (λ k. stamp_of 2 1) (λ k. 7)))
          ∷ with_second (resting 2 (fast_of 3 (λ k. stamp_of 2 1) (λ k. 7)))
          ∷ with_second (reader 3 3 (stamp_of 2 1) 0)
          ∷ with_second (second_part 3 2 (λ k. stamp_of 2 1) (λ k. initial) 7)
          ∷ with_second (first_part 3 2 (kept_at 1) 7)
          ∷ with_second (second_part 1 1 (λ k. 0) (kept_at 1) 7)
          ∷ with_second (fast_reader (fast_part 0 3 2 (λ k. 0) (kept_at 0) (λ k. 7)))
          ∷ with_second (with_write (resting 2 nothing) (writer 0 0 (stamp_of 2 1) 7).write)
          ∷ seen_by 0 0 ∷ seen_by 3 0 ∷ seen_by 1 2 ∷ latest_at 2
          ∷ []);
      lines = clear ⇒ "000004" ∷ [];
      after = λ t. versions_are t.versions [];
    }

-- Nor does a message's set count, here of line 1 alone, or that of a write under way, here of line
-- 0: both versions are spared.
abbrev whole_spared : Row
whole_spared =
    record {
      start = on_each
          (in_flight (Prepare (version 1 8 2 1 2))
          ∷ in_flight (Got 2 (version 1 8 2 1 2) initial)
          ∷ in_flight (Got 2 (version 1 0 0 0 0) (entry 2 1 2))
          ∷ with_second (writer 1 1 (stamp_of 2 1) 7)
          ∷ []);
      lines = clear ⇒ "000002" ∷ [];
      after = λ t. versions_are t.versions
          ((0 ∷ 7 ∷ 2 ∷ 1 ∷ 3 ∷ []) ∷ (1 ∷ 8 ∷ 2 ∷ 1 ∷ 3 ∷ []) ∷ []);
    }

-- A write of a desk that doesn't exist spares nothing.
abbrev absent_writer : Row
absent_writer =
    record {
      start = on (written_by 3);
      lines = clear ⇒ "000004" ∷ [];
      after = λ t. versions_are t.versions [];
    }

-- Desks are busy, messages that 11 and 12 refuse are in flight, and of two versions that are alike
-- a read meets the first alone: a clearing is accepted all the same, and leaves both.
abbrev alike_stay : Row
alike_stay =
    record {
      start = on strayed;
      lines = deliver 0 ⇒ "0b" ∷ deliver 7 ⇒ "0c" ∷ clear ⇒ "000000" ∷ [];
      after = λ t. versions_are t.versions
          ((0 ∷ 7 ∷ 1 ∷ 1 ∷ 3 ∷ []) ∷ (0 ∷ 9 ∷ 1 ∷ 1 ∷ 1 ∷ []) ∷ []);
    }

-- ---- A read whose entries are cleared away behind it

-- Desk 1 writes lines 0 and 1. Desk 2, which has seen that write on line 0, reads both lines, and
-- meanwhile desk 1 writes each anew. Once the reply for line 0 has come, the old write is in no
-- view and no latest: the get of line 1 spares it, and then its got. The read ends, and the old
-- write is cleared away; it is shown all the same. The next read shows the new ones.
abbrev overtaken : Row
overtaken =
    record {
      start = freshly (sizes 2 2 2) "00";
      lines =
          start_write 1 3 (value 7 ++ value 8) ⇒ "000002"
          ∷ deliver 0 ⇒ "0001000200"
          ∷ deliver 0 ⇒ "0001000200"
          ∷ deliver 0 ⇒ "0002000100"
          ∷ clear ⇒ "000000"
          ∷ deliver 0 ⇒ "0002000202"
          ∷ deliver 0 ⇒ "0003000100"
          ∷ deliver 0 ⇒ "0003000000"
          ∷ start_read 2 1 ⇒ "000001"
          ∷ deliver 0 ⇒ "0004000100"
          ∷ deliver 0 ⇒ "0005000001"
          ∷ start_read 2 3 ⇒ "000002"
          ∷ start_write 1 1 (value 9) ⇒ "000003"
          ∷ deliver 2 ⇒ "0001000300"
          ∷ deliver 2 ⇒ "0002000302"
          ∷ deliver 2 ⇒ "0003000200"
          ∷ start_write 1 2 (value 5) ⇒ "000003"
          ∷ deliver 2 ⇒ "0001000300"
          ∷ deliver 2 ⇒ "0002000302"
          ∷ deliver 2 ⇒ "0003000200"
          ∷ deliver 0 ⇒ "0004000200"
          ∷ deliver 1 ⇒ "0005000100"
          ∷ clear ⇒ "000000"
          ∷ deliver 0 ⇒ "0004000100"
          ∷ clear ⇒ "000000"
          ∷ deliver 0 ⇒ "0005000001"
          ∷ clear ⇒ "000002"
          ∷ show 2 (room 28) ⇒ "0021020000000000000003000000010100000007000000010100000008"
          ∷ start_read 2 3 ⇒ "000002"
          ∷ deliver 0 ⇒ "0004000200"
          ∷ deliver 0 ⇒ "0004000200"
          ∷ deliver 0 ⇒ "0005000100"
          ∷ deliver 0 ⇒ "0005000001"
          ∷ show 2 (room 28) ⇒ "0021020000000000000003000000020100000009000000030100000005"
          ∷ [];
      after = λ t. versions_are t.versions
          ((0 ∷ 9 ∷ 2 ∷ 1 ∷ 1 ∷ []) ∷ (1 ∷ 5 ∷ 3 ∷ 1 ∷ 2 ∷ []) ∷ []);
    }

-- ---- The freed places

-- Of 511 versions line 0's latest spares one: 510 go, and the write that 9 refused has its places.
abbrev freed : Row
freed =
    record {
      start = on (with_latest (holding 511) (put (λ k. initial) 0 (entry 9 1 1)));
      lines =
          start_write 1 3 (value 5 ++ value 6) ⇒ "09"
          ∷ clear ⇒ "0001fe"
          ∷ start_write 1 3 (value 5 ++ value 6) ⇒ "000002"
          ∷ clear ⇒ "000000"
          ∷ [];
      after = λ t. versions_are t.versions ((0 ∷ 7 ∷ 9 ∷ 1 ∷ 1 ∷ []) ∷ []);
    }

abbrev pub clearings : List Row
clearings =
    spared ∷ others_spared ∷ not_spared ∷ whole_spared ∷ absent_writer ∷ alike_stay ∷ overtaken ∷ freed
    ∷ []
