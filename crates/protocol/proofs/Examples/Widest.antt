-- Rows on the widest write (document 02, P4): 17 for a write set of more than 12 items, after 6 and
-- before 7. Nothing else has that limit: reads take 64 items, and wider sets are in range.
use mathlib.Core.Bool.{◌&&◌}
use mathlib.Core.List.{List, [], ◌∷◌}
use Prim.Native.Nat.{ℕ, zero, suc, ◌+◌, ◌-◌, ◌*◌, ◌^◌}
use lib.ListN.{replicate}
use Rattle.protocol.specs.declared.Version.{Version}
use Rattle.protocol.specs.declared.Message.TheVariants.{Prepare, Prepared, Commit, Get, Got}
use Rattle.protocol.specs.Tables.{Tables, fresh, initial, nothing, resting, stamp_of, put}
use Rattle.protocol.specs.Tables.{with_client, with_view, with_latest, with_versions}
use Rattle.protocol.specs.Tables.{with_messages}
use Rattle.protocol.specs.Calls.{start_read, start_fast_read, start_write, deliver, show}
use Rattle.protocol.proofs.Examples.Table.{Row, freshly, on, on_each, ◌⇒◌, anything, entry_is}
use Rattle.protocol.proofs.Examples.Begin.{sizes, entry, version, reader, writer, write_of}

-- the first n items, and n values
abbrev items : ℕ → ℕ
items n = 2 ^ n - 1

abbrev values : ℕ → List ℕ
values n = replicate (4 * n) 0

-- ---- Twelve items and no more

-- twelve from either end of thirteen; and thirteen for a read, ordinary or fast. Counting takes as
-- many turns as the set's number says where it is computed, so rows have low items.
abbrev twelve : Row
twelve =
    record {
      start = freshly (sizes 8 8 64) "00";
      lines =
          start_write 1 (items 13) (values 13) ⇒ "11"
          ∷ start_write 1 (items 12) (values 12) ⇒ "00000c"
          ∷ start_write 2 (items 13 - 1) (values 12) ⇒ "000018"
          ∷ start_read 3 (items 13) ⇒ "000025"
          ∷ start_fast_read 4 (items 13) ⇒ "000032"
          ∷ [];
      after = anything;
    }

-- ---- The order of the tests

-- Each of these writes has more than twelve items; all but the one refused by 17 lack one thing
-- that an earlier test asks for: the desk exists, its lines do, each has its value and there is no
-- other, it is idle.
abbrev after_six : Row
after_six =
    record {
      start = freshly (sizes 1 1 13) "00";
      lines =
          start_write 2 (items 13) (values 13) ⇒ "03"
          ∷ start_write 1 (items 14) (values 14) ⇒ "05"
          ∷ start_write 1 (items 13) (values 12) ⇒ "06"
          ∷ start_write 1 (items 13) (values 14) ⇒ "06"
          ∷ start_write 1 (items 13) (values 13) ⇒ "11"
          ∷ start_read 1 1 ⇒ "000001"
          ∷ start_write 1 (items 13) (values 13) ⇒ "04"
          ∷ [];
      after = anything;
    }

-- desk 1 has no number left, and there is room for no message and no version
abbrev full : Tables
full = with_versions (with_messages (with_client (fresh (sizes 2 1 13)) 1 (resting 4294967295 nothing))
    (replicate 128 (Commit 0 (stamp_of 1 1)))) (replicate 512 (version 0 7 1 1 1))

abbrev before_seven : Row
before_seven =
    record {
      start = on full;
      lines =
          start_write 1 (items 13) (values 13) ⇒ "11"
          ∷ start_write 1 (items 12) (values 12) ⇒ "07"
          ∷ start_write 2 (items 13) (values 13) ⇒ "11"
          ∷ start_write 2 (items 12) (values 12) ⇒ "08"
          ∷ start_read 2 (items 13) ⇒ "08"
          ∷ deliver 0 ⇒ "0003007f00"
          ∷ start_write 2 1 (values 1) ⇒ "09"
          ∷ [];
      after = anything;
    }

-- ---- Wider sets in the tables

abbrev wide : ℕ
wide = items 20

abbrev sheet : Tables
sheet = fresh (sizes 2 1 20)

-- wherever a set may lie
abbrev wide_sets : Row
wide_sets =
    record {
      start = on_each
          (with_latest sheet (put (λ k. initial) 19 (entry 1 2 wide))
          ∷ with_view sheet 1 (put (λ k. initial) 19 (entry 1 2 wide))
          ∷ with_versions sheet (version 19 7 1 2 wide ∷ [])
          ∷ with_messages sheet (Prepare (version 19 7 1 2 wide) ∷ [])
          ∷ with_messages sheet (Got 2 (version 19 0 0 0 0) (entry 1 2 wide) ∷ [])
          ∷ with_messages sheet (Got 2 (version 19 7 1 2 wide) initial ∷ [])
          ∷ with_client sheet 2 (writer (items 13) (items 13) (stamp_of 1 2) 7)
          ∷ with_client sheet 2 (resting 1 (write_of wide (stamp_of 1 2) (λ k. 7)))
          ∷ []);
      lines = start_write 1 1 (values 2) ⇒ "06" ∷ start_write 1 (items 13) (values 13) ⇒ "11" ∷ [];
      after = anything;
    }

-- Desk 2 wrote twenty lines before there was a limit, of which desk 1 knows nothing: its first read
-- learns of it, its second shows it. Of the twenty versions two stand here, those that are read.
abbrev wide_write_shown : Row
wide_write_shown =
    record {
      start = on (with_latest (with_versions sheet (version 0 7 1 2 wide ∷ version 1 8 1 2 wide ∷ []))
          (put (λ k. initial) 0 (entry 1 2 wide)));
      lines =
          start_read 1 1 ⇒ "000001"
          ∷ deliver 0 ⇒ "0004000100"
          ∷ deliver 0 ⇒ "0005000001"
          ∷ start_read 1 3 ⇒ "000002"
          ∷ deliver 0 ⇒ "0004000200"
          ∷ deliver 0 ⇒ "0004000200"
          ∷ deliver 0 ⇒ "0005000100"
          ∷ deliver 0 ⇒ "0005000001"
          ∷ show 1 (replicate 28 0)
          ⇒ "0021010000000000000003000000010200000007000000010200000008"
          ∷ [];
      after = λ t. entry_is (t.view 1 0) 1 2 wide;
    }

-- Desk 2 is writing thirteen lines, and awaits the last reply: the write ends and is committed.
abbrev stored_of : ℕ → List Version
stored_of zero = []
stored_of (suc n) = version n 7 1 2 (items 13) ∷ stored_of n

abbrev wide_write_ends : Row
wide_write_ends =
    record {
      start = on (with_messages (with_versions (with_client sheet 2
          (writer (items 13) (2 ^ 12) (stamp_of 1 2) 7)) (stored_of 13))
          (Prepared 12 (stamp_of 1 2) ∷ []));
      lines = deliver 0 ⇒ "0002000102" ∷ deliver 0 ⇒ "0003000000" ∷ [];
      after = λ t. entry_is (t.latest 12) 1 2 (items 13) && entry_is (t.view 2 0) 1 2 (items 13);
    }

-- Desk 2 is reading thirteen lines, and awaits the last two: the read goes on, ends, and may be
-- repeated.
abbrev wide_read_ends : Row
wide_read_ends =
    record {
      start = on (with_messages (with_client sheet 2 (reader (items 13) (2 ^ 11 + 2 ^ 12) 0 0))
          (Got 2 (version 11 0 0 0 0) initial ∷ Get 2 12 0 ∷ []));
      lines =
          deliver 0 ⇒ "0005000100"
          ∷ deliver 0 ⇒ "0004000100"
          ∷ deliver 0 ⇒ "0005000001"
          ∷ start_read 2 (items 13) ⇒ "00000d"
          ∷ [];
      after = anything;
    }

abbrev pub widest : List Row
widest = twelve ∷ after_six ∷ before_seven ∷ wide_sets ∷ wide_write_shown ∷ wide_write_ends ∷ wide_read_ends
    ∷ []
