-- The verdict on a log, row by row, from the log's bytes through the whole definition: document
-- 01's log examples (★) and others, each answer worked out by hand.
use mathlib.Core.Bool.{Bool, true, false, ◌&&◌}
use mathlib.Core.List.{List, [], ◌∷◌, ◌++◌}
use mathlib.Core.Path.{◌≡◌, refl}
use Prim.Native.Nat.{ℕ}
use lib.Count.{ones_in}
use lib.Dec.{eqb}
use Rattle.basics.specs.Lists.{all, counted, every}
use Rattle.hexadecimal.specs.Digit.{digit, pair, hex_digit}
use Rattle.hexadecimal.specs.Line.{line_length}
use Rattle.hexadecimal.specs.Number.{number_at, big_endian}
use Rattle.hexadecimal.specs.Text.{is_hex, hex_text}
use Rattle.itemset.specs.Set.{has, insert}
use Rattle.log_format.specs.Some.{some, some_from, first_from}
use Rattle.log_format.specs.Log.{too_long, lines_of, frame_of, written, written_stamp, write_at}
use Rattle.log_format.specs.Log.{written_value, shown, shown_stamp, shown_value, end_of, write_shaped, shaped}
use Rattle.log_format.specs.Log.{read_shaped, hand_over_shaped, entries_whole, reaches, malformed}
use Rattle.log_format.proofs.Rows.{line, part, times}
use Rattle.findings.specs.Findings.{wrote, is_unwritten, behind, fractures, with_heir, owners}
use Rattle.findings.specs.Findings.{outdates, misses_at, holds_at}
use Rattle.findings.specs.Findings.{lowest, judged, checked, verdict, bytes_of, number_of}
use Rattle.findings.specs.declared.Verdict.TheVariants.{TooLong, Malformed, Judged}

pub record Row : Type 0 where
  pub log : List ℕ
  -- the verdict's bytes
  pub answer : List ℕ

-- ---- ★ Document 01's examples

-- the empty log
abbrev pub empty_log : Row
empty_log = record { log = []; answer = 0x00 ∷ 0x00 ∷ 0x00 ∷ 0x00 ∷ [] }

-- a write of {0, 1}, number 1, by desk 1; a read by desk 2 with line 0 from it and line 1 initial
abbrev pub half_shown : Row
half_shown =
    record {
      log =
          line 22 0x2001_0000000000000003_00000001_00000007_00000008
          ++ line 28 0x2102_0000000000000003_00000001_01_00000007_00000000_00_00000000;
      answer = 0x00 ∷ 0x02 ∷ 0x00 ∷ 0x02 ∷ [];
    }

-- the same, both from the write
abbrev pub all_shown : Row
all_shown =
    record {
      log =
          line 22 0x2001_0000000000000003_00000001_00000007_00000008
          ++ line 28 0x2102_0000000000000003_00000001_01_00000007_00000001_01_00000008;
      answer = 0x00 ∷ 0x00 ∷ 0x00 ∷ 0x00 ∷ [];
    }

-- ---- The table

rows : List Row
rows =
    empty_log
    ∷ half_shown
    ∷ all_shown
    -- the same, both initial, read by another desk
    ∷ record {
      log =
          line 22 0x2001_0000000000000003_00000001_00000007_00000008
          ++ line 28 0x2102_0000000000000003_00000000_00_00000000_00000000_00_00000000;
      answer = 0x00 ∷ 0x00 ∷ 0x00 ∷ 0x00 ∷ [];
    }
    -- the same, both initial, read by the writing desk
    ∷ record {
      log =
          line 22 0x2001_0000000000000003_00000001_00000007_00000008
          ++ line 28 0x2101_0000000000000003_00000000_00_00000000_00000000_00_00000000;
      answer = 0x00 ∷ 0x03 ∷ 0x00 ∷ 0x02 ∷ [];
    }
    -- a tie, where the desk decides: desk 2 wrote lines 0 and 1 as number 1, desk 1 wrote line 1
    -- as number 1, and desk 3 shows line 0 from desk 2 and line 1 from desk 1
    ∷ record {
      log =
          line 22 0x2002_0000000000000003_00000001_00000007_00000008
          ++ line 18 0x2001_0000000000000002_00000001_00000009
          ++ line 28 0x2103_0000000000000003_00000001_02_00000007_00000001_01_00000009;
      answer = 0x00 ∷ 0x02 ∷ 0x00 ∷ 0x03 ∷ [];
    }
    -- the same where desk 1 wrote both and desk 2 the one that is shown: later, so whole
    ∷ record {
      log =
          line 22 0x2001_0000000000000003_00000001_00000007_00000008
          ++ line 18 0x2002_0000000000000002_00000001_00000009
          ++ line 28 0x2103_0000000000000003_00000001_01_00000007_00000001_02_00000009;
      answer = 0x00 ∷ 0x00 ∷ 0x00 ∷ 0x00 ∷ [];
    }
    -- an entry stands by its place in the set, not by its line: a write of {1, 3}, read whole, in
    -- part and fractured
    ∷ record {
      log =
          line 22 0x2001_000000000000000a_00000001_00000007_00000008
          ++ line 28 0x2102_000000000000000a_00000001_01_00000007_00000001_01_00000008
          ++ line 19 0x2102_0000000000000008_00000001_01_00000008
          ++ line 28 0x2102_000000000000000a_00000001_01_00000007_00000000_00_00000000;
      answer = 0x00 ∷ 0x02 ∷ 0x00 ∷ 0x04 ∷ [];
    }
    -- a read of {1, 2} from a write of {0, 1, 2}
    ∷ record {
      log =
          line 26 0x2001_0000000000000007_00000001_00000007_00000008_00000009
          ++ line 28 0x2102_0000000000000006_00000001_01_00000008_00000001_01_00000009;
      answer = 0x00 ∷ 0x00 ∷ 0x00 ∷ 0x00 ∷ [];
    }
    -- the top bit of a set: a write of {0, 63}, read fractured
    ∷ record {
      log =
          line 22 0x2001_8000000000000001_00000001_00000007_00000008
          ++ line 28 0x2102_8000000000000001_00000001_01_00000007_00000000_00_00000000;
      answer = 0x00 ∷ 0x02 ∷ 0x00 ∷ 0x02 ∷ [];
    }
    -- the same, read whole
    ∷ record {
      log =
          line 22 0x2001_8000000000000001_00000001_00000007_00000008
          ++ line 28 0x2102_8000000000000001_00000001_01_00000007_00000001_01_00000008;
      answer = 0x00 ∷ 0x00 ∷ 0x00 ∷ 0x00 ∷ [];
    }
    -- unwritten: no such number, client, line, value; the initial stamp with a value not 0
    ∷ record {
      log =
          line 18 0x2001_0000000000000001_00000001_00000007
          ++ line 19 0x2102_0000000000000001_00000002_01_00000007;
      answer = 0x00 ∷ 0x01 ∷ 0x00 ∷ 0x02 ∷ [];
    }
    ∷ record {
      log =
          line 18 0x2001_0000000000000001_00000001_00000007
          ++ line 19 0x2102_0000000000000001_00000001_02_00000007;
      answer = 0x00 ∷ 0x01 ∷ 0x00 ∷ 0x02 ∷ [];
    }
    ∷ record {
      log =
          line 22 0x2001_0000000000000005_00000001_00000007_00000008
          ++ line 19 0x2102_0000000000000002_00000001_01_00000008;
      answer = 0x00 ∷ 0x01 ∷ 0x00 ∷ 0x02 ∷ [];
    }
    ∷ record {
      log =
          line 18 0x2001_0000000000000001_00000001_00000007
          ++ line 19 0x2102_0000000000000001_00000001_01_00000008;
      answer = 0x00 ∷ 0x01 ∷ 0x00 ∷ 0x02 ∷ [];
    }
    ∷ record {
      log =
          line 18 0x2001_0000000000000001_00000001_00000007
          ++ line 19 0x2102_0000000000000001_00000000_00_00000007;
      answer = 0x00 ∷ 0x01 ∷ 0x00 ∷ 0x02 ∷ [];
    }
    -- numbers above one byte: 1000001 was written, 1 is shown; 1 was written, 1000001 is shown
    ∷ record {
      log =
          line 18 0x2001_0000000000000001_01000001_00000007
          ++ line 19 0x2102_0000000000000001_00000001_01_00000007;
      answer = 0x00 ∷ 0x01 ∷ 0x00 ∷ 0x02 ∷ [];
    }
    ∷ record {
      log =
          line 18 0x2001_0000000000000001_00000001_00000007
          ++ line 19 0x2102_0000000000000001_01000001_01_00000007;
      answer = 0x00 ∷ 0x01 ∷ 0x00 ∷ 0x02 ∷ [];
    }
    -- values above one byte, the same way; and beside the initial stamp
    ∷ record {
      log =
          line 18 0x2001_0000000000000001_00000001_01000007
          ++ line 19 0x2102_0000000000000001_00000001_01_00000007;
      answer = 0x00 ∷ 0x01 ∷ 0x00 ∷ 0x02 ∷ [];
    }
    ∷ record {
      log =
          line 18 0x2001_0000000000000001_00000001_00000007
          ++ line 19 0x2102_0000000000000001_00000001_01_01000007;
      answer = 0x00 ∷ 0x01 ∷ 0x00 ∷ 0x02 ∷ [];
    }
    ∷ record {
      log =
          line 18 0x2001_0000000000000001_01000001_01000007
          ++ line 19 0x2102_0000000000000001_01000001_01_01000007;
      answer = 0x00 ∷ 0x00 ∷ 0x00 ∷ 0x00 ∷ [];
    }
    ∷ record {
      log =
          line 19 0x2102_0000000000000001_00000000_00_01000000;
      answer = 0x00 ∷ 0x01 ∷ 0x00 ∷ 0x01 ∷ [];
    }
    -- a read is no write: it shows what it would have written, were it one
    ∷ record {
      log =
          line 19 0x2101_0000000000000001_00000001_01_01010101;
      answer = 0x00 ∷ 0x01 ∷ 0x00 ∷ 0x01 ∷ [];
    }
    -- the write may stand below the read that shows it, for findings 1 and 2
    ∷ record {
      log =
          line 19 0x2102_0000000000000001_00000001_01_00000007
          ++ line 18 0x2001_0000000000000001_00000001_00000007;
      answer = 0x00 ∷ 0x00 ∷ 0x00 ∷ 0x00 ∷ [];
    }
    ∷ record {
      log =
          line 28 0x2102_0000000000000003_00000001_01_00000007_00000000_00_00000000
          ++ line 22 0x2001_0000000000000003_00000001_00000007_00000008;
      answer = 0x00 ∷ 0x02 ∷ 0x00 ∷ 0x01 ∷ [];
    }
    -- fractured: numbers above one byte in order
    ∷ record {
      log =
          line 22 0x2001_0000000000000003_00000002_00000007_00000008
          ++ line 22 0x2001_0000000000000003_01000001_00000009_0000000a
          ++ line 28 0x2102_0000000000000003_01000001_01_00000009_00000002_01_00000008;
      answer = 0x00 ∷ 0x02 ∷ 0x00 ∷ 0x03 ∷ [];
    }
    -- not fractured: the other line shown with a later stamp, or not written by that write
    ∷ record {
      log =
          line 22 0x2001_0000000000000003_00000001_00000007_00000008
          ++ line 18 0x2002_0000000000000002_00000002_00000009
          ++ line 28 0x2103_0000000000000003_00000001_01_00000007_00000002_02_00000009;
      answer = 0x00 ∷ 0x00 ∷ 0x00 ∷ 0x00 ∷ [];
    }
    ∷ record {
      log =
          line 18 0x2001_0000000000000001_00000002_00000007
          ++ line 18 0x2002_0000000000000002_00000001_00000009
          ++ line 28 0x2103_0000000000000003_00000002_01_00000007_00000001_02_00000009;
      answer = 0x00 ∷ 0x00 ∷ 0x00 ∷ 0x00 ∷ [];
    }
    -- not fractured: a line that the write has and the read does not show
    ∷ record {
      log =
          line 22 0x2001_0000000000000003_00000001_00000007_00000008
          ++ line 19 0x2102_0000000000000001_00000001_01_00000007;
      answer = 0x00 ∷ 0x00 ∷ 0x00 ∷ 0x00 ∷ [];
    }
    -- fractured by the second line: line 1 from the write, line 0 initial
    ∷ record {
      log =
          line 22 0x2001_0000000000000003_00000001_00000007_00000008
          ++ line 28 0x2102_0000000000000003_00000000_00_00000000_00000001_01_00000008;
      answer = 0x00 ∷ 0x02 ∷ 0x00 ∷ 0x02 ∷ [];
    }
    -- own write missed: an own earlier write shown, another desk's earlier one, the initial one
    ∷ record {
      log =
          line 18 0x2001_0000000000000001_00000001_00000007
          ++ line 18 0x2001_0000000000000001_00000002_00000008
          ++ line 19 0x2101_0000000000000001_00000001_01_00000007;
      answer = 0x00 ∷ 0x03 ∷ 0x00 ∷ 0x03 ∷ [];
    }
    ∷ record {
      log =
          line 18 0x2002_0000000000000001_00000001_00000007
          ++ line 18 0x2001_0000000000000001_00000002_00000008
          ++ line 19 0x2101_0000000000000001_00000001_02_00000007;
      answer = 0x00 ∷ 0x03 ∷ 0x00 ∷ 0x03 ∷ [];
    }
    ∷ record {
      log =
          line 18 0x2005_0000000000000001_00000001_00000007
          ++ line 19 0x2105_0000000000000001_00000000_00_00000000;
      answer = 0x00 ∷ 0x03 ∷ 0x00 ∷ 0x02 ∷ [];
    }
    -- not missed: the own write itself shown
    ∷ record {
      log =
          line 18 0x2001_0000000000000001_00000001_00000007
          ++ line 19 0x2101_0000000000000001_00000001_01_00000007;
      answer = 0x00 ∷ 0x00 ∷ 0x00 ∷ 0x00 ∷ [];
    }
    -- not missed: another desk's later write shown; the write below; another line; another desk's
    -- write
    ∷ record {
      log =
          line 18 0x2001_0000000000000001_00000001_00000007
          ++ line 18 0x2002_0000000000000001_00000001_00000008
          ++ line 19 0x2101_0000000000000001_00000001_02_00000008;
      answer = 0x00 ∷ 0x00 ∷ 0x00 ∷ 0x00 ∷ [];
    }
    ∷ record {
      log =
          line 19 0x2101_0000000000000001_00000000_00_00000000
          ++ line 18 0x2001_0000000000000001_00000001_00000007;
      answer = 0x00 ∷ 0x00 ∷ 0x00 ∷ 0x00 ∷ [];
    }
    ∷ record {
      log =
          line 18 0x2001_0000000000000002_00000001_00000007
          ++ line 19 0x2101_0000000000000001_00000000_00_00000000;
      answer = 0x00 ∷ 0x00 ∷ 0x00 ∷ 0x00 ∷ [];
    }
    ∷ record {
      log =
          line 18 0x2001_0000000000000001_00000001_00000007
          ++ line 19 0x2105_0000000000000001_00000000_00_00000000;
      answer = 0x00 ∷ 0x00 ∷ 0x00 ∷ 0x00 ∷ [];
    }
    -- not only the last own write: number 2 wrote line 0, number 3 line 1
    ∷ record {
      log =
          line 18 0x2001_0000000000000001_00000002_00000007
          ++ line 18 0x2001_0000000000000002_00000003_00000008
          ++ line 19 0x2101_0000000000000001_00000000_00_00000000;
      answer = 0x00 ∷ 0x03 ∷ 0x00 ∷ 0x03 ∷ [];
    }
    -- handed over: desk 1's write is desk 2's own below the hand-over, stays desk 1's, and is
    -- nobody else's
    ∷ record {
      log =
          line 18 0x2001_0000000000000001_00000001_00000007
          ++ line 3 0x22_01_02
          ++ line 19 0x2102_0000000000000001_00000000_00_00000000;
      answer = 0x00 ∷ 0x03 ∷ 0x00 ∷ 0x03 ∷ [];
    }
    ∷ record {
      log =
          line 18 0x2001_0000000000000001_00000001_00000007
          ++ line 3 0x22_01_02
          ++ line 19 0x2101_0000000000000001_00000000_00_00000000;
      answer = 0x00 ∷ 0x03 ∷ 0x00 ∷ 0x03 ∷ [];
    }
    ∷ record {
      log =
          line 18 0x2001_0000000000000001_00000001_00000007
          ++ line 3 0x22_01_02
          ++ line 19 0x2103_0000000000000001_00000000_00_00000000;
      answer = 0x00 ∷ 0x00 ∷ 0x00 ∷ 0x00 ∷ [];
    }
    -- not missed: the inherited write shown, or a later one of another desk; another line
    ∷ record {
      log =
          line 18 0x2001_0000000000000001_00000001_00000007
          ++ line 3 0x22_01_02
          ++ line 19 0x2102_0000000000000001_00000001_01_00000007;
      answer = 0x00 ∷ 0x00 ∷ 0x00 ∷ 0x00 ∷ [];
    }
    ∷ record {
      log =
          line 18 0x2001_0000000000000001_00000001_00000007
          ++ line 18 0x2003_0000000000000001_00000001_00000008
          ++ line 3 0x22_01_02
          ++ line 19 0x2102_0000000000000001_00000001_03_00000008;
      answer = 0x00 ∷ 0x00 ∷ 0x00 ∷ 0x00 ∷ [];
    }
    ∷ record {
      log =
          line 18 0x2001_0000000000000002_00000001_00000007
          ++ line 3 0x22_01_02
          ++ line 19 0x2102_0000000000000001_00000000_00_00000000;
      answer = 0x00 ∷ 0x00 ∷ 0x00 ∷ 0x00 ∷ [];
    }
    -- the read above the hand-over; the giver's write below it, and another hand-over below that
    ∷ record {
      log =
          line 18 0x2001_0000000000000001_00000001_00000007
          ++ line 19 0x2102_0000000000000001_00000000_00_00000000
          ++ line 3 0x22_01_02;
      answer = 0x00 ∷ 0x00 ∷ 0x00 ∷ 0x00 ∷ [];
    }
    ∷ record {
      log =
          line 3 0x22_01_02
          ++ line 18 0x2001_0000000000000001_00000001_00000007
          ++ line 19 0x2102_0000000000000001_00000000_00_00000000;
      answer = 0x00 ∷ 0x00 ∷ 0x00 ∷ 0x00 ∷ [];
    }
    ∷ record {
      log =
          line 3 0x22_01_02
          ++ line 18 0x2001_0000000000000001_00000001_00000007
          ++ line 3 0x22_01_02
          ++ line 19 0x2102_0000000000000001_00000000_00_00000000;
      answer = 0x00 ∷ 0x03 ∷ 0x00 ∷ 0x04 ∷ [];
    }
    -- what the giver wrote below the hand-over isn't missed, what it wrote above is
    ∷ record {
      log =
          line 18 0x2001_0000000000000001_00000001_00000007
          ++ line 3 0x22_01_02
          ++ line 18 0x2001_0000000000000001_00000002_00000008
          ++ line 19 0x2102_0000000000000001_00000001_01_00000007
          ++ line 19 0x2102_0000000000000001_00000000_00_00000000;
      answer = 0x00 ∷ 0x03 ∷ 0x00 ∷ 0x05 ∷ [];
    }
    -- on and on: from desk 1 to 2 and from 2 to 3; the other way round desk 3 inherits nothing, and
    -- desk 2 does
    ∷ record {
      log =
          line 18 0x2001_0000000000000001_00000001_00000007
          ++ line 3 0x22_01_02
          ++ line 3 0x22_02_03
          ++ line 19 0x2103_0000000000000001_00000000_00_00000000;
      answer = 0x00 ∷ 0x03 ∷ 0x00 ∷ 0x04 ∷ [];
    }
    ∷ record {
      log =
          line 18 0x2001_0000000000000001_00000001_00000007
          ++ line 3 0x22_02_03
          ++ line 3 0x22_01_02
          ++ line 19 0x2103_0000000000000001_00000000_00_00000000
          ++ line 19 0x2102_0000000000000001_00000000_00_00000000;
      answer = 0x00 ∷ 0x03 ∷ 0x00 ∷ 0x05 ∷ [];
    }
    -- through all eight
    ∷ record {
      log =
          line 18 0x2001_0000000000000001_00000001_00000007
          ++ line 3 0x22_01_02
          ++ line 3 0x22_02_03
          ++ line 3 0x22_03_04
          ++ line 3 0x22_04_05
          ++ line 3 0x22_05_06
          ++ line 3 0x22_06_07
          ++ line 3 0x22_07_08
          ++ line 19 0x2108_0000000000000001_00000000_00_00000000;
      answer = 0x00 ∷ 0x03 ∷ 0x00 ∷ 0x09 ∷ [];
    }
    -- the giver inherits nothing from the receiver, until that hands back
    ∷ record {
      log =
          line 18 0x2002_0000000000000001_00000001_00000007
          ++ line 3 0x22_01_02
          ++ line 19 0x2101_0000000000000001_00000000_00_00000000;
      answer = 0x00 ∷ 0x00 ∷ 0x00 ∷ 0x00 ∷ [];
    }
    ∷ record {
      log =
          line 18 0x2002_0000000000000001_00000001_00000007
          ++ line 3 0x22_01_02
          ++ line 19 0x2101_0000000000000001_00000000_00_00000000
          ++ line 3 0x22_02_01
          ++ line 19 0x2101_0000000000000001_00000000_00_00000000;
      answer = 0x00 ∷ 0x03 ∷ 0x00 ∷ 0x05 ∷ [];
    }
    -- what the receiver wrote itself stays its own
    ∷ record {
      log =
          line 18 0x2002_0000000000000001_00000001_00000007
          ++ line 3 0x22_01_02
          ++ line 19 0x2102_0000000000000001_00000000_00_00000000;
      answer = 0x00 ∷ 0x03 ∷ 0x00 ∷ 0x03 ∷ [];
    }
    -- from two givers: the later write is missed, whoever's it is
    ∷ record {
      log =
          line 18 0x2001_0000000000000001_00000001_00000007
          ++ line 18 0x2002_0000000000000001_00000001_00000008
          ++ line 3 0x22_01_03
          ++ line 3 0x22_02_03
          ++ line 19 0x2103_0000000000000001_00000001_01_00000007;
      answer = 0x00 ∷ 0x03 ∷ 0x00 ∷ 0x05 ∷ [];
    }
    ∷ record {
      log =
          line 18 0x2001_0000000000000001_00000002_00000007
          ++ line 18 0x2002_0000000000000001_00000001_00000008
          ++ line 3 0x22_01_03
          ++ line 3 0x22_02_03
          ++ line 19 0x2103_0000000000000001_00000001_02_00000008;
      answer = 0x00 ∷ 0x03 ∷ 0x00 ∷ 0x05 ∷ [];
    }
    -- a write and a read whose sets begin with byte 02 hand nothing over to desk 2
    ∷ record {
      log =
          line 18 0x2001_0000000000000001_00000001_00000007
          ++ line 18 0x2001_0200000000000000_00000002_00000008
          ++ line 19 0x2101_0200000000000000_00000002_01_00000008
          ++ line 19 0x2102_0000000000000001_00000000_00_00000000;
      answer = 0x00 ∷ 0x00 ∷ 0x00 ∷ 0x00 ∷ [];
    }
    -- a hand-over shows and writes nothing, and is a line; to oneself it is malformed
    ∷ record {
      log =
          line 3 0x22_01_02;
      answer = 0x00 ∷ 0x00 ∷ 0x00 ∷ 0x00 ∷ [];
    }
    ∷ record {
      log =
          line 3 0x22_01_02
          ++ line 19 0x2102_0000000000000001_00000001_01_00000007;
      answer = 0x00 ∷ 0x01 ∷ 0x00 ∷ 0x02 ∷ [];
    }
    ∷ record {
      log =
          line 18 0x2001_0000000000000001_00000001_00000007
          ++ line 19 0x2101_0000000000000001_00000000_00_00000000
          ++ line 3 0x22_01_01;
      answer = 0x0f ∷ 0x00 ∷ 0x03 ∷ [];
    }
    -- a fast read may miss its desk's own write, and an inherited one; an ordinary read of the same
    -- below it may not
    ∷ record {
      log =
          line 18 0x2001_0000000000000001_00000001_00000007
          ++ line 19 0x2301_0000000000000001_00000000_00_00000000;
      answer = 0x00 ∷ 0x00 ∷ 0x00 ∷ 0x00 ∷ [];
    }
    ∷ record {
      log =
          line 18 0x2001_0000000000000001_00000001_00000007
          ++ line 3 0x22_01_02
          ++ line 19 0x2302_0000000000000001_00000000_00_00000000
          ++ line 19 0x2102_0000000000000001_00000000_00_00000000;
      answer = 0x00 ∷ 0x03 ∷ 0x00 ∷ 0x04 ∷ [];
    }
    -- it is unwritten as any read, by a stamp and by a value; what is written below is written
    ∷ record {
      log =
          line 19 0x2302_0000000000000001_00000001_01_00000007
          ++ line 18 0x2001_0000000000000001_00000001_00000008;
      answer = 0x00 ∷ 0x01 ∷ 0x00 ∷ 0x01 ∷ [];
    }
    ∷ record {
      log =
          line 19 0x2302_0000000000000001_00000000_00_00000007;
      answer = 0x00 ∷ 0x01 ∷ 0x00 ∷ 0x01 ∷ [];
    }
    ∷ record {
      log =
          line 19 0x2302_0000000000000001_00000001_01_00000007
          ++ line 18 0x2001_0000000000000001_00000001_00000007;
      answer = 0x00 ∷ 0x00 ∷ 0x00 ∷ 0x00 ∷ [];
    }
    -- and fractured as any read, also where it missed its desk's own write; whole it is clean
    ∷ record {
      log =
          line 22 0x2001_0000000000000003_00000001_00000007_00000008
          ++ line 28 0x2302_0000000000000003_00000001_01_00000007_00000000_00_00000000;
      answer = 0x00 ∷ 0x02 ∷ 0x00 ∷ 0x02 ∷ [];
    }
    ∷ record {
      log =
          line 22 0x2001_0000000000000003_00000001_00000007_00000008
          ++ line 28 0x2301_0000000000000003_00000001_01_00000007_00000000_00_00000000;
      answer = 0x00 ∷ 0x02 ∷ 0x00 ∷ 0x02 ∷ [];
    }
    ∷ record {
      log =
          line 22 0x2001_0000000000000003_00000001_00000007_00000008
          ++ line 28 0x2302_0000000000000003_00000001_01_00000007_00000001_01_00000008;
      answer = 0x00 ∷ 0x00 ∷ 0x00 ∷ 0x00 ∷ [];
    }
    -- it writes nothing: what it shows is written by no line, and no desk's own
    ∷ record {
      log =
          line 18 0x2001_0000000000000001_00000001_00000007
          ++ line 19 0x2302_0000000000000001_00000001_01_00000007
          ++ line 19 0x2102_0000000000000001_00000000_00_00000000;
      answer = 0x00 ∷ 0x00 ∷ 0x00 ∷ 0x00 ∷ [];
    }
    -- malformed before any finding
    ∷ record {
      log =
          line 18 0x2001_0000000000000001_00000001_00000007
          ++ line 19 0x2101_0000000000000001_00000000_00_00000000
          ++ line 10 0x2301_0000000000000000;
      answer = 0x0f ∷ 0x00 ∷ 0x03 ∷ [];
    }
    -- a mixed transaction shows what was written, and what it wrote is shown
    ∷ record {
      log =
          line 18 0x2001_0000000000000001_00000001_00000007
          ++ part 19 0x2402_0000000000000001_00000001_01_00000007
          ++ line 16 0x0000000000000001_00000001_00000008
          ++ line 19 0x2103_0000000000000001_00000001_02_00000008;
      answer = 0x00 ∷ 0x00 ∷ 0x00 ∷ 0x00 ∷ [];
    }
    -- its read part is unwritten as any read; by its own write's stamp, and value, it isn't
    ∷ record {
      log =
          part 19 0x2402_0000000000000001_00000001_01_00000007
          ++ line 16 0x0000000000000001_00000001_00000008
          ++ line 18 0x2001_0000000000000001_00000001_00000009;
      answer = 0x00 ∷ 0x01 ∷ 0x00 ∷ 0x01 ∷ [];
    }
    ∷ record {
      log =
          part 19 0x2401_0000000000000001_00000001_01_00000008
          ++ line 16 0x0000000000000001_00000001_00000008;
      answer = 0x00 ∷ 0x00 ∷ 0x00 ∷ 0x00 ∷ [];
    }
    ∷ record {
      log =
          part 19 0x2401_0000000000000001_00000001_01_00000009
          ++ line 16 0x0000000000000001_00000001_00000008;
      answer = 0x00 ∷ 0x01 ∷ 0x00 ∷ 0x01 ∷ [];
    }
    -- what it only shows it didn't write; what it wrote stands behind its entries, each line with a
    -- value of its own
    ∷ record {
      log =
          line 18 0x2001_0000000000000001_00000001_00000007
          ++ part 19 0x2402_0000000000000001_00000001_01_00000007
          ++ line 16 0x0000000000000002_00000001_00000009
          ++ line 19 0x2103_0000000000000001_00000001_02_00000009;
      answer = 0x00 ∷ 0x01 ∷ 0x00 ∷ 0x03 ∷ [];
    }
    ∷ record {
      log =
          part 19 0x2402_0000000000000001_00000000_00_00000000
          ++ line 16 0x0000000000000002_00000001_00000009
          ++ line 19 0x2103_0000000000000001_00000000_00_00000009;
      answer = 0x00 ∷ 0x01 ∷ 0x00 ∷ 0x02 ∷ [];
    }
    ∷ record {
      log =
          part 28 0x2402_0000000000000003_00000000_00_00000000_00000000_00_00000000
          ++ line 20 0x8000000000000002_00000001_00000008_00000009
          ++ line 28 0x2103_8000000000000002_00000001_02_00000008_00000001_02_00000009;
      answer = 0x00 ∷ 0x00 ∷ 0x00 ∷ 0x00 ∷ [];
    }
    ∷ record {
      log =
          part 28 0x2402_0000000000000003_00000000_00_00000000_00000000_00_00000000
          ++ line 20 0x8000000000000002_00000001_00000008_00000009
          ++ line 28 0x2103_8000000000000002_00000001_02_00000008_00000001_02_00000008;
      answer = 0x00 ∷ 0x01 ∷ 0x00 ∷ 0x02 ∷ [];
    }
    -- fractured: its read part by a write above, below, and its own; a read by its write part, not
    -- by what it only shows
    ∷ record {
      log =
          line 22 0x2001_0000000000000003_00000001_00000007_00000008
          ++ part 28 0x2402_0000000000000003_00000001_01_00000007_00000000_00_00000000
          ++ line 16 0x0000000000000001_00000001_00000009;
      answer = 0x00 ∷ 0x02 ∷ 0x00 ∷ 0x02 ∷ [];
    }
    ∷ record {
      log =
          part 28 0x2402_0000000000000003_00000001_01_00000007_00000000_00_00000000
          ++ line 16 0x0000000000000001_00000001_00000009
          ++ line 22 0x2001_0000000000000003_00000001_00000007_00000008;
      answer = 0x00 ∷ 0x02 ∷ 0x00 ∷ 0x01 ∷ [];
    }
    ∷ record {
      log =
          part 28 0x2401_0000000000000003_00000001_01_00000007_00000000_00_00000000
          ++ line 20 0x0000000000000003_00000001_00000007_00000008;
      answer = 0x00 ∷ 0x02 ∷ 0x00 ∷ 0x01 ∷ [];
    }
    ∷ record {
      log =
          part 19 0x2401_0000000000000001_00000000_00_00000000
          ++ line 20 0x0000000000000003_00000001_00000007_00000008
          ++ line 28 0x2102_0000000000000003_00000001_01_00000007_00000000_00_00000000;
      answer = 0x00 ∷ 0x02 ∷ 0x00 ∷ 0x02 ∷ [];
    }
    ∷ record {
      log =
          part 28 0x2401_0000000000000003_00000000_00_00000000_00000000_00_00000000
          ++ line 16 0x0000000000000001_00000001_00000007
          ++ line 28 0x2102_0000000000000003_00000001_01_00000007_00000000_00_00000000;
      answer = 0x00 ∷ 0x00 ∷ 0x00 ∷ 0x00 ∷ [];
    }
    -- it may show what stood before its own write; a read of the same desk below may not miss that,
    -- one above, another desk's and a fast one may
    ∷ record {
      log =
          part 19 0x2401_0000000000000001_00000000_00_00000000
          ++ line 16 0x0000000000000001_00000001_00000007;
      answer = 0x00 ∷ 0x00 ∷ 0x00 ∷ 0x00 ∷ [];
    }
    ∷ record {
      log =
          part 19 0x2401_0000000000000001_00000000_00_00000000
          ++ line 16 0x0000000000000001_00000001_00000007
          ++ line 19 0x2101_0000000000000001_00000000_00_00000000;
      answer = 0x00 ∷ 0x03 ∷ 0x00 ∷ 0x02 ∷ [];
    }
    ∷ record {
      log =
          line 19 0x2101_0000000000000001_00000000_00_00000000
          ++ part 19 0x2401_0000000000000001_00000000_00_00000000
          ++ line 16 0x0000000000000001_00000001_00000007
          ++ line 19 0x2102_0000000000000001_00000000_00_00000000;
      answer = 0x00 ∷ 0x00 ∷ 0x00 ∷ 0x00 ∷ [];
    }
    ∷ record {
      log =
          part 19 0x2401_0000000000000001_00000000_00_00000000
          ++ line 16 0x0000000000000001_00000001_00000007
          ++ line 19 0x2301_0000000000000001_00000000_00_00000000;
      answer = 0x00 ∷ 0x00 ∷ 0x00 ∷ 0x00 ∷ [];
    }
    -- its read part misses its desk's write, its desk's mixed transaction's, an inherited one
    ∷ record {
      log =
          line 18 0x2001_0000000000000001_00000001_00000007
          ++ part 19 0x2401_0000000000000001_00000000_00_00000000
          ++ line 16 0x0000000000000002_00000002_00000008;
      answer = 0x00 ∷ 0x03 ∷ 0x00 ∷ 0x02 ∷ [];
    }
    ∷ record {
      log =
          part 19 0x2401_0000000000000001_00000000_00_00000000
          ++ line 16 0x0000000000000001_00000001_00000007
          ++ part 19 0x2401_0000000000000001_00000000_00_00000000
          ++ line 16 0x0000000000000001_00000002_00000008;
      answer = 0x00 ∷ 0x03 ∷ 0x00 ∷ 0x02 ∷ [];
    }
    ∷ record {
      log =
          line 18 0x2001_0000000000000001_00000001_00000007
          ++ line 3 0x22_01_02
          ++ part 19 0x2402_0000000000000001_00000000_00_00000000
          ++ line 16 0x0000000000000001_00000001_00000008;
      answer = 0x00 ∷ 0x03 ∷ 0x00 ∷ 0x03 ∷ [];
    }
    -- handed over is what it wrote above; what it writes below isn't, and what it shows is nobody's
    ∷ record {
      log =
          part 19 0x2401_0000000000000001_00000000_00_00000000
          ++ line 16 0x0000000000000001_00000001_00000007
          ++ line 3 0x22_01_02
          ++ line 19 0x2102_0000000000000001_00000000_00_00000000;
      answer = 0x00 ∷ 0x03 ∷ 0x00 ∷ 0x03 ∷ [];
    }
    ∷ record {
      log =
          line 3 0x22_01_02
          ++ part 19 0x2401_0000000000000001_00000000_00_00000000
          ++ line 16 0x0000000000000001_00000001_00000007
          ++ line 19 0x2102_0000000000000001_00000000_00_00000000;
      answer = 0x00 ∷ 0x00 ∷ 0x00 ∷ 0x00 ∷ [];
    }
    ∷ record {
      log =
          line 18 0x2003_0000000000000001_00000001_00000007
          ++ part 19 0x2401_0000000000000001_00000001_03_00000007
          ++ line 16 0x0000000000000002_00000001_00000008
          ++ line 3 0x22_01_02
          ++ line 19 0x2102_0000000000000001_00000000_00_00000000;
      answer = 0x00 ∷ 0x00 ∷ 0x00 ∷ 0x00 ∷ [];
    }
    -- item 63, the last: missed by its read part; shown older by its read part than its sibling;
    -- written by it and shown older. With a search of items below 63 they are clean: the first
    -- refuses that of `holds_at`, the others that of `behind`
    ∷ record {
      log =
          line 18 0x2001_8000000000000000_00000001_00000007
          ++ part 19 0x2401_8000000000000000_00000000_00_00000000
          ++ line 16 0x0000000000000001_00000002_00000008;
      answer = 0x00 ∷ 0x03 ∷ 0x00 ∷ 0x02 ∷ [];
    }
    ∷ record {
      log =
          line 22 0x2001_8000000000000001_00000001_00000007_00000008
          ++ part 28 0x2402_8000000000000001_00000001_01_00000007_00000000_00_00000000
          ++ line 16 0x0000000000000001_00000001_00000009;
      answer = 0x00 ∷ 0x02 ∷ 0x00 ∷ 0x02 ∷ [];
    }
    ∷ record {
      log =
          part 19 0x2401_8000000000000000_00000000_00_00000000
          ++ line 20 0x8000000000000001_00000001_00000007_00000008
          ++ line 28 0x2102_8000000000000001_00000001_01_00000007_00000000_00_00000000;
      answer = 0x00 ∷ 0x02 ∷ 0x00 ∷ 0x02 ∷ [];
    }
    -- the lowest of its findings: 2 before 3, 1 before both
    ∷ record {
      log =
          line 22 0x2001_0000000000000003_00000001_00000007_00000008
          ++ part 28 0x2401_0000000000000003_00000001_01_00000007_00000000_00_00000000
          ++ line 16 0x0000000000000001_00000002_00000009;
      answer = 0x00 ∷ 0x02 ∷ 0x00 ∷ 0x02 ∷ [];
    }
    ∷ record {
      log =
          line 22 0x2001_0000000000000003_00000001_00000007_00000008
          ++ part 28 0x2401_0000000000000003_00000001_01_00000009_00000000_00_00000000
          ++ line 16 0x0000000000000001_00000002_00000009;
      answer = 0x00 ∷ 0x01 ∷ 0x00 ∷ 0x02 ∷ [];
    }
    -- malformed: an empty set to read, an empty set to write. Either is clean where an empty part
    -- is well-formed: the first refuses that of `read_shaped`, the second that of `write_shaped`
    ∷ record {
      log = part 10 0x2401_0000000000000000
          ++ line 16 0x0000000000000001_00000001_00000008;
      answer = 0x0f ∷ 0x00 ∷ 0x01 ∷ [];
    }
    ∷ record {
      log = part 19 0x2401_0000000000000001_00000000_00_00000000
          ++ line 12 0x0000000000000000_00000001;
      answer = 0x0f ∷ 0x00 ∷ 0x01 ∷ [];
    }
    -- malformed: its number doesn't rise, or a write's below doesn't over it. The first is clean
    -- where a mixed transaction's own number needn't rise, the second where it isn't counted above
    ∷ record {
      log =
          line 18 0x2001_0000000000000001_00000002_00000007
          ++ part 19 0x2401_0000000000000001_00000000_00_00000000
          ++ line 16 0x0000000000000001_00000002_00000008;
      answer = 0x0f ∷ 0x00 ∷ 0x02 ∷ [];
    }
    ∷ record {
      log =
          part 19 0x2401_0000000000000001_00000000_00_00000000
          ++ line 16 0x0000000000000001_00000002_00000008
          ++ line 18 0x2001_0000000000000001_00000002_00000007;
      answer = 0x0f ∷ 0x00 ∷ 0x02 ∷ [];
    }
    -- the lowest at the first line at fault: 1 before 2 and 3, 2 before 3; a later line's lower
    -- one doesn't count
    ∷ record {
      log =
          line 22 0x2001_0000000000000003_00000001_00000007_00000008
          ++ line 28 0x2101_0000000000000003_00000001_01_00000009_00000000_00_00000000;
      answer = 0x00 ∷ 0x01 ∷ 0x00 ∷ 0x02 ∷ [];
    }
    ∷ record {
      log =
          line 22 0x2001_0000000000000003_00000001_00000007_00000008
          ++ line 28 0x2101_0000000000000003_00000001_01_00000007_00000000_00_00000000;
      answer = 0x00 ∷ 0x02 ∷ 0x00 ∷ 0x02 ∷ [];
    }
    ∷ record {
      log =
          line 18 0x2001_0000000000000001_00000001_00000007
          ++ line 19 0x2101_0000000000000001_00000000_00_00000000
          ++ line 19 0x2102_0000000000000001_00000009_01_00000007;
      answer = 0x00 ∷ 0x03 ∷ 0x00 ∷ 0x02 ∷ [];
    }
    -- 1 at the second line shown comes before 2 at the first
    ∷ record {
      log =
          line 22 0x2001_0000000000000003_00000001_00000007_00000008
          ++ line 37
          0x2102_0000000000000007_00000001_01_00000007_00000000_00_00000000_00000009_01_00000007;
      answer = 0x00 ∷ 0x01 ∷ 0x00 ∷ 0x02 ∷ [];
    }
    -- 15: clients and writers 11 (17), a kind a0, an unended line; and before any finding
    ∷ record {
      log =
          line 18 0x2011_0000000000000001_00000001_00000007;
      answer = 0x0f ∷ 0x00 ∷ 0x01 ∷ [];
    }
    ∷ record {
      log =
          line 18 0xa001_0000000000000001_00000001_00000007;
      answer = 0x0f ∷ 0x00 ∷ 0x01 ∷ [];
    }
    ∷ record {
      log =
          line 18 0x2001_0000000000000001_00000001_00000007
          ++ line 19 0x2102_0000000000000001_00000001_11_00000007;
      answer = 0x0f ∷ 0x00 ∷ 0x02 ∷ [];
    }
    ∷ record {
      log =
          line 18 0x2001_0000000000000001_00000001_00000007
          ++ hex_text (big_endian 19 0x2102_0000000000000001_00000001_01_00000007);
      answer = 0x0f ∷ 0x00 ∷ 0x02 ∷ [];
    }
    ∷ record {
      log =
          line 19 0x2102_0000000000000001_00000001_01_00000007
          ++ line 18 0x2001_0000000000000001_00000001_00000007
          ++ (0x0a ∷ []);
      answer = 0x0f ∷ 0x00 ∷ 0x03 ∷ [];
    }
    -- 16 comes before 15: 257 line ends; 256 are a log, whose first line is malformed
    ∷ record {
      log =
          times 257 0x0a;
      answer = 0x10 ∷ [];
    }
    ∷ record {
      log =
          times 256 0x0a;
      answer = 0x0f ∷ 0x00 ∷ 0x01 ∷ [];
    }
    ∷ []

abbrev same : List ℕ → List ℕ → Bool
same [] [] = true
same [] (y ∷ ys) = false
same (x ∷ xs) [] = false
same (x ∷ xs) (y ∷ ys) = eqb x y && same xs ys

unfoldable pub right : Row → Bool
unfolding hex_text big_endian hex_digit
    digit pair line_length number_at is_hex Rattle.hexadecimal.specs.Text.bytes_of has some some_from counted
    every ones_in
    lines_of frame_of written Rattle.log_format.specs.Log.number_of written_stamp written_value shown shown_stamp
    shown_value
    write_at end_of shaped write_shaped read_shaped hand_over_shaped entries_whole reaches malformed
    wrote is_unwritten behind fractures insert with_heir owners outdates misses_at holds_at lowest
    first_from too_long judged checked verdict
right r = same (bytes_of (verdict r.log)) r.answer

-- every row of the table
examples : all right rows ≡ true
unfolding all rows right line part times hex_text big_endian hex_digit
examples = refl

-- ---- the verdict as a number and as bytes

number-rows : (number_of TooLong ≡ 16) × (number_of (Malformed 3) ≡ 0x0003_00_0f)
    × (number_of (Judged 2 513) ≡ 0x0201_02_00) × (number_of (Judged 0 0) ≡ 0)
number-rows = (refl, refl, refl, refl)

byte-rows : (bytes_of TooLong ≡ 0x10 ∷ []) × (bytes_of (Malformed 513) ≡ 0x0f ∷ 0x02 ∷ 0x01 ∷ [])
    × (bytes_of (Judged 2 513) ≡ 0x00 ∷ 0x02 ∷ 0x02 ∷ 0x01 ∷ [])
unfolding big_endian
byte-rows = (refl, refl, refl)
