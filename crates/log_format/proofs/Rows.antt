-- Which line of a log is malformed and which log is too long, row by row, from the log's bytes
-- through the whole definition; each answer is document 01's, worked out by hand.
use mathlib.Core.Bool.{Bool, true, false, cond, ◌&&◌, beq}
use mathlib.Core.List.{List, [], ◌∷◌, ◌++◌}
use mathlib.Core.Path.{◌≡◌, refl}
use Prim.Native.Nat.{ℕ, zero, suc, ◌+◌}
use lib.Count.{ones_in}
use lib.Dec.{eqb, ltb}
use lib.ListN.{length}
use Rattle.basics.specs.Lists.{all, counted, every}
use Rattle.hexadecimal.specs.Digit.{digit, pair, hex_digit}
use Rattle.hexadecimal.specs.Line.{line_length}
use Rattle.hexadecimal.specs.Number.{number_at, big_endian}
use Rattle.hexadecimal.specs.Text.{is_hex, bytes_of, hex_text}
use Rattle.log_format.specs.Some.{some, first_from}
use Rattle.log_format.specs.Log.{has_read, has_write, hands_over, reads_own}
use Rattle.log_format.specs.Log.{lines_of, frame_of, frames_of, shown, write_at, written, number_of}
use Rattle.log_format.specs.Log.{end_of, entries_whole, read_shaped, write_shaped, hand_over_shaped}
use Rattle.log_format.specs.Log.{shaped, reaches, malformed, malformed_at, first_line, too_long}

-- a line of n bytes, its digits as one number, most significant first
unfoldable pub line : ℕ → ℕ → List ℕ
line n digits = hex_text (big_endian n digits) ++ 0x0a ∷ []

-- n bytes of a line, before others
unfoldable pub part : ℕ → ℕ → List ℕ
part n digits = hex_text (big_endian n digits)

-- ---- the first malformed line

record Row : Type 0 where
  log : List ℕ
  -- counted from 1; 0 where every line is well-formed
  bad : ℕ

first_bad : List ℕ → ℕ
first_bad log =
    let i = first_line malformed_at (frames_of log) in
    cond (ltb i (length (frames_of log))) (i + 1) 0

rows : List Row
rows =
    record { log = []; bad = 0 }
    -- a write of {0, 1}, number 1, by client 1; a read of {0, 1} by client 2
    ∷ record { log = line 22 0x2001_0000000000000003_00000001_00000007_00000008; bad = 0 }
    ∷ record {
      log = line 28 0x2102_0000000000000003_00000001_01_00000007_00000000_00_00000000;
      bad = 0;
    }
    -- kinds: 1f, 25, a0, a1, a2, a3, a4
    ∷ record { log = line 18 0x1f01_0000000000000001_00000001_00000007; bad = 1 }
    ∷ record { log = line 18 0x2501_0000000000000001_00000001_00000007; bad = 1 }
    ∷ record { log = line 19 0x2501_0000000000000001_00000001_01_00000007; bad = 1 }
    ∷ record { log = line 3 0x25_01_02; bad = 1 }
    ∷ record { log = line 18 0xa001_0000000000000001_00000001_00000007; bad = 1 }
    ∷ record { log = line 19 0xa101_0000000000000001_00000001_01_00000007; bad = 1 }
    ∷ record { log = line 3 0xa2_01_02; bad = 1 }
    ∷ record { log = line 19 0xa301_0000000000000001_00000001_01_00000007; bad = 1 }
    ∷ record {
      log =
          part 19 0xa401_0000000000000001_00000001_02_00000007
          ++ line 16 0x0000000000000001_00000001_00000008;
      bad = 1;
    }
    ∷ record {
      log =
          part 19 0x2501_0000000000000001_00000001_02_00000007
          ++ line 16 0x0000000000000001_00000001_00000008;
      bad = 1;
    }
    -- the kind and the client alone
    ∷ record { log = line 2 0x2001; bad = 1 }
    ∷ record { log = line 2 0x2101; bad = 1 }
    ∷ record { log = line 2 0x2201; bad = 1 }
    ∷ record { log = line 2 0x2301; bad = 1 }
    ∷ record { log = line 2 0x2401; bad = 1 }
    ∷ record { log = line 2 0x2501; bad = 1 }
    -- fast reads are laid out as reads: one item, two; the fields of a write or a hand-over
    ∷ record { log = line 19 0x2302_0000000000000001_00000001_01_00000007; bad = 0 }
    ∷ record {
      log = line 28 0x2302_0000000000000003_00000001_01_00000007_00000000_00_00000000;
      bad = 0;
    }
    ∷ record { log = line 18 0x2302_0000000000000001_00000001_00000007; bad = 1 }
    ∷ record { log = line 3 0x23_02_01; bad = 1 }
    -- an empty set, an entry too few, a byte too many; clients 0, 8, 9
    ∷ record { log = line 10 0x2302_0000000000000000; bad = 1 }
    ∷ record { log = line 19 0x2302_0000000000000003_00000001_01_00000007; bad = 1 }
    ∷ record { log = line 20 0x2302_0000000000000001_00000001_01_00000007_00; bad = 1 }
    ∷ record { log = line 19 0x2300_0000000000000001_00000001_01_00000007; bad = 1 }
    ∷ record { log = line 19 0x2308_0000000000000001_00000001_01_00000007; bad = 0 }
    ∷ record { log = line 19 0x2309_0000000000000001_00000001_01_00000007; bad = 1 }
    -- stamps shown: 0 and client 1, 1 and client 0, client 9, the second of two
    ∷ record { log = line 19 0x2302_0000000000000001_00000000_01_00000000; bad = 1 }
    ∷ record { log = line 19 0x2302_0000000000000001_00000001_00_00000000; bad = 1 }
    ∷ record { log = line 19 0x2302_0000000000000001_00000001_09_00000007; bad = 1 }
    ∷ record {
      log = line 28 0x2302_0000000000000003_00000001_01_00000007_00000001_00_00000007;
      bad = 1;
    }
    -- no write: its first number is no number of its client's, above or below
    ∷ record {
      log =
          line 19 0x2301_0000000000000001_00000005_02_00000007
          ++ line 18 0x2001_0000000000000001_00000002_00000007
          ++ line 19 0x2301_0000000000000001_00000001_02_00000007;
      bad = 0;
    }
    -- hand-overs: both ways, the ends of the range; a byte too many, the fields of a write behind
    ∷ record { log = line 3 0x22_01_02; bad = 0 }
    ∷ record { log = line 3 0x22_02_01; bad = 0 }
    ∷ record { log = line 3 0x22_01_08; bad = 0 }
    ∷ record { log = line 3 0x22_08_01; bad = 0 }
    ∷ record { log = line 4 0x22_01_02_00; bad = 1 }
    ∷ record { log = line 18 0x2201_0200000000000001_00000001_00000007; bad = 1 }
    -- giver or receiver 0, 9, 11 (17); from a client to itself
    ∷ record { log = line 3 0x22_00_02; bad = 1 }
    ∷ record { log = line 3 0x22_01_00; bad = 1 }
    ∷ record { log = line 3 0x22_09_02; bad = 1 }
    ∷ record { log = line 3 0x22_01_09; bad = 1 }
    ∷ record { log = line 3 0x22_11_02; bad = 1 }
    ∷ record { log = line 3 0x22_01_11; bad = 1 }
    ∷ record { log = line 3 0x22_01_01; bad = 1 }
    ∷ record { log = line 3 0x22_08_08; bad = 1 }
    -- it is a line, and the same one may come again
    ∷ record { log = line 3 0x22_01_02 ++ line 3 0x22_01_02 ++ line 3 0x22_02_02; bad = 3 }
    -- it has no number: a client's number 1 may stand below it, of giver and of receiver; and it
    -- hides none above
    ∷ record {
      log =
          line 3 0x22_01_02
          ++ line 18 0x2001_0000000000000001_00000001_00000007
          ++ line 18 0x2002_0000000000000001_00000001_00000007
          ++ line 3 0x22_01_02
          ++ line 18 0x2001_0000000000000001_00000001_00000007;
      bad = 5;
    }
    -- mixed transactions: reads and writes one item, two and one, one and two; the same, others
    ∷ record {
      log =
          part 19 0x2401_0000000000000001_00000001_02_00000007
          ++ line 16 0x0000000000000001_00000001_00000008;
      bad = 0;
    }
    ∷ record {
      log =
          part 28 0x2401_0000000000000003_00000001_02_00000007_00000000_00_00000000
          ++ line 16 0x0000000000000001_00000001_00000008;
      bad = 0;
    }
    ∷ record {
      log =
          part 19 0x2401_0000000000000001_00000001_02_00000007
          ++ line 20 0x8000000000000002_00000001_00000008_00000009;
      bad = 0;
    }
    -- either part alone, the write part first, the fields of a hand-over
    ∷ record { log = line 19 0x2401_0000000000000001_00000001_02_00000007; bad = 1 }
    ∷ record { log = line 18 0x2401_0000000000000001_00000001_00000007; bad = 1 }
    ∷ record {
      log =
          part 18 0x2401_0000000000000001_00000001_00000008
          ++ line 17 0x0000000000000001_00000001_02_00000007;
      bad = 1;
    }
    ∷ record { log = line 3 0x24_01_02; bad = 1 }
    -- an empty set to read, an empty set to write, both
    ∷ record {
      log = part 10 0x2401_0000000000000000
          ++ line 16 0x0000000000000001_00000001_00000008;
      bad = 1;
    }
    ∷ record {
      log = part 19 0x2401_0000000000000001_00000001_02_00000007
          ++ line 12 0x0000000000000000_00000001;
      bad = 1;
    }
    ∷ record {
      log = part 10 0x2401_0000000000000000
          ++ line 12 0x0000000000000000_00000001;
      bad = 1;
    }
    -- an entry too few, a value too few, a value too many, a byte too many, the number missing
    ∷ record {
      log =
          part 19 0x2401_0000000000000003_00000001_02_00000007
          ++ line 16 0x0000000000000001_00000001_00000008;
      bad = 1;
    }
    ∷ record {
      log =
          part 19 0x2401_0000000000000001_00000001_02_00000007
          ++ line 16 0x0000000000000003_00000001_00000008;
      bad = 1;
    }
    ∷ record {
      log =
          part 19 0x2401_0000000000000001_00000001_02_00000007
          ++ line 20 0x0000000000000001_00000001_00000008_00000009;
      bad = 1;
    }
    ∷ record {
      log =
          part 19 0x2401_0000000000000001_00000001_02_00000007
          ++ line 17 0x0000000000000001_00000001_00000008_00;
      bad = 1;
    }
    ∷ record {
      log = part 19 0x2401_0000000000000001_00000001_02_00000007
          ++ line 12 0x0000000000000001_00000008;
      bad = 1;
    }
    -- number 0; clients 0, 8, 9; stamps shown: 0 and client 1, 1 and client 0, client 9
    ∷ record {
      log =
          part 19 0x2401_0000000000000001_00000001_02_00000007
          ++ line 16 0x0000000000000001_00000000_00000008;
      bad = 1;
    }
    ∷ record {
      log =
          part 19 0x2400_0000000000000001_00000001_02_00000007
          ++ line 16 0x0000000000000001_00000001_00000008;
      bad = 1;
    }
    ∷ record {
      log =
          part 19 0x2408_0000000000000001_00000001_02_00000007
          ++ line 16 0x0000000000000001_00000001_00000008;
      bad = 0;
    }
    ∷ record {
      log =
          part 19 0x2409_0000000000000001_00000001_02_00000007
          ++ line 16 0x0000000000000001_00000001_00000008;
      bad = 1;
    }
    ∷ record {
      log =
          part 19 0x2401_0000000000000001_00000000_01_00000007
          ++ line 16 0x0000000000000001_00000001_00000008;
      bad = 1;
    }
    ∷ record {
      log =
          part 19 0x2401_0000000000000001_00000001_00_00000007
          ++ line 16 0x0000000000000001_00000001_00000008;
      bad = 1;
    }
    ∷ record {
      log =
          part 19 0x2401_0000000000000001_00000001_09_00000007
          ++ line 16 0x0000000000000001_00000001_00000008;
      bad = 1;
    }
    -- its number rises with those of its client's writes: over a write above, under one below, over
    -- another mixed transaction; an equal one is malformed; another client's doesn't count
    ∷ record {
      log =
          line 18 0x2001_0000000000000001_00000001_00000007
          ++ part 19 0x2401_0000000000000001_00000001_02_00000007
          ++ line 16 0x0000000000000001_00000002_00000008
          ++ line 18 0x2001_0000000000000001_00000003_00000007;
      bad = 0;
    }
    ∷ record {
      log =
          line 18 0x2001_0000000000000001_00000002_00000007
          ++ part 19 0x2401_0000000000000001_00000001_02_00000007
          ++ line 16 0x0000000000000001_00000002_00000008;
      bad = 2;
    }
    ∷ record {
      log =
          part 19 0x2401_0000000000000001_00000001_02_00000007
          ++ line 16 0x0000000000000001_00000002_00000008
          ++ line 18 0x2001_0000000000000001_00000002_00000007;
      bad = 2;
    }
    ∷ record {
      log =
          part 19 0x2401_0000000000000001_00000001_02_00000007
          ++ line 16 0x0000000000000001_00000002_00000008
          ++ part 19 0x2401_0000000000000001_00000001_02_00000007
          ++ line 16 0x0000000000000001_00000001_00000008;
      bad = 2;
    }
    ∷ record {
      log =
          part 19 0x2401_0000000000000001_00000001_02_00000007
          ++ line 16 0x0000000000000001_00000002_00000008
          ++ line 18 0x2002_0000000000000001_00000001_00000007;
      bad = 0;
    }
    -- what it shows doesn't: number 5 shown, and then its client's 2
    ∷ record {
      log =
          part 19 0x2401_0000000000000001_00000005_02_00000007
          ++ line 16 0x0000000000000001_00000001_00000008
          ++ line 18 0x2001_0000000000000001_00000002_00000007;
      bad = 0;
    }
    -- clients 0, 5, 8, 9, 11 (17)
    ∷ record { log = line 18 0x2000_0000000000000001_00000001_00000007; bad = 1 }
    ∷ record { log = line 18 0x2005_0000000000000001_00000001_00000007; bad = 0 }
    ∷ record { log = line 18 0x2008_0000000000000001_00000001_00000007; bad = 0 }
    ∷ record { log = line 18 0x2009_0000000000000001_00000001_00000007; bad = 1 }
    ∷ record { log = line 18 0x2011_0000000000000001_00000001_00000007; bad = 1 }
    ∷ record { log = line 19 0x2111_0000000000000001_00000001_01_00000007; bad = 1 }
    -- empty sets
    ∷ record { log = line 14 0x2001_0000000000000000_00000001; bad = 1 }
    ∷ record { log = line 10 0x2101_0000000000000000; bad = 1 }
    -- a value too few, a value too many; an entry too few, a byte too many
    ∷ record { log = line 18 0x2001_0000000000000003_00000001_00000007; bad = 1 }
    ∷ record { log = line 22 0x2001_0000000000000001_00000001_00000007_00000008; bad = 1 }
    ∷ record { log = line 19 0x2102_0000000000000003_00000001_01_00000007; bad = 1 }
    ∷ record { log = line 20 0x2102_0000000000000001_00000001_01_00000007_00; bad = 1 }
    -- as many values as the set has items, wherever they stand: {1, 3}, {0, 63}, {63}
    ∷ record { log = line 22 0x2001_000000000000000a_00000001_00000007_00000008; bad = 0 }
    ∷ record { log = line 22 0x2001_8000000000000001_00000001_00000007_00000008; bad = 0 }
    ∷ record { log = line 18 0x2001_8000000000000000_00000001_00000007; bad = 0 }
    -- number 0
    ∷ record { log = line 18 0x2001_0000000000000001_00000000_00000007; bad = 1 }
    -- numbers of one client: 1 1, 2 1, 1 2; of two clients: 1 1
    ∷ record {
      log =
          line 18 0x2001_0000000000000001_00000001_00000007
          ++ line 18 0x2001_0000000000000001_00000001_00000007;
      bad = 2;
    }
    ∷ record {
      log =
          line 18 0x2001_0000000000000001_00000002_00000007
          ++ line 18 0x2001_0000000000000001_00000001_00000007;
      bad = 2;
    }
    ∷ record {
      log =
          line 18 0x2001_0000000000000001_00000001_00000007
          ++ line 18 0x2001_0000000000000001_00000002_00000007;
      bad = 0;
    }
    ∷ record {
      log =
          line 18 0x2001_0000000000000001_00000001_00000007
          ++ line 18 0x2002_0000000000000001_00000001_00000007;
      bad = 0;
    }
    -- not over the last write alone: 2, then client 2's 1, then 1
    ∷ record {
      log =
          line 18 0x2001_0000000000000001_00000002_00000007
          ++ line 18 0x2002_0000000000000001_00000001_00000007
          ++ line 18 0x2001_0000000000000001_00000001_00000007;
      bad = 3;
    }
    -- numbers above one byte: 1000001 and then 2; 2 and then 1000001
    ∷ record {
      log =
          line 18 0x2001_0000000000000001_01000001_00000007
          ++ line 18 0x2001_0000000000000001_00000002_00000007;
      bad = 2;
    }
    ∷ record {
      log =
          line 18 0x2001_0000000000000001_00000002_00000007
          ++ line 18 0x2001_0000000000000001_01000001_00000007;
      bad = 0;
    }
    -- a read is no write: its first number is no number of its client's, above or below
    ∷ record {
      log =
          line 19 0x2101_0000000000000001_00000005_02_00000007
          ++ line 18 0x2001_0000000000000001_00000002_00000007
          ++ line 19 0x2101_0000000000000001_00000001_02_00000007;
      bad = 0;
    }
    -- stamps shown: 0 and client 1, 1 and client 0, clients 8, 9 and 11 (17), the second of two
    ∷ record { log = line 19 0x2102_0000000000000001_00000000_01_00000000; bad = 1 }
    ∷ record { log = line 19 0x2102_0000000000000001_00000001_00_00000000; bad = 1 }
    ∷ record { log = line 19 0x2102_0000000000000001_01000000_01_00000000; bad = 0 }
    ∷ record { log = line 19 0x2102_0000000000000001_00000001_08_00000007; bad = 0 }
    ∷ record { log = line 19 0x2102_0000000000000001_00000001_09_00000007; bad = 1 }
    ∷ record { log = line 19 0x2102_0000000000000001_00000001_11_00000007; bad = 1 }
    ∷ record {
      log = line 28 0x2102_0000000000000003_00000001_01_00000007_00000001_00_00000007;
      bad = 1;
    }
    -- text: an empty line, an odd digit, an uppercase digit, a carriage return, a line without 0a
    ∷ record { log = 0x0a ∷ []; bad = 1 }
    ∷ record {
      log = hex_text (big_endian 18 0x2001_0000000000000001_00000001_00000007) ++ 0x30 ∷ 0x0a ∷ [];
      bad = 1;
    }
    ∷ record {
      log = line 18 0x2001_0000000000000001_00000001_0000000a;
      bad = 0;
    }
    ∷ record {
      log =
          hex_text (big_endian 17 0x2001_0000000000000001_00000001_000000)
          ++ 0x30 ∷ 0x41 ∷ 0x0a ∷ [];
      bad = 1;
    }
    ∷ record {
      log =
          hex_text (big_endian 18 0x2001_0000000000000001_00000001_00000007)
          ++ 0x0d ∷ 0x0a ∷ [];
      bad = 1;
    }
    ∷ record {
      log = hex_text (big_endian 18 0x2001_0000000000000001_00000001_00000007);
      bad = 1;
    }
    -- a last line without its 0a; two line ends in a row; the first of two malformed lines
    ∷ record {
      log =
          line 18 0x2001_0000000000000001_00000001_00000007
          ++ hex_text (big_endian 18 0x2001_0000000000000001_00000002_00000007);
      bad = 2;
    }
    ∷ record {
      log =
          line 18 0x2001_0000000000000001_00000001_00000007 ++ 0x0a ∷ []
          ++ line 18 0x2001_0000000000000001_00000002_00000007;
      bad = 2;
    }
    ∷ record {
      log =
          line 18 0x2001_0000000000000001_00000001_00000007
          ++ line 18 0x2009_0000000000000001_00000002_00000007
          ++ line 3 0x22_03_03;
      bad = 2;
    }
    ∷ []

-- ---- what a kind has

record Kind : Type 0 where
  number : ℕ
  read : Bool
  write : Bool
  hand-over : Bool
  -- its read part is to see its client's own writes
  own : Bool

kinds : List Kind
kinds =
    record { number = 0x1f; read = false; write = false; hand-over = false; own = false }
    ∷ record { number = 0x20; read = false; write = true; hand-over = false; own = false }
    ∷ record { number = 0x21; read = true; write = false; hand-over = false; own = true }
    ∷ record { number = 0x22; read = false; write = false; hand-over = true; own = false }
    ∷ record { number = 0x23; read = true; write = false; hand-over = false; own = false }
    ∷ record { number = 0x24; read = true; write = true; hand-over = false; own = true }
    ∷ record { number = 0x25; read = false; write = false; hand-over = false; own = false }
    ∷ []

has_parts_lem : Kind → Bool
has_parts_lem k =
    beq (has_read k.number) k.read
    && (beq (has_write k.number) k.write
    && (beq (hands_over k.number) k.hand-over
    && beq (reads_own k.number) k.own))

-- ---- the limits

-- n bytes alike
unfoldable pub times : ℕ → ℕ → List ℕ
times zero c = []
times (suc n) c = c ∷ times n c

record Limit : Type 0 where
  log : List ℕ
  long : Bool

limits : List Limit
limits =
    record { log = times 256 0x0a; long = false }
    ∷ record { log = times 257 0x0a; long = true }
    -- 256 line ends and a tail
    ∷ record { log = times 256 0x0a ++ 0x30 ∷ []; long = false }
    ∷ record { log = times 32768 0x30; long = false }
    ∷ record { log = times 32769 0x30; long = true }
    ∷ []

malformed-rows : all (λ (r : Row). eqb (first_bad r.log) r.bad) rows ≡ true
unfolding all rows first_bad line part hex_text big_endian hex_digit
    digit pair line_length number_at is_hex bytes_of some every ones_in first_from
    lines_of frame_of shown write_at written number_of end_of
    entries_whole read_shaped write_shaped hand_over_shaped shaped reaches malformed
malformed-rows = refl

kind-rows : all has_parts_lem kinds ≡ true
unfolding all kinds has_parts_lem
kind-rows = refl

long-rows : all (λ (r : Limit). beq (too_long r.log) r.long) limits ≡ true
unfolding all limits times too_long counted
long-rows = refl
