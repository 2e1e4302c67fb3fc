-- The test of a message in flight, as `range_message` goes through it, and of what it gathers.
use Rattle.std.specs.Prelude.{Bool, ◌&&◌, List, ℕ, ◌^◌, ltb, leb}
use Rattle.itemset.specs.Set.{all_below}
use Rattle.protocol.specs.Message.{kinds}
use Rattle.protocol.specs.Range.{message_in_range}
use Rattle.layout.specs.Decode.{kind_in, message_of, message_in}
use Rattle.layout.specs.Encodes.{word}
use Rattle.gather.specs.Sized.{sizes}
use Rattle.gather.specs.Words.{owns_test}
use Rattle.range_message.specs.declared.Gathered.{Gathered}
use Rattle.range_message.specs.declared.Words.{Words}

-- message i: the number of some kind, and in range
abbrev pub message_test : List ℕ → ℕ → ℕ → ℕ → ℕ → Bool
message_test b i clients partitions items =
    leb 1 (kind_in b i) && leb (kind_in b i) kinds
    && message_in_range (sizes clients partitions items) (message_in b i)

-- the words of message i
abbrev pub words_in : List ℕ → ℕ → Words
words_in b i =
    record {
      kind = word b i 0;
      who = word b i 1;
      item = word b i 2;
      value = word b i 3;
      stamp = word b i 4;
      set = word b i 5;
      latest = record { stamp = word b i 6; set = word b i 7 };
    }

-- a message of these words, likewise
abbrev pub words_test : Words → ℕ → ℕ → ℕ → Bool
words_test m clients partitions items =
    leb 1 m.kind && leb m.kind kinds
    && message_in_range (sizes clients partitions items)
    (message_of m.kind m.who m.item m.value m.stamp m.set m.latest)

-- the test of what was gathered of messages
unfoldable pub gathered_test : ℕ → Gathered → Bool
gathered_test items g =
    g.ok && ltb g.values (2 ^ 32) && owns_test g.owns && all_below g.sets items
