-- Entries that stand one after another, as `range_client::entry` goes through them.
use Rattle.std.specs.Prelude.{List, ℕ, ◌+◌, ◌*◌, get_or}
use Rattle.protocol.specs.declared.Entry.{Entry}
use Rattle.layout.specs.Layout.{entry_words}

-- entry k of those from word `start` of the block on
abbrev pub entry_from : List ℕ → ℕ → ℕ → Entry
entry_from b start k =
    record {
      stamp = get_or b (start + (entry_words * k + 0)) 0;
      set = get_or b (start + (entry_words * k + 1)) 0;
    }
