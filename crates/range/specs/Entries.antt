-- The entries as `range` goes through them: latest lies where the view of a client 0 would.
use Rattle.std.specs.Prelude.{ℕ, ◌+◌, ◌*◌}
use Rattle.layout.specs.Layout.{most_items, entry_words, base, latest}

-- where the entries of latest (i of 0) or of client i's view start
abbrev pub entries_at : ℕ → ℕ
entries_at i = base latest + entry_words * most_items * i
