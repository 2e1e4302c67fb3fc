-- `range_client::write_in_range` meets its contract: where a write part is shown, the set, its one
-- stamp, and the values of its items.
use mathlib.Core.Path.{sym, ◌∙◌}
use borrow.Author.Rules.{rules}
use Rattle.range_client.proofs.ClientTests.{write-tests}
use Rattle.range_client.proofs.write_in_range.Goals as goal

pub returns-then-shows_write : goal.returns-then-shows_write
returns-then-shows_write c = let given = c.args in
    rw (sym c.shows_write.ensures ∙ c.if-shows_write.true)
    (write-tests given.b.now given.d _ _ given.kind
    c.all_below.ensures
    c.stamp_in_range.ensures
    c.last_values_in_range.ensures
    c.last_written_set-set.ensures
    c.last_stamp.ensures
    (search rules))
