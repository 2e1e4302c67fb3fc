-- `range_client::read_in_range` meets its contract: where a read part is shown, the set, and the
-- stamps and values of its items.
use mathlib.Core.Path.{sym, ◌∙◌}
use borrow.Author.Rules.{rules}
use Rattle.range_client.proofs.ClientTests.{read-tests}
use Rattle.range_client.proofs.read_in_range.Goals as goal

pub returns-then-shows_read : goal.returns-then-shows_read
returns-then-shows_read c = let given = c.args in
    rw (sym c.shows_read.ensures ∙ c.if-shows_read.true)
    (read-tests given.b.now given.d _ _ given.kind
    c.all_below.ensures
    c.stamps_in_range.ensures
    c.last_values_in_range.ensures
    c.last_set-set.ensures
    (search rules))
