-- `range_client::last_in_range` meets its contract: a kind that there is, and the parts that it
-- shows.
use borrow.Author.Rules.{rules}
use Rattle.range_client.proofs.ClientTests.{last_none, last-tests}
use Rattle.range_client.proofs.last_in_range.Goals as goal

pub returns-then-kind-eq-NONE : goal.returns-then-kind-eq-NONE
returns-then-kind-eq-NONE c = let given = c.args in
    last_none given.b.now given.d _ _ c.last_kind-kind.ensures c.if-kind-eq-NONE.true

pub returns : goal.returns
returns c = let given = c.args in
    last-tests given.b.now given.d _ _
    c.last_kind-kind.ensures
    c.is_kind.ensures
    c.read_in_range.ensures
    c.write_in_range.ensures
