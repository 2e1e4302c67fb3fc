-- `range_client::come_in_range` meets its contract: where all are awaited none has come, and
-- where all first replies pass those that have come do.
use borrow.Author.Rules.{rules}
use Rattle.range_client.proofs.FirstTests.{come-nothing, come-all, come-some}
use Rattle.range_client.proofs.come_in_range.Goals as goal

pub returns-then-set-awaited : goal.returns-then-set-awaited
returns-then-set-awaited c = let a = c.args in
    come-nothing a.b.now a.d _ _ _ _ c.if-set-awaited.true

pub returns-then-entries_in_range : goal.returns-then-entries_in_range
returns-then-entries_in_range c = let a = c.args in
    come-all a.b.now a.d _ _ _ _ c.entries_in_range.ensures c.if-entries_in_range.true
