-- `range_client::mixed_in_range` meets its contract: it is the definition, test by test.
use borrow.Author.Rules.{rules}
use Rattle.range_client.proofs.ClientTests.{mixed-tests}
use Rattle.range_client.proofs.mixed_in_range.Goals as goal

pub returns : goal.returns
returns c = mixed-tests _ _ _ _ c.requires.5 c.write_set-written.ensures
    c.write_awaited-awaited.ensures c.stamps_in_range.ensures c.all_below.ensures
    c.all_below-2.ensures c.stamp_in_range.ensures c.stamp.ensures
