-- `range_client::asked_in_range` meets its contract, part by part.
use borrow.Author.Rules.{rules}
use Rattle.range_client.proofs.ClientTests.{asked-tests}
use Rattle.range_client.proofs.asked_in_range.Goals as goal

pub returns : goal.returns
returns c = asked-tests _ _ _ _ c.stamps_in_range.ensures
    c.values_in_range.ensures c.firsts_in_range.ensures
    c.requires.6
