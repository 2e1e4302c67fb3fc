-- `range_client::client_in_range` meets its contract: its parts are the protocol's test of the
-- client.
use borrow.Author.Rules.{rules}
use Rattle.range_client.proofs.ClientTests.{client-tests}
use Rattle.range_client.proofs.client_in_range.Goals as goal

pub returns : goal.returns
returns c = let given = c.args in
    client-tests given.b.now given.d given.clients given.items
    c.under_way_in_range.ensures c.last_in_range.ensures
