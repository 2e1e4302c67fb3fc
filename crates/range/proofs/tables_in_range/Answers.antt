-- `tables_in_range` meets its contract: its parts in their order.
use Rattle.range.proofs.BlockTests.{tables-tests}
use Rattle.range.proofs.tables_in_range.Goals as goal

pub returns : goal.returns
returns c =
    tables-tests _ _ _ _ _ _ c.views_in_range.ensures c.clients_in_range.ensures
    c.versions_in_range.ensures c.messages_in_range.ensures c.load_of.ensures
    c.occupied_fits.ensures
