-- `second_part::second_part` meets its contract: its calls are the steps of `second_begun`, for the
-- stamps chosen in one pass are those that the first replies show.
use Rattle.second_part.proofs.Rows.{second-ends, second-fetches}
use Rattle.second_part.proofs.second_part.Goals as goal

pub returns-then-stale-eq0 : goal.returns-then-stale-eq0
returns-then-stale-eq0 c =
    second-ends _ _ _ _ _ _ _ _ c.set_of-s.ensures c.requires.0 c.choose.ensures
    c.stale_items-stale.ensures c.ask_items.ensures c.if-stale-eq0.true c.read_end.ensures

pub returns-else-stale-eq0 : goal.returns-else-stale-eq0
returns-else-stale-eq0 c =
    second-fetches _ _ _ _ _ _ _ _ c.set_of-s.ensures c.requires.0 c.choose.ensures
    c.stale_items-stale.ensures c.ask_items.ensures c.if-stale-eq0.false c.fetch.ensures
