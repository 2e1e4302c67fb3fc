-- `index::find` meets its contract: by the link where the walk ends.
use Rattle.index.proofs.Places.{walk_none}
use Rattle.index.proofs.find.Goals as goal

pub returns-then-found-eq0 : goal.returns-then-found-eq0
returns-then-found-eq0 c = walk_none _ _ _ _ c.requires c.last_link-at.ensures c.if-found-eq0.true
