-- `index::add` meets its contract: by the link where the walk ends.
use Rattle.index.proofs.Places.{index-added, index_kept}
use Rattle.index.proofs.add.Goals as goal

pub returns-then-found-eq0 : goal.returns-then-found-eq0
returns-then-found-eq0 c = index-added _ _ _ _ c.requires.0 c.requires.1 c.last_link-at.ensures c.if-found-eq0.true

pub returns-else-found-eq0 : goal.returns-else-found-eq0
returns-else-found-eq0 c = index_kept _ _ _ _ c.requires.0 c.requires.1 c.last_link-at.ensures c.if-found-eq0.false
