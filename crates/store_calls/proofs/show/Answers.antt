-- `show` meets its contract: it leaves the block as it was.
use Rattle.block_calls.proofs.Given.{show-keeps}
use Rattle.store_calls.proofs.show.Goals as goal

pub returns-clause-block : goal.returns-clause-block
returns-clause-block c = show-keeps _ _ _
