-- `compare` meets its contract: it leaves the block as it was.
use Rattle.block_calls.proofs.Given.{compare-keeps}
use Rattle.store_calls.proofs.compare.Goals as goal

pub returns-clause-block : goal.returns-clause-block
returns-clause-block c = compare-keeps _ _ _
