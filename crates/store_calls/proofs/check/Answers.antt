-- `check` meets its contract: it leaves the block as it was.
use Rattle.block_calls.proofs.Given.{check-keeps}
use Rattle.store_calls.proofs.check.Goals as goal

pub returns-clause-block : goal.returns-clause-block
returns-clause-block c = check-keeps _
