-- `read` meets its contract: the block that it leaves holds the tables.
use Rattle.block_calls.proofs.Given.{tables-given}
use Rattle.store_calls.proofs.read.Goals as goal

pub returns-clause-tables : goal.returns-clause-tables
returns-clause-tables c = tables-given _ _ _ c.try_read.ensures.block
