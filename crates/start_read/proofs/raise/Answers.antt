-- `start_read::raise` meets its contract: each turn raises the least member of what is left.
use Rattle.std.proofs.Common.{rules}
use Rattle.start.proofs.Raised.{raising-next, raising-last}
use Rattle.start_read.proofs.raise.Goals as goal

pub loop-left-preserved : goal.loop-left-preserved
loop-left-preserved c = raising-next _ c.loop-left.invariant (search rules) c.max.ensures

pub returns : goal.returns
returns c = raising-last c.loop-left.invariant (search rules)
