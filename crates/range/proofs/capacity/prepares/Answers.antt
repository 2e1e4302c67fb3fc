-- `capacity::prepares` meets its contract: one message after another.
use Rattle.std.proofs.Common.{sym, arith}
use Rattle.range.proofs.Sums.{counted_none, counted_next}
use Rattle.range.proofs.capacity.prepares.Goals as goal

pub loop-i-init : goal.loop-i-init
loop-i-init c = (sym (counted_none _ _), omega arith)

pub loop-i-preserved : goal.loop-i-preserved
loop-i-preserved c =
    (counted_next _ _ _ _ _ c.loop-i.invariant.0 c.prepare_at-sum.ensures.value, omega arith)
