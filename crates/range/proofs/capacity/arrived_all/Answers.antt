-- `capacity::arrived_all` meets its contract: a sum over the clients, from client 1 on.
use Rattle.std.proofs.Common.{sym, arith}
use Rattle.range.proofs.Sums.{total-none, total-next}
use Rattle.range.proofs.capacity.arrived_all.Goals as goal

pub loop-i-init : goal.loop-i-init
loop-i-init c = (sym (total-none _), omega arith)

pub loop-i-preserved : goal.loop-i-preserved
loop-i-preserved c =
    (total-next _ _ _ _ c.loop-i.invariant.0 c.arrived_at-sum.ensures.value, omega arith)
