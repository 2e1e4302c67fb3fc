-- `clear::gather` meets its contract: one stamp more is gathered.
use Rattle.std.proofs.Common.{arith}
use Rattle.clear.specs.Stamps.{stamp_in}
use Rattle.clear.proofs.Read.{gathered_next}
use Rattle.clear.proofs.gather.Goals as goal

pub loop-p-preserved : goal.loop-p-preserved
loop-p-preserved c =
    let l = c.loop-p in
    gathered_next (stamp_in _) l.stamps l.p _ (omega arith) l.invariant c.stamp_at.ensures
