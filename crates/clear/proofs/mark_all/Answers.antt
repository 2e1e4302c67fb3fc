-- `clear::mark_all` meets its contract: one stamp more is marked.
use Rattle.std.proofs.Common.{arith}
use Rattle.clear.proofs.Read.{marks-step}
use Rattle.clear.proofs.mark_all.Goals as goal

pub loop-stamp-preserved : goal.loop-stamp-preserved
loop-stamp-preserved c =
    let l = c.loop-stamp in
    marks-step _ _ _ l.stamp-index (omega arith) l.invariant c.mark.ensures
