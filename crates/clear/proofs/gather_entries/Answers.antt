-- `clear::gather_entries` meets its contract: one stamp more is gathered.
use Rattle.std.proofs.Common.{refl, sym, ◌∙◌, arith}
use Rattle.basics.specs.Lists.{table}
use Rattle.clear.specs.Stamps.{stamp_in}
use Rattle.clear.proofs.Read.{gathered_next}
use Rattle.clear.proofs.Gathered.{stamp-entry}
use Rattle.clear.proofs.gather_entries.Goals as goal

pub loop-p-init : goal.loop-p-init
unfolding table
loop-p-init c = refl

pub loop-p-preserved : goal.loop-p-preserved
loop-p-preserved c =
    let l = c.loop-p in
    gathered_next (stamp_in _) l.stamps l.p _ (omega arith) l.invariant
    (c.entry_stamp.ensures ∙ sym (stamp-entry _ l.p (omega arith)))
