use mathlib.Core.Path.{refl}
use native.Mathlib.Omega.{arith}
use lib.ListN.{length-set}
use Rattle.basics.specs.Lists.{table}
use Rattle.index.proofs.Places.{gathered_next}
use Rattle.check_entries.specs.Entries.{whole_mark}
use Rattle.check_entries.proofs.Tables.gather_wholes.Goals as goal

pub loop-p-init : goal.loop-p-init
unfolding table
loop-p-init c = (c.requires, refl)

pub loop-p-preserved : goal.loop-p-preserved
loop-p-preserved c =
    let l = c.loop-p in (
      simp length-set l.invariant.0,
      gathered_next (whole_mark _) l.marks l.p _ (omega arith) l.invariant.1 c.whole_mark.ensures,
    )
