use mathlib.Core.Path.{refl, ap}
use native.Mathlib.Omega.{arith}
use lib.ListN.{length-set}
use Rattle.basics.specs.Lists.{table}
use Rattle.protocol.specs.declared.Entry.{Entry}
use Rattle.index.proofs.Places.{gathered_next}
use Rattle.check_stamps.specs.Stamps.{held_stamp}
use Rattle.check_stamps.proofs.gather_stamps.Goals as goal

pub loop-p-init : goal.loop-p-init
unfolding table
loop-p-init c = (c.requires.1, refl)

pub loop-p-preserved : goal.loop-p-preserved
loop-p-preserved c =
    let l = c.loop-p in (
      simp length-set l.invariant.0,
      gathered_next (held_stamp _) l.stamps l.p _ (omega arith) l.invariant.1
          (ap (λ (e : Entry). e.stamp) c.held.ensures),
    )
