use mathlib.Core.Path.{refl}
use native.Mathlib.Omega.{arith}
use lib.ListN.{length-set}
use Rattle.basics.specs.Lists.{table}
use Rattle.index.proofs.Places.{gathered_next}
use Rattle.check_stamps.specs.Stamps.{key_in}
use Rattle.check_stamps.proofs.gather_keys.Goals as goal

pub loop-p-init : goal.loop-p-init
unfolding table
loop-p-init c = (c.requires.1, refl)

pub loop-p-preserved : goal.loop-p-preserved
loop-p-preserved c =
    let l = c.loop-p in (
      simp length-set l.invariant.0,
      gathered_next (key_in _) l.keys l.p _ (omega arith) l.invariant.1 c.key_at.ensures,
    )
