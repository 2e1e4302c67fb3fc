-- `index::last_link` meets its contract. The invariant: the walk has come to the link `at`, which
-- lies among the links. The measure is how many lie behind it.
use mathlib.Core.Path.{refl}
use native.Mathlib.Omega.{arith}
use Rattle.index.proofs.Places.{walk_begins, walk-goes}
use Rattle.index.proofs.last_link.Goals as goal

pub loop-at-init : goal.loop-at-init
loop-at-init c = (
  omega (arith, c.slot_of-at.ensures),
  walk_begins _ _ _ c.slot_of-at.ensures,
)

pub loop-at-preserved : goal.loop-at-preserved
loop-at-preserved c = let l = c.loop-at in (
  omega (
    arith,
    c.requires.within l.at,
    c.requires.rising l.at c.loop-at-test.true,
  ),
  walk-goes _ _ _ l.invariant.1 c.loop-at-test.true c.if-keys-p.false refl,
)
