use native.Mathlib.Omega.{arith}
use Rattle.check_stamps.proofs.Block.{long}
use Rattle.check_stamps.proofs.Read.{held-some, held_none}
use Rattle.check_stamps.proofs.version_held.Goals as goal

pub version-v-requires : goal.version-v-requires
version-v-requires c = (omega arith, long c.args.b.now c.requires.0)

pub returns-then-p-version_count : goal.returns-then-p-version_count
returns-then-p-version_count c =
    held-some _ _ c.version_count.ensures c.if-p-version_count.true c.version-v.ensures

pub returns-else-p-version_count : goal.returns-else-p-version_count
returns-else-p-version_count c = held_none _ _ c.version_count.ensures c.if-p-version_count.false
