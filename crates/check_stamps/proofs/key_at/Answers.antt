use mathlib.Core.Path.{◌∙◌}
use native.Mathlib.Omega.{arith}
use Rattle.check_stamps.proofs.Block.{long}
use Rattle.check_stamps.proofs.Read.{version-small, key-some, key-none}
use Rattle.check_stamps.proofs.key_at.Goals as goal

pub version-v-requires : goal.version-v-requires
version-v-requires c = (omega arith, long c.args.b.now c.requires.0)

pub key_of-requires : goal.key_of-requires
key_of-requires c =
    let fit = version-small _ _ c.version_count.ensures c.requires.0 c.if-i-version_count.true
    c.version-v.ensures in
    (fit.1, fit.0)

pub returns-then-i-version_count : goal.returns-then-i-version_count
returns-then-i-version_count c =
    c.key_of.ensures
    ∙ key-some _ _ c.version_count.ensures c.if-i-version_count.true c.version-v.ensures

pub returns-else-i-version_count : goal.returns-else-i-version_count
returns-else-i-version_count c = key-none _ _ c.version_count.ensures c.if-i-version_count.false
