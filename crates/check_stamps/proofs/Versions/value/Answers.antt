use mathlib.Core.Path.{ap, ◌∙◌}
use Rattle.index.specs.Index.{place}
use Rattle.check_stamps.proofs.Block.{long}
use Rattle.check_stamps.proofs.Read.{value-some, value-none}
use Rattle.check_stamps.proofs.Truncated.{keyed-of}
use Rattle.check_stamps.proofs.Versions.value.Goals as goal

pub find-place-requires : goal.find-place-requires
find-place-requires c = (keyed-of _ _ _ c.args.self.now.keyed).index

pub version-requires : goal.version-requires
version-requires c =
    (c.if-place-lt-MOST_VERSIONS.true, long _ (keyed-of _ _ _ c.args.self.now.keyed).valid)

pub returns-then-place-lt-MOST_VERSIONS : goal.returns-then-place-lt-MOST_VERSIONS
returns-then-place-lt-MOST_VERSIONS c =
    value-some _ _ _ (keyed-of _ _ _ c.args.self.now.keyed) _ _
    (c.find-place.ensures ∙ ap (place _) c.key_of.ensures) c.requires.0
    c.if-place-lt-MOST_VERSIONS.true c.version.ensures

pub returns-else-place-lt-MOST_VERSIONS : goal.returns-else-place-lt-MOST_VERSIONS
returns-else-place-lt-MOST_VERSIONS c =
    value-none _ _ _ (keyed-of _ _ _ c.args.self.now.keyed) _ _
    (c.find-place.ensures ∙ ap (place _) c.key_of.ensures) c.requires.0
    c.if-place-lt-MOST_VERSIONS.false
