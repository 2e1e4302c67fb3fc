use Rattle.check_stamps.proofs.Read.{held_low, held_high}
use Rattle.check_stamps.proofs.held.Goals as goal

pub returns-then-p-lt-MOST_VERSIONS : goal.returns-then-p-lt-MOST_VERSIONS
returns-then-p-lt-MOST_VERSIONS c =
    held_low _ _ c.if-p-lt-MOST_VERSIONS.true c.version_held.ensures

pub returns-else-p-lt-MOST_VERSIONS : goal.returns-else-p-lt-MOST_VERSIONS
returns-else-p-lt-MOST_VERSIONS c =
    held_high _ _ c.if-p-lt-MOST_VERSIONS.false c.client_held.ensures
