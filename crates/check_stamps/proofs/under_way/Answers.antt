use Rattle.check_stamps.proofs.Read.{under_none, under_some}
use Rattle.check_stamps.proofs.under_way.Goals as goal

pub returns-then-set-eq0 : goal.returns-then-set-eq0
returns-then-set-eq0 c = under_none _ c.write_set-set.ensures c.if-set-eq0.true

pub returns-else-set-eq0 : goal.returns-else-set-eq0
returns-else-set-eq0 c =
    under_some _ c.write_set-set.ensures c.if-set-eq0.false c.write_stamp.ensures
