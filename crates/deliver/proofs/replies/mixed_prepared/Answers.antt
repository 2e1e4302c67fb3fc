-- `deliver::replies::mixed_prepared` meets its contract: by the test.
use Rattle.deliver.proofs.Rows.{mixed-prepared-last, mixed-prepared-more}
use Rattle.deliver.proofs.replies.mixed_prepared.Goals as goal

pub returns-then-gots-rest : goal.returns-then-gots-rest
returns-then-gots-rest c =
    mixed-prepared-last _ _ _ _ _ _ _ _ _ c.awaited-gots.ensures
    c.write_awaited.ensures c.remove-rest.ensures c.if-gots-rest.true
    c.mixed_end.ensures

pub returns-else-gots-rest : goal.returns-else-gots-rest
returns-else-gots-rest c =
    mixed-prepared-more _ _ _ _ _ _ _ _ _ c.awaited-gots.ensures
    c.write_awaited.ensures c.remove-rest.ensures c.if-gots-rest.false
    c.put_write_awaited.ensures
