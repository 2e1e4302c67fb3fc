-- `deliver::replies::read_got` meets its contract: by the test.
use Rattle.deliver.proofs.Rows.{read-last, read_more}
use Rattle.deliver.proofs.replies.read_got.Goals as goal

pub returns-then-rest-eq0 : goal.returns-then-rest-eq0
returns-then-rest-eq0 c =
    read-last _ _ _ _ _ _ _ _ _ c.awaited.ensures
    c.remove-rest.ensures c.answer.ensures
    c.if-rest-eq0.true c.read_end.ensures

pub returns-else-rest-eq0 : goal.returns-else-rest-eq0
returns-else-rest-eq0 c =
    read_more _ _ _ _ _ _ _ _ _ c.awaited.ensures
    c.remove-rest.ensures c.answer.ensures
    c.if-rest-eq0.false c.put_awaited.ensures
