-- `deliver::replies::first_reply` meets its contract: by the test.
use Rattle.deliver.proofs.Rows.{first-last, first_more}
use Rattle.deliver.proofs.replies.first_reply.Goals as goal

pub returns-then-rest-eq0 : goal.returns-then-rest-eq0
returns-then-rest-eq0 c =
    first-last _ _ _ _ _ _ _ _ _ c.awaited.ensures c.remove-rest.ensures
    c.keep_first.ensures c.if-rest-eq0.true c.second_part.ensures

pub returns-else-rest-eq0 : goal.returns-else-rest-eq0
returns-else-rest-eq0 c =
    first_more _ _ _ _ _ _ _ _ _ c.awaited.ensures c.remove-rest.ensures
    c.keep_first.ensures c.if-rest-eq0.false c.put_awaited.ensures
