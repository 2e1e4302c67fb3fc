-- `deliver::replies::written` meets its contract: by the test.
use Rattle.deliver.proofs.Rows.{written_last, written-more}
use Rattle.deliver.proofs.replies.written.Goals as goal

pub returns-then-rest-eq0 : goal.returns-then-rest-eq0
returns-then-rest-eq0 c =
    written_last _ _ _ _ _ _ _ _
    c.awaited.ensures
    c.remove-rest.ensures
    c.if-rest-eq0.true c.write_end.ensures

pub returns-else-rest-eq0 : goal.returns-else-rest-eq0
returns-else-rest-eq0 c =
    written-more _ _ _ _ _ _ _ _
    c.awaited.ensures
    c.remove-rest.ensures
    c.if-rest-eq0.false c.put_awaited.ensures
