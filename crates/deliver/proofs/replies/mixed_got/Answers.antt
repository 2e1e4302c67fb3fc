-- `deliver::replies::mixed_got` meets its contract: by the test.
use Rattle.deliver.proofs.Rows.{mixed-got-last, mixed-got-more}
use Rattle.deliver.proofs.replies.mixed_got.Goals as goal

pub returns-then-rest-replies : goal.returns-then-rest-replies
returns-then-rest-replies c =
    mixed-got-last _ _ _ _ _ _ _ _ _ _ _ c.awaited.ensures c.remove-rest.ensures
    c.write_awaited-replies.ensures c.answer.ensures c.if-rest-replies.true
    c.mixed_end.ensures

pub returns-else-rest-replies : goal.returns-else-rest-replies
returns-else-rest-replies c =
    mixed-got-more _ _ _ _ _ _ _ _ _ _ _ c.awaited.ensures c.remove-rest.ensures
    c.write_awaited-replies.ensures c.answer.ensures c.if-rest-replies.false
    c.put_awaited.ensures
