-- `client_parts::answer` meets its contract: by the set, and in its word by the mode.
use Rattle.client_parts.proofs.Words.{test_of, answer-some, answer-none}
use Rattle.client_parts.proofs.answer.Goals as goal

pub returns-then-has : goal.returns-then-has
returns-then-has c = answer-some _ _ _
    (test_of _ _ _ c.has.ensures c.read_set-set.ensures c.if-has.true)
    c.read_value.ensures c.mode-mixed.ensures c.value.ensures

pub returns-else-has : goal.returns-else-has
returns-else-has c = answer-none _ _ _
    (test_of _ _ _ c.has.ensures c.read_set-set.ensures c.if-has.false)
