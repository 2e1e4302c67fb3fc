-- `client_parts::write_value` meets its contract: by the set, and in its word by the mode.
use Rattle.client_parts.proofs.Words.{test_of, write-value, no-write-value}
use Rattle.client_parts.proofs.write_value.Goals as goal

pub returns-then-has : goal.returns-then-has
returns-then-has c = write-value _ _ _ c.written_value.ensures c.mode-mixed.ensures c.value.ensures
    (test_of _ _ _ c.has.ensures c.write_set-set.ensures c.if-has.true)

pub returns-else-has : goal.returns-else-has
returns-else-has c = no-write-value _ _ _
    (test_of _ _ _ c.has.ensures c.write_set-set.ensures c.if-has.false)
