-- `client_parts::asked` meets its contract: by the set.
use mathlib.Core.Path.{◌∙◌}
use Rattle.client_parts.proofs.Words.{test_of, asked-some, asked-none}
use Rattle.client_parts.proofs.asked.Goals as goal

pub returns-then-has : goal.returns-then-has
returns-then-has c = let h = test_of _ _ _ c.has.ensures
    c.read_set-set.ensures c.if-has.true
    in c.asked.ensures ∙ asked-some _ _ _ h

pub returns-else-has : goal.returns-else-has
returns-else-has c = asked-none _ _ _
    (test_of _ _ _ c.has.ensures c.read_set-set.ensures c.if-has.false)
