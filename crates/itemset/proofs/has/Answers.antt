-- `itemset::has` meets its contract: the digit worth 2 ^ item decides, and a 64-bit set has none
-- from 64 on.
use borrow.Author.Rules.{rules}
use borrow.Author.Tests.{le-ltb}
use mathlib.Core.Path.{sym, ◌∙◌}
use Rattle.itemset.proofs.Laws.{has-power, has_above}
use Rattle.itemset.proofs.has.Goals as goal

pub returns-then-item-lt64 : goal.returns-then-item-lt64
returns-then-item-lt64 c = sym (has-power c.args.set c.args.item)

pub returns-else-item-lt64 : goal.returns-else-item-lt64
returns-else-item-lt64 c = le-ltb c.args.item 64 (search rules)
    ∙ sym (has_above c.args.set c.args.item 64 (search rules) (search rules))
