-- `itemset::insert` meets its contract: `|` with the digit worth 2 ^ item.
use borrow.Author.Rules.{rules}
use lib.Bits.{bit_or}
use mathlib.Core.Path.{sym, ap, ◌∙◌}
use Rattle.itemset.proofs.Laws.{insert64-lt}
use Rattle.itemset.proofs.Bits.{one_shifted, insert-or}
use Rattle.itemset.proofs.insert.Goals as goal

pub returns-then-item-lt64 : goal.returns-then-item-lt64
returns-then-item-lt64 c = ap (bit_or c.args.set) (one_shifted c.args.item 64 (search rules))
    ∙ sym (insert-or c.args.set c.args.item)
    ∙ sym (insert64-lt c.args.set c.args.item (search rules))
