-- `itemset::rank` meets its contract: the mask keeps the digits below `item`, and from 64 on those
-- are all.
use borrow.Author.Rules.{rules}
use mathlib.Core.Path.{sym, ap, ◌∙◌}
use Prim.Native.Nat.{ℕ, ◌-◌}
use lib.Bits.{bit_and}
use Rattle.itemset.specs.Set.{count}
use Rattle.itemset.proofs.Laws.{below-le}
use Rattle.itemset.proofs.Counts.{rank-all}
use Rattle.itemset.proofs.Bits.{one_shifted, rank-and}
use Rattle.itemset.proofs.rank.Goals as goal

pub returns-then-item-lt64 : goal.returns-then-item-lt64
returns-then-item-lt64 c = c.count.ensures
    ∙ ap (λ (bit : ℕ). count (bit_and c.args.set (bit - 1)))
    (one_shifted c.args.item 64 (search rules))
    ∙ sym (rank-and c.args.set c.args.item)

pub returns-else-item-lt64 : goal.returns-else-item-lt64
returns-else-item-lt64 c = c.count-else-item-lt64.ensures
    ∙ sym (rank-all c.args.set c.args.item
    (below-le c.args.set 64 c.args.item (search rules)
    (search rules)))
