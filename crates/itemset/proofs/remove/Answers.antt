-- `itemset::remove` meets its contract: what `&` finds of the digit worth 2 ^ item is taken off,
-- and a 64-bit set has no item from 64 on.
use borrow.Author.Rules.{rules}
use lib.Bits.{bit_and}
use mathlib.Core.Path.{sym, ap, ◌∙◌}
use Prim.Native.Nat.{ℕ, ◌-◌}
use Rattle.itemset.proofs.Laws.{has_above, remove-hasnt}
use Rattle.itemset.proofs.Bits.{one_shifted, remove-and}
use Rattle.itemset.proofs.remove.Goals as goal

pub returns-then-item-lt64 : goal.returns-then-item-lt64
returns-then-item-lt64 c = ap (λ (bit : ℕ). c.args.set - bit_and c.args.set bit)
    (one_shifted c.args.item 64 (search rules))
    ∙ sym (remove-and c.args.set c.args.item)

pub returns-else-item-lt64 : goal.returns-else-item-lt64
returns-else-item-lt64 c = sym (remove-hasnt c.args.set c.args.item
    (has_above c.args.set c.args.item 64 (search rules) (search rules)))
