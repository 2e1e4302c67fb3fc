-- `itemset::all_below` meets its contract: nothing is left above the n lowest digits, and from 64
-- on nothing is above.
use borrow.Author.Rules.{rules}
use borrow.Author.Tests.{lt-ltb, le-leb}
use mathlib.Core.Path.{sym, ◌∙◌}
use Prim.Native.Nat.{◌^◌}
use Rattle.itemset.proofs.Laws.{below-le}
use Rattle.itemset.proofs.Bits.{all-below-shift}
use Rattle.itemset.proofs.all_below.Goals as goal

pub returns-then-n-ge64 : goal.returns-then-n-ge64
returns-then-n-ge64 c = le-leb 64 c.args.n (search rules)
    ∙ sym (lt-ltb c.args.set (2 ^ c.args.n)
    (below-le c.args.set 64 c.args.n (search rules) (search rules)))

pub returns-else-n-ge64 : goal.returns-else-n-ge64
returns-else-n-ge64 c = sym (all-below-shift c.args.set c.args.n)
