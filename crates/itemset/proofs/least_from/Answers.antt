-- `itemset::least_from` meets its contract: past `item`, the zeros below the lowest digit that is
-- set are the items that are no members.
use native.Mathlib.Omega.{arith}
use Prim.Native.Nat.{◌-◌}
use Rattle.itemset.proofs.Least.{least-ge, least-le}
use Rattle.itemset.proofs.Bits.{least-trailing}
use Rattle.itemset.proofs.least_from.Goals as goal

pub returns-then-item-lt64 : goal.returns-then-item-lt64
returns-then-item-lt64 c = omega (
  arith,
  least-trailing 64 c.args.set
      c.args.item (omega arith),
)

pub returns-else-item-lt64 : goal.returns-else-item-lt64
returns-else-item-lt64 c = omega (
  arith,
  least-ge (64 - c.args.item) c.args.set c.args.item,
  least-le (64 - c.args.item) c.args.set c.args.item,
)
