-- `second_part::stale_items` meets its contract. The invariant: the set has the items passed that
-- are older.
use Rattle.std.proofs.Common.{◌≡◌, get_or}
use Rattle.second_part.specs.SecondPart.{older_than}
use Rattle.second_part.proofs.stale_items.Given as goal

abbrev pub invariant-loop-k : goal.invariant-loop-k
invariant-loop-k l = l.stale ≡ older_than l.b l.d l.s (λ j. get_or l.stamps j 0) l.k
