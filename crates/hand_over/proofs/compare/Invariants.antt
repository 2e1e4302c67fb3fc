-- `hand_over::compare` meets its contract. The invariant: the flags are the outcomes of the tests
-- of the items passed.
use Rattle.std.proofs.Common.{◌≡◌}
use Rattle.basics.specs.Lists.{every}
use Rattle.hand_over.proofs.Compared.{no_later_at}
use Rattle.hand_over.proofs.compare.Given as goal

abbrev pub invariant-loop-k : goal.invariant-loop-k
invariant-loop-k l =
    (l.below ≡ every l.k (no_later_at l.b l.first l.second))
    × (l.above ≡ every l.k (no_later_at l.b l.second l.first))
