-- `start::greatest` meets its contract. The invariant: `most` is the greatest of the count and of
-- the first `k` entries' numbers.
use Rattle.std.proofs.Common.{◌≡◌}
use Rattle.start.specs.Start.{greatest_on}
use Rattle.start.proofs.greatest.Given as goal

abbrev pub invariant-loop-k : goal.invariant-loop-k
invariant-loop-k l = l.most ≡ greatest_on l.b l.d l.k
