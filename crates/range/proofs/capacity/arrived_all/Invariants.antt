-- The sum so far, over the first clients, each of at most 64.
use Rattle.std.proofs.Common.{◌≡◌, ◌*◌, ◌≤◌}
use Rattle.protocol.specs.Range.{arrived, total}
use Rattle.layout.specs.Layout.{most_items}
use Rattle.layout.specs.Decode.{client_in}
use Rattle.range.proofs.capacity.arrived_all.Given as goal

abbrev pub invariant-loop-i : goal.invariant-loop-i
invariant-loop-i l =
    (l.sum ≡ total l.i (λ d. arrived (client_in l.b d))) × (l.sum ≤ most_items * l.i)
