-- The count so far, over the first messages.
use Rattle.std.proofs.Common.{◌≡◌, ◌≤◌}
use Rattle.basics.specs.Lists.{counted, table}
use Rattle.protocol.specs.Message.{is_prepare}
use Rattle.layout.specs.Decode.{message_in}
use Rattle.range.proofs.capacity.prepares.Given as goal

abbrev pub invariant-loop-i : goal.invariant-loop-i
invariant-loop-i l =
    (l.sum ≡ counted is_prepare (table l.i (message_in l.b))) × (l.sum ≤ l.i)
