-- `start_read::raise` meets its contract. The invariant: what is left, raised, gives what all of it
-- gives. The measure is what is left, as a number: its least member goes.
use Rattle.start.proofs.Raised.{Raising}
use Rattle.start_read.proofs.raise.Given as goal

abbrev pub invariant-loop-left : goal.invariant-loop-left
invariant-loop-left l = Raising l.set l.stamp l.initial.stamps l.left l.stamps

abbrev pub decreases-loop-left : goal.decreases-loop-left
decreases-loop-left l = l.left
