use Rattle.check_messages.specs.Sides.{side_if}
use Rattle.check_messages.proofs.Seen.{Met}
use Rattle.check_messages.proofs.one_each.Given as goal

abbrev pub invariant-loop-i : goal.invariant-loop-i
invariant-loop-i l = Met l.b (side_if l.write) l.d l.i-end l.i l.ok l.seen
