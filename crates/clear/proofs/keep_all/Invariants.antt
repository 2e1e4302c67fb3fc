-- `clear::keep_all` meets its contract. The invariant: the versions up to `i` that stay have moved.
use Rattle.clear.proofs.Staying.{Kept}
use Rattle.clear.proofs.keep_all.Given as goal

abbrev pub invariant-loop-i : goal.invariant-loop-i
invariant-loop-i l = Kept l.stamps l.initial.b l.n l.b l.kept l.i
