-- `clear::mark_all` meets its contract. The invariant: the stamps passed are marked.
use Rattle.std.proofs.Common.{take}
use Rattle.clear.specs.Stamps.{Marks}
use Rattle.clear.proofs.mark_all.Given as goal

abbrev pub invariant-loop-stamp : goal.invariant-loop-stamp
invariant-loop-stamp l = Marks (take l.stamp-index l.stamps) l.slots
