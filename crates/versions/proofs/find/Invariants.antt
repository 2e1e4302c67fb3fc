-- `versions::find` meets its contract. The invariant: none of the versions passed is alike.
use mathlib.Core.Path.{◌≡◌}
use Rattle.std.specs.Prelude.{None}
use Rattle.versions.specs.Found.{first_alike}
use Rattle.versions.proofs.find.Given as goal

abbrev pub invariant-loop-i : goal.invariant-loop-i
invariant-loop-i l = first_alike l.b l.i l.item l.stamp ≡ None
