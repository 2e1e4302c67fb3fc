-- From `i` on the line ends where it ends from `at` on, since no byte passed is 0a.
use mathlib.Core.Path.{◌≡◌}
use Rattle.hexadecimal.specs.Line.{line_end}
use Rattle.hexadecimal.proofs.line_end.Given as goal

abbrev pub invariant-loop-i : goal.invariant-loop-i
invariant-loop-i l = line_end l.s l.i ≡ line_end l.s l.at
