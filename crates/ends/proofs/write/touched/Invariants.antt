-- `ends::write::touched` meets its contract: its loop runs the fold.
use Rattle.std.proofs.Common.{◌≡◌}
use Rattle.ends.specs.Ends.{touched}
use Rattle.ends.proofs.write.touched.Given as goal

abbrev pub invariant-loop-k : goal.invariant-loop-k
invariant-loop-k l = l.ps ≡ touched l.partitions l.s l.k
