-- `ends::write::keep_values` meets its contract: its loop runs the fold.
use Rattle.std.proofs.Common.{◌≡◌}
use Rattle.basics.specs.Fold.{up_to}
use Rattle.ends.specs.Ends.{keep_value}
use Rattle.ends.proofs.write.keep_values.Given as goal

abbrev pub invariant-loop-k : goal.invariant-loop-k
invariant-loop-k l = l.b ≡ up_to (keep_value l.d l.s) l.initial.b l.k
