-- `ends::write::see` meets its contract: its loop runs the fold.
use Rattle.std.proofs.Common.{◌≡◌}
use Rattle.basics.specs.Fold.{up_to}
use Rattle.ends.specs.Ends.{see_item}
use Rattle.ends.proofs.write.see.Given as goal

abbrev pub invariant-loop-k : goal.invariant-loop-k
invariant-loop-k l = l.b ≡ up_to (see_item l.d l.s l.stamp) l.initial.b l.k
