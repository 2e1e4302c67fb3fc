-- `ends::write::send_commits` meets its contract: its loop runs the fold.
use Rattle.std.proofs.Common.{◌≡◌}
use Rattle.basics.specs.Fold.{up_to}
use Rattle.ends.specs.Ends.{send_commit}
use Rattle.ends.proofs.write.send_commits.Given as goal

abbrev pub invariant-loop-p : goal.invariant-loop-p
invariant-loop-p l = l.b ≡ up_to (send_commit l.ps l.stamp) l.initial.b l.p
