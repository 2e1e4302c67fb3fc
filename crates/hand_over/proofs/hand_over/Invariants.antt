-- `hand_over::hand_over` meets its contract: its loop runs the fold.
use Rattle.std.proofs.Common.{◌≡◌}
use Rattle.basics.specs.Fold.{up_to}
use Rattle.hand_over.specs.HandOver.{take_item}
use Rattle.hand_over.proofs.hand_over.Given as goal

abbrev pub invariant-loop-k : goal.invariant-loop-k
invariant-loop-k l = l.b ≡ up_to (take_item l.giver l.receiver) l.initial.b l.k
