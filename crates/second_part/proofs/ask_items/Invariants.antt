-- `second_part::ask_items` meets its contract: its loop runs the fold.
use Rattle.std.proofs.Common.{◌≡◌, get_or}
use Rattle.basics.specs.Fold.{up_to}
use Rattle.second_part.specs.SecondPart.{ask_again}
use Rattle.second_part.proofs.ask_items.Given as goal

abbrev pub invariant-loop-k : goal.invariant-loop-k
invariant-loop-k l = l.b ≡ up_to (ask_again l.d l.s (λ j. get_or l.stamps j 0)) l.initial.b l.k
