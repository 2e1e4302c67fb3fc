-- `start_read::ask_items` meets its contract: its loop runs the fold from member to member.
use Rattle.std.proofs.Common.{◌-◌}
use Rattle.itemset.proofs.Visits.{Visits}
use Rattle.start.specs.Start.{ask_from}
use Rattle.start_read.proofs.ask_items.Given as goal

abbrev pub invariant-loop-k : goal.invariant-loop-k
invariant-loop-k l = Visits l.s (ask_from l.d l.s l.stamps) l.items l.initial.b l.b l.k

abbrev pub decreases-loop-k : goal.decreases-loop-k
decreases-loop-k l = l.items - l.k
