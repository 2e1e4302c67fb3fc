-- `start_read::ask_items` meets its contract: its loop runs the fold from member to member.
use Rattle.std.proofs.Common.{refl, arith}
use Rattle.itemset.proofs.Visits.{visits-first, visits-next, visits-on}
use Rattle.start_read.proofs.ask_items.Goals as goal

pub loop-k-init : goal.loop-k-init
loop-k-init c = visits-first _ (λ x k e. rw e refl) c.least_from-k.ensures

pub loop-k-smaller : goal.loop-k-smaller
loop-k-smaller c = omega (arith, visits-on _ c.least_from-k-in-loop-k.ensures)

pub loop-k-preserved : goal.loop-k-preserved
loop-k-preserved c =
    visits-next _ (λ x k e. rw e refl) c.loop-k.invariant c.loop-k-test.true
    c.ask_item.ensures c.ask_item.auto.b c.least_from-k-in-loop-k.ensures
