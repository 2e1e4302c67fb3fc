-- `start_read::choose` meets its contract: a turn passes its entry, whether it had anything left to
-- raise or not.
use Rattle.std.proofs.Common.{◌≡◌, ◌∙◌, arith, rules}
use Rattle.basics.proofs.Fold.{turn-first}
use Rattle.start.proofs.Choice.{chosen-after}
use Rattle.start.proofs.Kept.{kept-none, passed-turn}
use Rattle.start_read.proofs.choose.Goals as goal

pub loop-i-init : goal.loop-i-init
loop-i-init c = (c.requires.3 ∙ turn-first _ _, kept-none _)

pub loop-i-preserved : goal.loop-i-preserved
loop-i-preserved c =
    let loop = c.loop-i in
    passed-turn _ _ loop.i _ _ _ _ _ loop.stamps _ loop.kept _
    (search rules) (search rules) c.entry_word-stamp.ensures c.entry_word.ensures
    c.insert-reached.ensures c.unraised-left.ensures c.raise.ensures loop.invariant.0
    loop.invariant.1

pub returns : goal.returns
returns c =
    let loop = c.loop-i in
    let all : loop.i ≡ c.args.n = omega arith in
    rw (rw all at loop.invariant.0) (chosen-after _ _ _)
