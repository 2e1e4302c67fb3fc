-- `commit::commit` meets its contract: a turn for each version.
use mathlib.Core.Path.{refl, ◌∙◌}
use native.Mathlib.Omega.{arith}
use Rattle.basics.proofs.Fold.{turn-first, turn-next, turn_last}
use Rattle.commit.specs.Commit.{commit_delivered}
use Rattle.commit.proofs.commit.Goals as goal

pub loop-i-init : goal.loop-i-init
loop-i-init c = (turn-first _ _, refl)

pub loop-i-preserved : goal.loop-i-preserved
loop-i-preserved c = let l = c.loop-i in
    let call = c.commit_version in
    (turn-next _ _ _ _ _ l.invariant.0 call.ensures, call.auto.b ∙ l.invariant.1)

pub returns : goal.returns
unfolding commit_delivered
returns c = turn_last _ _ _ _ _ c.loop-i.invariant.0 (omega arith) (omega arith)
