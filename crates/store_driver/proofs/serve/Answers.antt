-- What a turn takes joins what was taken before it.
use Rattle.std.proofs.Common.{[], refl}
use Rattle.lines.specs.Input.{fed_all}
use Rattle.store_driver.proofs.Turning.{went_on, stopped, served}
use Rattle.store_driver.proofs.serve.Goals as goal

pub loop-init : goal.loop-init
unfolding fed_all
loop-init c = record { input = []; folded = refl }

pub loop-preserved : goal.loop-preserved
loop-preserved c = went_on c.loop.invariant c.turn.ensures cc

pub returns-in_err-turn : goal.returns-in_err-turn
returns-in_err-turn c = stopped c.loop.invariant c.turn.ensures

pub returns-then-not-branch : goal.returns-then-not-branch
returns-then-not-branch c = stopped c.loop.invariant c.turn.ensures

pub returns-after-loop : goal.returns-after-loop
returns-after-loop c = served c.loop.invariant
