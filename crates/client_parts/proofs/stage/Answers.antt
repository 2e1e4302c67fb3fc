-- `client_parts::stage` meets its contract: by the mode.
use mathlib.Core.Path.{sym, ◌∙◌}
use native.Mathlib.Omega.{arith}
use Rattle.client_parts.proofs.Words.{stage-first, stage-second, stage-none}
use Rattle.client_parts.proofs.stage.Goals as goal

pub returns-in-3 : goal.returns-in-3
returns-in-3 c = stage-first _ _ (sym c.mode.ensures ∙ c.in-3.is)

pub returns-in-4 : goal.returns-in-4
returns-in-4 c = stage-second _ _ (sym c.mode.ensures ∙ c.in-4.is)

pub returns-in_default : goal.returns-in_default
returns-in_default c = stage-none _ _ (λ e. omega (arith, c.mode.ensures, e))
    (λ e. omega (arith, c.mode.ensures, e))
