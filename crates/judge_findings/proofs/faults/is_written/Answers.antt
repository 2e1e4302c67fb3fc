-- `judge_findings::faults::is_written` meets its contract.
use Rattle.std.proofs.Common.{◌≡◌, sym, ◌∙◌, arith}
use native.Mathlib.Nat.{sub-zero}
use Rattle.log_format.proofs.Some.{some_from-here, some_from-next, some_from-end}
use Rattle.judge_findings.proofs.faults.is_written.Goals as goal

pub loop-w-init : goal.loop-w-init
loop-w-init c = rw sub-zero

pub returns-then-wrote_at : goal.returns-then-wrote_at
returns-then-wrote_at c =
    sym (some_from-here _ _ _ c.loop-w-test.true (sym c.wrote_at.ensures ∙ c.if-wrote_at.true))
    ∙ c.loop-w.invariant

pub loop-w-preserved : goal.loop-w-preserved
loop-w-preserved c =
    sym (some_from-next _ _ _ c.loop-w-test.true (sym c.wrote_at.ensures ∙ c.if-wrote_at.false))
    ∙ c.loop-w.invariant

pub returns : goal.returns
returns c = sym (some_from-end _ _ _ c.loop-w-test.false) ∙ c.loop-w.invariant
