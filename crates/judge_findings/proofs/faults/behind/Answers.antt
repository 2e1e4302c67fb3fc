-- `judge_findings::faults::behind` meets its contract: a search over the 64 items.
use Rattle.std.proofs.Common.{ℕ, ap, ◌∙◌, rules, tests}
use Rattle.log_format.specs.Some.{some_from}
use Rattle.log_format.proofs.Ranges.{any-numbers}
use Rattle.judge_findings.specs.Tests.{behind_at}
use Rattle.judge_findings.proofs.faults.behind.Goals as goal

pub returns : goal.returns
returns c =
    let a = c.args in
    any-numbers 64 (behind_at a.r.now c.shown-items.result a.written a.stamp) _ c.any.result (cc)
    c.any.ensures.ran (λ x b q k. search (rules, tests))
    ∙ ap (λ (items : ℕ). some_from 64 0 (behind_at a.r.now items a.written a.stamp))
    c.shown-items.ensures
