-- `judge_findings::faults::is_fractured` meets its contract: a search over the writes.
use Rattle.std.proofs.Common.{rules, tests}
use Rattle.log_format.proofs.Ranges.{any-numbers}
use Rattle.judge_findings.specs.Tests.{fractures_by}
use Rattle.judge_findings.specs.Writes.{items_of, stamp_of}
use Rattle.judge_findings.proofs.faults.is_fractured.Goals as goal

pub returns : goal.returns
returns c =
    let a = c.args in
    any-numbers a.writes.count
    (λ w.
    fractures_by a.r.now (items_of a.writes.table.now w) (stamp_of a.writes.table.now w) a.item a.seen) _
    c.any.result (cc) c.any.ensures.ran (λ x b q k. search (rules, tests))
