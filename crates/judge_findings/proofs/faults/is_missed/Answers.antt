-- `judge_findings::faults::is_missed` meets its contract: a search over the writes.
use Rattle.std.proofs.Common.{get_or, rules, tests}
use Rattle.log_format.proofs.Ranges.{any-numbers}
use Rattle.judge_findings.specs.Tests.{misses_by}
use Rattle.judge_findings.specs.Writes.{line_of, items_of, stamp_of}
use Rattle.judge_findings.proofs.faults.is_missed.Goals as goal

pub returns : goal.returns
returns c =
    let a = c.args in
    any-numbers a.writes.count
    (λ w.
    misses_by (get_or a.owners.now (line_of a.writes.table.now w) 0) (items_of a.writes.table.now w)
    (stamp_of a.writes.table.now w) a.of a.item a.seen) _
    c.any.result (cc) c.any.ensures.ran (λ x b q k. search (rules, tests))
