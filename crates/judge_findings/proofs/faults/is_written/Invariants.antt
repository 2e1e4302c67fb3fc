-- `judge_findings::faults::is_written`: the writes from w on decide as all do.
use Rattle.std.proofs.Common.{◌≡◌, ◌-◌, get_or}
use Rattle.log_format.specs.Some.{some_from}
use Rattle.findings.specs.Findings.{wrote}
use Rattle.judge_frames.specs.Cut.{frame_in}
use Rattle.judge_findings.specs.Writes.{line_of}
use Rattle.judge_findings.proofs.faults.is_written.Given as goal

abbrev pub invariant-loop-w : goal.invariant-loop-w
invariant-loop-w l =
    some_from (l.writes.count - l.w) l.w
    (λ k.
    wrote l.item l.stamp l.value
    (frame_in l.writes.frames.bytes.now l.writes.frames.starts.now (line_of l.writes.table.now k)))
    ≡ some_from l.writes.count 0
    (λ k.
    wrote l.item l.stamp l.value
    (frame_in l.writes.frames.bytes.now l.writes.frames.starts.now (line_of l.writes.table.now k)))
