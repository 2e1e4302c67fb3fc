-- `judge_findings::writes::gather`: the writes of the lines passed are gathered.
use Rattle.std.proofs.Common.{◌≡◌, length}
use Rattle.judge_findings.specs.Writes.{Gathered}
use Rattle.judge_findings.proofs.writes.gather.Given as goal

abbrev pub invariant-loop-j : goal.invariant-loop-j
invariant-loop-j l =
    Gathered l.frames.bytes.now l.frames.starts.now l.j l.writes l.m × (length l.writes ≡ length l.initial.writes)
