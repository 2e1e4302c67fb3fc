-- `judge_scan::reached`: the frames before j decide as all do.
use Rattle.std.proofs.Common.{◌≡◌}
use Rattle.judge_frames.specs.Cut.{frame_in, frames_in}
use Rattle.log_format.specs.Log.{reaches}
use Rattle.log_format.specs.Some.{some, some_from}
use Rattle.judge_scan.proofs.reached.Given as goal

abbrev pub invariant-loop-j : goal.invariant-loop-j
invariant-loop-j l =
    some_from l.j 0 (λ k. reaches l.of l.number (frame_in l.frames.bytes.now l.frames.starts.now k))
    ≡ some (reaches l.of l.number) (frames_in l.frames.bytes.now l.frames.starts.now l.n)
