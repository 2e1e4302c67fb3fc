-- The invariant of `judge_frames::fields::number`: `number` is the number of the k bytes read.
use Rattle.std.proofs.Common.{◌≡◌}
use Rattle.hexadecimal.specs.Number.{number_at}
use Rattle.judge_frames.proofs.fields.number.Given as goal

abbrev pub invariant-loop-k : goal.invariant-loop-k
invariant-loop-k l = l.number ≡ number_at l.k l.f l.at
