-- `judge_scan::scan`: the lines taken lie in the bytes, and the rest of the log is what is left of
-- its lines. The measure is what is left of the log.
use Rattle.std.proofs.Common.{◌-◌, length}
use Rattle.judge_scan.specs.Scan.{Scanning}
use Rattle.judge_scan.proofs.scan.Given as goal

abbrev pub invariant-loop-at : goal.invariant-loop-at
invariant-loop-at l = Scanning l.log l.at l.bytes l.starts l.i

abbrev pub decreases-loop-at : goal.decreases-loop-at
decreases-loop-at l = length l.log - l.at
