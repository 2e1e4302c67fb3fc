-- `judge::search::first_fault`: what is left decides as the whole does, of the lines, of a line's
-- items and of an item's writes, and nothing is found yet. The owners are those at the line.
use Rattle.std.proofs.Common.{◌≡◌, ◌-◌, get_or}
use Rattle.std.specs.Prelude.{None}
use Rattle.findings.specs.Findings.{fault_at}
use Rattle.judge_findings.specs.Owned.{Owned}
use Rattle.judge_findings.specs.Tests.{faults_by}
use Rattle.judge_findings.specs.Writes.{line_of, items_of, stamp_of}
use Rattle.judge_frames.specs.Cut.{frames_in}
use Rattle.log_format.specs.Some.{first_from, some_from}
use Rattle.judge.specs.Search.{item_faulted}
use Rattle.judge.proofs.search.first_fault.Given as goal

abbrev pub invariant-lines : goal.invariant-lines
invariant-lines l =
    (first_from (l.n - l.line) l.line (fault_at (frames_in l.writes.frames.bytes.now l.writes.frames.starts.now l.n))
    ≡ first_from l.n 0 (fault_at (frames_in l.writes.frames.bytes.now l.writes.frames.starts.now l.n)))
    × Owned l.writes.frames.bytes.now l.writes.frames.starts.now l.n l.line l.owners
    × (l.found ≡ None)

abbrev pub invariant-shown : goal.invariant-shown
invariant-shown l =
    (some_from (64 - l.item) l.item (item_faulted l.writes.frames.bytes.now l.writes.frames.starts.now l.writes.table.now l.writes.count l.owners l.read)
    ≡ some_from 64 0 (item_faulted l.writes.frames.bytes.now l.writes.frames.starts.now l.writes.table.now l.writes.count l.owners l.read))
    × (l.found ≡ None)

abbrev pub invariant-writes : goal.invariant-writes
invariant-writes l =
    (some_from (l.writes.count - l.w) l.w
    (λ k.
    faults_by l.read (get_or l.owners (line_of l.writes.table.now k) 0)
    (items_of l.writes.table.now k) (stamp_of l.writes.table.now k) l.of l.item l.stamp)
    ≡ some_from l.writes.count 0
    (λ k.
    faults_by l.read (get_or l.owners (line_of l.writes.table.now k) 0)
    (items_of l.writes.table.now k) (stamp_of l.writes.table.now k) l.of l.item l.stamp))
    × (l.found ≡ None)
