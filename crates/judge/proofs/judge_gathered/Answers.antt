-- `judge::judge_gathered` meets its contract: no line is anybody's own above the first line.
use Rattle.std.proofs.Common.{◌∙◌, arith}
use Rattle.judge_findings.proofs.Owning.{owned-first}
use Rattle.judge.proofs.Answer.{judged-fault, judged-clean}
use Rattle.judge.proofs.judge_gathered.Goals as goal

pub first_fault-fault-requires : goal.first_fault-fault-requires
first_fault-fault-requires c =
    let a = c.args in
    (c.requires, owned-first a.writes.frames.bytes.now a.writes.frames.starts.now a.n 256 c.requires.few)

pub returns-in-Some : goal.returns-in-Some
returns-in-Some c =
    let a = c.args in
    let found = c.in-Some.ensures in
    judged-fault a.writes.frames.bytes.now a.writes.frames.starts.now a.n c.in-Some.line found.value _ found.inside
    (c.number_of.ensures ∙ c.lowest.ensures)

pub returns-in-None : goal.returns-in-None
returns-in-None c =
    let a = c.args in
    judged-clean a.writes.frames.bytes.now a.writes.frames.starts.now a.n a.n c.in-None.ensures.value (omega arith)
