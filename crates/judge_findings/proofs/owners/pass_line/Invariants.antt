-- `judge_findings::owners::pass_line`: the lines gone through are handed over.
use lib.ListN.{take}
use Rattle.judge_findings.proofs.Owning.{Handed}
use Rattle.judge_findings.proofs.owners.pass_line.Given as goal

abbrev pub invariant-loop-clients : goal.invariant-loop-clients
invariant-loop-clients l =
    Handed (take l.above l.fn.owners) l.f l.clients-index l.clients-items
