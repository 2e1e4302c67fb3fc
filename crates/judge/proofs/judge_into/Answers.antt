-- `judge::judge_into` meets its contract.
use Rattle.std.proofs.Common.{[], ◌∙◌}
use Rattle.judge.proofs.Answer.{checked-lines, checked-bad, lines-small}
use Rattle.judge.proofs.judge_into.Goals as goal

pub judge_lines-requires : goal.judge_lines-requires
judge_lines-requires c =
    let t = c.in-Ok.ensures in
    (t.3, lines-small c.args.log.now _ _ _ t)

pub returns-in-Ok : goal.returns-in-Ok
returns-in-Ok c = c.judge_lines.ensures ∙ checked-lines c.args.log.now _ _ _ c.in-Ok.ensures

pub returns-in-Err : goal.returns-in-Err
returns-in-Err c = checked-bad c.args.log.now [] [] _ c.in-Err.ensures
