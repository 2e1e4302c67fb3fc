-- `judge::judge_within` meets its contract: the two arrays are long enough.
use Rattle.std.proofs.Common.{refl}
use Rattle.judge.proofs.Answer.{within-start}
use Rattle.judge.proofs.judge_within.Goals as goal

pub judge_into-requires : goal.judge_into-requires
judge_into-requires c = within-start _ _ _ c.requires refl refl refl
