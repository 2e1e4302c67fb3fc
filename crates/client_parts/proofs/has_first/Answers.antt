-- `client_parts::has_first` meets its contract: by the stage.
use Rattle.client_parts.proofs.Words.{come}
use Rattle.client_parts.proofs.has_first.Goals as goal

pub returns : goal.returns
returns c = come _ _ _ c.read_set-set.ensures
    c.read_awaited-awaited.ensures c.stage-stage.ensures
    c.has.ensures c.has-2.ensures
