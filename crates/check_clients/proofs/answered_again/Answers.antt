use Rattle.check_clients.proofs.Clients.{again-is}
use Rattle.check_clients.proofs.answered_again.Goals as goal

pub returns : goal.returns
returns c =
    again-is _ _ c.stage-stage.ensures c.read_awaited-awaited.ensures c.asked-asked.ensures
    c.requires.3 c.has.ensures
