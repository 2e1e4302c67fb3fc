-- `start_read::ask` meets its contract: the stamps chosen in one pass are those that each item's
-- turn would choose.
use Rattle.start.proofs.Asked.{asked-same}
use Rattle.start_read.proofs.ask.Goals as goal

pub returns : goal.returns
returns c =
    asked-same c.args.b.now _ _ _ _ _ c.requires.0 c.requires.1 c.requires.2 c.ask_items.ensures
    c.choose.ensures
