-- `start_read::start_fast_read` meets its contract: stamps that are all 0 ask for nothing.
use Rattle.std.proofs.Common.{refl}
use Rattle.start.specs.Start.{fast_read_started}
use Rattle.start.proofs.Asked.{asked-nothing}
use Rattle.start_read.proofs.start_fast_read.Goals as goal

pub returns : goal.returns
unfolding fast_read_started
returns c =
    let asked = asked-nothing c.args.b.now _ _ _ _ _ c.requires.0 c.requires.1 c.requires.2
    c.ask_items.ensures refl in
    cc
