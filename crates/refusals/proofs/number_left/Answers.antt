-- `number_left` meets its contract: the view's words are there.
use Rattle.block_calls.proofs.Given.{view-words}
use Rattle.refusals.proofs.number_left.Goals as goal

pub greatest-spent-requires : goal.greatest-spent-requires
greatest-spent-requires c =
    view-words c.args.b.now c.requires.0 c.args.d c.requires.1 _ c.items.ensures
