-- `hand_over::compare` meets its contract: after the last item the flags are those of all items.
use Rattle.std.proofs.Common.{◌≡◌, ◌∙◌, arith}
use Rattle.hand_over.proofs.Compared.{standing-read}
use Rattle.hand_over.proofs.compare.Goals as goal

pub returns : goal.returns
returns c =
    let loop = c.loop-k in
    let same : loop.k ≡ c.args.items = omega arith in
    c.standing_of.ensures
    ∙ standing-read _ _ _ c.requires.0 c.requires.1 c.requires.2 c.requires.3 _ c.requires.6
    (rw same at loop.invariant.0) (rw same at loop.invariant.1)
