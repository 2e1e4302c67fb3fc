use Rattle.check_messages.proofs.Seen.{of-side}
use Rattle.check_messages.proofs.is_of.Goals as goal

pub returns : goal.returns
returns c =
    of-side c.args.b.now c.args.i c.args.write c.args.d c.requires.2 c.requires.3 c.is_side.ensures
    c.message_word.ensures c.message_word-2.ensures c.message_word-3.ensures
