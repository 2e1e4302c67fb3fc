-- `messages::move_up` meets its contract: the words of the later messages, pasted one message
-- earlier.
use mathlib.Core.Path.{◌∙◌}
use native.Mathlib.Omega.{arith}
use Rattle.layout.specs.Layout.{message_words}
use Rattle.slots.proofs.Runs.{moved_down}
use Rattle.messages.proofs.move_up.Goals as goal

pub returns : goal.returns
returns c = let a = c.args in
    c.copy_within.ensures.after
    ∙ moved_down a.b.now a.from message_words a.count _ c.requires (omega arith)
