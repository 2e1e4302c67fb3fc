-- `messages::of_words` meets its contract: from kind 7 on the message is a first reply.
use mathlib.Core.Path.{sym}
use native.Mathlib.Omega.{arith}
use lib.ListN.{get_or}
use Rattle.layout.specs.Decode.{message_of}
use Rattle.layout.proofs.Held.{last-kind}
use Rattle.messages.proofs.of_words.Goals as goal

pub returns-in_default : goal.returns-in_default
unfolding message_of
returns-in_default c = sym (last-kind (get_or c.args.words 0 0) _ _ _ _ _ _ (omega arith))
