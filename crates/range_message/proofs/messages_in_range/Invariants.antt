-- The first messages pass exactly if what was gathered of them does.
use Rattle.gather.proofs.Tested.{SoFar}
use Rattle.range_message.specs.Messages.{message_test, gathered_test}
use Rattle.range_message.proofs.messages_in_range.Given as goal

abbrev pub invariant-loop-i : goal.invariant-loop-i
invariant-loop-i l =
    SoFar l.n (λ i. message_test l.b i l.clients l.partitions l.items) l.i
    (gathered_test l.items l.g)
