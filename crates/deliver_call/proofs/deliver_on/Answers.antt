-- `deliver_call::deliver_on` meets its contract: the message at its place is delivered, and the
-- messages then counted.
use Rattle.block_calls.proofs.Accepted.{accepted-valid}
use Rattle.block_calls.proofs.Places.{few-places, accepted-place, deliver-ready, deliver-given}
use Rattle.deliver_call.proofs.deliver_on.Goals as goal

pub kind-kind-requires : goal.kind-kind-requires
kind-kind-requires c = few-places c.args.b.now c.args.i (accepted-valid _ _ c.requires.0)
    (accepted-place _ _ c.requires.0)

pub deliver_message-requires-clause-i_lt_n : goal.deliver_message-requires-clause-i_lt_n
deliver_message-requires-clause-i_lt_n c =
    (deliver-ready c.args.b.now c.args.i c.requires.0 _ _ _ _ _ c.message_count-messages.ensures
    c.partitions.ensures c.items.ensures c.version_count.ensures c.requires.1).0

pub deliver_message-requires-clause-le_partitions : goal.deliver_message-requires-clause-le_partitions
deliver_message-requires-clause-le_partitions c =
    (deliver-ready c.args.b.now c.args.i c.requires.0 _ _ _ _ _ c.message_count-messages.ensures
    c.partitions.ensures c.items.ensures c.version_count.ensures c.requires.1).1

pub outcome-outcome-requires : goal.outcome-outcome-requires
outcome-outcome-requires c =
    (deliver-ready c.args.b.now c.args.i c.requires.0 _ _ _ _ _ c.message_count-messages.ensures
    c.partitions.ensures c.items.ensures c.version_count.ensures c.requires.1).1.4

pub returns-clause-answer : goal.returns-clause-answer
returns-clause-answer c =
    (deliver-given c.args.b.now c.args.i c.requires.0 _ _ _ _ _ _
    c.message_count-messages.ensures c.partitions.ensures c.items.ensures
    c.version_count.ensures c.requires.1 c.requires.2 _ _ _ _ c.deliver_message.ensures
    c.message_count-length.ensures c.kind-kind.ensures c.outcome-outcome.ensures).0

pub returns-clause-block : goal.returns-clause-block
returns-clause-block c =
    (deliver-given c.args.b.now c.args.i c.requires.0 _ _ _ _ _ _
    c.message_count-messages.ensures c.partitions.ensures c.items.ensures
    c.version_count.ensures c.requires.1 c.requires.2 _ _ _ _ c.deliver_message.ensures
    c.message_count-length.ensures c.kind-kind.ensures c.outcome-outcome.ensures).1
