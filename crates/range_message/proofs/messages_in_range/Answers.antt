-- `messages_in_range` meets its contract: message after message, and one test of all at the end.
use Rattle.std.proofs.Common.{Bool, ◌&&◌, ap, ◌∙◌, arith}
use Rattle.range_message.specs.declared.Words.{Words}
use Rattle.range_message.specs.Messages.{words_test, gathered_test}
use Rattle.gather.proofs.Tested.{tested-none, tested-all}
use Rattle.range_message.proofs.Gathering.{gathered_none, gathered_next}
use Rattle.range_message.proofs.MessageTests.{message-read}
use Rattle.range_message.proofs.messages_in_range.Goals as goal

pub returns-then-n-eq0 : goal.returns-then-n-eq0
returns-then-n-eq0 c = tested-all tested-none (omega arith)

pub loop-i-init : goal.loop-i-init
loop-i-init c = gathered_none _

pub loop-i-preserved : goal.loop-i-preserved
loop-i-preserved c =
    let a = c.args in
    let before = gathered_test a.items c.loop-i.g in
    gathered_next c.loop-i.invariant (omega arith)
    (c.with-g.ensures
    ∙ ap (λ (m : Words). before && words_test m a.clients a.partitions a.items) c.of.ensures
    ∙ ap (λ (x : Bool). before && x)
    (message-read a.clients a.partitions a.items (omega arith) (omega arith) a.b.now c.loop-i.i))

pub returns : goal.returns
returns c = c.passes.ensures ∙ tested-all c.loop-i.invariant (omega arith)
