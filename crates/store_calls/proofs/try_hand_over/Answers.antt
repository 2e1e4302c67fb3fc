-- `try_hand_over` meets its contract: by its refusal, or by what it does.
use Rattle.std.proofs.Common.{sym}
use Rattle.std.proofs.lemmas.Result.{err_from_is_err_and}
use Rattle.protocol.specs.Calls.{hand_over}
use Rattle.block_calls.proofs.Given.{hand-over-ready, hand-over-given}
use Rattle.store_calls.proofs.Refused.{by_refusal}
use Rattle.store_calls.proofs.try_hand_over.Goals as goal

pub returns-in_err-of_hand_over-clause-answer : goal.returns-in_err-of_hand_over-clause-answer
returns-in_err-of_hand_over-clause-answer c =
    let a = c.args in
    let p = err_from_is_err_and c.from_residual.result c.from_residual.ensures.1 in
    rw (p.1, p.2)
    (by_refusal c.in_err-of_hand_over.field-0.0 a.b.now (hand_over a.giver a.receiver)
    c.in_err-of_hand_over.ensures).0

pub returns-in_err-of_hand_over-clause-block : goal.returns-in_err-of_hand_over-clause-block
returns-in_err-of_hand_over-clause-block c =
    let a = c.args in
    (by_refusal c.in_err-of_hand_over.field-0.0 a.b.now (hand_over a.giver a.receiver)
    c.in_err-of_hand_over.ensures).1

pub hand_over-requires : goal.hand_over-requires
hand_over-requires c =
    let a = c.args in
    hand-over-ready a.b.now a.giver a.receiver (sym c.in_ok-of_hand_over.ensures) _
    c.items-items.ensures

pub returns-clause-answer : goal.returns-clause-answer
returns-clause-answer c =
    let a = c.args in
    (hand-over-given a.b.now a.giver a.receiver (sym c.in_ok-of_hand_over.ensures) _ _
    c.items-items.ensures c.hand_over.ensures).0

pub returns-clause-block : goal.returns-clause-block
returns-clause-block c =
    let a = c.args in
    (hand-over-given a.b.now a.giver a.receiver (sym c.in_ok-of_hand_over.ensures) _ _
    c.items-items.ensures c.hand_over.ensures).1
