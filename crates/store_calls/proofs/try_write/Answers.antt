-- `try_write` meets its contract: by its refusal, or by what it does.
use Rattle.std.proofs.Common.{sym}
use Rattle.std.proofs.lemmas.Result.{err_from_is_err_and}
use Rattle.protocol.specs.Calls.{start_write}
use Rattle.block_calls.proofs.Given.{write-ready, write-given}
use Rattle.store_calls.proofs.Refused.{by_refusal}
use Rattle.store_calls.proofs.try_write.Goals as goal

pub returns-in_err-of_write-clause-answer : goal.returns-in_err-of_write-clause-answer
returns-in_err-of_write-clause-answer c =
    let a = c.args in
    let p = err_from_is_err_and c.from_residual.result c.from_residual.ensures.1 in
    rw (p.1, p.2)
    (by_refusal c.in_err-of_write.field-0.0 a.b.now (start_write a.d a.s a.bytes.now)
    c.in_err-of_write.ensures).0

pub returns-in_err-of_write-clause-block : goal.returns-in_err-of_write-clause-block
returns-in_err-of_write-clause-block c =
    let a = c.args in
    (by_refusal c.in_err-of_write.field-0.0 a.b.now (start_write a.d a.s a.bytes.now)
    c.in_err-of_write.ensures).1

pub start_write-requires : goal.start_write-requires
start_write-requires c =
    let a = c.args in
    write-ready a.b.now a.d a.s a.bytes.now (sym c.in_ok-of_write.ensures) _ c.items-items.ensures

pub returns-clause-answer : goal.returns-clause-answer
returns-clause-answer c =
    let a = c.args in
    (write-given a.b.now a.d a.s a.bytes.now (sym c.in_ok-of_write.ensures) _ _
    c.start_write.ensures c.message_count-length.ensures).0

pub returns-clause-block : goal.returns-clause-block
returns-clause-block c =
    let a = c.args in
    (write-given a.b.now a.d a.s a.bytes.now (sym c.in_ok-of_write.ensures) _ _
    c.start_write.ensures c.message_count-length.ensures).1
