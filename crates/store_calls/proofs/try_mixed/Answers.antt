-- `try_mixed` meets its contract: by its refusal, or by what it does.
use Rattle.std.proofs.Common.{sym}
use Rattle.std.proofs.lemmas.Result.{err_from_is_err_and}
use Rattle.protocol.specs.Calls.{start_mixed}
use Rattle.block_calls.proofs.Given.{mixed-ready, mixed-given}
use Rattle.store_calls.proofs.Refused.{by_refusal}
use Rattle.store_calls.proofs.try_mixed.Goals as goal

pub returns-in_err-of_mixed-clause-answer : goal.returns-in_err-of_mixed-clause-answer
returns-in_err-of_mixed-clause-answer c =
    let a = c.args in
    let p = err_from_is_err_and c.from_residual.result c.from_residual.ensures.1 in
    rw (p.1, p.2)
    (by_refusal c.in_err-of_mixed.field-0.0 a.b.now (start_mixed a.d a.r a.s a.bytes.now)
    c.in_err-of_mixed.ensures).0

pub returns-in_err-of_mixed-clause-block : goal.returns-in_err-of_mixed-clause-block
returns-in_err-of_mixed-clause-block c =
    let a = c.args in
    (by_refusal c.in_err-of_mixed.field-0.0 a.b.now (start_mixed a.d a.r a.s a.bytes.now)
    c.in_err-of_mixed.ensures).1

pub start_mixed-requires : goal.start_mixed-requires
start_mixed-requires c =
    let a = c.args in
    mixed-ready a.b.now a.d a.r a.s a.bytes.now (sym c.in_ok-of_mixed.ensures) _
    c.items-items.ensures

pub returns-clause-answer : goal.returns-clause-answer
returns-clause-answer c =
    let a = c.args in
    (mixed-given a.b.now a.d a.r a.s a.bytes.now (sym c.in_ok-of_mixed.ensures) _ _
    c.start_mixed.ensures c.message_count-length.ensures).0

pub returns-clause-block : goal.returns-clause-block
returns-clause-block c =
    let a = c.args in
    (mixed-given a.b.now a.d a.r a.s a.bytes.now (sym c.in_ok-of_mixed.ensures) _ _
    c.start_mixed.ensures c.message_count-length.ensures).1
