-- `try_check` meets its contract: by its refusal, or by what it does.
use Rattle.std.proofs.Common.{sym}
use Rattle.std.proofs.lemmas.Result.{err_from_is_err_and}
use Rattle.protocol.specs.Calls.{check}
use Rattle.block_calls.proofs.Given.{check-given}
use Rattle.store_calls.proofs.Refused.{by_refusal}
use Rattle.store_calls.proofs.try_check.Goals as goal

pub returns-in_err-of_check : goal.returns-in_err-of_check
returns-in_err-of_check c =
    let a = c.args in
    let p = err_from_is_err_and c.from_residual.result c.from_residual.ensures.1 in
    rw (p.1, p.2)
    (by_refusal c.in_err-of_check.field-0.0 a.b.now check
    c.in_err-of_check.ensures).0

pub returns : goal.returns
returns c =
    let a = c.args in
    check-given a.b.now (sym c.in_ok-of_check.ensures)
