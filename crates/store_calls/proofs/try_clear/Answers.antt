-- `try_clear` meets its contract: by its refusal, or by what it does.
use Rattle.std.proofs.Common.{sym}
use Rattle.std.proofs.lemmas.Result.{err_from_is_err_and}
use Rattle.protocol.specs.Calls.{clear}
use Rattle.block_calls.proofs.Accepted.{accepted-valid}
use Rattle.block_calls.proofs.Given.{clear-given}
use Rattle.store_calls.proofs.Refused.{by_refusal}
use Rattle.store_calls.proofs.try_clear.Goals as goal

pub returns-in_err-of_clear-clause-answer : goal.returns-in_err-of_clear-clause-answer
returns-in_err-of_clear-clause-answer c =
    let a = c.args in
    let p = err_from_is_err_and c.from_residual.result c.from_residual.ensures.1 in
    rw (p.1, p.2)
    (by_refusal c.in_err-of_clear.field-0.0 a.b.now clear
    c.in_err-of_clear.ensures).0

pub returns-in_err-of_clear-clause-block : goal.returns-in_err-of_clear-clause-block
returns-in_err-of_clear-clause-block c =
    let a = c.args in
    (by_refusal c.in_err-of_clear.field-0.0 a.b.now clear
    c.in_err-of_clear.ensures).1

pub clear-gone-requires : goal.clear-gone-requires
clear-gone-requires c =
    let a = c.args in
    accepted-valid a.b.now clear (sym c.in_ok-of_clear.ensures)

pub returns-clause-answer : goal.returns-clause-answer
returns-clause-answer c =
    let a = c.args in
    (clear-given a.b.now _ _ (sym c.in_ok-of_clear.ensures)
    c.clear-gone.ensures.value c.clear-gone.ensures.b_after).0

pub returns-clause-block : goal.returns-clause-block
returns-clause-block c =
    let a = c.args in
    (clear-given a.b.now _ _ (sym c.in_ok-of_clear.ensures)
    c.clear-gone.ensures.value c.clear-gone.ensures.b_after).1
