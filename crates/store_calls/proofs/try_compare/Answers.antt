-- `try_compare` meets its contract: by its refusal, or by what it does.
use Rattle.std.proofs.Common.{sym}
use Rattle.std.proofs.lemmas.Result.{err_from_is_err_and}
use Rattle.protocol.specs.Calls.{compare}
use Rattle.block_calls.proofs.Given.{compare-ready, compare-given}
use Rattle.store_calls.proofs.Refused.{by_refusal}
use Rattle.store_calls.proofs.try_compare.Goals as goal

pub returns-in_err-of_compare : goal.returns-in_err-of_compare
returns-in_err-of_compare c =
    let a = c.args in
    let p = err_from_is_err_and c.from_residual.result c.from_residual.ensures.1 in
    rw (p.1, p.2)
    (by_refusal c.in_err-of_compare.field-0.0 a.b.now (compare a.first a.second)
    c.in_err-of_compare.ensures).0

pub compare-standing-requires : goal.compare-standing-requires
compare-standing-requires c =
    let a = c.args in
    compare-ready a.b.now a.first a.second (sym c.in_ok-of_compare.ensures) _
    c.items-items.ensures

pub returns : goal.returns
returns c =
    let a = c.args in
    compare-given a.b.now a.first a.second (sym c.in_ok-of_compare.ensures) _
    c.compare-standing.ensures
