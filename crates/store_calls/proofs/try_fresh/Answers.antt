-- `try_fresh` meets its contract: by its refusal, or by what it does.
use Rattle.std.proofs.Common.{sym}
use Rattle.std.proofs.lemmas.Result.{err_from_is_err_and}
use Rattle.gather.specs.Sized.{sizes}
use Rattle.block_calls.proofs.Fresh.{fresh-accepted, fresh-given}
use Rattle.store_calls.proofs.Refused.{fresh-by_refusal}
use Rattle.store_calls.proofs.try_fresh.Goals as goal

pub returns-in_err-of_fresh-clause-answer : goal.returns-in_err-of_fresh-clause-answer
returns-in_err-of_fresh-clause-answer c =
    let a = c.args in
    let p = err_from_is_err_and c.from_residual.result c.from_residual.ensures.1 in
    rw (p.1, p.2)
    (fresh-by_refusal c.in_err-of_fresh.field-0.0 a.b.now (sizes a.clients a.partitions a.items)
    c.in_err-of_fresh.ensures).0

pub returns-in_err-of_fresh-clause-block : goal.returns-in_err-of_fresh-clause-block
returns-in_err-of_fresh-clause-block c =
    let a = c.args in
    (fresh-by_refusal c.in_err-of_fresh.field-0.0 a.b.now (sizes a.clients a.partitions a.items)
    c.in_err-of_fresh.ensures).1.0

pub returns-in_err-of_fresh-clause-tables : goal.returns-in_err-of_fresh-clause-tables
returns-in_err-of_fresh-clause-tables c =
    let a = c.args in
    (fresh-by_refusal c.in_err-of_fresh.field-0.0 a.b.now (sizes a.clients a.partitions a.items)
    c.in_err-of_fresh.ensures).1.1

pub make_fresh-requires : goal.make_fresh-requires
make_fresh-requires c =
    let a = c.args in
    (fresh-accepted a.b.now (sizes a.clients a.partitions a.items) (sym c.in_ok-of_fresh.ensures)).1

pub returns-clause-answer : goal.returns-clause-answer
returns-clause-answer c =
    let a = c.args in
    (fresh-given a.b.now (sizes a.clients a.partitions a.items) (sym c.in_ok-of_fresh.ensures) _
    c.make_fresh.ensures).0

pub returns-clause-block : goal.returns-clause-block
returns-clause-block c =
    let a = c.args in
    (fresh-given a.b.now (sizes a.clients a.partitions a.items) (sym c.in_ok-of_fresh.ensures) _
    c.make_fresh.ensures).1.0

pub returns-clause-tables : goal.returns-clause-tables
returns-clause-tables c =
    let a = c.args in
    (fresh-given a.b.now (sizes a.clients a.partitions a.items) (sym c.in_ok-of_fresh.ensures) _
    c.make_fresh.ensures).1.1
