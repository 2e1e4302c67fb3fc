-- `try_read` meets its contract: by its refusal, or by what it does.
use Rattle.std.proofs.Common.{sym, ◌∙◌}
use Rattle.std.proofs.lemmas.Result.{err_from_is_err_and}
use Rattle.block_calls.specs.Calls.{read_call}
use Rattle.block_calls.proofs.Given.{read-refusal, read-ready, read-given}
use Rattle.store_calls.proofs.Refused.{by_refusal}
use Rattle.store_calls.proofs.try_read.Goals as goal

pub returns-in_err-of_read-clause-answer : goal.returns-in_err-of_read-clause-answer
returns-in_err-of_read-clause-answer c =
    let a = c.args in
    let p = err_from_is_err_and c.from_residual.result c.from_residual.ensures.1 in
    rw (p.1, p.2)
    (by_refusal c.in_err-of_read.field-0.0 a.b.now (read_call a.fast a.d a.s)
    (c.in_err-of_read.ensures ∙ read-refusal a.b.now a.fast a.d a.s)).0

pub returns-in_err-of_read-clause-block : goal.returns-in_err-of_read-clause-block
returns-in_err-of_read-clause-block c =
    let a = c.args in
    (by_refusal c.in_err-of_read.field-0.0 a.b.now (read_call a.fast a.d a.s)
    (c.in_err-of_read.ensures ∙ read-refusal a.b.now a.fast a.d a.s)).1

pub begin_read-requires : goal.begin_read-requires
begin_read-requires c =
    let a = c.args in
    read-ready a.b.now a.fast a.d a.s
    (sym (c.in_ok-of_read.ensures ∙ read-refusal a.b.now a.fast a.d a.s)) _ c.items-items.ensures

pub returns-clause-answer : goal.returns-clause-answer
returns-clause-answer c =
    let a = c.args in
    (read-given a.b.now a.fast a.d a.s
    (sym (c.in_ok-of_read.ensures ∙ read-refusal a.b.now a.fast a.d a.s)) _ _
    c.begin_read.ensures c.message_count-length.ensures).0

pub returns-clause-block : goal.returns-clause-block
returns-clause-block c =
    let a = c.args in
    (read-given a.b.now a.fast a.d a.s
    (sym (c.in_ok-of_read.ensures ∙ read-refusal a.b.now a.fast a.d a.s)) _ _
    c.begin_read.ensures c.message_count-length.ensures).1
