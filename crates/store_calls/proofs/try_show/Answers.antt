-- `try_show` meets its contract: by its refusal, or by what it does.
use Rattle.std.proofs.Common.{sym}
use Rattle.std.proofs.lemmas.Result.{err_from_is_err_and}
use Rattle.protocol.specs.Calls.{show, lent}
use Rattle.block_calls.proofs.Given.{show-ready, show-given}
use Rattle.store_calls.proofs.Refused.{shown-by_refusal}
use Rattle.store_calls.proofs.try_show.Goals as goal

pub returns-in_err-of_show-clause-answer : goal.returns-in_err-of_show-clause-answer
unfolding lent
returns-in_err-of_show-clause-answer c =
    let a = c.args in
    let p = err_from_is_err_and c.from_residual.result c.from_residual.ensures.1 in
    rw (p.1, p.2)
    (shown-by_refusal c.in_err-of_show.field-0.0 a.b.now (show a.d a.out.now)
    c.in_err-of_show.ensures).0

pub returns-in_err-of_show-clause-output : goal.returns-in_err-of_show-clause-output
unfolding lent
returns-in_err-of_show-clause-output c =
    let a = c.args in
    (shown-by_refusal c.in_err-of_show.field-0.0 a.b.now (show a.d a.out.now)
    c.in_err-of_show.ensures).1

pub write_frame-requires : goal.write_frame-requires
write_frame-requires c =
    let a = c.args in
    show-ready a.b.now a.d a.out.now (sym c.in_ok-of_show.ensures)

pub frame_length-length-requires : goal.frame_length-length-requires
frame_length-length-requires c =
    let a = c.args in
    let r = show-ready a.b.now a.d a.out.now (sym c.in_ok-of_show.ensures) in
    (r.0, r.1)

pub returns-clause-answer : goal.returns-clause-answer
returns-clause-answer c =
    let a = c.args in
    (show-given a.b.now a.d a.out.now (sym c.in_ok-of_show.ensures) _ _
    c.write_frame.ensures c.frame_length-length.ensures).0

pub returns-clause-output : goal.returns-clause-output
returns-clause-output c =
    let a = c.args in
    (show-given a.b.now a.d a.out.now (sym c.in_ok-of_show.ensures) _ _
    c.write_frame.ensures c.frame_length-length.ensures).1
