-- `deliver_call::deliver` meets its contract: the delivery where nothing refuses it.
use mathlib.Core.Path.{sym, ap, ◌∙◌}
use native.Mathlib.Omega.{arith}
use Rattle.protocol.specs.Refusal.{refused_by}
use Rattle.protocol.specs.Calls.{deliver}
use Rattle.protocol.proofs.Refused.{some_number}
use Rattle.block_calls.proofs.Given.{refused-given, tables-given}
use Rattle.deliver_call.proofs.deliver.Goals as goal

pub returns-in-Ok-clause-tables : goal.returns-in-Ok-clause-tables
returns-in-Ok-clause-tables c = tables-given _ _ _ c.deliver_on.ensures.block

pub returns-in-Err-clause-answer : goal.returns-in-Err-clause-answer
returns-in-Err-clause-answer c = c.from.ensures
    ∙ (refused-given c.args.b.now (deliver c.args.i) _ c.in-Err.ensures.refusal
    (λ e. omega (arith, e, some_number c.in-Err.refusal))).0

pub returns-in-Err-clause-block : goal.returns-in-Err-clause-block
returns-in-Err-clause-block c = (refused-given c.args.b.now (deliver c.args.i) _
    c.in-Err.ensures.refusal (λ e. omega (arith, e, some_number c.in-Err.refusal))).1

pub returns-in-Err-clause-tables : goal.returns-in-Err-clause-tables
returns-in-Err-clause-tables c = tables-given _ _ _ (refused-given c.args.b.now (deliver c.args.i) _
    c.in-Err.ensures.refusal (λ e. omega (arith, e, some_number c.in-Err.refusal))).1
