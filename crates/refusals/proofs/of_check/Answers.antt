-- `of_check` meets its contract: test after test.
use Rattle.std.proofs.Common.{sym, refl, ◌∙◌, not}
use Rattle.protocol.specs.declared.refusal.Refusal.TheVariants.{NotSound}
use Rattle.protocol.specs.Check.{sound}
use Rattle.layout.specs.Decode.{tables_of}
use Rattle.refusals.proofs.Table.{refused-tested, refused-exit, check-table}
use Rattle.refusals.proofs.of_check.Goals as goal

pub returns-in_err-valid : goal.returns-in_err-valid
returns-in_err-valid c =
    refused-exit c.from_residual.result _ _
    c.from_residual.ensures.1 c.in_err-valid.ensures.1
    ∙ sym (check-table c.args.b.now
    ∙ rw c.in_err-valid.ensures.0 refl)

pub returns : goal.returns
returns c =
    refused-tested (not (sound (tables_of c.args.b.now))) NotSound c.sound.result c.sound.ensures
    ∙ sym (check-table c.args.b.now
    ∙ rw c.in_ok-valid.ensures refl)
