-- `of_hand_over` meets its contract: test after test.
use Rattle.std.proofs.Common.{sym, refl, ◌∙◌, not, ◌&&◌, eqb}
use Rattle.std.proofs.lemmas.Bool.{not-false}
use Rattle.protocol.specs.declared.refusal.Refusal.TheVariants.{ClientBusy}
use Rattle.layout.specs.Layout.{scalars, at, mode_at}
use Rattle.block_calls.proofs.Given.{both_words}
use Rattle.refusals.proofs.Table.{refused-tested, refused-exit, hand-over-table}
use Rattle.refusals.proofs.of_hand_over.Goals as goal

pub both_idle-requires : goal.both_idle-requires
both_idle-requires c =
    both_words c.args.b.now (not-false _ c.in_ok-valid.ensures) c.args.giver c.args.receiver
    (not-false _ c.in_ok-clients.ensures)

pub returns-in_err-valid : goal.returns-in_err-valid
returns-in_err-valid c =
    refused-exit c.from_residual.result _ _
    c.from_residual.ensures.1 c.in_err-valid.ensures.1
    ∙ sym (hand-over-table c.args.b.now c.args.giver c.args.receiver
    ∙ rw c.in_err-valid.ensures.0 refl)

pub returns-in_err-clients : goal.returns-in_err-clients
returns-in_err-clients c =
    refused-exit c.from_residual-in_err-clients.result _ _
    c.from_residual-in_err-clients.ensures.1 c.in_err-clients.ensures.1
    ∙ sym (hand-over-table c.args.b.now c.args.giver c.args.receiver
    ∙ rw (
      c.in_ok-valid.ensures,
      c.in_err-clients.ensures.0,
    ) refl)

pub returns-in_err-different : goal.returns-in_err-different
returns-in_err-different c =
    refused-exit c.from_residual-in_err-different.result _ _
    c.from_residual-in_err-different.ensures.1 c.in_err-different.ensures.1
    ∙ sym (hand-over-table c.args.b.now c.args.giver c.args.receiver
    ∙ rw (
      c.in_ok-valid.ensures,
      c.in_ok-clients.ensures,
      c.in_err-different.ensures.0,
    ) refl)

pub returns : goal.returns
returns c =
    refused-tested
    (not (eqb (at c.args.b.now scalars (mode_at c.args.giver)) 0
    && eqb (at c.args.b.now scalars (mode_at c.args.receiver)) 0))
    ClientBusy c.both_idle.result c.both_idle.ensures
    ∙ sym (hand-over-table c.args.b.now c.args.giver c.args.receiver
    ∙ rw (
      c.in_ok-valid.ensures,
      c.in_ok-clients.ensures,
      c.in_ok-different.ensures,
    ) refl)
