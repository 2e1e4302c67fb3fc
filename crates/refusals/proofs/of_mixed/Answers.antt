-- `of_mixed` meets its contract: test after test.
use Rattle.std.proofs.Common.{sym, refl, ◌∙◌}
use Rattle.std.proofs.lemmas.Bool.{not-false}
use Rattle.block_calls.proofs.Given.{has_words}
use Rattle.refusals.proofs.Table.{refused-exit, mixed-table}
use Rattle.refusals.proofs.of_mixed.Goals as goal

pub idle-requires : goal.idle-requires
idle-requires c =
    has_words c.args.b.now (not-false _ c.in_ok-valid.ensures) c.args.d
    (not-false _ c.in_ok-client.ensures)

pub returns-in_err-valid : goal.returns-in_err-valid
returns-in_err-valid c =
    refused-exit c.from_residual.result _ _
    c.from_residual.ensures.1 c.in_err-valid.ensures.1
    ∙ sym (mixed-table c.args.b.now c.args.d c.args.r c.args.s c.args.bytes.now
    ∙ rw c.in_err-valid.ensures.0 refl)

pub returns-in_err-client : goal.returns-in_err-client
returns-in_err-client c =
    refused-exit c.from_residual-in_err-client.result _ _
    c.from_residual-in_err-client.ensures.1 c.in_err-client.ensures.1
    ∙ sym (mixed-table c.args.b.now c.args.d c.args.r c.args.s c.args.bytes.now
    ∙ rw (
      c.in_ok-valid.ensures,
      c.in_err-client.ensures.0,
    ) refl)

pub returns-in_err-idle : goal.returns-in_err-idle
returns-in_err-idle c =
    refused-exit c.from_residual-in_err-idle.result _ _
    c.from_residual-in_err-idle.ensures.1 c.in_err-idle.ensures.1
    ∙ sym (mixed-table c.args.b.now c.args.d c.args.r c.args.s c.args.bytes.now
    ∙ rw (
      c.in_ok-valid.ensures,
      c.in_ok-client.ensures,
      c.in_err-idle.ensures.0,
    ) refl)

pub returns-in_err-item_set : goal.returns-in_err-item_set
returns-in_err-item_set c =
    refused-exit c.from_residual-in_err-item_set.result _ _
    c.from_residual-in_err-item_set.ensures.1 c.in_err-item_set.ensures.1
    ∙ sym (mixed-table c.args.b.now c.args.d c.args.r c.args.s c.args.bytes.now
    ∙ rw (
      c.in_ok-valid.ensures,
      c.in_ok-client.ensures,
      c.in_ok-idle.ensures,
      c.in_err-item_set.ensures.0,
    ) refl)

pub returns-in_err-item_set-2 : goal.returns-in_err-item_set-2
returns-in_err-item_set-2 c =
    refused-exit c.from_residual-in_err-item_set-2.result _ _
    c.from_residual-in_err-item_set-2.ensures.1 c.in_err-item_set-2.ensures.1
    ∙ sym (mixed-table c.args.b.now c.args.d c.args.r c.args.s c.args.bytes.now
    ∙ rw (
      c.in_ok-valid.ensures,
      c.in_ok-client.ensures,
      c.in_ok-idle.ensures,
      c.in_ok-item_set.ensures,
      c.in_err-item_set-2.ensures.0,
    ) refl)

pub returns : goal.returns
returns c =
    c.of_writing.ensures
    ∙ sym (mixed-table c.args.b.now c.args.d c.args.r c.args.s c.args.bytes.now
    ∙ rw (
      ← c.count.ensures,
      ← c.count-2.ensures,
      c.in_ok-valid.ensures,
      c.in_ok-client.ensures,
      c.in_ok-idle.ensures,
      c.in_ok-item_set.ensures,
      c.in_ok-item_set-2.ensures,
    ) refl)
