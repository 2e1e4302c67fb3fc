-- `of_read` meets its contract: test after test.
use Rattle.std.proofs.Common.{sym, refl, ◌∙◌, ◌+◌, ltb}
use Rattle.std.proofs.lemmas.Bool.{not-false}
use Rattle.protocol.specs.declared.refusal.Refusal.TheVariants.{MessagesFull}
use Rattle.protocol.specs.Range.{load}
use Rattle.layout.specs.Layout.{most_messages}
use Rattle.layout.specs.Decode.{tables_of}
use Rattle.block_calls.proofs.Given.{has_words}
use Rattle.refusals.proofs.Table.{refused-tested, refused-exit, read-table}
use Rattle.refusals.proofs.of_read.Goals as goal

pub idle-requires : goal.idle-requires
idle-requires c =
    has_words c.args.b.now (not-false _ c.in_ok-valid.ensures) c.args.d
    (not-false _ c.in_ok-client.ensures)

pub returns-in_err-valid : goal.returns-in_err-valid
returns-in_err-valid c =
    refused-exit c.from_residual.result _ _
    c.from_residual.ensures.1 c.in_err-valid.ensures.1
    ∙ sym (read-table c.args.b.now c.args.d c.args.s
    ∙ rw c.in_err-valid.ensures.0 refl)

pub returns-in_err-client : goal.returns-in_err-client
returns-in_err-client c =
    refused-exit c.from_residual-in_err-client.result _ _
    c.from_residual-in_err-client.ensures.1 c.in_err-client.ensures.1
    ∙ sym (read-table c.args.b.now c.args.d c.args.s
    ∙ rw (
      c.in_ok-valid.ensures,
      c.in_err-client.ensures.0,
    ) refl)

pub returns-in_err-idle : goal.returns-in_err-idle
returns-in_err-idle c =
    refused-exit c.from_residual-in_err-idle.result _ _
    c.from_residual-in_err-idle.ensures.1 c.in_err-idle.ensures.1
    ∙ sym (read-table c.args.b.now c.args.d c.args.s
    ∙ rw (
      c.in_ok-valid.ensures,
      c.in_ok-client.ensures,
      c.in_err-idle.ensures.0,
    ) refl)

pub returns-in_err-item_set : goal.returns-in_err-item_set
returns-in_err-item_set c =
    refused-exit c.from_residual-in_err-item_set.result _ _
    c.from_residual-in_err-item_set.ensures.1 c.in_err-item_set.ensures.1
    ∙ sym (read-table c.args.b.now c.args.d c.args.s
    ∙ rw (
      c.in_ok-valid.ensures,
      c.in_ok-client.ensures,
      c.in_ok-idle.ensures,
      c.in_err-item_set.ensures.0,
    ) refl)

pub returns : goal.returns
returns c =
    refused-tested (ltb most_messages (load (tables_of c.args.b.now) + c.count.result)) MessagesFull
    c.message_room.result c.message_room.ensures
    ∙ sym (read-table c.args.b.now c.args.d c.args.s
    ∙ rw (
      ← c.count.ensures,
      c.in_ok-valid.ensures,
      c.in_ok-client.ensures,
      c.in_ok-idle.ensures,
      c.in_ok-item_set.ensures,
    ) refl)
