-- `of_show` meets its contract: test after test.
use Rattle.std.proofs.Common.{sym, refl, ◌∙◌, ltb, length}
use Rattle.std.proofs.lemmas.Bool.{not-false}
use Rattle.protocol.specs.declared.refusal.Refusal.TheVariants.{OutputShort}
use Rattle.show.specs.Show.{frame_in}
use Rattle.block_calls.proofs.Given.{has_words}
use Rattle.refusals.proofs.Table.{refused-tested, refused-exit, show-table}
use Rattle.refusals.proofs.of_show.Goals as goal

pub idle-requires : goal.idle-requires
idle-requires c =
    has_words c.args.b.now (not-false _ c.in_ok-valid.ensures) c.args.d
    (not-false _ c.in_ok-client.ensures)

pub ended-requires : goal.ended-requires
ended-requires c =
    has_words c.args.b.now (not-false _ c.in_ok-valid.ensures) c.args.d
    (not-false _ c.in_ok-client.ensures)

pub frame_room-requires : goal.frame_room-requires
frame_room-requires c =
    has_words c.args.b.now (not-false _ c.in_ok-valid.ensures) c.args.d
    (not-false _ c.in_ok-client.ensures)

pub returns-in_err-valid : goal.returns-in_err-valid
returns-in_err-valid c =
    refused-exit c.from_residual.result _ _
    c.from_residual.ensures.1 c.in_err-valid.ensures.1
    ∙ sym (show-table c.args.b.now c.args.d c.args.out.now
    ∙ rw c.in_err-valid.ensures.0 refl)

pub returns-in_err-client : goal.returns-in_err-client
returns-in_err-client c =
    refused-exit c.from_residual-in_err-client.result _ _
    c.from_residual-in_err-client.ensures.1 c.in_err-client.ensures.1
    ∙ sym (show-table c.args.b.now c.args.d c.args.out.now
    ∙ rw (
      c.in_ok-valid.ensures,
      c.in_err-client.ensures.0,
    ) refl)

pub returns-in_err-idle : goal.returns-in_err-idle
returns-in_err-idle c =
    refused-exit c.from_residual-in_err-idle.result _ _
    c.from_residual-in_err-idle.ensures.1 c.in_err-idle.ensures.1
    ∙ sym (show-table c.args.b.now c.args.d c.args.out.now
    ∙ rw (
      c.in_ok-valid.ensures,
      c.in_ok-client.ensures,
      c.in_err-idle.ensures.0,
    ) refl)

pub returns-in_err-ended : goal.returns-in_err-ended
returns-in_err-ended c =
    refused-exit c.from_residual-in_err-ended.result _ _
    c.from_residual-in_err-ended.ensures.1 c.in_err-ended.ensures.1
    ∙ sym (show-table c.args.b.now c.args.d c.args.out.now
    ∙ rw (
      c.in_ok-valid.ensures,
      c.in_ok-client.ensures,
      c.in_ok-idle.ensures,
      c.in_err-ended.ensures.0,
    ) refl)

pub returns : goal.returns
returns c =
    refused-tested (ltb (length c.args.out.now) (length (frame_in c.args.b.now c.args.d))) OutputShort
    c.frame_room.result c.frame_room.ensures
    ∙ sym (show-table c.args.b.now c.args.d c.args.out.now
    ∙ rw (
      c.in_ok-valid.ensures,
      c.in_ok-client.ensures,
      c.in_ok-idle.ensures,
      c.in_ok-ended.ensures,
    ) refl)
