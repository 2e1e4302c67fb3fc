-- `of_writing` meets its contract: test after test.
use Rattle.std.proofs.Common.{sym, refl, ◌∙◌, ◌+◌, ltb}
use Rattle.protocol.specs.declared.refusal.Refusal.TheVariants.{VersionsFull}
use Rattle.protocol.specs.Calls.{first}
use Rattle.protocol.specs.Range.{occupied}
use Rattle.layout.specs.Layout.{most_versions}
use Rattle.layout.specs.Decode.{tables_of}
use Rattle.refusals.proofs.Table.{refused-tested, refused-exit}
use Rattle.refusals.proofs.of_writing.Goals as goal

pub returns-in_err-values : goal.returns-in_err-values
unfolding first
returns-in_err-values c =
    refused-exit c.from_residual.result _ _
    c.from_residual.ensures.1 c.in_err-values.ensures.1
    ∙ sym (rw (
      ← c.count-items.ensures,
      c.in_err-values.ensures.0,
    ) refl)

pub returns-in_err-narrow : goal.returns-in_err-narrow
unfolding first
returns-in_err-narrow c =
    refused-exit c.from_residual-in_err-narrow.result _ _
    c.from_residual-in_err-narrow.ensures.1 c.in_err-narrow.ensures.1
    ∙ sym (rw (
      ← c.count-items.ensures,
      c.in_ok-values.ensures,
      c.in_err-narrow.ensures.0,
    ) refl)

pub returns-in_err-number_left : goal.returns-in_err-number_left
unfolding first
returns-in_err-number_left c =
    refused-exit c.from_residual-in_err-number_left.result _ _
    c.from_residual-in_err-number_left.ensures.1 c.in_err-number_left.ensures.1
    ∙ sym (rw (
      ← c.count-items.ensures,
      c.in_ok-values.ensures,
      c.in_ok-narrow.ensures,
      c.in_err-number_left.ensures.0,
    ) refl)

pub returns-in_err-message_room : goal.returns-in_err-message_room
unfolding first
returns-in_err-message_room c =
    refused-exit c.from_residual-in_err-message_room.result _ _
    c.from_residual-in_err-message_room.ensures.1 c.in_err-message_room.ensures.1
    ∙ sym (rw (
      ← c.count-items.ensures,
      c.in_ok-values.ensures,
      c.in_ok-narrow.ensures,
      c.in_ok-number_left.ensures,
      c.in_err-message_room.ensures.0,
    ) refl)

pub returns : goal.returns
unfolding first
returns c =
    refused-tested (ltb most_versions (occupied (tables_of c.args.b.now) + c.count-items.result)) VersionsFull
    c.version_room.result c.version_room.ensures
    ∙ sym (rw (
      ← c.count-items.ensures,
      c.in_ok-values.ensures,
      c.in_ok-narrow.ensures,
      c.in_ok-number_left.ensures,
      c.in_ok-message_room.ensures,
    ) refl)
