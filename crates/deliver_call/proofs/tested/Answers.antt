-- `deliver_call::tested` meets its contract: refusal by refusal, in the refusal table's order.
use mathlib.Core.Bool.{true}
use mathlib.Core.Path.{◌≡◌, sym, ap, subst, ◌∙◌}
use native.Mathlib.Omega.{arith}
use Rattle.std.proofs.lemmas.Result.{err_from_is_err_and}
use Rattle.protocol.specs.Refusal.{refused_by}
use Rattle.layout.specs.Decode.{valid_block}
use Rattle.deliver_tests.specs.Tests.{Tested, Bounded}
use Rattle.block_calls.proofs.Accepted.{refused-invalid}
use Rattle.block_calls.proofs.Places.{past_end, few-places, few-versions, bounded-message, told-refusal}
use Rattle.block_calls.proofs.Places.{long-enough}
use Rattle.deliver_call.proofs.tested.Goals as goal

pub returns-then-not-valid_block-clause-refusal : goal.returns-then-not-valid_block-clause-refusal
returns-then-not-valid_block-clause-refusal c = sym (refused-invalid _ _
    (sym c.valid_block.ensures ∙ c.if-not-valid_block.true))

pub returns-then-message_count-i-clause-refusal : goal.returns-then-message_count-i-clause-refusal
returns-then-message_count-i-clause-refusal c = sym (past_end c.args.b.now c.args.i
    (sym c.valid_block.ensures ∙ c.if-not-valid_block.false)
    (omega (arith, c.message_count.ensures)))

pub message-m-requires : goal.message-m-requires
message-m-requires c = few-places c.args.b.now c.args.i
    (sym c.valid_block.ensures ∙ c.if-not-valid_block.false)
    (omega (arith, c.message_count.ensures))

pub test-requires : goal.test-requires
test-requires c = let b = c.args.b.now in
    let v : valid_block b ≡ true = sym c.valid_block.ensures ∙ c.if-not-valid_block.false in (
      omega (
        arith,
        c.version_count.ensures,
        few-versions b c.args.i v (omega (arith, c.message_count.ensures)),
      ),
      subst Bounded (sym c.message-m.ensures)
          (bounded-message b c.args.i v (omega (arith, c.message_count.ensures))),
      long-enough b c.args.i v (omega (arith, c.message_count.ensures)),
    )

pub returns-in_err-found-clause-refusal : goal.returns-in_err-found-clause-refusal
returns-in_err-found-clause-refusal c = let p =
    err_from_is_err_and c.from_residual.result c.from_residual.ensures.1 in
    rw (p.1, p.2) (sym (ap refused_by c.in_err-found.was)
    ∙ told-refusal c.args.b.now c.args.i (sym c.valid_block.ensures ∙ c.if-not-valid_block.false)
    (omega (arith, c.message_count.ensures)) _ _ _ c.message-m.ensures c.version_count.ensures
    c.test.ensures)

pub returns-clause-refusal : goal.returns-clause-refusal
returns-clause-refusal c = sym (ap refused_by c.in_ok-found.was)
    ∙ told-refusal c.args.b.now c.args.i (sym c.valid_block.ensures ∙ c.if-not-valid_block.false)
    (omega (arith, c.message_count.ensures)) _ _ _ c.message-m.ensures c.version_count.ensures
    c.test.ensures
