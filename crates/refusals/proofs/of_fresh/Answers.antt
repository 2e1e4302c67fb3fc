-- `of_fresh` meets its contract: test after test.
use Rattle.std.proofs.Common.{sym, refl, ◌∙◌, ltb, length}
use Rattle.protocol.specs.declared.refusal.Refusal.TheVariants.{InvalidBlock}
use Rattle.protocol.specs.Calls.{first}
use Rattle.layout.specs.Layout.{needed}
use Rattle.block_calls.specs.Calls.{fresh_refusal_on}
use Rattle.refusals.proofs.Table.{refused-tested, refused-exit}
use Rattle.refusals.proofs.of_fresh.Goals as goal

pub returns-in_err-refuse : goal.returns-in_err-refuse
unfolding fresh_refusal_on first
returns-in_err-refuse c =
    refused-exit c.from_residual.result _ _ c.from_residual.ensures.1 c.in_err-refuse.ensures.1
    ∙ sym (rw (← c.sizes_in_range.ensures, c.in_err-refuse.ensures.0) refl)

pub returns : goal.returns
unfolding fresh_refusal_on first
returns c =
    refused-tested (ltb (length c.args.b.now) needed) InvalidBlock c.refuse-2.result
    c.refuse-2.ensures
    ∙ sym (rw (← c.sizes_in_range.ensures, c.in_ok-refuse.ensures) refl)
