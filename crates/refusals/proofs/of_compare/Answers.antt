-- `of_compare` meets its contract: test after test.
use Rattle.std.proofs.Common.{sym, refl, ◌∙◌, not, ◌&&◌}
use Rattle.protocol.specs.declared.refusal.Refusal.TheVariants.{NoSuchClient}
use Rattle.protocol.specs.Range.{is_client}
use Rattle.layout.specs.Decode.{sizes_in}
use Rattle.refusals.proofs.Table.{refused-tested, refused-exit, compare-table}
use Rattle.refusals.proofs.of_compare.Goals as goal

pub returns-in_err-valid : goal.returns-in_err-valid
returns-in_err-valid c =
    refused-exit c.from_residual.result _ _
    c.from_residual.ensures.1 c.in_err-valid.ensures.1
    ∙ sym (compare-table c.args.b.now c.args.first c.args.second
    ∙ rw c.in_err-valid.ensures.0 refl)

pub returns : goal.returns
returns c =
    refused-tested (not (is_client (sizes_in c.args.b.now) c.args.first && is_client (sizes_in c.args.b.now) c.args.second))
    NoSuchClient c.clients.result c.clients.ensures
    ∙ sym (compare-table c.args.b.now c.args.first c.args.second
    ∙ rw c.in_ok-valid.ensures refl)
