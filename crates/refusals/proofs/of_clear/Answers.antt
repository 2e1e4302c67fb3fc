-- `of_clear` meets its contract: the one test.
use Rattle.std.proofs.Common.{sym, ◌∙◌, not}
use Rattle.protocol.specs.declared.refusal.Refusal.TheVariants.{InvalidBlock}
use Rattle.layout.specs.Decode.{valid_block}
use Rattle.refusals.proofs.Table.{refused-tested, clear-table}
use Rattle.refusals.proofs.of_clear.Goals as goal

pub returns : goal.returns
returns c =
    refused-tested (not (valid_block c.args.b.now)) InvalidBlock c.valid.result c.valid.ensures
    ∙ sym (clear-table c.args.b.now)
