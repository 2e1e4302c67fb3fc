-- `valid_block` meets its contract: a short block is not valid.
use Rattle.std.proofs.Common.{◌∙◌, arith}
use Rattle.std.proofs.lemmas.Bool.{lt-leb}
use Rattle.range.proofs.BlockTests.{valid-short}
use Rattle.range.proofs.valid_block.Goals as goal

pub returns-else-b-ge-NEEDED : goal.returns-else-b-ge-NEEDED
returns-else-b-ge-NEEDED c =
    lt-leb _ _ (omega arith) ∙ valid-short c.args.b.now (omega arith)
