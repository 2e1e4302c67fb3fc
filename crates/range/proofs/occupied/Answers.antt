-- `occupied` meets its contract: the counts of a valid block are within those that are added up.
use Rattle.std.proofs.Common.{◌∙◌, arith}
use Rattle.encoding.proofs.WellFormed.{WellFormed, tells-valid-block}
use Rattle.range.proofs.BlockTests.{occupied-valid}
use Rattle.range.proofs.occupied.Goals as goal

pub occupied_of-requires : goal.occupied_of-requires
occupied_of-requires c =
    let words : WellFormed c.args.b.now =
    ((tells-valid-block c.args.b.now).0 c.requires).well_formed in
    (omega (arith, words.version_count), omega (arith, words.message_count), words.long)

pub returns : goal.returns
returns c =
    let words : WellFormed c.args.b.now =
    ((tells-valid-block c.args.b.now).0 c.requires).well_formed in
    c.occupied_of.ensures
    ∙ occupied-valid c.args.b.now _ _ c.version_count.ensures c.message_count.ensures
    (omega (arith, words.version_count)) (omega (arith, words.message_count))
