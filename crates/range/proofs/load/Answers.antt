-- `load` meets its contract: the counts of a valid block are within those that are added up.
use Rattle.std.proofs.Common.{◌∙◌, arith}
use Rattle.encoding.proofs.WellFormed.{WellFormed, tells-valid-block}
use Rattle.range.proofs.BlockTests.{load-valid}
use Rattle.range.proofs.load.Goals as goal

pub load_of-requires : goal.load_of-requires
load_of-requires c =
    let words : WellFormed c.args.b.now =
    ((tells-valid-block c.args.b.now).0 c.requires).well_formed in
    (omega (arith, words.sizes.clients), omega (arith, words.message_count))

pub returns : goal.returns
returns c =
    let words : WellFormed c.args.b.now =
    ((tells-valid-block c.args.b.now).0 c.requires).well_formed in
    c.load_of.ensures
    ∙ load-valid c.args.b.now _ _ c.clients.ensures c.message_count.ensures
    (omega (arith, words.message_count))
