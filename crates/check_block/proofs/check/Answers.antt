use borrow.Author.Rules.{rules}
use Rattle.index.proofs.Places.{index-none}
use Rattle.check_block.proofs.check.Goals as goal

pub index-requires : goal.index-requires
index-requires c = index-none _ (search rules)

pub index-requires-2 : goal.index-requires-2
index-requires-2 c = index-none _ (search rules)
