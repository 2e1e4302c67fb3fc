-- `read` meets its contract: the parts of the call's answer fit.
use Rattle.std.proofs.Common.{sym, subst}
use Rattle.block_calls.specs.Calls.{Fits}
use Rattle.block_calls.proofs.Fits.{answer-fits}
use Rattle.store.proofs.read.Goals as goal

pub number_of-requires : goal.number_of-requires
number_of-requires c = subst Fits (sym c.read.ensures.answer) (answer-fits _ _)
