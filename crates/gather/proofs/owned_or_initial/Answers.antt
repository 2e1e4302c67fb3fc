-- `gather::owned_or_initial` meets its contract: of 0 it is 0, which passes.
use Rattle.std.proofs.Common.{arith}
use Rattle.gather.proofs.OwnedStamps.{initial-word, later-word}
use Rattle.gather.proofs.owned_or_initial.Goals as goal

pub returns-then-stamp-eq0 : goal.returns-then-stamp-eq0
returns-then-stamp-eq0 c = initial-word _ 0 _ (omega arith)

pub returns-else-stamp-eq0 : goal.returns-else-stamp-eq0
returns-else-stamp-eq0 c = later-word _ 0 _ (omega arith) (omega arith) (omega arith) c.owned.ensures
