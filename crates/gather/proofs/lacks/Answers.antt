-- `gather::lacks` meets its contract: the digit worth 2 ^ k is 0 or 1.
use Rattle.gather.proofs.Bits.{lacks-power}
use Rattle.gather.proofs.lacks.Goals as goal

pub returns : goal.returns
returns c = lacks-power c.args.set c.args.k
