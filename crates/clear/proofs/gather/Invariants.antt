-- `clear::gather` meets its contract. The invariant: the stamps up to `p` are gathered, at first
-- those of the entries.
use Rattle.std.proofs.Common.{◌≡◌, take}
use Rattle.basics.specs.Lists.{table}
use Rattle.clear.specs.Stamps.{stamp_in}
use Rattle.clear.proofs.gather.Given as goal

abbrev pub invariant-loop-p : goal.invariant-loop-p
invariant-loop-p l = take l.p l.stamps ≡ table l.p (stamp_in l.b)
