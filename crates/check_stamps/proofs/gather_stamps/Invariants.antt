use Rattle.std.proofs.Common.{◌≡◌, length, take}
use Rattle.basics.specs.Lists.{table}
use Rattle.check_stamps.specs.Stamps.{most_held, held_stamp}
use Rattle.check_stamps.proofs.gather_stamps.Given as goal

abbrev pub invariant-loop-p : goal.invariant-loop-p
invariant-loop-p l = (length l.stamps ≡ most_held) × (take l.p l.stamps ≡ table l.p (held_stamp l.b))
