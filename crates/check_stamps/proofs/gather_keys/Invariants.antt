use Rattle.std.proofs.Common.{◌≡◌, length, take}
use Rattle.basics.specs.Lists.{table}
use Rattle.layout.specs.Layout.{most_versions}
use Rattle.check_stamps.specs.Stamps.{key_in}
use Rattle.check_stamps.proofs.gather_keys.Given as goal

abbrev pub invariant-loop-p : goal.invariant-loop-p
invariant-loop-p l = (length l.keys ≡ most_versions) × (take l.p l.keys ≡ table l.p (key_in l.b))
