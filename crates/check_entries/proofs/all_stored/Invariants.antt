use mathlib.Core.Bool.{true}
use mathlib.Core.Path.{◌≡◌}
use Prim.Native.Nat.{◌<◌, ◌-◌}
use Rattle.itemset.specs.Set.{has}
use Rattle.protocol.specs.Steps.{stored}
use Rattle.layout.specs.Decode.{tables_of}
use Rattle.check_entries.proofs.Good.{Through}
use Rattle.check_entries.proofs.all_stored.Given as goal

-- every member before `k` has a version, and `k` is a member
abbrev pub invariant-loop-k : goal.invariant-loop-k
invariant-loop-k l =
    Through l.set (λ k. stored (tables_of l.versions.b.now).versions k l.stamp) l.k
    × (l.k < 64 → has l.set l.k ≡ true)

abbrev pub decreases-loop-k : goal.decreases-loop-k
decreases-loop-k l = l.items - l.k
