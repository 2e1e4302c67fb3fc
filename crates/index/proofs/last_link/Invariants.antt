-- `index::last_link` meets its contract. The invariant: the walk has come to the link `at`, which
-- lies among the links. The measure is how many lie behind it.
use Prim.Native.Nat.{◌+◌, ◌-◌, ◌*◌, ◌<◌}
use lib.ListN.{length}
use Rattle.index.specs.Index.{most_slots, base, most_links, Walked}
use Rattle.index.proofs.last_link.Given as goal

abbrev pub invariant-loop-at : goal.invariant-loop-at
invariant-loop-at l = (l.at < most_slots + base * length l.keys) × Walked l.keys l.links l.key l.at l.rest

abbrev pub decreases-loop-at : goal.decreases-loop-at
decreases-loop-at l = most_links - l.at
