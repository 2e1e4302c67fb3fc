-- `commit::commit` meets its contract. The invariant: the block is the fold over the versions
-- passed.
use mathlib.Core.Path.{◌≡◌}
use lib.ListN.{length}
use Rattle.basics.specs.Fold.{up_to}
use Rattle.commit.specs.Commit.{commit_version}
use Rattle.commit.proofs.commit.Given as goal

abbrev pub invariant-loop-i : goal.invariant-loop-i
invariant-loop-i l = (l.b ≡ up_to (commit_version l.partitions l.p l.stamp) l.initial.b l.i)
    × (length l.b ≡ length l.initial.b)
