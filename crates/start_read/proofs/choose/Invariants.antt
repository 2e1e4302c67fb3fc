-- `start_read::choose` meets its contract. The invariant: the first i entries have had their turns,
-- and what is kept are entries before i. So the stamps are at each i what the step chooses from
-- entries of which the later ones are initial (`chosen-after`; document 02, P3): a turn needs it
-- where an entry has nothing left to raise.
use Rattle.std.proofs.Common.{◌≡◌}
use Rattle.start.specs.Choice.{entries_from, passed}
use Rattle.start.proofs.Kept.{Kept}
use Rattle.start_read.proofs.choose.Given as goal

abbrev pub invariant-loop-i : goal.invariant-loop-i
invariant-loop-i l =
    (l.stamps ≡ passed (entries_from l.b l.from l.all l.s) l.s l.i)
    × Kept (entries_from l.b l.from l.all l.s) l.i l.kept
