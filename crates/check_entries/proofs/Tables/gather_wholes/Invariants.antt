use Rattle.std.proofs.Common.{◌≡◌, length, take}
use Rattle.basics.specs.Lists.{table}
use Rattle.layout.specs.Layout.{most_versions}
use Rattle.check_entries.specs.Entries.{whole_mark}
use Rattle.check_entries.proofs.Tables.gather_wholes.Given as goal

abbrev pub invariant-loop-p : goal.invariant-loop-p
invariant-loop-p l =
    (length l.marks ≡ most_versions) × (take l.p l.marks ≡ table l.p (whole_mark l.self.stamps.b.now))
