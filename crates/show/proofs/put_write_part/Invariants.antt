-- `show::put_write_part` meets its contract: its loop stores the values right behind the number.
use Rattle.std.proofs.Common.{◌≡◌}
use Rattle.basics.specs.Fold.{up_to}
use Rattle.show.specs.Show.{written_item, put_item}
use Rattle.show.proofs.put_write_part.Given as goal

abbrev pub invariant-loop-k : goal.invariant-loop-k
invariant-loop-k l = l.out ≡ up_to (put_item (written_item l.b l.d) l.first 4 l.s) l.initial.out l.k
