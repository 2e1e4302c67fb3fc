-- `show::put_read_part` meets its contract: its loop stores the entries right behind the set.
use Rattle.std.proofs.Common.{◌≡◌}
use Rattle.basics.specs.Fold.{up_to}
use Rattle.show.specs.Show.{read_item, put_item}
use Rattle.show.proofs.put_read_part.Given as goal

abbrev pub invariant-loop-k : goal.invariant-loop-k
invariant-loop-k l = l.out ≡ up_to (put_item (read_item l.b l.d) l.first 9 l.s) l.initial.out l.k
