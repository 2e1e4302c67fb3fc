-- `index::index` meets its contract. The invariant: the keys up to `p` have their links.
use Rattle.index.specs.Index.{Indexed}
use Rattle.index.proofs.index.Given as goal

abbrev pub invariant-loop-p : goal.invariant-loop-p
invariant-loop-p l = Indexed l.keys l.links l.p
