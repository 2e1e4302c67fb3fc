-- The first entries pass exactly if what was gathered of them does.
use Rattle.protocol.specs.Range.{entry_in_range}
use Rattle.gather.specs.Sized.{sized}
use Rattle.gather.specs.Words.{entries_test}
use Rattle.gather.proofs.Tested.{SoFar}
use Rattle.range_client.specs.Entries.{entry_from}
use Rattle.range_client.proofs.entry.entries_in_range.Given as goal

abbrev pub invariant-loop-k : goal.invariant-loop-k
invariant-loop-k l =
    SoFar l.items (λ k. entry_in_range (sized l.clients l.items) (entry_from l.b l.start k)) l.k
    (entries_test l.clients l.items l.stamps l.mixes l.rooms l.sets)
