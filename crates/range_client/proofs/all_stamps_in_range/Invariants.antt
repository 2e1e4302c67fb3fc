-- The first stamps pass exactly if what was gathered of them does.
use Rattle.std.proofs.Common.{◌+◌, get_or}
use Rattle.protocol.specs.Range.{stamp_in_range}
use Rattle.layout.specs.Layout.{item_at}
use Rattle.gather.specs.Sized.{sized}
use Rattle.gather.specs.Words.{stamps_test}
use Rattle.gather.proofs.Tested.{SoFar}
use Rattle.range_client.proofs.all_stamps_in_range.Given as goal

abbrev pub invariant-loop-k : goal.invariant-loop-k
invariant-loop-k l =
    SoFar l.items
    (λ k. stamp_in_range (sized l.clients l.items) (get_or l.b (l.start + item_at l.d k) 0)) l.k
    (stamps_test l.clients l.stamps l.mixes l.rooms)
