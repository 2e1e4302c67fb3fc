-- The first values fit exactly if what was gathered of them does.
use Rattle.std.proofs.Common.{◌+◌, ◌^◌, get_or, ltb}
use Rattle.layout.specs.Layout.{item_at}
use Rattle.gather.proofs.Tested.{SoFar}
use Rattle.range_client.proofs.all_values_in_range.Given as goal

abbrev pub invariant-loop-k : goal.invariant-loop-k
invariant-loop-k l =
    SoFar l.items (λ k. ltb (get_or l.b (l.start + item_at l.d k) 0) (2 ^ 32)) l.k
    (ltb l.values (2 ^ 32))
