-- `all_values_in_range` meets its contract: value after value, and the size of all at the end.
use Rattle.std.proofs.Common.{ℕ, ◌^◌, ltb, ap, arith}
use Rattle.gather.proofs.Tested.{tested-all}
use Rattle.gather.proofs.Gathers.{below, gather_none, gather-next}
use Rattle.range_client.proofs.all_values_in_range.Goals as goal

pub loop-k-init : goal.loop-k-init
loop-k-init c = gather_none (below 32)

pub loop-k-preserved : goal.loop-k-preserved
loop-k-preserved c =
    let l = c.loop-k in
    gather-next (below 32) l.values c.item_word-value.result l.invariant (omega arith)
    (ap (λ (w : ℕ). ltb w (2 ^ 32)) c.item_word-value.ensures)

pub returns : goal.returns
returns c = tested-all c.loop-k.invariant (omega arith)
