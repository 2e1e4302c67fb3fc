-- `all_stamps_in_range` meets its contract: stamp after stamp, and one test of all at the end.
use Rattle.std.proofs.Common.{◌+◌, get_or, ◌∙◌, arith}
use Rattle.layout.specs.Layout.{item_at}
use Rattle.gather.proofs.Tested.{tested-all}
use Rattle.gather.proofs.Gathers.{stamps, gather_none, gather-next}
use Rattle.gather.proofs.Stamps.{stamp-read}
use Rattle.range_client.proofs.all_stamps_in_range.Goals as goal

pub loop-k-init : goal.loop-k-init
loop-k-init c = gather_none (stamps c.args.clients)

pub loop-k-preserved : goal.loop-k-preserved
loop-k-preserved c =
    let l = c.loop-k in
    let a = c.args in
    gather-next (stamps a.clients) ((l.stamps, l.mixes), l.rooms)
    ((c.item_word-stamp.result, c.mixed-mixes.result), c.roomed-rooms.result) l.invariant
    (omega arith)
    (stamp-read a.clients a.items (get_or a.b.now (a.start + item_at a.d l.k) 0)
    (omega arith) c.item_word-stamp.ensures c.mixed-mixes.ensures c.roomed-rooms.ensures)

pub returns : goal.returns
returns c = c.stamps_pass.ensures ∙ tested-all c.loop-k.invariant (omega arith)
