-- `entry::entries_in_range` meets its contract: entry after entry, and one test of all at the end.
use Rattle.std.proofs.Common.{◌∙◌, arith}
use Rattle.gather.proofs.Tested.{tested-all}
use Rattle.gather.proofs.Gathers.{entries, gather_none, gather-next}
use Rattle.gather.proofs.Stamps.{entry_read}
use Rattle.range_client.specs.Entries.{entry_from}
use Rattle.range_client.proofs.entry.entries_in_range.Goals as goal

pub loop-k-init : goal.loop-k-init
loop-k-init c = gather_none (entries c.args.clients c.args.items)

pub loop-k-preserved : goal.loop-k-preserved
loop-k-preserved c =
    let l = c.loop-k in
    let a = c.args in
    gather-next (entries a.clients a.items) (((l.stamps, l.mixes), l.rooms), l.sets) (
      ((c.entry_word-stamp.result, c.mixed-mixes.result), c.roomed-rooms.result),
      c.entry_word-set.result,
    )
    l.invariant (omega arith)
    (entry_read a.clients a.items (entry_from a.b.now a.start l.k) (omega arith)
    c.entry_word-stamp.ensures c.mixed-mixes.ensures c.roomed-rooms.ensures
    c.entry_word-set.ensures)

pub returns : goal.returns
returns c = c.entries_pass.ensures ∙ tested-all c.loop-k.invariant (omega arith)
