-- `versions_in_range` meets its contract: version after version, and one test of all at the end.
use Rattle.std.proofs.Common.{◌/◌, ◌%◌, ◌^◌, ◌∙◌, arith}
use Rattle.layout.specs.Decode.{version_in}
use Rattle.gather.proofs.Tested.{tested-all}
use Rattle.gather.proofs.Gathers.{versions, gather_none, gather-next}
use Rattle.gather.proofs.Versions.{version-read}
use Rattle.range_message.proofs.versions_in_range.Goals as goal

pub loop-i-init : goal.loop-i-init
loop-i-init c = gather_none (versions c.args.items)

pub loop-i-preserved : goal.loop-i-preserved
loop-i-preserved c =
    let l = c.loop-i in
    let a = c.args in
    let item = c.version_word-item.result in
    let set = c.version_word-set.result in
    let value = c.version_word-value.result in
    gather-next (versions a.items)
    ((((l.ks, l.values), l.owns), l.sets), l.shifts)
    ((((item, value), c.owned-owns.result), set), set / 2 ^ (item % 64)) l.invariant
    (omega arith)
    (version-read a.clients a.items (version_in a.b.now l.i) (omega arith) (omega arith)
    (omega arith) c.version_word-item.ensures c.version_word-value.ensures
    c.version_word-stamp.ensures c.version_word-set.ensures c.owned-owns.ensures)

pub returns : goal.returns
returns c = c.versions_pass.ensures ∙ tested-all c.loop-i.invariant (omega arith)
