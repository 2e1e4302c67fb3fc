use mathlib.Core.List.{List}
use mathlib.Core.Path.{ap, ◌∙◌}
use Prim.Native.Nat.{ℕ}
use native.Mathlib.Omega.{arith}
use Rattle.protocol.specs.Range.{each}
use Rattle.layout.specs.Decode.{client_in, tables_of}
use Rattle.check_stamps.specs.Parts.{good_item}
use Rattle.check_stamps.proofs.Block.{few-clients}
use Rattle.check_stamps.proofs.Truncated.{held-of}
use Rattle.check_block.proofs.Whole.{client-passes, items-are, count_fits, set_is}
use Rattle.check_block.proofs.Whole.{read-awaits, write-awaits}
use Rattle.check_block.proofs.good_client.Goals as goal

pub good_stamp-requires : goal.good_stamp-requires
good_stamp-requires c =
    let valid = (held-of _ _ _ c.args.looks.now.wholes.stamps.held).valid in (
      c.requires.0,
      c.requires.1,
      few-clients _ valid,
      count_fits _ c.args.d c.requires.0 c.requires.1 valid,
    )

pub read_awaited-requires : goal.read_awaited-requires
read_awaited-requires c =
    let valid = (held-of _ _ _ c.args.looks.now.wholes.stamps.held).valid in
    (c.requires.0, omega (arith, c.requires.1, few-clients _ valid))

pub one_each-requires : goal.one_each-requires
one_each-requires c = (
  (held-of _ _ _ c.args.looks.now.wholes.stamps.held).valid,
  c.requires.0,
  c.requires.1,
  read-awaits _ c.args.d c.requires.0 c.requires.1 c.read_awaited.ensures,
)

pub write_awaited-requires : goal.write_awaited-requires
write_awaited-requires c =
    let valid = (held-of _ _ _ c.args.looks.now.wholes.stamps.held).valid in
    (c.requires.0, omega (arith, c.requires.1, few-clients _ valid))

pub one_each-requires-2 : goal.one_each-requires-2
one_each-requires-2 c = (
  (held-of _ _ _ c.args.looks.now.wholes.stamps.held).valid,
  c.requires.0,
  c.requires.1,
  write-awaits _ c.args.d c.requires.0 c.requires.1 c.write_awaited.ensures,
)

pub returns : goal.returns
returns c =
    let stored = λ (b : List ℕ). each (tables_of b).sizes (client_in b c.args.d).write.set
    (good_item (tables_of b) c.args.d) in
    client-passes (tables_of _) c.args.d _ _ (items-are _)
    (set_is _ c.args.d c.requires.0 c.requires.1) c.good_firsts.ensures c.good_stamp.ensures
    (c.good_items.ensures ∙ ap stored c.args.looks.now.same) c.one_each.ensures
    c.one_each-2.ensures
