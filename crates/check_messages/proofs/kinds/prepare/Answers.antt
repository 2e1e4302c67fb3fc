use mathlib.Core.List.{List}
use mathlib.Core.Path.{ap, ◌∙◌}
use Prim.Native.Nat.{ℕ}
use native.Mathlib.Omega.{arith}
use Rattle.protocol.specs.declared.Message.TheVariants.{Prepare}
use Rattle.protocol.specs.Steps.{stored}
use Rattle.layout.specs.Decode.{tables_of}
use Rattle.check_stamps.proofs.Block.{few-clients}
use Rattle.check_stamps.proofs.Truncated.{held-of}
use Rattle.check_messages.proofs.Told.{item-few, stamp-ranged, stamp-fits, some-stamp}
use Rattle.check_messages.proofs.Told.{owner-few, prepare-is}
use Rattle.check_messages.proofs.kinds.prepare.Goals as goal

pub set_of_stamp-requires : goal.set_of_stamp-requires
set_of_stamp-requires c =
    let valid = (held-of _ _ _ c.args.looks.now.wholes.stamps.held).valid in
    some-stamp _ valid (Prepare c.args.v) c.requires (omega arith)

pub is_counted-requires : goal.is_counted-requires
is_counted-requires c =
    let valid = (held-of _ _ _ c.args.looks.now.wholes.stamps.held).valid in
    let m = Prepare c.args.v in (
      some-stamp _ valid m c.requires (omega arith),
      stamp-ranged _ valid m c.requires,
      few-clients _ valid,
    )

pub write_stamp-requires : goal.write_stamp-requires
write_stamp-requires c =
    let valid = (held-of _ _ _ c.args.looks.now.wholes.stamps.held).valid in
    owner-few _ valid (Prepare c.args.v) c.requires

pub write_set-requires : goal.write_set-requires
write_set-requires c =
    let valid = (held-of _ _ _ c.args.looks.now.wholes.stamps.held).valid in
    owner-few _ valid (Prepare c.args.v) c.requires

pub write_value-requires : goal.write_value-requires
write_value-requires c =
    let valid = (held-of _ _ _ c.args.looks.now.wholes.stamps.held).valid in
    let m = Prepare c.args.v in
    let few = owner-few _ valid m c.requires in
    (few.0, few.1, item-few _ valid m c.requires)

pub is_stored-requires : goal.is_stored-requires
is_stored-requires c =
    let valid = (held-of _ _ _ c.args.looks.now.wholes.stamps.held).valid in
    let m = Prepare c.args.v in
    (item-few _ valid m c.requires, stamp-fits _ valid m c.requires)

pub returns : goal.returns
returns c =
    let valid = (held-of _ _ _ c.args.looks.now.wholes.stamps.held).valid in
    let held = c.is_stored.ensures
    ∙ ap (λ (b : List ℕ). stored (tables_of b).versions c.args.v.item c.args.v.stamp)
    c.args.looks.now.same in
    prepare-is _ valid c.args.v c.requires c.set_of_stamp.ensures c.is_counted.ensures
    c.write_stamp.ensures c.write_set.ensures c.write_value.ensures held
