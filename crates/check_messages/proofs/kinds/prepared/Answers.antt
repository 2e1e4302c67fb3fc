use native.Mathlib.Omega.{arith}
use Rattle.protocol.specs.declared.Message.TheVariants.{Prepared}
use Rattle.check_stamps.proofs.Block.{few-clients}
use Rattle.check_stamps.proofs.Truncated.{keyed-of}
use Rattle.check_messages.proofs.Told.{item-few, stamp-ranged, stamp-fits, some-stamp}
use Rattle.check_messages.proofs.Told.{owner-few, prepared-is}
use Rattle.check_messages.proofs.kinds.prepared.Goals as goal

pub is_stored-requires : goal.is_stored-requires
is_stored-requires c =
    let valid = (keyed-of _ _ _ c.args.versions.now.keyed).valid in
    let m = Prepared c.args.k c.args.stamp in
    (item-few _ valid m c.requires, stamp-fits _ valid m c.requires)

pub is_counted-requires : goal.is_counted-requires
is_counted-requires c =
    let valid = (keyed-of _ _ _ c.args.versions.now.keyed).valid in
    let m = Prepared c.args.k c.args.stamp in (
      some-stamp _ valid m c.requires (omega arith),
      stamp-ranged _ valid m c.requires,
      few-clients _ valid,
    )

pub write_stamp-requires : goal.write_stamp-requires
write_stamp-requires c =
    let valid = (keyed-of _ _ _ c.args.versions.now.keyed).valid in
    owner-few _ valid (Prepared c.args.k c.args.stamp) c.requires

pub returns : goal.returns
returns c =
    prepared-is _ (keyed-of _ _ _ c.args.versions.now.keyed).valid c.args.k c.args.stamp c.requires
    c.is_stored.ensures c.is_counted.ensures c.write_stamp.ensures
