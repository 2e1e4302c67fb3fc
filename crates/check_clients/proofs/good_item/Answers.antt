use native.Mathlib.Omega.{arith}
use Rattle.check_stamps.proofs.Block.{few-clients}
use Rattle.check_stamps.proofs.Truncated.{keyed-of}
use Rattle.check_clients.proofs.Clients.{item-is, write-small, in-most}
use Rattle.check_clients.proofs.good_item.Goals as goal

pub write_awaited-awaited-requires : goal.write_awaited-awaited-requires
write_awaited-awaited-requires c =
    let valid = (keyed-of _ _ _ c.args.versions.now.keyed).valid in
    (c.requires.0, omega (arith, c.requires.1, few-clients _ valid))

pub write_value-value-requires : goal.write_value-value-requires
write_value-value-requires c =
    in-most _ (keyed-of _ _ _ c.args.versions.now.keyed).valid _ _ c.requires.0 c.requires.1
    c.requires.2

pub holds-requires : goal.holds-requires
holds-requires c =
    let valid = (keyed-of _ _ _ c.args.versions.now.keyed).valid in (
      (in-most _ valid _ _ c.requires.0 c.requires.1 c.requires.2).2,
      write-small _ valid _ c.requires.0 c.requires.1 c.requires.3,
    )

pub returns : goal.returns
returns c =
    item-is _ _ c.requires.0 c.requires.1 _ c.requires.3 c.write_value-value.ensures
    c.write_awaited-awaited.ensures c.has.ensures c.holds.ensures
