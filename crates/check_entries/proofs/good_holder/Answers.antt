use Rattle.check_stamps.proofs.Block.{few-clients}
use Rattle.check_stamps.proofs.Truncated.{held-of}
use Rattle.check_entries.proofs.Ranged.{read-ranged, read-initial, read_some}
use Rattle.check_entries.proofs.good_holder.Goals as goal

pub returns-then-e-eq0 : goal.returns-then-e-eq0
returns-then-e-eq0 c = read-initial _ _ _ c.held-e.ensures c.if-e-eq0.true

pub is_counted-requires : goal.is_counted-requires
is_counted-requires c =
    let valid = (held-of _ _ _ c.args.stamps.now.held).valid in (
      c.if-e-eq0.false,
      read-ranged _ valid _ _ c.held-e.ensures,
      few-clients _ valid,
    )

pub returns : goal.returns
returns c =
    read_some _ _ _ c.held-e.ensures c.set_of_stamp-own.ensures c.is_counted.ensures
