use Rattle.check_stamps.proofs.Block.{few-clients}
use Rattle.check_stamps.proofs.Truncated.{held-of}
use Rattle.check_messages.proofs.kinds.committed.Goals as goal

pub is_counted-requires : goal.is_counted-requires
is_counted-requires c = (
  c.requires.0,
  c.requires.1,
  few-clients _ (held-of _ _ _ c.args.wholes.now.stamps.held).valid,
)
