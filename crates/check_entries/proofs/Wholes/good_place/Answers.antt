use Rattle.check_stamps.proofs.Block.{few-clients}
use Rattle.check_stamps.proofs.Truncated.{held-of}
use Rattle.check_entries.proofs.Good.{ask-some}
use Rattle.check_entries.proofs.Wholes.good_place.Goals as goal

pub is_counted-requires : goal.is_counted-requires
is_counted-requires c = (
  c.requires.1,
  c.requires.0,
  few-clients _ (held-of _ _ _ c.args.self.now.stamps.held).valid,
)

pub returns : goal.returns
returns c =
    ask-some _ _ _ c.requires.1 c.requires.3 c.has.ensures c.is_whole.ensures
    c.is_counted.ensures
