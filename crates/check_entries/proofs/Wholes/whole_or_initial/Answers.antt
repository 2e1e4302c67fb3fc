use Rattle.check_stamps.proofs.Truncated.{held-of}
use Rattle.check_entries.proofs.Wholes.whole_or_initial.Goals as goal

pub find-requires : goal.find-requires
find-requires c = (held-of _ _ _ c.args.self.now.stamps.held).index
