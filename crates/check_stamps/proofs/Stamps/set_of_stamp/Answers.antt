use Rattle.check_stamps.proofs.Truncated.{held-of}
use Rattle.check_stamps.proofs.Read.{look-set}
use Rattle.check_stamps.proofs.Stamps.set_of_stamp.Goals as goal

pub find-place-requires : goal.find-place-requires
find-place-requires c = (held-of _ _ _ c.args.self.now.held).index

pub held-requires : goal.held-requires
held-requires c = (held-of _ _ _ c.args.self.now.held).valid

pub returns : goal.returns
returns c =
    look-set _ _ _ (held-of _ _ _ c.args.self.now.held) _ c.requires c.find-place.ensures
    c.held.ensures
