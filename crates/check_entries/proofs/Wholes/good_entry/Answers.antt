use Rattle.check_stamps.proofs.Read.{look-set}
use Rattle.check_stamps.proofs.Truncated.{held-of}
use Rattle.check_entries.proofs.Good.{good-initial, good-some}
use Rattle.check_entries.proofs.Wholes.good_entry.Goals as goal

pub returns-then-e-eq0 : goal.returns-then-e-eq0
returns-then-e-eq0 c = good-initial _ _ c.args.e c.if-e-eq0.true

pub find-p-requires : goal.find-p-requires
find-p-requires c = (held-of _ _ _ c.args.self.now.stamps.held).index

pub held-own-requires : goal.held-own-requires
held-own-requires c = (held-of _ _ _ c.args.self.now.stamps.held).valid

pub good_place-requires : goal.good_place-requires
good_place-requires c =
    let some = c.if-e-eq0.false in (
      c.requires,
      some,
      c.find-p.ensures,
      look-set _ _ _ (held-of _ _ _ c.args.self.now.stamps.held) _ some c.find-p.ensures
          c.held-own.ensures,
    )

pub returns : goal.returns
returns c =
    good-some _ _ c.args.e
    (look-set _ _ _ (held-of _ _ _ c.args.self.now.stamps.held) _ c.if-e-eq0.false
    c.find-p.ensures c.held-own.ensures)
    c.good_place.ensures
