use Rattle.check_stamps.proofs.Read.{look-set}
use Rattle.check_stamps.proofs.Truncated.{held-of}
use Rattle.check_entries.proofs.Good.{ask-initial}
use Rattle.check_entries.proofs.Wholes.good_ask.Goals as goal

pub returns-then-stamp-eq0 : goal.returns-then-stamp-eq0
returns-then-stamp-eq0 c = ask-initial _ _ _ c.if-stamp-eq0.true

pub find-p-requires : goal.find-p-requires
find-p-requires c = (held-of _ _ _ c.args.self.now.stamps.held).index

pub held-first-requires : goal.held-first-requires
held-first-requires c = (held-of _ _ _ c.args.self.now.stamps.held).valid

pub good_place-requires : goal.good_place-requires
good_place-requires c =
    let some = c.if-stamp-eq0.false in (
      c.requires,
      some,
      c.find-p.ensures,
      look-set _ _ _ (held-of _ _ _ c.args.self.now.stamps.held) _ some c.find-p.ensures
          c.held-first.ensures,
    )
