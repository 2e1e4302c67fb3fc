use native.Mathlib.Omega.{arith}
use Rattle.check_entries.proofs.Good.{writer-is, counted_is}
use Rattle.check_entries.proofs.is_counted.Goals as goal

pub count-requires : goal.count-requires
count-requires c =
    let w = writer-is c.args.b.now c.args.stamp c.requires.1 c.requires.0 in
    (w.0, omega (arith, w.1, c.requires.2))

pub returns : goal.returns
returns c = counted_is c.args.b.now c.args.stamp c.requires.1 c.requires.0 c.count.ensures
