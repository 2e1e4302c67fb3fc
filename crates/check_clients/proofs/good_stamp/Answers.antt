use native.Mathlib.Omega.{arith}
use Rattle.check_clients.proofs.Clients.{count-is, stamp-is}
use Rattle.check_clients.proofs.good_stamp.Goals as goal

pub overflow_mul-result : goal.overflow_mul-result
overflow_mul-result c =
    omega (arith, c.count-count.ensures, count-is c.args.b.now c.args.d, c.requires.3)

pub overflow_add-result : goal.overflow_add-result
overflow_add-result c =
    omega (
      arith,
      c.count-count.ensures,
      count-is c.args.b.now c.args.d,
      c.requires.3,
      c.requires.1,
      c.requires.2,
    )

pub returns : goal.returns
returns c =
    stamp-is _ _ c.requires.0 c.requires.1 c.write_set-set.ensures c.write_stamp-stamp.ensures
    c.count-count.ensures
