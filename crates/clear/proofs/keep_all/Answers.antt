-- `clear::keep_all` meets its contract: one version more has stayed or gone.
use Rattle.std.proofs.Common.{arith}
use Rattle.clear.proofs.Staying.{kept-first, kept-stamp, kept_next}
use Rattle.clear.proofs.keep_all.Goals as goal

pub loop-i-init : goal.loop-i-init
loop-i-init c = kept-first _ _ _

pub keep-kept-requires : goal.keep-kept-requires
keep-kept-requires c =
    let l = c.loop-i in (
      omega arith,
      l.invariant.below,
      omega (arith, l.invariant.long),
      c.requires.2,
      kept-stamp l.invariant c.requires.3 c.loop-i-test.true,
    )

pub loop-i-preserved : goal.loop-i-preserved
loop-i-preserved c =
    let call = c.keep-kept in
    let l = c.loop-i in
    kept_next l.invariant _ _ c.loop-i-test.true call.ensures.value call.ensures.b_after
    call.auto.b
