-- `judge_limits::ends` meets its contract.
use mathlib.Core.Bool.{Bool, true, false}
use mathlib.Core.List.{List}
use mathlib.Core.Path.{◌≡◌}
use Prim.Native.Nat.{ℕ, ◌+◌, ◌≤◌, ◌<◌}
use native.Mathlib.Numerals.{add-one}
use native.Mathlib.Omega.{arith}
use lib.Dec.{eqb}
use lib.ListN.{length, get_or, drop, drop_of_length-le}
use lib.Seq.{drop-cons}
use mir.Val.{bool_byte}
use Rattle.basics.proofs.Cases.{by-test}
use Rattle.basics.specs.Lists.{counted}
use Rattle.judge_limits.proofs.ends.Goals as goal

counted-next : (log : List ℕ) (i : ℕ) → i < length log
    → counted (λ c. eqb c 0x0a) (drop i log) ≡ bool_byte (eqb (get_or log i 0) 0x0a) + counted
    (λ c. eqb c 0x0a) (drop (i + 1) log)
unfolding counted
counted-next log i h =
    by-test (eqb (get_or log i 0) 0x0a)
    (λ e. rw (drop-cons log i 0 h, add-one i, e))
    (λ e. rw (drop-cons log i 0 h, add-one i, e))

counted-end : (log : List ℕ) (i : ℕ) → length log ≤ i → counted (λ c. eqb c 0x0a) (drop i log) ≡ 0
unfolding counted
counted-end log i h = rw (drop_of_length-le log h)

at-most-one : (b : Bool) → bool_byte b ≤ 1
at-most-one true = omega arith
at-most-one false = omega arith

pub loop-c-init : goal.loop-c-init
loop-c-init c = (omega arith, omega arith)

pub overflow_add-n : goal.overflow_add-n
overflow_add-n c =
    omega (arith, c.from-n.ensures, at-most-one (eqb (get_or c.args.log.now c.loop-c.c-index 0) 0x0a))

pub loop-c-preserved : goal.loop-c-preserved
loop-c-preserved c = (
  omega (
    arith,
    counted-next c.args.log.now c.loop-c.c-index c.loop-c-test.true,
    c.from-n.ensures,
    c.loop-c.invariant.0,
  ),
  omega (
    arith,
    c.from-n.ensures,
    at-most-one (eqb (get_or c.args.log.now c.loop-c.c-index 0) 0x0a),
    c.loop-c.invariant.1,
  ),
)

pub returns : goal.returns
returns c =
    omega (
      arith,
      counted-end c.args.log.now c.loop-c.c-index c.loop-c-test.false,
      c.loop-c.invariant.0,
    )
