-- The invariant of `judge_limits::ends`: the ends counted and those left are all of them.
use mathlib.Core.Path.{◌≡◌}
use Prim.Native.Nat.{◌+◌, ◌≤◌}
use lib.Dec.{eqb}
use lib.ListN.{drop}
use Rattle.basics.specs.Lists.{counted}
use Rattle.judge_limits.proofs.ends.Given as goal

abbrev pub invariant-loop-c : goal.invariant-loop-c
invariant-loop-c l =
    (l.n + counted (λ c. eqb c 0x0a) (drop l.c-index l.log) ≡ counted (λ c. eqb c 0x0a) l.log)
    × (l.n ≤ l.c-index)
