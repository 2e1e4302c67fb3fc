-- `clear::none_fast` meets its contract. The invariant: no client up to `i` is in a fast read.
use Rattle.std.proofs.Common.{◌≡◌, ◌+◌, eqb, true}
use Rattle.basics.specs.Lists.{every}
use Rattle.layout.specs.Layout.{at, scalars, mode_at, stage_of}
use Rattle.clear.proofs.none_fast.Given as goal

abbrev pub invariant-loop-i : goal.invariant-loop-i
invariant-loop-i l =
    every l.i (λ i. eqb (stage_of (at l.b scalars (mode_at (i + 1)))) 0) ≡ true
