-- The buffer and the bytes kept are those of the chunks read so far. The measure is what is left
-- of the buffer.
use Rattle.std.proofs.Common.{length, ◌-◌, ◌≡◌, ◌≤◌, ℕ, List}
use Rattle.judge_driver.specs.Input.{keep_all}
use Rattle.judge_driver.proofs.fill.Given as goal

abbrev pub invariant-loop-done : goal.invariant-loop-done
invariant-loop-done l =
    (l.done ≤ length l.buf)
    × ((chunks : List (List ℕ))
    × (record { buffer = l.buf; done = l.done }
    ≡ keep_all (record { buffer = l.fn.buf; done = 0 }) chunks))

abbrev pub decreases-loop-done : goal.decreases-loop-done
decreases-loop-done l = length l.initial.buf - l.done
