-- A run of words among the versions or the messages, and one of the two counts: the rest of the
-- block stays as it is.
use mathlib.Core.List.{List}
use Prim.Native.Nat.{ℕ, ◌+◌, ◌≤◌, ◌<◌}
use native.Mathlib.Omega.{arith}
use lib.ListN.{set}
use lib.Seq.{sets}
use Rattle.layout.specs.Layout.{header, versions, base, versions_at, size}
use Rattle.layout.proofs.EncodesLists.{SameButLists}
use Rattle.slots.proofs.Runs.{run_length, run-before}

pub same_lists : (b : List ℕ) (from : ℕ) (ws : List ℕ) (count n : ℕ) → base versions ≤ from
    → versions_at ≤ count → count < size header
    → SameButLists b (set (sets b from ws) count n)
same_lists b from ws count n l c h =
    record {
      long = run_length b from ws count n 0;
      sizes = λ i g. run-before b from ws count n 0 (base header + i) (omega arith) (omega arith);
      fixed = λ p g k. run-before b from ws count n 0 p (omega arith) (omega arith);
    }
