-- `range_client::running_in_range` meets its contract: a write has its one stamp, a mixed
-- transaction the tests of its own, any other client the stamps of its items.
use borrow.Author.Rules.{rules}
use native.Mathlib.Omega.{arith}
use Rattle.range_client.proofs.ClientTests.{running-write, running-mixed, running-other}
use Rattle.range_client.proofs.running_in_range.Goals as goal

pub returns-then-mode-eq-WRITING : goal.returns-then-mode-eq-WRITING
returns-then-mode-eq-WRITING c = running-write _ _ _ _ c.stamp_in_range.ensures c.stamp.ensures
    c.values_in_range.ensures c.requires.6 (omega arith)

pub returns-then-mode-eq-MIXING : goal.returns-then-mode-eq-MIXING
returns-then-mode-eq-MIXING c = running-mixed _ _ _ _ c.mixed_in_range.ensures (omega arith)

pub returns : goal.returns
returns c = running-other _ _ _ _ c.asked_in_range.ensures (omega arith) (omega arith)
