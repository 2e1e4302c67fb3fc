-- `range_client::firsts_in_range` meets its contract, mode by mode.
use borrow.Author.Rules.{rules}
use native.Mathlib.Omega.{arith}
use Rattle.range_client.proofs.FirstTests.{firsts-none, firsts-past, firsts-first}
use Rattle.range_client.proofs.FirstTests.{firsts-second}
use Rattle.range_client.proofs.firsts_in_range.Goals as goal

pub returns-then-mode-lt-FIRST_PART : goal.returns-then-mode-lt-FIRST_PART
returns-then-mode-lt-FIRST_PART c = firsts-none _ _ _ _ (omega arith)

pub returns-then-mode-eq-FIRST_PART : goal.returns-then-mode-eq-FIRST_PART
returns-then-mode-eq-FIRST_PART c = firsts-first _ _ _ _ (omega arith) c.come_in_range.ensures
    c.requires.6 c.awaited.ensures

pub returns-then-mode-eq-SECOND_PART : goal.returns-then-mode-eq-SECOND_PART
returns-then-mode-eq-SECOND_PART c =
    firsts-second _ _ _ _ (omega arith) c.come_in_range-then-mode-eq-SECOND_PART.ensures
    c.requires.6

pub returns : goal.returns
returns c = firsts-past _ _ _ _ (omega arith) (omega arith)
