-- `range_client::under_way_in_range` meets its contract: with none under way the tests of its items
-- pass.
use borrow.Author.Rules.{rules}
use mathlib.Core.Bool.{◌&&◌}
use mathlib.Core.Path.{sym, ap₂, ◌∙◌}
use lib.Dec.{eqb}
use borrow.Author.Tests.{eqb-true}
use Rattle.basics.proofs.Cases.{and_left, and_right}
use Rattle.range_client.proofs.ClientTests.{idle-tests}
use Rattle.range_client.proofs.under_way_in_range.Goals as goal

pub returns-then-mode-set : goal.returns-then-mode-set
returns-then-mode-set c = idle-tests c.args.b.now c.args.d c.args.clients c.args.items
    (sym c.requires.5 ∙ eqb-true _ 0 (and_left _ _ c.if-mode-set.true))
    (sym c.requires.6 ∙ eqb-true _ 0 (and_right (eqb c.args.mode 0) _ c.if-mode-set.true))
    c.count.ensures c.awaited.ensures
