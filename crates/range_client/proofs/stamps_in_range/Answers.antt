-- `range_client::stamps_in_range` meets its contract: an empty set has nothing to test, and where
-- all pass those of the set do.
use borrow.Author.Rules.{rules}
use mathlib.Core.Path.{sym, ◌∙◌}
use Rattle.gather.specs.Sized.{sized}
use Rattle.range_client.proofs.ClientTests.{each-empty, each_all}
use Rattle.range_client.proofs.stamps_in_range.Goals as goal

pub returns-then-set-eq0 : goal.returns-then-set-eq0
returns-then-set-eq0 c = each-empty (sized 0 _) _ _ c.if-set-eq0.true

pub returns-then-all_stamps_in_range : goal.returns-then-all_stamps_in_range
returns-then-all_stamps_in_range c = each_all (sized 0 _) _ _
    (sym c.all_stamps_in_range.ensures ∙ c.if-all_stamps_in_range.true)
