-- `capacity::prepare_at` meets its contract: a prepare is of kind 1.
use Rattle.std.proofs.Common.{◌∙◌}
use Rattle.range.proofs.CapacityTests.{prepare-byte}
use Rattle.range.proofs.capacity.prepare_at.Goals as goal

pub returns-clause-value : goal.returns-clause-value
returns-clause-value c = c.from.ensures ∙ prepare-byte _ _ c.message_word.ensures
