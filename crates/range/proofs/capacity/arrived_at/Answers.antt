-- `capacity::arrived_at` meets its contract: of a write, of a mixed transaction's write part, and
-- of the first part of a fast read, the items of its set no longer awaited.
use Rattle.std.proofs.Common.{◌∙◌, arith}
use Rattle.range.proofs.CapacityTests.{arrived-other, arrived-come, arrived-mixed}
use Rattle.range.proofs.capacity.arrived_at.Goals as goal

pub returns-in-5-clause-value : goal.returns-in-5-clause-value
returns-in-5-clause-value c =
    c.come.ensures.value
    ∙ arrived-mixed _ _ _ _ c.write_set.ensures c.write_awaited.ensures (omega arith)

pub returns-in-2-clause-value : goal.returns-in-2-clause-value
returns-in-2-clause-value c =
    c.come-in-2.ensures.value
    ∙ arrived-come _ _ _ _ c.set_of.ensures c.awaited.ensures (omega arith) (omega arith)

pub returns-in_default-clause-value : goal.returns-in_default-clause-value
returns-in_default-clause-value c =
    arrived-other c.args.b.now c.args.d (omega arith) (omega arith) (omega arith)

pub returns-in_default-2-clause-value : goal.returns-in_default-2-clause-value
returns-in_default-2-clause-value c =
    arrived-other c.args.b.now c.args.d (omega arith) (omega arith) (omega arith)
