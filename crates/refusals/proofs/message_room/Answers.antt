-- `message_room` meets its contract: the sum is small.
use Rattle.std.proofs.Common.{arith}
use Rattle.block_calls.proofs.Given.{load-few}
use Rattle.refusals.proofs.message_room.Goals as goal

pub overflow_add-load : goal.overflow_add-load
overflow_add-load c = omega (arith, load-few c.args.b.now c.requires.0 _ c.load.ensures)
