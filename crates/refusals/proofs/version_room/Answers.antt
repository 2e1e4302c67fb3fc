-- `version_room` meets its contract: the sum is small.
use Rattle.std.proofs.Common.{arith}
use Rattle.block_calls.proofs.Given.{occupied-few}
use Rattle.refusals.proofs.version_room.Goals as goal

pub overflow_add-occupied : goal.overflow_add-occupied
overflow_add-occupied c =
    omega (arith, occupied-few c.args.b.now c.requires.0 _ c.occupied.ensures)
