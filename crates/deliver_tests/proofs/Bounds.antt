-- A message in range has a client and an item that have words in a block.
use Prim.Native.Nat.{◌≤◌}
use native.Mathlib.Omega.{arith}
use Rattle.protocol.specs.declared.Message.{Message}
use Rattle.protocol.specs.Tables.{Sizes}
use Rattle.protocol.proofs.Ranges.Values.{MessageInRange, owner-in-range}
use Rattle.deliver_tests.specs.Tests.{Bounded}

pub bounded : (z : Sizes) (m : Message) → z.clients ≤ 8 → z.items ≤ 64 → MessageInRange z m
    → Bounded m
bounded z m clients items r = omega (arith, owner-in-range z m r, r.item)
