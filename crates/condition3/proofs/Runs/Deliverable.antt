-- A delivery at any place within the messages in flight is accepted: what fits its client's
-- transaction is expected.
use mathlib.Core.Path.{◌≡◌}
use Prim.Native.Nat.{ℕ, ◌<◌}
use lib.ListN.{length}
use Rattle.protocol.specs.Range.{Capacities}
use Rattle.protocol.specs.Calls.{deliver, refusal}
use Rattle.condition3.specs.World.{World}
use Rattle.condition3.proofs.Sound.Step.{deliverable as sound-deliverable}
use Rattle.condition3.proofs.Link.{Inv}

pub deliverable : (caps : Capacities) (w : World) → Inv caps w → (i : ℕ)
    → i < length w.tables.messages → refusal caps w.tables (deliver i) ≡ 0
deliverable caps w inv = sound-deliverable caps inv.ledger w.tables inv.sound
