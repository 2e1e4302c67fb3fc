-- An accepted call's changes of the block are the protocol's changes of the tables that it holds.
use mathlib.Core.List.{List}
use mathlib.Core.Path.{◌≡◌}
use Prim.Native.Nat.{ℕ}
use Rattle.protocol.specs.Tables.{Tables}
use Rattle.protocol.specs.Range.{capacities}
use Rattle.protocol.specs.Calls.{Call, start_read, start_fast_read, start_write, start_mixed, deliver}
use Rattle.protocol.specs.Calls.{show, clear, hand_over, compare, check, refusal, effect}
use Rattle.protocol.proofs.Refusals.{accepted-read, accepted-fast-read, accepted-write}
use Rattle.protocol.proofs.Refusals.{accepted-mixed}
use Rattle.protocol.proofs.Refusals.{accepted-deliver, accepted-clear, accepted-hand-over}
use Rattle.layout.specs.Decode.{tables_of}
use Rattle.layout.specs.Encodes.{Encodes}
use Rattle.layout.proofs.Room.{room-valid}
use Rattle.start.proofs.EncodesRead.{encodes-read, encodes-fast-read}
use Rattle.start.proofs.EncodesWrite.{encodes-write}
use Rattle.start.proofs.EncodesMixed.{encodes-mixed}
use Rattle.deliver.proofs.Delivered.{encodes-deliver}
use Rattle.clear.proofs.Cleared.{encodes-clear}
use Rattle.hand_over.proofs.HandedOver.{encodes-handed-over}
use Rattle.block_calls.specs.Calls.{changed}

-- a clearing is defined by the tables that are read, so these must be the ones held
pub encodes-changed : (b : List ℕ) (t : Tables) (c : Call) → tables_of b ≡ t → Encodes b t
    → refusal capacities t c ≡ 0 → Encodes (changed b c) (effect t c)
unfolding changed effect
encodes-changed b t (start_read d s) same h e =
    encodes-read b t d s h ((accepted-read capacities t d s).0 e)
encodes-changed b t (start_fast_read d s) same h e =
    encodes-fast-read b t d s h ((accepted-fast-read capacities t d s).0 e)
encodes-changed b t (start_write d s bytes) same h e =
    encodes-write b t d s bytes h ((accepted-write capacities t d s bytes).0 e)
encodes-changed b t (start_mixed d r s bytes) same h e =
    encodes-mixed b t d r s bytes h ((accepted-mixed capacities t d r s bytes).0 e)
encodes-changed b t (deliver i) same h e =
    encodes-deliver i h ((accepted-deliver capacities t i).0 e)
encodes-changed b t (show d output) same h e = h
encodes-changed b t clear same h e = encodes-clear b t same h ((accepted-clear capacities t).0 e)
encodes-changed b t (hand_over giver receiver) same h e =
    let a = (accepted-hand-over capacities t giver receiver).0 e in
    rw h.items
    (encodes-handed-over giver receiver h (room-valid t a.valid) a.giver.0 a.giver.1
    a.receiver.0 a.receiver.1 a.other)
encodes-changed b t (compare first second) same h e = h
encodes-changed b t check same h e = h
