-- No call changes the block's length, or a word past the length that a block needs.
use mathlib.Core.List.{List}
use mathlib.Core.Path.{◌≡◌, refl}
use Prim.Native.Nat.{ℕ, zero, suc}
use Rattle.protocol.specs.Range.{capacities}
use Rattle.protocol.specs.Calls.{Call, start_read, start_fast_read, start_write, start_mixed, deliver}
use Rattle.protocol.specs.Calls.{show, clear, hand_over, compare, check, pick}
use Rattle.protocol.proofs.Refusals.{accepted-read, accepted-fast-read, accepted-write}
use Rattle.protocol.proofs.Refusals.{accepted-mixed, accepted-clear}
use Rattle.layout.specs.Layout.{header, at, partitions_at, items_at, versions_at, messages_at}
use Rattle.layout.specs.Decode.{message_in, tables_of}
use Rattle.layout.proofs.Past.{SamePast, past-none}
use Rattle.start.proofs.Beyond.{beyond-read, beyond-fast-read, beyond-write, beyond-mixed}
use Rattle.deliver_tests.specs.Tests.{unstored, answer_in, tested_in}
use Rattle.deliver.specs.Deliver.{counts_in, delivered_block}
use Rattle.deliver.proofs.Past.{past-deliver}
use Rattle.clear.proofs.Cleared.{past-clear}
use Rattle.hand_over.proofs.HandedOver.{past-hand-over}
use Rattle.block_calls.specs.Calls.{refusal_on, changed, block_after}
use Rattle.block_calls.proofs.Accepted.{accepted-holds, accepted-tables}
use Rattle.block_calls.proofs.Given.{hand-over-ready}
use Rattle.block_calls.proofs.Places.{deliver-ready}

past-changed : (b : List ℕ) (c : Call) → refusal_on b c ≡ 0 → SamePast b (changed b c)
unfolding changed delivered_block
past-changed b (start_read d s) e =
    beyond-read b (tables_of b) d s (accepted-holds b (start_read d s) e).encodes
    ((accepted-read capacities (tables_of b) d s).0 (accepted-tables b (start_read d s) e))
past-changed b (start_fast_read d s) e =
    beyond-fast-read b (tables_of b) d s (accepted-holds b (start_fast_read d s) e).encodes
    ((accepted-fast-read capacities (tables_of b) d s).0 (accepted-tables b (start_fast_read d s) e))
past-changed b (start_write d s bytes) e =
    beyond-write b (tables_of b) d s bytes (accepted-holds b (start_write d s bytes) e).encodes
    ((accepted-write capacities (tables_of b) d s bytes).0
    (accepted-tables b (start_write d s bytes) e))
past-changed b (start_mixed d r s bytes) e =
    beyond-mixed b (tables_of b) d r s bytes (accepted-holds b (start_mixed d r s bytes) e).encodes
    ((accepted-mixed capacities (tables_of b) d r s bytes).0
    (accepted-tables b (start_mixed d r s bytes) e))
past-changed b (deliver i) e =
    let n = at b header messages_at in
    let m = message_in b i in
    let r = deliver-ready b i e n (at b header partitions_at) (at b header items_at)
    (at b header versions_at) m refl refl refl refl refl in
    past-deliver b n i (counts_in b)
    (answer_in (unstored b m) (tested_in b (at b header versions_at) m)) m r.0.0
    r.0.1 r.1.2 r.1.4
past-changed b (show d output) e = past-none b
past-changed b clear e =
    past-clear b (tables_of b) refl (accepted-holds b clear e).encodes
    ((accepted-clear capacities (tables_of b)).0 (accepted-tables b clear e))
past-changed b (hand_over d r) e =
    let ready = hand-over-ready b d r e (at b header items_at) refl in
    past-hand-over b d r (at b header items_at) ready.2 ready.3 ready.4
past-changed b (compare d r) e = past-none b
past-changed b check e = past-none b

pub past_after : (b : List ℕ) (c : Call) → SamePast b (block_after b c)
unfolding block_after
past_after b c = by-refusal (refusal_on b c) refl
  where
    by-refusal : (r : ℕ) → refusal_on b c ≡ r → SamePast b (pick r (changed b c) b)
    by-refusal zero e = past-changed b c e
    by-refusal (suc r) e = past-none b
