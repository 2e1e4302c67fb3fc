-- What a call gives on a block, whatever its words: the answer, the output, and every word after
-- it; and which tables it then holds. The protocol's definitions give them on the tables that the
-- block holds; a block that holds none is refused by 1.
use Rattle.std.specs.Prelude.{Bool, cond, not, List, [], ◌∷◌, ℕ, ◌^◌, ◌<◌, ltb, length}
use Rattle.protocol.specs.declared.Answer.{Answer}
use Rattle.protocol.specs.declared.Answer.TheVariants.{Refused, Made, Started, Delivered, Shown}
use Rattle.protocol.specs.declared.Answer.TheVariants.{Cleared, HandedOver, Compared, Checked}
use Rattle.protocol.specs.Tables.{Sizes, Tables, fresh}
use Rattle.protocol.specs.Range.{capacities, sizes_in_range}
use Rattle.protocol.specs.Calls.{Call, start_read, start_fast_read, start_write, start_mixed, deliver}
use Rattle.protocol.specs.Calls.{show, clear, hand_over, compare, check, test, first, pick, refusal}
use Rattle.protocol.specs.Calls.{step, lent}
use Rattle.layout.specs.Layout.{needed, header, at, items_at}
use Rattle.layout.specs.Decode.{tables_of, valid_block}
use Rattle.layout.specs.Store.{fresh_block}
use Rattle.start.specs.Start.{read_started, fast_read_started, write_started, mixed_started}
use Rattle.deliver.specs.Deliver.{delivered_block}
use Rattle.clear.specs.Clear.{cleared_block}
use Rattle.hand_over.specs.HandOver.{handed_over_block}

-- ---- fresh: 2 for sizes out of range, whatever the block's length; else 1 for one too short

unfoldable pub fresh_refusal_on : List ℕ → Sizes → ℕ
fresh_refusal_on b z = first (test 2 (not (sizes_in_range z)) ∷ test 1 (ltb (length b) needed) ∷ [])

unfoldable pub fresh_answer_on : List ℕ → Sizes → Answer
fresh_answer_on b z = pick (fresh_refusal_on b z) Made (Refused (fresh_refusal_on b z))

unfoldable pub fresh_after : List ℕ → Sizes → List ℕ
fresh_after b z = pick (fresh_refusal_on b z) (fresh_block b z.clients z.partitions z.items) b

unfoldable pub fresh_tables : List ℕ → Sizes → Tables
fresh_tables b z = pick (fresh_refusal_on b z) (fresh z) (tables_of b)

-- ---- the other calls

-- the refusal, 1 for a block that isn't valid; 0 where the call is accepted
unfoldable pub refusal_on : List ℕ → Call → ℕ
refusal_on b c = cond (valid_block b) (refusal capacities (tables_of b) c) 1

unfoldable pub answer_on : List ℕ → Call → Answer
answer_on b c = cond (valid_block b) (step capacities (tables_of b) c).answer (Refused 1)

unfoldable pub output_on : List ℕ → Call → List ℕ
output_on b c = cond (valid_block b) (step capacities (tables_of b) c).output (lent c)

-- the tables that the block holds after the call
unfoldable pub tables_after : List ℕ → Call → Tables
tables_after b c = cond (valid_block b) (step capacities (tables_of b) c).tables (tables_of b)

-- every word after an accepted call, and after any call
unfoldable pub changed : List ℕ → Call → List ℕ
changed b (start_read d s) = read_started b d s
changed b (start_fast_read d s) = fast_read_started b d s
changed b (start_write d s bytes) = write_started b d s bytes
changed b (start_mixed d r s bytes) = mixed_started b d r s bytes
changed b (deliver i) = delivered_block b i
changed b (show d output) = b
changed b clear = cleared_block b
changed b (hand_over giver receiver) = handed_over_block b giver receiver (at b header items_at)
changed b (compare d e) = b
changed b check = b

unfoldable pub block_after : List ℕ → Call → List ℕ
block_after b c = pick (refusal_on b c) (changed b c) b

-- ---- a read, ordinary or fast

abbrev pub read_call : Bool → ℕ → ℕ → Call
read_call fast d s = cond fast (start_fast_read d s) (start_read d s)

abbrev pub read_changed : Bool → List ℕ → ℕ → ℕ → List ℕ
read_changed fast b d s = cond fast (fast_read_started b d s) (read_started b d s)

-- ---- the parts of an answer fit the bits that tell them

abbrev pub Fits : Answer → Type 0
Fits (Refused n) = n < 2 ^ 8
Fits Made = Unit
Fits (Started n) = n < 2 ^ 16
Fits (Delivered kind n outcome) = (kind < 2 ^ 8) × (n < 2 ^ 16) × (outcome < 2 ^ 8)
Fits (Shown n) = n < 2 ^ 16
Fits (Cleared n) = n < 2 ^ 16
Fits (HandedOver giver receiver) = (giver < 2 ^ 8) × (receiver < 2 ^ 8)
Fits (Compared n) = n < 2 ^ 8
Fits Checked = Unit
