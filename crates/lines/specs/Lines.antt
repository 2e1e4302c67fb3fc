-- What a line of the store's driver answers on a block, whatever the line and the words: the call
-- of its frame, 15 where it is malformed (document 01: store frames). A showing writes into as
-- many bytes as the longest log frame has.
use Rattle.std.specs.Prelude.{Option, Some, None, List, ℕ, replicate}
use Rattle.protocol.specs.declared.Answer.{Answer}
use Rattle.protocol.specs.declared.Answer.TheVariants.{Refused}
use Rattle.protocol.specs.LogFrame.{most_log_frame}
use Rattle.protocol.specs.Calls.{start_read, start_fast_read, start_write, start_mixed, deliver, show}
use Rattle.protocol.specs.Calls.{clear, hand_over, compare, check}
use Rattle.gather.specs.Sized.{sizes}
use Rattle.block_calls.specs.Calls.{fresh_answer_on, fresh_after, answer_on, output_on, block_after}
use Rattle.store_frames.specs.declared.StoreFrame.{StoreFrame}
use Rattle.store_frames.specs.declared.StoreFrame.TheVariants.{Fresh, Read, Write, Deliver, Show}
use Rattle.store_frames.specs.declared.StoreFrame.TheVariants.{FastRead, Mixed, Clear, HandOver}
use Rattle.store_frames.specs.declared.StoreFrame.TheVariants.{Compare, Check}
use Rattle.store_frames.specs.declared.Parsed.{Parsed}
use Rattle.store_frames.specs.Answers.{answer_line}
use Rattle.store_frames.specs.StoreFrames.{frame_bytes, store_frame_of, value_bytes, mixed_bytes}

-- ---- the call of a frame, whose bytes are f, with this output lent

abbrev pub call_answer : List ℕ → List ℕ → List ℕ → StoreFrame → Answer
call_answer b f output (Fresh clients partitions items) =
    fresh_answer_on b (sizes clients partitions items)
call_answer b f output (Read client s) = answer_on b (start_read client s)
call_answer b f output (Write client s) = answer_on b (start_write client s (value_bytes f))
call_answer b f output (Deliver place) = answer_on b (deliver place)
call_answer b f output (Show client) = answer_on b (show client output)
call_answer b f output (FastRead client s) = answer_on b (start_fast_read client s)
call_answer b f output (Mixed client r s) = answer_on b (start_mixed client r s (mixed_bytes f))
call_answer b f output Clear = answer_on b clear
call_answer b f output (HandOver giver receiver) = answer_on b (hand_over giver receiver)
call_answer b f output (Compare first second) = answer_on b (compare first second)
call_answer b f output Check = answer_on b check

abbrev pub call_block : List ℕ → List ℕ → List ℕ → StoreFrame → List ℕ
call_block b f output (Fresh clients partitions items) =
    fresh_after b (sizes clients partitions items)
call_block b f output (Read client s) = block_after b (start_read client s)
call_block b f output (Write client s) = block_after b (start_write client s (value_bytes f))
call_block b f output (Deliver place) = block_after b (deliver place)
call_block b f output (Show client) = block_after b (show client output)
call_block b f output (FastRead client s) = block_after b (start_fast_read client s)
call_block b f output (Mixed client r s) = block_after b (start_mixed client r s (mixed_bytes f))
call_block b f output Clear = block_after b clear
call_block b f output (HandOver giver receiver) = block_after b (hand_over giver receiver)
call_block b f output (Compare first second) = block_after b (compare first second)
call_block b f output Check = block_after b check

abbrev pub call_output : List ℕ → List ℕ → List ℕ → StoreFrame → List ℕ
call_output b f output (Fresh clients partitions items) = output
call_output b f output (Read client s) = output
call_output b f output (Write client s) = output
call_output b f output (Deliver place) = output
call_output b f output (Show client) = output_on b (show client output)
call_output b f output (FastRead client s) = output
call_output b f output (Mixed client r s) = output
call_output b f output Clear = output
call_output b f output (HandOver giver receiver) = output
call_output b f output (Compare first second) = output
call_output b f output Check = output

-- ---- the call of a line, 15 where it is malformed

abbrev pub parsed_answer : List ℕ → List ℕ → List ℕ → Option Parsed → Answer
parsed_answer b f output None = Refused 15
parsed_answer b f output (Some p) = call_answer b f output p.frame

abbrev pub parsed_block : List ℕ → List ℕ → List ℕ → Option Parsed → List ℕ
parsed_block b f output None = b
parsed_block b f output (Some p) = call_block b f output p.frame

abbrev pub parsed_output : List ℕ → List ℕ → List ℕ → Option Parsed → List ℕ
parsed_output b f output None = output
parsed_output b f output (Some p) = call_output b f output p.frame

-- ---- a line

-- what a showing is lent
unfoldable pub blank : List ℕ
blank = replicate most_log_frame 0

abbrev pub line_answer : List ℕ → List ℕ → Answer
line_answer b line = parsed_answer b (frame_bytes line) blank (store_frame_of line)

-- the block after it
abbrev pub line_block : List ℕ → List ℕ → List ℕ
line_block b line = parsed_block b (frame_bytes line) blank (store_frame_of line)

-- the line that answers it
abbrev pub line_reply : List ℕ → List ℕ → List ℕ
line_reply b line = answer_line (line_answer b line)
    (parsed_output b (frame_bytes line) blank (store_frame_of line))
