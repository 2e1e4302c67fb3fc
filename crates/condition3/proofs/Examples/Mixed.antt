-- The words of condition 3 for mixed transactions, computed: one that a got ends and one that a
-- prepared reply ends, with their requests, replies of either kind and showing; and a mixed
-- transaction's write as its client's own.
use mathlib.Core.Bool.{Bool, true, cond, not, ◌&&◌}
use mathlib.Core.List.{List, [], ◌∷◌, ◌++◌}
use mathlib.Core.Path.{◌≡◌, refl}
use Prim.Native.Nat.{ℕ, ◌+◌}
use lib.Count.{ones, ones_in}
use lib.Dec.{eqb}
use lib.ListN.{take, replicate}
use Rattle.basics.specs.Lists.{every, all, counted, without, dropped}
use Rattle.hexadecimal.specs.Number.{big_endian, number_at}
use Rattle.itemset.specs.Set.{has, upto, insert, remove, set_of}
use Rattle.protocol.specs.Tables.{is_kind, stamp_of}
use Rattle.protocol.specs.Range.{capacities, valid, in_range, stamp_in_range, sizes_in_range}
use Rattle.protocol.specs.Range.{entry_in_range, version_in_range, message_in_range, ended_in_range}
use Rattle.protocol.specs.Range.{client_in_range, has_first, read_part_in_range, write_part_in_range}
use Rattle.protocol.specs.Range.{arrived, total, load, occupied}
use Rattle.protocol.specs.Steps.{asks, next_stamp, greatest_in, choice, stored, found, delivered}
use Rattle.protocol.specs.Steps.{joined, touches}
use Rattle.protocol.specs.LogFrame.{listed, read_bytes, write_bytes, frame}
use Rattle.protocol.specs.Calls.{Call, start_read, start_write, start_mixed, deliver, first, refusal}
use Rattle.protocol.specs.Calls.{unexpected, missing, is_nothing, outcome_of, effect, reply, written}
use Rattle.protocol.specs.Calls.{lent, step}
use Rattle.condition3.specs.World.{World, begin, accepts, next, after, joining, leaving}
use Rattle.condition3.specs.World.{staying, begun, without_all, storing, joining_over}
use Rattle.condition3.specs.World.{leaving_over, is_request, is_reply, is_reply_for}
use Rattle.condition3.specs.World.{is_prepared_reply, is_prepared_reply_for, is_prepare_of}
use Rattle.condition3.specs.World.{is_prepare_for, is_commit_of, is_read_message, outcome_in}
use Rattle.condition3.specs.World.{delivers, ends_for, stays, starts_for, rests}
use Rattle.condition3.specs.Condition3.{by_view, Own, now, sent, came, later, output_of_read}
use Rattle.condition3.specs.Condition3.{length_of, length_with, head_with, shown_number}
use Rattle.condition3.specs.Condition3.{shown_writer, shown_value, shown_own_set, shown_own_number}
use Rattle.condition3.specs.Condition3.{shown_own_value}
use Rattle.condition3.specs.Condition3.Manner.{writing}
use Rattle.condition3.specs.Condition3.Company.{reading}
use Rattle.condition3.specs.Condition3.Own.{own}
use Rattle.protocol.proofs.Examples.Table.{same}

-- ---- Both items read, item 1 written

abbrev w : World
w = begin (record { clients = 2; partitions = 2; items = 2 })

abbrev room : List ℕ
room = replicate 44 0

-- client 1 writes both items, and client 2 reads them; nothing is in flight
abbrev before : List Call
before =
    start_write 1 3 (0 ∷ 0 ∷ 0 ∷ 7 ∷ 0 ∷ 0 ∷ 0 ∷ 8 ∷ []) ∷ deliver 0 ∷ deliver 0 ∷ deliver 0
    ∷ deliver 0 ∷ deliver 0 ∷ deliver 0
    ∷ start_read 2 3 ∷ deliver 0 ∷ deliver 0 ∷ deliver 0 ∷ deliver 0 ∷ []

abbrev bytes : List ℕ
bytes = 0 ∷ 0 ∷ 0 ∷ 9 ∷ []

abbrev start : Call
start = start_mixed 2 3 2 bytes

-- the prepare and its reply first, then the gets and gots, with a refused call among them
abbrev prepared_first : List Call
prepared_first = deliver 2 ∷ deliver 2 ∷ start_read 2 1 ∷ deliver 0 ∷ deliver 0 ∷ deliver 0 ∷ []

-- and the other way round
abbrev got_first : List Call
got_first = deliver 0 ∷ deliver 0 ∷ deliver 1 ∷ deliver 1 ∷ deliver 0 ∷ []

-- Accepted, under way, ended by the last reply of either kind alone, with outcome 02; two requests,
-- two gots, one of each item, and one prepared reply, of the item written. The first order refuses
-- an end with the last prepared reply, the second an end with the last got.
abbrev mixed : List Call → Bool
mixed during =
    let whole = during ++ deliver 0 ∷ [] in
    accepts capacities (after capacities w before) start
    && stays capacities (now capacities w start before []) 2 during
    && ends_for capacities (now capacities w start before during) 2 (deliver 0)
    && eqb (outcome_in (step capacities (now capacities w start before during).tables
    (deliver 0)).answer) 2
    && eqb (counted (is_request 2) (sent capacities w start before whole)) 2
    && eqb (counted (is_reply 2) (came capacities w start before during)
    + counted (is_prepared_reply 2) (came capacities w start before during)) 2
    && eqb (counted (is_reply 2) (came capacities w start before whole)) 2
    && eqb (counted (is_prepared_reply 2) (came capacities w start before whole)) 1
    && eqb (counted (is_prepared_reply 1) (came capacities w start before whole)) 0
    && every 2 (λ k. eqb (counted (is_reply_for 2 k) (came capacities w start before whole)) 1)
    && every 2 (λ k. eqb (counted (is_prepared_reply_for 2 k) (came capacities w start before whole))
    (cond (has 2 k) 1 0))

-- Its one prepare, of the item written, goes with its start, and its one commit with its end. The
-- first order refuses commits that go with the last prepared reply.
abbrev sends : List Call → Bool
sends during =
    let whole = during ++ deliver 0 ∷ [] in
    eqb (counted (is_prepare_of 2) (sent capacities w start before [])) 1
    && eqb (counted (is_prepare_of 2) (sent capacities w start before whole)) 1
    && every 2 (λ k. eqb (counted (is_prepare_for 2 k) (sent capacities w start before []))
    (cond (has 2 k) 1 0))
    && eqb (counted (is_commit_of 2) (sent capacities w start before during)) 0
    && eqb (counted (is_commit_of 2) (sent capacities w start before whole)) 1
    && eqb (counted (is_commit_of 1) (sent capacities w start before whole)) 0

-- One message of the read part for each item that it awaits, beside the write's: a prepare that
-- counts as a read's message is refused.
abbrev one_each : Bool
one_each =
    every 2 (λ k. eqb (counted (is_read_message 2 k)
    (now capacities w start before []).in_flight) 1)
    && every 2 (λ k. eqb (counted (is_read_message 2 k)
    (now capacities w start before (deliver 2 ∷ deliver 2 ∷ [])).in_flight) 1)
    && eqb (counted (is_read_message 2 0) (now capacities w start before prepared_first).in_flight) 0

-- It shows the entries of its start, with item 1 as it was before it, and its own number and value
-- behind them; the client's next write has a later number. A showing of its own write on item 1 is
-- refused.
abbrev shown : List Call → List ℕ
shown during = output_of_read capacities w (writing 2 bytes) 2 3 before during (deliver 0) [] room

abbrev showing : List Call → Bool
showing during =
    same (shown_number 3 (shown during) 0 ∷ shown_writer 3 (shown during) 0
    ∷ shown_value 3 (shown during) 0 ∷ []) (1 ∷ 1 ∷ 7 ∷ [])
    && same (shown_number 3 (shown during) 1 ∷ shown_writer 3 (shown during) 1
    ∷ shown_value 3 (shown during) 1 ∷ []) (1 ∷ 1 ∷ 8 ∷ [])
    && same (take 10 (shown during)) (0x24 ∷ 2 ∷ 0 ∷ 0 ∷ 0 ∷ 0 ∷ 0 ∷ 0 ∷ 0 ∷ 3 ∷ [])
    && same (head_with (reading 3) 2 2) (0x24 ∷ 2 ∷ 0 ∷ 0 ∷ 0 ∷ 0 ∷ 0 ∷ 0 ∷ 0 ∷ 3 ∷ [])
    && eqb (shown_own_set (reading 3) (shown during)) 2
    && eqb (shown_own_number (reading 3) (shown during)) 2
    && eqb (shown_own_value (reading 3) 2 (shown during) 1) 9
    && eqb (next_stamp (later capacities w 2 start before during (deliver 0) [] room []).tables 2)
    (stamp_of 3 2)

-- Item 1, which it writes, is shown with the stamp chosen at its start; at its end another would be
-- chosen. So a choice at the end is refused.
abbrev chosen : List Call → Bool
chosen during =
    eqb (asks (after capacities w before).tables 2 1) (stamp_of 1 1)
    && eqb (asks (now capacities w start before (during ++ deliver 0 ∷ [])).tables 2 1)
    (stamp_of 2 2)

abbrev rows : List Bool
rows =
    mixed prepared_first
    ∷ mixed got_first
    ∷ sends prepared_first
    ∷ sends got_first
    ∷ one_each
    ∷ showing prepared_first
    ∷ showing got_first
    ∷ chosen prepared_first
    ∷ chosen got_first
    -- its read part keeps an ordinary read's promises
    ∷ by_view (writing 2 bytes)
    ∷ eqb (length_of (writing 2 bytes) 3) 44
    ∷ eqb (length_with (reading 3) 2) 44
    ∷ not (ends_for capacities (now capacities w start before (deliver 2 ∷ [])) 2 (deliver 2))
    ∷ []

pub mixes : all (λ b. b) rows ≡ true
unfolding next after joining leaving staying begun without_all storing joining_over leaving_over
    outcome_in delivers stays starts_for rests step refusal first unexpected missing is_nothing effect
    reply written lent outcome_of valid in_range sizes_in_range stamp_in_range entry_in_range version_in_range
    message_in_range is_kind ended_in_range client_in_range has_first read_part_in_range write_part_in_range load
    arrived total occupied greatest_in choice stored found delivered joined touches listed read_bytes
    write_bytes frame every all counted without dropped has upto insert remove set_of ones ones_in
    big_endian number_at
mixes = refl

-- ---- Its write is its client's own once it has ended

abbrev ended : List Call
ended = before ++ start ∷ prepared_first ++ deliver 0 ∷ []

pub own_mixed : Own capacities w 2 2 bytes before 2 ended
unfolding next after joining leaving staying begun without_all storing outcome_in delivers stays step
    refusal first unexpected missing is_nothing effect reply written lent outcome_of valid in_range
    sizes_in_range stamp_in_range entry_in_range version_in_range message_in_range is_kind ended_in_range
    client_in_range has_first read_part_in_range write_part_in_range load arrived total occupied greatest_in
    choice stored found delivered joined touches listed read_bytes write_bytes frame every all counted
    without dropped has upto remove ones ones_in big_endian number_at
own_mixed =
    own (reading 3) ended prepared_first (deliver 0) [] refl
    (record { under_way = record { accepted = refl; unended = refl }; ended = refl })
