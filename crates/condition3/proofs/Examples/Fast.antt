-- The words of condition 3 for fast reads, computed: one that fetches an item again, with its
-- requests, replies, end and rest, and an ordinary read after it; and one that falls against an
-- ordinary read.
use mathlib.Core.Bool.{Bool, true, not, ◌&&◌}
use mathlib.Core.List.{List, [], ◌∷◌, ◌++◌, map}
use mathlib.Core.Logic.{inl, inr, ⊎_elim}
use mathlib.Core.Path.{◌≡◌, refl}
use Prim.Native.Nat.{ℕ, suc, ◌+◌, ◌<◌}
use native.Mathlib.Omega.{arith}
use lib.Count.{ones, ones_in}
use lib.Dec.{eqb}
use lib.ListN.{replicate}
use Rattle.basics.specs.Lists.{every, all, counted, without, dropped}
use Rattle.hexadecimal.specs.Number.{big_endian, number_at}
use Rattle.itemset.specs.Set.{has, upto, insert, remove, set_of}
use Rattle.protocol.specs.Tables.{partition_of, is_kind}
use Rattle.protocol.specs.Message.{parts_of, kind_of, item_of}
use Rattle.protocol.specs.Range.{capacities, valid, in_range, stamp_in_range, sizes_in_range}
use Rattle.protocol.specs.Range.{entry_in_range, version_in_range, message_in_range, ended_in_range}
use Rattle.protocol.specs.Range.{client_in_range, has_first, read_part_in_range, write_part_in_range}
use Rattle.protocol.specs.Range.{arrived, total, load, occupied}
use Rattle.protocol.specs.Steps.{greatest_in, choice, stored, found, delivered, joined, touches}
use Rattle.protocol.specs.LogFrame.{listed, read_bytes, write_bytes, frame}
use Rattle.protocol.specs.Calls.{Call, start_read, start_fast_read, start_write, deliver, show, first}
use Rattle.protocol.specs.Calls.{refusal, unexpected, missing, is_nothing, outcome_of, effect, reply}
use Rattle.protocol.specs.Calls.{written, lent, step}
use Rattle.condition3.specs.World.{World, begin, placed, accepts, next, after, joining}
use Rattle.condition3.specs.World.{leaving, staying, begun, without_all, storing}
use Rattle.condition3.specs.World.{joining_over, leaving_over, is_request, is_reply, is_request_for}
use Rattle.condition3.specs.World.{is_reply_for, is_first_reply_for, is_got_for, is_read_message}
use Rattle.condition3.specs.World.{outcome_in, delivers, ends_for, stays, starts_for, rests}
use Rattle.condition3.specs.Condition3.{now, sent, came, Awaited, shown_at, output_of_read}
use Rattle.condition3.specs.Condition3.{Falls, answered_at}
use Rattle.condition3.specs.Condition3.{shown_number, shown_writer, shown_value}
use Rattle.condition3.specs.Condition3.Manner.{ordinary, fast}
use Rattle.protocol.proofs.Examples.Table.{same}

-- ---- An item fetched again

abbrev w : World
w = begin (record { clients = 2; partitions = 2; items = 2 })

abbrev room : List ℕ
room = replicate 28 0

-- client 1 writes both items; the commit at item 1's partition stays in flight, at place 0
abbrev before : List Call
before =
    start_write 1 3 (0 ∷ 0 ∷ 0 ∷ 7 ∷ 0 ∷ 0 ∷ 0 ∷ 8 ∷ []) ∷ deliver 0 ∷ deliver 0 ∷ deliver 0
    ∷ deliver 0 ∷ deliver 0 ∷ []

-- both first gets and both first replies; then the get of item 1, with a refused call before it
abbrev first_part : List Call
first_part = deliver 1 ∷ deliver 1 ∷ deliver 1 ∷ deliver 1 ∷ []

abbrev during : List Call
during = first_part ++ start_read 2 1 ∷ deliver 1 ∷ []

abbrev start : Call
start = start_fast_read 2 3

-- Accepted, under way, ended by the last delivery alone; three requests and three replies, two of
-- each for item 1, each item with one message while it is awaited.
abbrev fetched : Bool
fetched =
    accepts capacities (after capacities w before) start
    && stays capacities (now capacities w start before []) 2 during
    && ends_for capacities (now capacities w start before during) 2 (deliver 1)
    && not (ends_for capacities (now capacities w start before during) 2 (deliver 0))
    && eqb (counted (is_request 2) (sent capacities w start before [])) 2
    && eqb (counted (is_request 2) (sent capacities w start before first_part)) 3
    && eqb (counted (is_reply 2) (came capacities w start before first_part)) 2
    && eqb (counted (is_reply 2) (came capacities w start before (during ++ deliver 1 ∷ []))) 3
    && eqb (counted (is_request_for 2 0) (sent capacities w start before first_part)) 1
    && eqb (counted (is_request_for 2 1) (sent capacities w start before first_part)) 2
    && eqb (counted (is_reply_for 2 1) (came capacities w start before first_part)) 1
    && same (map (λ k. counted (is_first_reply_for 2 k)
    (came capacities w start before (during ++ deliver 1 ∷ []))) (0 ∷ 1 ∷ [])) (1 ∷ 1 ∷ [])
    && same (map (λ k. counted (is_got_for 2 k)
    (came capacities w start before (during ++ deliver 1 ∷ []))) (0 ∷ 1 ∷ [])) (0 ∷ 1 ∷ [])
    && every 2 (λ k. eqb (counted (is_read_message 2 k)
    (now capacities w start before (deliver 1 ∷ [])).in_flight) 1)
    && eqb (counted (is_read_message 2 0) (now capacities w start before first_part).in_flight) 0
    && eqb (counted (is_read_message 2 1) (now capacities w start before first_part).in_flight) 1

-- Item 0's partition has got the write's commit before the read starts, so that `committed` is of
-- the write there; item 1's hasn't. The first get of item 1 is delivered after one call of the
-- read, and what is latest there is initial: `freshest` asks no more of it.
abbrev uncommitted : List Call
uncommitted =
    start_write 1 3 (0 ∷ 0 ∷ 0 ∷ 7 ∷ 0 ∷ 0 ∷ 0 ∷ 8 ∷ []) ∷ deliver 0 ∷ deliver 0 ∷ deliver 0
    ∷ deliver 0 ∷ []

abbrev answered : Bool
answered =
    let v = after capacities w uncommitted in
    let u = now capacities w start before (deliver 1 ∷ []) in
    accepts capacities v (deliver 0)
    && same (kind_of (placed v 0).message ∷ (parts_of (placed v 0).message).place
    ∷ (parts_of (placed v 0).message).stamp ∷ []) (3 ∷ partition_of v.tables 0 ∷ 17 ∷ [])
    && same (kind_of (placed u 1).message ∷ item_of (placed u 1).message ∷ []) (6 ∷ 1 ∷ [])
    && same ((u.tables.latest 0).stamp ∷ (u.tables.latest 1).stamp ∷ []) (17 ∷ 0 ∷ [])
    && every 2 (λ k. eqb (counted (λ l. is_first_reply_for 2 k l && eqb (answered_at l) (7 + k))
    (came capacities w start before (during ++ deliver 1 ∷ []))) 1)

abbrev shown : List ℕ
shown = output_of_read capacities w fast 2 3 before during (deliver 1) (start_read 1 1 ∷ []) room

-- It rests while another client starts, up to its own next start, of either manner.
abbrev showing : Bool
showing =
    let ended = shown_at capacities w start before during (deliver 1) [] in
    accepts capacities ended (start_read 1 1) && rests capacities ended 2 (start_read 1 1 ∷ [])
    && not (rests capacities ended 2 (start_fast_read 2 1 ∷ []))
    && not (rests capacities ended 2 (start_read 2 1 ∷ []))
    && same (shown_number 3 shown 0 ∷ shown_writer 3 shown 0 ∷ shown_value 3 shown 0 ∷ [])
    (1 ∷ 1 ∷ 7 ∷ [])
    && same (shown_number 3 shown 1 ∷ shown_writer 3 shown 1 ∷ shown_value 3 shown 1 ∷ [])
    (1 ∷ 1 ∷ 8 ∷ [])

-- ---- An ordinary read after it, of item 1, whose commit is still in flight

abbrev after_fast : List Call
after_fast = before ++ start ∷ during ++ deliver 1 ∷ show 2 room ∷ start_read 1 1 ∷ []

-- Both have ended and rest, and what the first showed of item 1 the second shows too.
abbrev not_fallen : Bool
not_fallen =
    let shown_after = output_of_read capacities w ordinary 2 2 after_fast (deliver 2 ∷ []) (deliver 2)
    (deliver 1 ∷ []) room in
    accepts capacities (after capacities w after_fast) (start_read 2 2)
    && stays capacities (now capacities w (start_read 2 2) after_fast []) 2 (deliver 2 ∷ [])
    && ends_for capacities (now capacities w (start_read 2 2) after_fast (deliver 2 ∷ [])) 2
    (deliver 2)
    && rests capacities (shown_at capacities w (start_read 2 2) after_fast (deliver 2 ∷ []) (deliver 2)
    []) 2 (deliver 1 ∷ [])
    && same (shown_number 2 shown_after 1 ∷ shown_writer 2 shown_after 1 ∷ shown_value 2 shown_after 1
    ∷ []) (1 ∷ 1 ∷ 8 ∷ [])

abbrev rows : List Bool
rows = fetched ∷ answered ∷ showing ∷ not_fallen ∷ []

one_more : 1 < 2
one_more = omega arith

never : (n : ℕ) → n < n → ⊥
never n h = omega arith

nonzero : (n : ℕ) → suc n ≡ 0 → ⊥
nonzero n e = omega arith

pub fasts : all (λ b. b) rows ≡ true
unfolding next after joining leaving staying begun without_all storing joining_over leaving_over
    outcome_in delivers stays starts_for rests step refusal first unexpected missing is_nothing effect
    reply written lent outcome_of valid in_range sizes_in_range stamp_in_range entry_in_range version_in_range
    message_in_range is_kind ended_in_range client_in_range has_first read_part_in_range write_part_in_range load
    arrived total occupied greatest_in choice stored found delivered joined touches listed read_bytes
    write_bytes frame every all counted without dropped has upto insert remove set_of ones ones_in
    big_endian number_at
fasts = refl

-- Item 0 is awaited from the start on, and no longer once its reply has come; item 1 again once it
-- is fetched again.
pub awaits : Awaited capacities w 2 0 start before []
    × (Awaited capacities w 2 0 start before first_part → ⊥)
    × Awaited capacities w 2 1 start before first_part
unfolding next after joining leaving staying begun without_all storing joining_over leaving_over
    outcome_in delivers stays starts_for rests step refusal first unexpected missing is_nothing effect
    reply written lent outcome_of valid in_range sizes_in_range stamp_in_range entry_in_range version_in_range
    message_in_range is_kind ended_in_range client_in_range has_first read_part_in_range write_part_in_range load
    arrived total occupied greatest_in choice stored found delivered joined touches listed read_bytes
    write_bytes frame every all counted without dropped has upto insert remove set_of ones ones_in
    big_endian number_at
awaits = (inl refl, ⊎_elim (nonzero 0) (never 1), inr one_more)

-- ---- A fast read falls against an ordinary one

abbrev u : World
u = begin (record { clients = 1; partitions = 1; items = 1 })

-- client 1 writes, and reads its write while the commit is in flight
abbrev wrote : List Call
wrote = start_write 1 1 (0 ∷ 0 ∷ 0 ∷ 7 ∷ []) ∷ deliver 0 ∷ deliver 0 ∷ []

abbrev ordinarily : List ℕ
ordinarily = output_of_read capacities u ordinary 1 1 wrote (deliver 1 ∷ []) (deliver 1) [] room

abbrev fast_after : List ℕ
fast_after = output_of_read capacities u fast 1 1 (wrote ++ start_read 1 1 ∷ deliver 1 ∷ deliver 1
    ∷ show 1 room ∷ []) (deliver 1 ∷ []) (deliver 1) [] room

none_below : 0 < 1
none_below = omega arith

pub falls : Falls 1 ordinarily 1 fast_after 0
unfolding next after joining leaving staying begun without_all storing joining_over leaving_over
    outcome_in delivers stays starts_for rests step refusal first unexpected missing is_nothing effect
    reply written lent outcome_of valid in_range sizes_in_range stamp_in_range entry_in_range version_in_range
    message_in_range is_kind ended_in_range client_in_range has_first read_part_in_range write_part_in_range load
    arrived total occupied greatest_in choice stored found delivered joined touches listed read_bytes
    write_bytes frame every all counted without dropped has upto insert remove set_of ones ones_in
    big_endian number_at
falls = inl none_below
