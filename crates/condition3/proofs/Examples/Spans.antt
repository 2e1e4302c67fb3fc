-- The words of condition 3, computed: both reads of document 01's whole session, each with its
-- requests, replies, times and end, refused calls and other clients' calls among them; a client
-- that reads while its own write's commits are in flight; a tie of numbers that the client decides.
-- So the premises of the condition are met.
use mathlib.Core.Bool.{Bool, true, not, ◌&&◌}
use mathlib.Core.List.{List, [], ◌∷◌, ◌++◌, map}
use mathlib.Core.Logic.{inr, ⊎_elim}
use mathlib.Core.Path.{◌≡◌, refl}
use Prim.Native.Nat.{ℕ, ◌<◌}
use native.Mathlib.Omega.{arith}
use lib.Count.{ones, ones_in}
use lib.Dec.{eqb}
use lib.ListN.{replicate}
use Rattle.basics.specs.Lists.{every, all, counted, without, dropped}
use Rattle.hexadecimal.specs.Number.{big_endian, number_at}
use Rattle.itemset.specs.Set.{has, upto, remove}
use Rattle.protocol.specs.Tables.{is_kind, stamp_of}
use Rattle.protocol.specs.Message.{is_prepare}
use Rattle.protocol.specs.Range.{Capacities, capacities, valid, in_range, stamp_in_range, sizes_in_range}
use Rattle.protocol.specs.Range.{entry_in_range, version_in_range, message_in_range, ended_in_range}
use Rattle.protocol.specs.Range.{client_in_range, has_first, read_part_in_range, write_part_in_range}
use Rattle.protocol.specs.Range.{arrived, total, load, occupied}
use Rattle.protocol.specs.Steps.{next_stamp, greatest_in, choice, stored, found, delivered}
use Rattle.protocol.specs.Steps.{joined, touches}
use Rattle.protocol.specs.Clear.{mentions, unused}
use Rattle.protocol.specs.HandOver.{standing}
use Rattle.protocol.specs.LogFrame.{listed, read_bytes, write_bytes, frame}
use Rattle.protocol.specs.Calls.{Call, start_read, start_write, deliver, show, clear, hand_over}
use Rattle.protocol.specs.Calls.{compare, first, refusal, unexpected, missing, is_nothing, outcome_of}
use Rattle.protocol.specs.Calls.{effect, reply, written, lent, step, number_of_answer}
use Rattle.condition3.specs.World.{World, Labelled, begin, accepts, next, after, joining}
use Rattle.condition3.specs.World.{leaving, staying, begun, without_all, storing, joining_over}
use Rattle.condition3.specs.World.{leaving_over, is_request, is_reply, is_reply_for, is_read_message}
use Rattle.condition3.specs.World.{outcome_in, delivers, ends_for, stays, starts_for, rests}
use Rattle.protocol.proofs.Examples.Table.{same}
use Rattle.condition3.specs.Condition3.{now, sent, came, shown_at, output, later, output_of_read}
use Rattle.condition3.specs.Condition3.{answered_at, shown_number, shown_writer, shown_value}
use Rattle.condition3.specs.Condition3.{shown_own_set, shown_own_number, shown_own_value}
use Rattle.condition3.specs.Condition3.{ShownOlder, Falls}
use Rattle.condition3.specs.Condition3.Company.{alone}
use Rattle.condition3.specs.Condition3.Manner.{ordinary}

abbrev w : World
w = begin (record { clients = 2; partitions = 2; items = 2 })

abbrev room : List ℕ
room = replicate 28 0

-- ---- The whole session

-- up to its first read, from there to its second, and what each read is under way for
abbrev written-first : List Call
written-first =
    start_write 1 3 (0 ∷ 0 ∷ 0 ∷ 7 ∷ 0 ∷ 0 ∷ 0 ∷ 8 ∷ []) ∷ deliver 0 ∷ deliver 0 ∷ deliver 0
    ∷ deliver 0 ∷ deliver 0 ∷ []

abbrev during : List Call
during = deliver 1 ∷ deliver 1 ∷ deliver 1 ∷ []

abbrev between : List Call
between = written-first ++ start_read 2 3 ∷ during ++ deliver 1 ∷ show 2 room ∷ []

-- the same with two refused calls
abbrev refused_among : List Call
refused_among = deliver 1 ∷ start_read 2 1 ∷ deliver 9 ∷ deliver 1 ∷ deliver 1 ∷ []

-- and with two clearings
abbrev cleared_among : List Call
cleared_among = deliver 1 ∷ clear ∷ deliver 1 ∷ clear ∷ deliver 1 ∷ []

-- with a comparison, and a hand-over to the reader, which is refused
abbrev compared_among : List Call
compared_among = deliver 1 ∷ compare 2 1 ∷ deliver 1 ∷ hand_over 1 2 ∷ deliver 1 ∷ []

module _ (before meanwhile : List Call) where
  -- what joins, what is delivered, and the world after the read's end
  abbrev joins : List Labelled
  joins = sent capacities w (start_read 2 3) before (meanwhile ++ deliver 1 ∷ [])

  abbrev leaves : List Labelled
  leaves = came capacities w (start_read 2 3) before (meanwhile ++ deliver 1 ∷ [])

  abbrev ended : World
  ended = shown_at capacities w (start_read 2 3) before meanwhile (deliver 1) []

  -- A read of both items by client 2 after these calls: accepted, under way, ended by the fourth
  -- delivery alone; two requests, two replies, one to an item.
  abbrev whole : Bool
  whole =
      accepts capacities (after capacities w before) (start_read 2 3)
      && stays capacities (now capacities w (start_read 2 3) before []) 2 meanwhile
      && ends_for capacities (now capacities w (start_read 2 3) before meanwhile) 2 (deliver 1)
      && not (ends_for capacities (now capacities w (start_read 2 3) before meanwhile) 2 (deliver 0))
      && eqb (counted (is_request 2) joins) 2
      && eqb (counted (is_reply 2) (came capacities w (start_read 2 3) before meanwhile)) 1
      && eqb (counted (is_reply 2) leaves) 2
      && every 2 (λ k. eqb (counted (is_reply_for 2 k) leaves) 1)

  -- It rests while another client starts and a start of its own is refused, and no longer.
  abbrev resting : Bool
  resting =
      accepts capacities ended (start_read 1 1)
      && rests capacities ended 2 (start_read 1 1 ∷ deliver 0 ∷ start_read 2 0 ∷ [])
      && accepts capacities ended (start_write 1 1 (0 ∷ 0 ∷ 0 ∷ 7 ∷ []))
      && rests capacities ended 2 (start_write 1 1 (0 ∷ 0 ∷ 0 ∷ 7 ∷ []) ∷ [])
      && not (rests capacities ended 2 (start_read 2 1 ∷ []))
      && not (rests capacities ended 2 (start_read 1 1 ∷ start_write 2 1 (0 ∷ 0 ∷ 0 ∷ 7 ∷ []) ∷ []))

-- After its first two deliveries each item has one message.
abbrev one_each : Bool
one_each = every 2 (λ k. eqb (counted (is_read_message 2 k)
    (now capacities w (start_read 2 3) between (deliver 1 ∷ deliver 1 ∷ [])).in_flight) 1)

-- The second read's showing, after another client's start: item 0 and item 1 as they were written.
abbrev shown : List ℕ
shown = output_of_read capacities w ordinary 2 3 between during (deliver 1) (start_read 1 1 ∷ []) room

abbrev showing : Bool
showing =
    same (shown_number 3 shown 0 ∷ shown_writer 3 shown 0 ∷ shown_value 3 shown 0 ∷ [])
    (1 ∷ 1 ∷ 7 ∷ [])
    && same (shown_number 3 shown 1 ∷ shown_writer 3 shown 1 ∷ shown_value 3 shown 1 ∷ [])
    (1 ∷ 1 ∷ 8 ∷ [])

-- Calls count from 0. The write starts with call 0, and its prepares are delivered by 1 and 2. The
-- second read starts with call 12; its gets are delivered by 13 and 14, which are the times of the
-- answers. A refused call takes its time, and so does any other.
abbrev times : Bool
times =
    let v = after capacities w between in
    same (map (λ a. a.start) v.writes) (0 ∷ [])
    && same (map (λ a. a.stamp) v.writes) (17 ∷ [])
    && same (map (λ a. a.set) v.writes) (3 ∷ [])
    && same (map (λ a. a.values 1) v.writes) (8 ∷ [])
    && same (map (λ σ. σ.start) v.stores) (0 ∷ 0 ∷ [])
    && same (map (λ σ. σ.item) v.stores) (0 ∷ 1 ∷ [])
    && same (map (λ σ. σ.time) v.stores) (1 ∷ 2 ∷ [])
    && same (map (λ l. l.label.client) (leaves between during)) (2 ∷ 2 ∷ 2 ∷ 2 ∷ [])
    && same (map (λ l. l.label.start) (leaves between during)) (12 ∷ 12 ∷ 12 ∷ 12 ∷ [])
    && same (map answered_at (leaves between during)) (12 ∷ 12 ∷ 13 ∷ 14 ∷ [])
    && same (map answered_at (leaves between refused_among)) (12 ∷ 12 ∷ 13 ∷ 16 ∷ [])
    && same (map answered_at (leaves between cleared_among)) (12 ∷ 12 ∷ 13 ∷ 15 ∷ [])
    && same (map answered_at (leaves between compared_among)) (12 ∷ 12 ∷ 13 ∷ 15 ∷ [])

-- The session's write shows both its values, each at its item's place.
abbrev own_values : Bool
own_values =
    let shown_own =
    output capacities w 1 (start_write 1 3 (0 ∷ 0 ∷ 0 ∷ 7 ∷ 0 ∷ 0 ∷ 0 ∷ 8 ∷ [])) []
    (deliver 0 ∷ deliver 0 ∷ deliver 0 ∷ []) (deliver 0) (deliver 0 ∷ []) room in
    same (shown_own_value alone 3 shown_own 0 ∷ shown_own_value alone 3 shown_own 1 ∷ []) (7 ∷ 8 ∷ [])

-- After its showing client 2, which has written nothing, starts a write of item 0: since it was
-- shown number 1, its number is 2, and so its own showing says; a third write's is 3.
abbrev corrected : List Call
corrected = between ++ start_read 2 3 ∷ during ++ deliver 1 ∷ show 2 room ∷ []

abbrev correction : Call
correction = start_write 2 1 (0 ∷ 0 ∷ 0 ∷ 9 ∷ [])

abbrev numbers : Bool
numbers =
    let v = later capacities w 2 (start_read 2 3) between during (deliver 1) [] room [] in
    let shown_own =
    output capacities w 2 correction corrected (deliver 1 ∷ []) (deliver 1) [] room in
    let next = later capacities w 2 correction corrected (deliver 1 ∷ []) (deliver 1) [] room
    (deliver 0 ∷ []) in
    accepts capacities v correction
    && eqb (next_stamp v.tables 2) (stamp_of 2 2)
    && eqb (shown_own_set alone shown_own) 1
    && eqb (shown_own_number alone shown_own) 2
    && eqb (shown_own_value alone 1 shown_own 0) 9
    && accepts capacities next correction
    && eqb (next_stamp next.tables 2) (stamp_of 3 2)

-- ---- A client that reads while its own write's commits are in flight, at places 0 and 1

abbrev committing : List Call
committing =
    start_write 1 3 (0 ∷ 0 ∷ 0 ∷ 7 ∷ 0 ∷ 0 ∷ 0 ∷ 8 ∷ []) ∷ deliver 0 ∷ deliver 0 ∷ deliver 0
    ∷ deliver 0 ∷ []

-- A commit of its own is delivered while the read is under way, the other while the client rests:
-- neither ends a transaction or starts one.
abbrev own_commits : Bool
own_commits =
    let v = shown_at capacities w (start_read 1 1) committing (deliver 0 ∷ deliver 1 ∷ []) (deliver 1)
    [] in
    delivers (now capacities w (start_read 1 1) committing []) 1 (deliver 0)
    && stays capacities (now capacities w (start_read 1 1) committing []) 1
    (deliver 0 ∷ deliver 1 ∷ [])
    && ends_for capacities (now capacities w (start_read 1 1) committing
    (deliver 0 ∷ deliver 1 ∷ [])) 1
    (deliver 1)
    && delivers v 1 (deliver 0) && accepts capacities v (deliver 0)
    && not (ends_for capacities v 1 (deliver 0)) && rests capacities v 1 (deliver 0 ∷ [])

-- ---- Two reads of one item by one client

-- Client 1 has written both items, and only item 0's commit is delivered; client 2 has read item 0,
-- and then reads item 1, twice. Between these client 1 writes item 0 alone, and client 2 reads it.
abbrev until_first : List Call
until_first = written-first ++ start_read 2 1 ∷ deliver 1 ∷ deliver 1 ∷ []

abbrev between_reads : List Call
between_reads =
    start_write 1 1 (0 ∷ 0 ∷ 0 ∷ 9 ∷ []) ∷ deliver 1 ∷ deliver 1 ∷ deliver 1
    ∷ start_read 2 1 ∷ deliver 1 ∷ deliver 1 ∷ []

abbrev until_second : List Call
until_second =
    until_first ++ start_read 2 2 ∷ (deliver 1 ∷ []) ++ deliver 1 ∷ show 2 room ∷ between_reads

-- each is accepted, under way and ended, and shows item 1 as it was written
abbrev reads_both : List Call → Bool
reads_both before =
    let shown = output_of_read capacities w ordinary 2 2 before (deliver 1 ∷ []) (deliver 1) []
    room in
    accepts capacities (after capacities w before) (start_read 2 2)
    && stays capacities (now capacities w (start_read 2 2) before []) 2 (deliver 1 ∷ [])
    && ends_for capacities (now capacities w (start_read 2 2) before (deliver 1 ∷ [])) 2 (deliver 1)
    && same (shown_number 2 shown 1 ∷ shown_writer 2 shown 1 ∷ shown_value 2 shown 1 ∷ [])
    (1 ∷ 1 ∷ 8 ∷ [])

-- ---- Two writes of number 1

-- of client 1 by call 0 and of client 2 by call 3, with prepares delivered by calls 1 and 4
abbrev u : World
u = begin (record { clients = 2; partitions = 1; items = 1 })

abbrev both_written : List Call
both_written =
    start_write 1 1 (0 ∷ 0 ∷ 0 ∷ 7 ∷ []) ∷ deliver 0 ∷ deliver 0
    ∷ start_write 2 1 (0 ∷ 0 ∷ 0 ∷ 8 ∷ []) ∷ deliver 1 ∷ deliver 1 ∷ deliver 0 ∷ deliver 0 ∷ []

abbrev writes_and_stores : Bool
writes_and_stores =
    let v = after capacities u both_written in
    same (map (λ a. a.start) v.writes) (0 ∷ 3 ∷ [])
    && same (map (λ a. a.stamp) v.writes) (17 ∷ 18 ∷ [])
    && same (map (λ a. a.values 0) v.writes) (7 ∷ 8 ∷ [])
    && same (map (λ σ. σ.start) v.stores) (0 ∷ 3 ∷ [])
    && same (map (λ σ. σ.time) v.stores) (1 ∷ 4 ∷ [])

-- ---- Places freed, of three

abbrev small : Capacities
small = record { versions = 3; load = 128; widest = 12 }

-- client 1 writes item 0 three times: three versions, of which its view and latest spare the last
abbrev writing : List Call
writing = start_write 1 1 (0 ∷ 0 ∷ 0 ∷ 7 ∷ []) ∷ deliver 0 ∷ deliver 0 ∷ deliver 0 ∷ []

abbrev filled : List Call
filled = writing ++ writing ++ writing

abbrev new_write : ℕ → Call
new_write d = start_write d 1 (0 ∷ 0 ∷ 0 ∷ 8 ∷ [])

-- two places are freed, which serve two prepares, and no third
abbrev serving : Bool
serving =
    let v = after small u filled in
    let cleared = after small u (filled ++ clear ∷ []) in
    eqb (refusal small v.tables (new_write 1)) 9
    && eqb (number_of_answer (step small v.tables clear).answer) 0x200
    && eqb (counted (λ l. is_prepare l.message)
    (joining_over small cleared (new_write 1 ∷ deliver 0 ∷ deliver 9 ∷ deliver 0 ∷ []))) 1
    && accepts small (after small cleared (new_write 1 ∷ deliver 0 ∷ [])) (new_write 2)
    && eqb (refusal small (after small cleared
    (new_write 1 ∷ new_write 2 ∷ deliver 0 ∷ deliver 1 ∷ [])).tables (new_write 1)) 9

-- ---- The rows

abbrev rows : List Bool
rows =
    whole written-first during
    ∷ whole between during
    ∷ whole between refused_among
    ∷ whole between cleared_among
    ∷ whole between compared_among
    ∷ resting written-first during
    ∷ resting between refused_among
    ∷ one_each
    ∷ showing
    ∷ times
    ∷ own_values
    ∷ numbers
    ∷ own_commits
    ∷ reads_both until_first
    ∷ reads_both until_second
    ∷ writes_and_stores
    ∷ serving
    ∷ []

pub spans : all (λ b. b) rows ≡ true
unfolding next after joining leaving staying begun without_all storing joining_over leaving_over
    outcome_in delivers stays starts_for rests step refusal first unexpected missing is_nothing effect
    reply written lent outcome_of valid in_range sizes_in_range stamp_in_range entry_in_range version_in_range
    message_in_range is_kind ended_in_range client_in_range has_first read_part_in_range write_part_in_range load
    arrived total occupied greatest_in choice stored found delivered joined touches mentions unused
    standing listed read_bytes write_bytes frame number_of_answer every all counted without dropped has
    upto remove ones ones_in big_endian number_at
spans = refl

-- ---- A tie: both writes have number 1

-- client 1's first read shows its own write, its second one client 2's
abbrev own : List ℕ
own = output_of_read capacities u ordinary 1 1 both_written (deliver 0 ∷ []) (deliver 0) [] room

abbrev other : List ℕ
other = output_of_read capacities u ordinary 1 1
    (both_written ++ start_read 1 1 ∷ deliver 0 ∷ deliver 0 ∷ [])
    (deliver 0 ∷ []) (deliver 0) [] room

below : 1 < 2
below = omega arith

never : (n : ℕ) → n < n → ⊥
never n h = omega arith

above : 2 < 1 → ⊥
above h = omega arith

-- the first is older than client 2's write, and not than its own; the second is older than neither;
-- from the second to the first the stamp would fall, from the first to itself or to the second it
-- doesn't
pub ties : ShownOlder 1 own 0 (stamp_of 1 2) × (ShownOlder 1 own 0 (stamp_of 1 1) → ⊥)
    × (ShownOlder 1 other 0 (stamp_of 1 1) → ⊥) × (ShownOlder 1 other 0 (stamp_of 1 2) → ⊥)
    × (Falls 1 own 1 own 0 → ⊥) × Falls 1 other 1 own 0 × (Falls 1 own 1 other 0 → ⊥)
unfolding next after joining leaving staying begun without_all storing joining_over leaving_over
    outcome_in delivers stays starts_for rests step refusal first unexpected missing is_nothing effect
    reply written lent outcome_of valid in_range sizes_in_range stamp_in_range entry_in_range version_in_range
    message_in_range is_kind ended_in_range client_in_range has_first read_part_in_range write_part_in_range load
    arrived total occupied greatest_in choice stored found delivered joined touches mentions unused
    listed read_bytes write_bytes frame number_of_answer every all counted without dropped has upto
    remove ones ones_in big_endian number_at
ties = (
  inr (refl, below),
  ⊎_elim (never 1) (λ p. never 1 p.1),
  ⊎_elim (never 1) (λ p. above p.1),
  ⊎_elim (never 1) (λ p. never 2 p.1),
  ⊎_elim (never 1) (λ p. never 1 p.1),
  inr (refl, below),
  ⊎_elim (never 1) (λ p. above p.1),
)
