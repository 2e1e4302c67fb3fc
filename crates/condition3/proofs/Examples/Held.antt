-- The words of condition 3 from an accepted block, computed on one with much under way: which
-- writes it holds, and what counts as stored and answered. A read begun from then on shows a write
-- which was under way in it. A mixed transaction begun from then on sends, counts and shows its own.
use mathlib.Core.Bool.{Bool, true, not, ◌&&◌}
use mathlib.Core.List.{List, [], ◌∷◌, ◌++◌, map}
use mathlib.Core.Path.{◌≡◌, refl}
use Prim.Native.Nat.{ℕ, ◌+◌, ◌^◌}
use lib.Count.{ones, ones_in}
use lib.Dec.{eqb}
use lib.ListN.{replicate}
use Rattle.basics.specs.Lists.{every, all, counted, without, dropped}
use Rattle.hexadecimal.specs.Number.{big_endian, number_at}
use Rattle.itemset.specs.Set.{has, upto, insert, remove, set_of}
use Rattle.protocol.specs.Tables.{is_kind, stamp_of}
use Rattle.protocol.specs.Range.{capacities, valid, in_range, stamp_in_range, sizes_in_range}
use Rattle.protocol.specs.Range.{entry_in_range, version_in_range, message_in_range, ended_in_range}
use Rattle.protocol.specs.Range.{client_in_range, has_first, read_part_in_range, write_part_in_range}
use Rattle.protocol.specs.Range.{arrived, total, load, occupied}
use Rattle.protocol.specs.Steps.{greatest_in, choice, stored, found, delivered, joined, touches}
use Rattle.protocol.specs.Check.{every_entry, client_sets, clients_sets, sets_held, first_set, write_set}
use Rattle.protocol.specs.Check.{is_whole, all_whole, lines_written, sets_agree, distinct, values_held}
use Rattle.protocol.specs.Check.{answered_again, all_counted, writes_stamped, writes_stored, fits_client}
use Rattle.protocol.specs.Check.{messages_fit, sound}
use Rattle.protocol.specs.LogFrame.{listed, read_bytes, write_bytes, frame}
use Rattle.protocol.specs.Calls.{Call, start_read, start_mixed, deliver, check, first, refusal}
use Rattle.protocol.specs.Calls.{unexpected, missing, is_nothing, outcome_of, effect, reply, written}
use Rattle.protocol.specs.Calls.{lent, step}
use Rattle.protocol.proofs.Examples.Table.{same}
use Rattle.protocol.proofs.Examples.Checked.{busy}
use Rattle.condition3.specs.World.{World, accepts, next, after, joining, leaving, staying}
use Rattle.condition3.specs.World.{begun, without_all, storing, joining_over, leaving_over}
use Rattle.condition3.specs.World.{is_request, is_reply, is_reply_for, is_prepared_reply}
use Rattle.condition3.specs.World.{is_prepared_reply_for, is_prepare_of, is_prepare_for, is_commit_of}
use Rattle.condition3.specs.World.{outcome_in, delivers, ends_for, stays, starts_for, rests}
use Rattle.condition3.specs.Condition3.{now, sent, came, output_of_read, answered_at}
use Rattle.condition3.specs.Condition3.{shown_number, shown_writer, shown_value, shown_own_set}
use Rattle.condition3.specs.Condition3.{shown_own_number, shown_own_value}
use Rattle.condition3.specs.Condition3.Manner.{ordinary, writing}
use Rattle.condition3.specs.Condition3.Company.{reading}
use Rattle.condition3.specs.Held.{under_way, held_value, held_writes, held_stores, held}

abbrev w : World
w = held busy

-- ---- What it holds

-- Client 1's first write is whole, two versions of it are stored; its second is under way, of
-- items 1 and 2, with item 1 stored. Values are those stored, and of a write under way its own, so
-- that item 2 has one.
abbrev holding : Bool
holding =
    same (map (λ a. a.stamp) w.writes)
    (stamp_of 1 1 ∷ stamp_of 1 1 ∷ stamp_of 2 1 ∷ stamp_of 2 1 ∷ [])
    && same (map (λ a. a.start) w.writes) (map (λ a. a.stamp) w.writes)
    && same (map (λ a. a.set) w.writes) (3 ∷ 3 ∷ 6 ∷ 6 ∷ [])
    && same (map (λ a. a.values 1) w.writes) (8 ∷ 8 ∷ 5 ∷ 5 ∷ [])
    && same (map (λ a. a.values 2) w.writes) (0 ∷ 0 ∷ 6 ∷ 6 ∷ [])
    && is_whole busy (stamp_of 1 1) && not (under_way busy (stamp_of 1 1))
    && under_way busy (stamp_of 2 1) && not (is_whole busy (stamp_of 2 1))

-- What is stored was stored before what is in flight was answered, and the calls come after both.
abbrev storing-first : Bool
storing-first =
    same (map (λ σ. σ.start) w.stores) (stamp_of 1 1 ∷ stamp_of 1 1 ∷ stamp_of 2 1 ∷ [])
    && same (map (λ σ. σ.item) w.stores) (0 ∷ 1 ∷ 1 ∷ [])
    && same (map (λ σ. σ.time) w.stores) (0 ∷ 0 ∷ 0 ∷ [])
    && same (map answered_at w.in_flight) (replicate 7 1)
    && same (map (λ l. l.label.client) w.in_flight) (1 ∷ 1 ∷ 2 ∷ 2 ∷ 3 ∷ 3 ∷ 1 ∷ [])
    && same (map (λ l. l.label.start) w.in_flight)
    (stamp_of 2 1 ∷ stamp_of 2 1 ∷ stamp_of 1 1 ∷ stamp_of 1 1 ∷ stamp_of 1 1 ∷ 0 ∷ stamp_of 1 1 ∷ [])

-- ---- A read begun from then on

-- client 1's write ends: its prepare of item 2 and both replies; then client 1 reads items 1 and 2
abbrev before : List Call
before = check ∷ deliver 0 ∷ deliver 0 ∷ deliver 5 ∷ check ∷ []

abbrev during : List Call
during = deliver 7 ∷ deliver 7 ∷ deliver 7 ∷ []

-- The prepare is stored for the write that was held, by the call of that time.
abbrev storing-then : Bool
storing-then =
    let v = after capacities w before in
    same (map (λ σ. σ.start) v.stores)
    (stamp_of 1 1 ∷ stamp_of 1 1 ∷ stamp_of 2 1 ∷ stamp_of 2 1 ∷ [])
    && same (map (λ σ. σ.item) v.stores) (0 ∷ 1 ∷ 1 ∷ 2 ∷ [])
    && same (map (λ σ. σ.time) v.stores) (0 ∷ 0 ∷ 0 ∷ (2 ^ 40 + 1) ∷ [])

abbrev ending : Bool
ending =
    accepts capacities w check
    && accepts capacities (after capacities w before) (start_read 1 6)
    && stays capacities (now capacities w (start_read 1 6) before []) 1 during
    && ends_for capacities (now capacities w (start_read 1 6) before during) 1 (deliver 7)

abbrev shown : List ℕ
shown = output_of_read capacities w ordinary 1 6 before during (deliver 7) (check ∷ [])
    (replicate 28 0)

abbrev showing : Bool
showing =
    same (shown_number 6 shown 1 ∷ shown_writer 6 shown 1 ∷ shown_value 6 shown 1 ∷ [])
    (2 ∷ 1 ∷ 5 ∷ [])
    && same (shown_number 6 shown 2 ∷ shown_writer 6 shown 2 ∷ shown_value 6 shown 2 ∷ [])
    (2 ∷ 1 ∷ 6 ∷ [])

-- ---- A mixed transaction begun from then on

-- client 1 reads items 1 and 2 and writes item 2; the prepared reply comes last
abbrev bytes : List ℕ
bytes = 0 ∷ 0 ∷ 0 ∷ 9 ∷ []

abbrev start : Call
start = start_mixed 1 6 4 bytes

abbrev meanwhile : List Call
meanwhile = during ++ deliver 7 ∷ deliver 7 ∷ []

abbrev whole : List Call
whole = meanwhile ++ deliver 7 ∷ []

-- Two requests, two gots, one of each item read, and one prepared reply, of the item written; those
-- of the held write came before.
abbrev counting : Bool
counting =
    accepts capacities (after capacities w before) start
    && stays capacities (now capacities w start before []) 1 meanwhile
    && ends_for capacities (now capacities w start before meanwhile) 1 (deliver 7)
    && eqb (outcome_in (step capacities (now capacities w start before meanwhile).tables
    (deliver 7)).answer) 2
    && eqb (counted (is_request 1) (sent capacities w start before whole)) 2
    && eqb (counted (is_reply 1) (came capacities w start before whole)) 2
    && eqb (counted (is_prepared_reply 1) (came capacities w start before whole)) 1
    && eqb (counted (is_reply_for 1 1) (came capacities w start before whole)) 1
    && eqb (counted (is_reply_for 1 2) (came capacities w start before whole)) 1
    && eqb (counted (is_prepared_reply_for 1 2) (came capacities w start before whole)) 1

-- Its one prepare goes with its start, and its one commit with its end. Three commits of the client
-- are in flight before: one that the block held, and two of the write that was under way. From the
-- end on the view has its write.
abbrev sending : Bool
sending =
    eqb (counted (is_prepare_of 1) (sent capacities w start before [])) 1
    && eqb (counted (is_prepare_of 1) (sent capacities w start before whole)) 1
    && eqb (counted (is_prepare_for 1 2) (sent capacities w start before whole)) 1
    && eqb (counted (is_commit_of 1) (now capacities w start before meanwhile).in_flight) 3
    && eqb (counted (is_commit_of 1) (sent capacities w start before meanwhile)) 0
    && eqb (counted (is_commit_of 1) (sent capacities w start before whole)) 1
    && eqb ((now capacities w start before meanwhile).tables.view 1 2).stamp (stamp_of 2 1)
    && eqb ((now capacities w start before whole).tables.view 1 2).stamp (stamp_of 3 1)

-- It shows what the held write put there, and behind it its own set, number and value.
abbrev mixed_shown : List ℕ
mixed_shown = output_of_read capacities w (writing 4 bytes) 1 6 before meanwhile (deliver 7)
    (check ∷ []) (replicate 44 0)

abbrev showing-own : Bool
showing-own =
    same (shown_number 6 mixed_shown 2 ∷ shown_writer 6 mixed_shown 2 ∷ shown_value 6 mixed_shown 2 ∷ [])
    (2 ∷ 1 ∷ 6 ∷ [])
    && same (shown_own_set (reading 6) mixed_shown ∷ shown_own_number (reading 6) mixed_shown
    ∷ shown_own_value (reading 6) 4 mixed_shown 2 ∷ []) (4 ∷ 3 ∷ 9 ∷ [])

abbrev rows : List Bool
rows =
    holding ∷ storing-first ∷ storing-then ∷ ending ∷ showing ∷ counting ∷ sending ∷ showing-own
    ∷ []

pub helds : all (λ b. b) rows ≡ true
unfolding held_value held_writes held_stores next after joining leaving staying begun without_all
    storing joining_over leaving_over outcome_in delivers stays starts_for rests step refusal first
    unexpected missing is_nothing effect reply written lent outcome_of valid in_range sizes_in_range
    stamp_in_range entry_in_range version_in_range message_in_range is_kind ended_in_range client_in_range
    has_first read_part_in_range write_part_in_range load arrived total occupied greatest_in choice stored
    found delivered joined touches every_entry client_sets clients_sets sets_held first_set write_set
    is_whole all_whole lines_written sets_agree distinct values_held answered_again all_counted
    writes_stamped writes_stored fits_client messages_fit sound listed read_bytes write_bytes frame every
    all counted without dropped has upto insert remove set_of ones ones_in big_endian number_at
helds = refl
