-- Whose own a write counts as, in lists of calls with hand-overs: handed on from client 1 by way of
-- client 2 to client 3, not in the other order, and not what the giver ends after its hand-over.
use mathlib.Core.Bool.{Bool, true, ◌&&◌}
use mathlib.Core.List.{List, [], ◌∷◌, ◌++◌}
use mathlib.Core.Path.{◌≡◌, refl}
use Prim.Native.Nat.{ℕ, ◌≤◌}
use native.Mathlib.Omega.{arith}
use lib.Count.{ones, ones_in}
use lib.ListN.{replicate}
use Rattle.basics.specs.Lists.{every, all, counted, without, dropped}
use Rattle.hexadecimal.specs.Number.{big_endian, number_at}
use Rattle.itemset.specs.Set.{has, upto, remove}
use Rattle.protocol.specs.Tables.{is_kind}
use Rattle.protocol.specs.Range.{capacities, valid, in_range, stamp_in_range, sizes_in_range}
use Rattle.protocol.specs.Range.{entry_in_range, version_in_range, message_in_range, ended_in_range}
use Rattle.protocol.specs.Range.{client_in_range, has_first, read_part_in_range, write_part_in_range}
use Rattle.protocol.specs.Range.{arrived, total, load, occupied}
use Rattle.protocol.specs.Steps.{greatest_in, choice, stored, found, delivered, joined, touches}
use Rattle.protocol.specs.HandOver.{standing}
use Rattle.protocol.specs.LogFrame.{listed, read_bytes, write_bytes, frame}
use Rattle.protocol.specs.Calls.{Call, start_read, start_write, deliver, hand_over, compare, first}
use Rattle.protocol.specs.Calls.{refusal, unexpected, missing, is_nothing, outcome_of, effect, reply}
use Rattle.protocol.specs.Calls.{written, lent, step}
use Rattle.condition3.specs.World.{World, begin, next, after, joining, leaving, staying}
use Rattle.condition3.specs.World.{begun, without_all, storing, outcome_in, delivers, stays}
use Rattle.condition3.specs.Condition3.{EndedBy, Own, output_of_read, shown_number, shown_writer}
use Rattle.condition3.specs.Condition3.{shown_value}
use Rattle.condition3.specs.Condition3.Company.{alone}
use Rattle.condition3.specs.Condition3.Own.{own, inherited}
use Rattle.condition3.specs.Condition3.Manner.{ordinary}
use Rattle.protocol.proofs.Examples.Table.{same}
use Rattle.condition3.proofs.Link.{Inv}
use Rattle.condition3.proofs.Link.Step.{begin-inv}
use Rattle.condition3.proofs.Runs.Own.{own-seen}

abbrev w : World
w = begin (record { clients = 3; partitions = 1; items = 1 })

abbrev bytes : List ℕ
bytes = 0 ∷ 0 ∷ 0 ∷ 7 ∷ []

-- client 1 writes item 0 and ends; its commit stays in flight, at place 0
abbrev ended : List Call
ended = start_write 1 1 bytes ∷ deliver 0 ∷ deliver 0 ∷ []

-- and hands over; client 2 is refused, since client 3 reads, and only then hands over in turn
abbrev handed : List Call
handed = ended ++ hand_over 1 2 ∷ start_read 3 1 ∷ hand_over 2 3 ∷ deliver 1 ∷ deliver 1 ∷ []

abbrev chain : List Call
chain = handed ++ hand_over 2 3 ∷ compare 1 3 ∷ []

-- in the other order, and with the hand-over before the write ends
abbrev crossed : List Call
crossed = ended ++ hand_over 2 3 ∷ hand_over 1 2 ∷ []

abbrev late : List Call
late = hand_over 1 2 ∷ ended

-- the write counts as this client's own
abbrev CountsFor : List Call → ℕ → List Call → Type 0
CountsFor earlier = Own capacities w 1 1 bytes earlier

-- client 3 then reads it; before its hand-over it read the initial entry
abbrev shown : List Call → List ℕ
shown calls =
    output_of_read capacities w ordinary 3 1 calls (deliver 1 ∷ []) (deliver 1) [] (replicate 19 0)

abbrev shows : List ℕ → List ℕ → Bool
shows output entry =
    same (shown_number 1 output 0 ∷ shown_writer 1 output 0 ∷ shown_value 1 output 0 ∷ []) entry

begins : Inv capacities w
unfolding sizes_in_range
begins = begin-inv capacities (record { clients = 3; partitions = 1; items = 1 }) refl

-- what isn't in a view doesn't count
unseen : (n m : ℕ) → n ≡ 17 → m ≡ 0 → n ≤ m → ⊥
unseen n m p q h = omega arith

pub handed_on : CountsFor [] 1 ended × CountsFor [] 2 handed × CountsFor [] 3 chain
    × (CountsFor [] 3 handed → ⊥) × (CountsFor [] 3 crossed → ⊥)
    × (CountsFor (hand_over 1 2 ∷ []) 2 late → ⊥)
    × ((shows (shown (ended ++ hand_over 1 2 ∷ [])) (0 ∷ 0 ∷ 0 ∷ [])
    && shows (shown chain) (1 ∷ 1 ∷ 7 ∷ [])) ≡ true)
unfolding next after joining leaving staying begun without_all storing outcome_in delivers stays step
    refusal first unexpected missing is_nothing effect reply written lent outcome_of valid in_range
    sizes_in_range stamp_in_range entry_in_range version_in_range message_in_range is_kind ended_in_range
    client_in_range has_first read_part_in_range write_part_in_range load arrived total occupied greatest_in
    choice stored found delivered joined touches standing listed read_bytes write_bytes frame every
    all counted without dropped has upto remove ones ones_in big_endian number_at
handed_on =
    let is : EndedBy capacities w 1 (start_write 1 1 bytes) [] (deliver 0 ∷ []) (deliver 0) =
    record { under_way = record { accepted = refl; unended = refl }; ended = refl } in
    let mine : CountsFor [] 1 ended = own alone ended (deliver 0 ∷ []) (deliver 0) [] refl is in
    let second : CountsFor [] 2 handed =
    inherited 1 2 handed ended (start_read 3 1 ∷ hand_over 2 3 ∷ deliver 1 ∷ deliver 1 ∷ []) refl refl
    mine in (
      mine,
      second,
      inherited 2 3 chain handed (compare 1 3 ∷ []) refl refl second,
      λ o. unseen _ _ refl refl (own-seen capacities w begins 1 1 bytes [] o 0 refl),
      λ o. unseen _ _ refl refl (own-seen capacities w begins 1 1 bytes [] o 0 refl),
      λ o. unseen _ _ refl refl
          (own-seen capacities w begins 1 1 bytes (hand_over 1 2 ∷ []) o 0 refl),
      refl,
    )
