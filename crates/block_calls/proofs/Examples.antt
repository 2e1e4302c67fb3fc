-- Fresh starts on blocks of this and that length, and the number of each case of an answer: one
-- table, computed.
use mathlib.Core.List.{List, [], ◌∷◌}
use mathlib.Core.Path.{◌≡◌, refl}
use Prim.Native.Nat.{ℕ, ◌-◌}
use lib.ListN.{length, replicate}
use Rattle.protocol.specs.declared.Answer.{Answer}
use Rattle.protocol.specs.declared.Answer.TheVariants.{Refused, Made, Started, Delivered, Shown}
use Rattle.protocol.specs.declared.Answer.TheVariants.{Cleared, HandedOver, Compared, Checked}
use Rattle.protocol.specs.Range.{sizes_in_range}
use Rattle.protocol.specs.Calls.{first, number_of_answer}
use Rattle.gather.specs.Sized.{sizes}
use Rattle.layout.specs.Layout.{needed}
use Rattle.block_calls.specs.Calls.{fresh_refusal_on, fresh_answer_on}

-- answers in the order of the rows: 2 whatever the length, 1 for a word too few, none at the needed
-- length
abbrev made : List Answer
made =
    fresh_answer_on [] (sizes 9 8 64) ∷ fresh_answer_on [] (sizes 8 8 64)
    ∷ fresh_answer_on (replicate (needed - 1) 0) (sizes 8 8 64)
    ∷ fresh_answer_on (replicate needed 0) (sizes 8 8 64)
    ∷ fresh_answer_on (replicate needed 7) (sizes 1 1 65) ∷ []

pub fresh-rows : made ≡ Refused 2 ∷ Refused 1 ∷ Refused 1 ∷ Made ∷ Refused 2 ∷ []
unfolding fresh_answer_on fresh_refusal_on first sizes_in_range
fresh-rows = refl

-- bits 8..23 of a start, of a showing and of a clearing; 8..15, 16..31 and 32..39 of a delivery;
-- nothing but 0 of a hand-over and of a check; 8..15 of a comparison
abbrev numbers : List ℕ
numbers =
    number_of_answer (Refused 14) ∷ number_of_answer Made ∷ number_of_answer (Started 258)
    ∷ number_of_answer (Delivered 4 3 1)
    ∷ number_of_answer (Shown 586) ∷ number_of_answer (Cleared 512)
    ∷ number_of_answer (HandedOver 7 8) ∷ number_of_answer (Compared 3) ∷ number_of_answer Checked ∷ []

pub number-rows : numbers
    ≡ 14 ∷ 0 ∷ 0x10200 ∷ 0x100030400 ∷ 0x24a00 ∷ 0x20000 ∷ 0 ∷ 0x300 ∷ 0 ∷ []
unfolding number_of_answer
number-rows = refl
