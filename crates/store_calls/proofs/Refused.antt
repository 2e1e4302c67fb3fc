-- A refused call gives its refusal alone: the block and the output stay as they were.
use Rattle.std.proofs.Common.{◌≡◌, ℕ, ◌<◌, ◌≢◌, List, arith}
use Rattle.protocol.specs.declared.Answer.TheVariants.{Refused}
use Rattle.protocol.specs.declared.refusal.Refusal.{Refusal}
use Rattle.protocol.specs.Refusal.{number_of_refusal}
use Rattle.protocol.proofs.Refused.{some_number}
use Rattle.protocol.specs.Tables.{Sizes}
use Rattle.protocol.specs.Calls.{Call, lent}
use Rattle.layout.specs.Decode.{tables_of}
use Rattle.block_calls.specs.Calls.{fresh_refusal_on, fresh_answer_on, fresh_after, fresh_tables}
use Rattle.block_calls.specs.Calls.{refusal_on, answer_on, output_on, block_after}
use Rattle.block_calls.proofs.Fresh.{fresh-refused}
use Rattle.block_calls.proofs.Given.{refused-given, refused-shown}

module _ (r : Refusal) where
  abbrev number : ℕ
  number = number_of_refusal r

  refused_number : number ≢ 0
  refused_number e = let l : 0 < number = some_number r in omega arith

  pub by_refusal : (b : List ℕ) (c : Call) → number ≡ refusal_on b c
      → (Refused number ≡ answer_on b c) × (b ≡ block_after b c)
  by_refusal b c e = refused-given b c number e refused_number

  pub shown-by_refusal : (b : List ℕ) (c : Call) → number ≡ refusal_on b c
      → (Refused number ≡ answer_on b c) × (lent c ≡ output_on b c)
  shown-by_refusal b c e = refused-shown b c number e refused_number

  pub fresh-by_refusal : (b : List ℕ) (z : Sizes) → number ≡ fresh_refusal_on b z
      → (Refused number ≡ fresh_answer_on b z)
      × ((b ≡ fresh_after b z) × (tables_of b ≡ fresh_tables b z))
  fresh-by_refusal b z e = fresh-refused b z number e refused_number
