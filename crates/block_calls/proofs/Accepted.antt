-- What a call gives, by its refusal: accepted, the protocol's answer and the changed block;
-- refused, the refusal alone and the block as it was. And the tables after either.
use mathlib.Core.Bool.{true, false}
use mathlib.Core.List.{List}
use mathlib.Core.Path.{◌≡◌, refl, sym, ap, ◌∙◌}
use Prim.Native.Nat.{ℕ, suc}
use lib.ListN.{length}
use native.Mathlib.Omega.{arith}
use Rattle.basics.proofs.Cases.{by-test, and_right}
use Rattle.protocol.specs.declared.Answer.TheVariants.{Refused}
use Rattle.protocol.specs.Range.{capacities, valid}
use Rattle.protocol.specs.Calls.{Call, refusal, effect, reply, written, lent, step}
use Rattle.layout.specs.Layout.{header, at, messages_at}
use Rattle.layout.specs.Decode.{tables_of, well_formed, valid_block}
use Rattle.encoding.proofs.WellFormed.{tells-valid-block}
use Rattle.encoding.proofs.Encoded.{encodes-tables}
use Rattle.encoding.proofs.MaskedTables.{masked-tables}
use Rattle.block_calls.specs.Calls.{refusal_on, answer_on, output_on, tables_after, changed, block_after}
use Rattle.block_calls.proofs.Changed.{encodes-changed}
use Rattle.block_calls.proofs.Holds.{Holds, tables-next}

-- ---- a block that isn't valid

pub refused-invalid : (b : List ℕ) (c : Call) → valid_block b ≡ false → refusal_on b c ≡ 1
unfolding refusal_on
refused-invalid b c e = rw e

-- ---- a valid one holds its tables

pub valid-tables : (b : List ℕ) → valid_block b ≡ true → valid capacities (tables_of b) ≡ true
unfolding valid_block
valid-tables b v = and_right (well_formed b) (valid capacities (tables_of b)) v

pub holds-tables : (b : List ℕ) → valid_block b ≡ true → Holds b (tables_of b)
holds-tables b v =
    record {
      encodes = encodes-tables b ((tells-valid-block b).0 v);
      masked = masked-tables b v;
      is_valid = valid-tables b v;
    }

pub refusal-valid : (b : List ℕ) (c : Call) → valid_block b ≡ true
    → refusal_on b c ≡ refusal capacities (tables_of b) c
unfolding refusal_on
refusal-valid b c v = rw v

-- ---- accepted

never : ◌≡◌ {A = ℕ} 1 0 → ⊥
never e = omega arith

pub accepted-valid : (b : List ℕ) (c : Call) → refusal_on b c ≡ 0 → valid_block b ≡ true
accepted-valid b c e = by-test (valid_block b) (λ v. v)
    (λ v. absurd (never (sym (refused-invalid b c v) ∙ e)))

module _ (b : List ℕ) (c : Call) (e : refusal_on b c ≡ 0) where
  is_valid : valid_block b ≡ true
  is_valid = accepted-valid b c e

  pub accepted-holds : Holds b (tables_of b)
  accepted-holds = holds-tables b is_valid

  pub accepted-tables : refusal capacities (tables_of b) c ≡ 0
  accepted-tables = sym (refusal-valid b c is_valid) ∙ e

  pub answer-accepted : answer_on b c ≡ reply (tables_of b) c
  unfolding answer_on step
  answer-accepted = rw (is_valid, accepted-tables)

  pub output-accepted : output_on b c ≡ written (tables_of b) c
  unfolding output_on step
  output-accepted = rw (is_valid, accepted-tables)

  pub block-accepted : block_after b c ≡ changed b c
  unfolding block_after
  block-accepted = rw e

  -- the messages that the changed block counts
  pub count-accepted : at (changed b c) header messages_at ≡ length (effect (tables_of b) c).messages
  count-accepted =
      (encodes-changed b (tables_of b) c refl accepted-holds.encodes accepted-tables).message_count

-- ---- refused

module _ (b : List ℕ) (c : Call) (r : ℕ) (e : refusal_on b c ≡ suc r) where
  pub answer-refused : answer_on b c ≡ Refused (suc r)
  unfolding answer_on step
  answer-refused =
      by-test (valid_block b)
      (λ v. rw (v, sym (refusal-valid b c v) ∙ e) refl)
      (λ v. rw v (ap Refused (sym (refused-invalid b c v) ∙ e)))

  pub output-refused : output_on b c ≡ lent c
  unfolding output_on step
  output-refused = by-test (valid_block b) (λ v. rw (v, sym (refusal-valid b c v) ∙ e) refl)
      (λ v. rw v)

  pub block_refused : block_after b c ≡ b
  unfolding block_after
  block_refused = rw e

-- ---- the tables after a call

pub tables_after_lem : (b : List ℕ) (c : Call) → tables_of (block_after b c) ≡ tables_after b c
unfolding tables_after
tables_after_lem b c =
    by-test (valid_block b)
    (λ v. rw v (tables-next b (tables_of b) (holds-tables b v) c))
    (λ v. rw v (ap tables_of (block_refused b c 0 (refused-invalid b c v))))
