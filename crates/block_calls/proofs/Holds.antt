-- A block that holds valid tables is read as those tables, and after a call it holds the tables
-- that the protocol's step gives.
use mathlib.Core.Bool.{true}
use mathlib.Core.List.{List}
use mathlib.Core.Path.{◌≡◌, refl, sym, ap, subst}
use Prim.Native.Nat.{ℕ, zero, suc}
use Rattle.protocol.specs.Tables.{Tables}
use Rattle.protocol.specs.Range.{capacities, valid}
use Rattle.protocol.specs.Calls.{Call, refusal, effect, step, pick}
use Rattle.protocol.proofs.Ranges.Tables.{Valid, Within, valid-within, Stamps, valid-facts}
use Rattle.protocol.proofs.Valid.{valid-step, within-kept}
use Rattle.layout.specs.Decode.{tables_of, valid_block}
use Rattle.layout.specs.Encodes.{Encodes}
use Rattle.layout.proofs.Masked.{Masked}
use Rattle.encoding.proofs.ValidIff.{valid-iff}
use Rattle.encoding.proofs.Decoded.{tables-of, few-versions, few-messages}
use Rattle.encoding.proofs.MaskedStep.{masked-step}
use Rattle.block_calls.proofs.Changed.{encodes-changed}
use Rattle.block_calls.specs.Calls.{refusal_on, answer_on, output_on, changed, block_after}

pub record Holds (b : List ℕ) (t : Tables) : Type 0 where
  pub encodes : Encodes b t
  pub masked : Masked t
  pub is_valid : valid capacities t ≡ true

tables-within : (b : List ℕ) (t : Tables) → Encodes b t → Masked t → Within capacities t
    → tables_of b ≡ t
tables-within b t e m w = tables-of b t e m w.client (few-versions t w) (few-messages t w)

module _ (b : List ℕ) (t : Tables) (h : Holds b t) where
  pub valid-block : valid_block b ≡ true
  valid-block = (valid-iff b).1 (t, h.encodes, h.is_valid)

  facts : Valid capacities t
  facts = valid-facts capacities t h.is_valid

  pub tables-are : tables_of b ≡ t
  tables-are = tables-within b t h.encodes h.masked (valid-within capacities t facts)

  -- what the calls give on the block is what the steps give on the tables
  pub refusal_is : (c : Call) → refusal_on b c ≡ refusal capacities t c
  unfolding refusal_on
  refusal_is c = rw valid-block (ap (λ (u : Tables). refusal capacities u c) tables-are)

  pub answer-is : (c : Call) → answer_on b c ≡ (step capacities t c).answer
  unfolding answer_on
  answer-is c = rw valid-block (ap (λ (u : Tables). (step capacities u c).answer) tables-are)

  pub output-is : (c : Call) → output_on b c ≡ (step capacities t c).output
  unfolding output_on
  output-is c = rw valid-block (ap (λ (u : Tables). (step capacities u c).output) tables-are)

  -- the tables after the call are read from the block after it, also where they aren't valid
  -- because a transaction that reads and writes has the initial stamp
  pub tables-next : (c : Call) → tables_of (block_after b c) ≡ (step capacities t c).tables
  unfolding block_after step
  tables-next c =
      subst (λ (r : ℕ). tables_of (pick r (changed b c) b)
      ≡ pick (refusal capacities t c) (effect t c) t) (sym (refusal_is c))
      (by-refusal (refusal capacities t c) refl)
    where
      by-refusal : (r : ℕ) → refusal capacities t c ≡ r
          → tables_of (pick r (changed b c) b) ≡ pick r (effect t c) t
      by-refusal zero e =
          tables-within (changed b c) (effect t c) (encodes-changed b t c tables-are h.encodes e)
          (masked-step capacities t c e h.masked) (within-kept capacities t c e)
      by-refusal (suc r) e = tables-are

  accepted-holds : (c : Call) → refusal capacities t c ≡ 0 → Stamps t
      → Holds (changed b c) (effect t c)
  accepted-holds c e stamps =
      record {
        encodes = encodes-changed b t c tables-are h.encodes e;
        masked = masked-step capacities t c e h.masked;
        is_valid = valid-step capacities t c e stamps;
      }

  pub holds_after : Stamps t → (c : Call) → Holds (block_after b c) (step capacities t c).tables
  unfolding block_after step
  holds_after stamps c =
      subst (λ (r : ℕ). Holds (pick r (changed b c) b)
      (pick (refusal capacities t c) (effect t c) t)) (sym (refusal_is c))
      (by-refusal (refusal capacities t c) refl)
    where
      by-refusal : (r : ℕ) → refusal capacities t c ≡ r
          → Holds (pick r (changed b c) b) (pick r (effect t c) t)
      by-refusal zero e = accepted-holds c e stamps
      by-refusal (suc r) e = h
