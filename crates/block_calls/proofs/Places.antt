-- A delivery on a valid block: the message at its place is the tables' message, and what is told of
-- it is the refusal table's.
use mathlib.Core.Bool.{true}
use mathlib.Core.List.{List, [], ◌∷◌}
use mathlib.Core.Path.{◌≡◌, refl, sym, ap, ◌∙◌}
use Prim.Native.Nat.{ℕ, ◌≤◌, ◌<◌}
use native.Mathlib.Omega.{arith}
use lib.Dec.{leb}
use lib.ListN.{length}
use borrow.Author.Tests.{leb-true, leb-false, le-leb, lt-leb}
use Rattle.std.specs.Prelude.{Option, Ok, unwrap_or}
use Rattle.basics.proofs.Cases.{by-test}
use Rattle.basics.proofs.Lists.{in-get_or}
use Rattle.protocol.specs.declared.Version.{Version}
use Rattle.protocol.specs.declared.Message.{Message}
use Rattle.protocol.specs.declared.Message.TheVariants.{Commit}
use Rattle.protocol.specs.declared.Answer.TheVariants.{Delivered}
use Rattle.protocol.specs.Refusal.{refused_by}
use Rattle.protocol.specs.Tables.{Tables}
use Rattle.protocol.specs.Steps.{message_at}
use Rattle.protocol.specs.Message.{kind_of}
use Rattle.protocol.specs.Calls.{deliver, refusal, reply, test, first, unexpected, missing}
use Rattle.protocol.specs.Calls.{effect, outcome_of}
use Rattle.protocol.proofs.Ranges.Values.{MessageInRange}
use Rattle.protocol.proofs.Ranges.Tables.{Valid, valid-facts}
use Rattle.protocol.proofs.Refusals.{accepted-deliver, accepted-message}
use Rattle.protocol.specs.Range.{capacities}
use Rattle.layout.specs.Store.{take_out}
use Rattle.layout.specs.Layout.{most_versions, most_messages, header, needed, at, partitions_at}
use Rattle.layout.specs.Layout.{items_at, versions_at, messages_at}
use Rattle.layout.specs.Decode.{kind_in, message_in, tables_of, valid_block}
use Rattle.layout.specs.Encodes.{Encodes}
use Rattle.layout.proofs.Held.{kind-read as kind-of-read}
use Rattle.slots.proofs.ReadBack.{read-message}
use Rattle.encoding.proofs.WellFormed.{WellFormed, tells-valid-block}
use Rattle.deliver_tests.specs.Tests.{Tested, Bounded, none, tested_in, outcome_in}
use Rattle.deliver.specs.Deliver.{message_delivered, delivered_block}
use Rattle.deliver_tests.proofs.Bounds.{bounded}
use Rattle.deliver.proofs.Delivered.{encodes-deliver, delivered-block}
use Rattle.deliver_tests.proofs.TestedTables.{Tells, tested-tables}
use Rattle.deliver_tests.proofs.Outcomes.{outcome-told}
use Rattle.block_calls.specs.Calls.{refusal_on, answer_on, changed, block_after}
use Rattle.block_calls.proofs.Accepted.{valid-tables, holds-tables, refusal-valid}
use Rattle.block_calls.proofs.Accepted.{accepted-valid, answer-accepted}
use Rattle.block_calls.proofs.Given.{block-given, count-given}

-- ---- the message at place i

module _ (b : List ℕ) (i : ℕ) (v : valid_block b ≡ true) where
  abbrev t : Tables
  t = tables_of b

  held : Encodes b t
  held = (holds-tables b v).encodes

  facts : Valid capacities t
  facts = valid-facts capacities t (valid-tables b v)

  words : WellFormed b
  words = ((tells-valid-block b).0 v).well_formed

  -- 10
  pub past_end : at b header messages_at ≤ i → refusal_on b (deliver i) ≡ 10
  unfolding refusal first
  past_end h =
      refusal-valid b (deliver i) v
      ∙ rw (valid-tables b v, le-leb (length t.messages) i (omega (arith, held.message_count)))
      refl

  module _ (l : i < at b header messages_at) where
    pub place : i < length t.messages
    place = omega (arith, held.message_count)

    pub few-places : i < most_messages
    few-places = omega (arith, words.message_count)

    pub few-versions : at b header versions_at ≤ most_versions
    few-versions = words.version_count

    pub long-enough : needed ≤ length b
    long-enough = words.long

    pub message-read : message_in b i ≡ message_at t i
    message-read = read-message held i place (Commit 0 0)

    in-range : MessageInRange t.sizes (message_at t i)
    in-range = facts.in_range.messages (message_at t i) (in-get_or t.messages i (Commit 0 0) place)

    pub bounded-message : Bounded (message_in b i)
    bounded-message = rw message-read
        (bounded t.sizes (message_at t i) facts.in_range.sizes.clients
        facts.in_range.sizes.items in-range)

    told-tables : Tells b (tested_in b (at b header versions_at) (message_in b i)) t (message_at t i)
    told-tables = rw message-read (tested-tables (message_at t i) held facts.in_range in-range)

    refusal-place : refusal capacities t (deliver i) ≡ first
        (test 11 (unexpected t (message_at t i)) ∷ test 12 (missing t (message_at t i)) ∷ [])
    unfolding refusal first
    refusal-place = rw (valid-tables b v, lt-leb (length t.messages) i place) refl

    -- 11 and 12
    pub refusal-told : refusal_on b (deliver i) ≡ refused_by (tested_in b (at b header versions_at)
        (message_in b i))
    refusal-told = refusal-valid b (deliver i) v
        ∙ (refusal-place ∙ sym told-tables.refusal)

    pub told-refusal : (x : Tested) (m : Message) (n : ℕ) → m ≡ message_in b i
        → n ≡ at b header versions_at → x ≡ tested_in b n m
        → refused_by x ≡ refusal_on b (deliver i)
    told-refusal x m n h k e = ap (λ (y : Tested). refused_by y) e
        ∙ (rw (h, k) refl ∙ sym refusal-told)

    pub kind-read : kind_in b i ≡ kind_of (message_at t i)
    kind-read = sym (kind-of-read b i (words.some_kind i l) (words.kind i l))
        ∙ ap kind_of message-read

-- ---- a delivery that is accepted

module _ (b : List ℕ) (i : ℕ) (e : refusal_on b (deliver i) ≡ 0) where
  never : ◌≡◌ {A = ℕ} 10 0 → ⊥
  never x = omega arith

  v : valid_block b ≡ true
  v = accepted-valid b (deliver i) e

  -- its place is one of the messages
  pub accepted-place : i < at b header messages_at
  accepted-place =
      by-test (leb (at b header messages_at) i)
      (λ p. absurd (never (sym (past_end b i v (leb-true (at b header messages_at) i p)) ∙ e)))
      (λ p. leb-false (at b header messages_at) i p)

  -- the outcome, told from the block after it
  outcome-after : outcome_in (delivered_block b i) (message_in b i)
      ≡ outcome_of (tables_of b) (message_at (tables_of b) i)
  outcome-after =
      let a = (accepted-deliver capacities (tables_of b) i).0
      (sym (refusal-valid b (deliver i) v) ∙ e) in
      rw (message-read b i v accepted-place)
      (outcome-told (message_at (tables_of b) i) _ (encodes-deliver i (held b i v) a)
      a.valid.in_range (accepted-message capacities (tables_of b) i a) a.expected)

  -- what the code requires
  pub deliver-ready : (n p k w : ℕ) (m : Message) → n ≡ at b header messages_at
      → p ≡ at b header partitions_at → k ≡ at b header items_at
      → w ≡ at b header versions_at → m ≡ message_in b i
      → ((i < n) × (n ≤ most_messages) × (needed ≤ length b))
      × ((1 ≤ p) × (p ≤ 8) × (k ≤ 64) × (w ≤ most_versions) × Bounded m)
  deliver-ready n p k w m en ep ek ew em =
      let f = words b i v in
      let z = f.sizes in (
        (omega (arith, en, accepted-place), omega (arith, en, f.message_count), f.long),
        (
          omega (arith, ep, z.some_partition),
          omega (arith, ep, z.partitions),
          omega
              (arith, ek, z.items),
          omega (arith, ew, f.version_count),
          rw em
              (bounded-message b i v accepted-place),
        ),
      )

  pub deliver-given : (n p k w : ℕ) (x : Option Version) (m : Message) → n ≡ at b header messages_at
      → p ≡ at b header partitions_at → k ≡ at b header items_at
      → w ≡ at b header versions_at → m ≡ message_in b i → Ok x ≡ tested_in b (at b header versions_at) m
      → (after : List ℕ) (count kind outcome : ℕ)
      → after ≡ message_delivered (take_out b n i)
      (record { partitions = p; items = k; versions = w }) (unwrap_or x none) m
      → count ≡ at after header messages_at → kind ≡ kind_in b i → outcome ≡ outcome_in after m
      → (Delivered kind count outcome ≡ answer_on b (deliver i))
      × (after ≡ block_after b (deliver i))
  unfolding changed reply effect
  deliver-given n p k w x m en ep ek ew em ex after count kind outcome a c h o =
      let whole : after ≡ delivered_block b i =
      a ∙ delivered-block b n i (record { partitions = p; items = k; versions = w }) x m en
      (rw (ep, ek, ew) refl) em ex in (
        rw (
          h ∙ kind-read b i v accepted-place,
          count-given b
              (deliver i) e after whole count c,
          o ∙ (ap (λ (x : List ℕ). outcome_in x m) whole
              ∙ (ap (outcome_in (delivered_block b i)) em ∙ outcome-after)),
        )
            (sym (answer-accepted b (deliver i) e)),
        block-given b (deliver i) e after whole,
      )
