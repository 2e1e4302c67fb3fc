-- What the calls' code has done, step by step, is what the calls are to give; and what its parts
-- require.
use mathlib.Core.Bool.{Bool, true, false, cond, ◌&&◌}
use mathlib.Core.List.{List, ◌++◌}
use mathlib.Core.Logic.{◌≢◌}
use mathlib.Core.Path.{◌≡◌, refl, sym, ap, ◌∙◌}
use Prim.Native.Nat.{ℕ, zero, suc, ◌*◌, ◌^◌, ◌≤◌, ◌<◌}
use native.Mathlib.Omega.{arith}
use lib.ListN.{length, drop}
use Rattle.basics.proofs.Cases.{between, and_left, and_right}
use Rattle.itemset.specs.Set.{count}
use Rattle.protocol.specs.declared.Answer.TheVariants.{Refused, Started, Shown, Cleared}
use Rattle.protocol.specs.declared.Answer.TheVariants.{HandedOver, Compared, Checked}
use Rattle.protocol.specs.Tables.{Sizes, Tables}
use Rattle.protocol.specs.Range.{capacities, is_client, load, occupied}
use Rattle.protocol.specs.Clear.{gone}
use Rattle.protocol.specs.HandOver.{standing}
use Rattle.protocol.specs.Calls.{Call, start_read, start_write, start_mixed, show, clear, hand_over}
use Rattle.protocol.specs.Calls.{compare, check}
use Rattle.protocol.specs.Calls.{effect, reply, written, lent, pick, shown_frame, refusal, first}
use Rattle.protocol.proofs.Ranges.Tables.{Valid, valid-facts}
use Rattle.protocol.proofs.Refusals.{AcceptedStart, accepted-read, accepted-fast-read}
use Rattle.protocol.proofs.Refusals.{accepted-write, accepted-mixed, accepted-show}
use Rattle.protocol.proofs.Refusals.{accepted-hand-over, accepted-compare}
use Rattle.layout.specs.Layout.{most_versions, most_messages, header, at, clients_at, items_at}
use Rattle.layout.specs.Layout.{messages_at, needed}
use Rattle.layout.specs.Decode.{sizes_in, tables_of, valid_block}
use Rattle.start.specs.Start.{greatest_on, write_started, mixed_started}
use Rattle.start.proofs.Ready.{ReadyWrite, ready-start, ready-write}
use Rattle.show.specs.Show.{frame_in}
use Rattle.show.proofs.LogFrames.{shown_frame-tables_of}
use Rattle.clear.specs.Clear.{cleared_block}
use Rattle.hand_over.specs.HandOver.{handed_over_block}
use Rattle.encoding.proofs.WellFormed.{client-test, tells-valid-block}
use Rattle.block_calls.specs.Calls.{refusal_on, answer_on, output_on, tables_after, changed}
use Rattle.block_calls.specs.Calls.{block_after, read_call, read_changed}
use Rattle.block_calls.proofs.Accepted.{valid-tables, accepted-holds, accepted-tables}
use Rattle.block_calls.proofs.Accepted.{answer-accepted, output-accepted, block-accepted}
use Rattle.block_calls.proofs.Accepted.{count-accepted, answer-refused, output-refused}
use Rattle.block_calls.proofs.Accepted.{block_refused, tables_after_lem, accepted-valid}
use Rattle.block_calls.proofs.Accepted.{refusal-valid}
use Rattle.block_calls.proofs.Tested.{sizes-read}

-- ---- tests, one behind the other

pub chain : (a a' : Bool) (n m m' r : ℕ) → r ≡ cond a n m → a ≡ a' → m ≡ m' → r ≡ cond a' n m'
chain a a' n m m' r e x y = e ∙ rw (x, y) refl

-- ---- refused

module _ (b : List ℕ) (c : Call) where
  pub tables-given : (after : List ℕ) → after ≡ block_after b c → tables_of after ≡ tables_after b c
  tables-given after e = ap tables_of e ∙ tables_after_lem b c

  pub refused-given : (r : ℕ) → r ≡ refusal_on b c → r ≢ 0 → (Refused r ≡ answer_on b c)
      × (b ≡ block_after b c)
  refused-given zero e some = absurd (some refl)
  refused-given (suc r) e some = (
    sym (answer-refused b c r (sym e)),
    sym
        (block_refused b c r (sym e)),
  )

  pub refused-shown : (r : ℕ) → r ≡ refusal_on b c → r ≢ 0 → (Refused r ≡ answer_on b c)
      × (lent c ≡ output_on b c)
  refused-shown zero e some = absurd (some refl)
  refused-shown (suc r) e some = (
    sym (answer-refused b c r (sym e)),
    sym
        (output-refused b c r (sym e)),
  )

-- ---- starts

module _ (b : List ℕ) (c : Call) (e : refusal_on b c ≡ 0) (after : List ℕ)
    (a : after ≡ changed b c) where
  pub block-given : after ≡ block_after b c
  block-given = a ∙ sym (block-accepted b c e)

  pub count-given : (n : ℕ) → n ≡ at after header messages_at
      → n ≡ length (effect (tables_of b) c).messages
  count-given n m = m ∙ (ap (λ (l : List ℕ). at l header messages_at) a ∙ count-accepted b c e)

-- a fast read is tested as a read, and begins as one

pub read-refusal : (b : List ℕ) (fast : Bool) (d s : ℕ)
    → refusal_on b (start_read d s) ≡ refusal_on b (read_call fast d s)
unfolding refusal_on refusal
read-refusal b true d s = refl
read-refusal b false d s = refl

accepted-reading : (t : Tables) (fast : Bool) (d s : ℕ)
    → refusal capacities t (read_call fast d s) ≡ 0 → AcceptedStart capacities t d s
accepted-reading t true d s = (accepted-fast-read capacities t d s).0
accepted-reading t false d s = (accepted-read capacities t d s).0

read-changed : (b : List ℕ) (fast : Bool) (d s : ℕ)
    → read_changed fast b d s ≡ changed b (read_call fast d s)
unfolding changed
read-changed b true d s = refl
read-changed b false d s = refl

read-reply : (t : Tables) (fast : Bool) (d s : ℕ)
    → Started (length (effect t (read_call fast d s)).messages) ≡ reply t (read_call fast d s)
unfolding reply effect
read-reply t true d s = refl
read-reply t false d s = refl

module _ (b : List ℕ) (fast : Bool) (d s : ℕ) (e : refusal_on b (read_call fast d s) ≡ 0) where
  abbrev call : Call
  call = read_call fast d s

  pub read-ready : (items : ℕ) → items ≡ at b header items_at
      → (1 ≤ d) × (d ≤ 8) × (items ≤ 64) × (items ≡ at b header items_at) × (needed ≤ length b)
  read-ready items i =
      let r =
      ready-start b (tables_of b) d s (accepted-holds b call e).encodes
      (accepted-reading (tables_of b) fast d s (accepted-tables b call e)) in (
        r.first,
        r.last,
        omega (arith, r.items),
        i,
        ((tells-valid-block b).0 (accepted-valid b call e)).well_formed.long,
      )

  pub read-given : (after : List ℕ) (n : ℕ) → after ≡ read_changed fast b d s
      → n ≡ at after header messages_at
      → (Started n ≡ answer_on b (read_call fast d s)) × (after ≡ block_after b (read_call fast d s))
  read-given after n a m =
      let whole = a ∙ read-changed b fast d s in (
        ap Started (count-given b call e after whole n m)
            ∙ read-reply (tables_of b) fast d s
            ∙ sym (answer-accepted b call e),
        block-given b call e after whole,
      )

-- what the code of a start that writes requires, with as many items as the block has
abbrev WriteReady : List ℕ → ℕ → ℕ → List ℕ → ℕ → Type 0
WriteReady b d s bytes items =
    (1 ≤ d) × (d ≤ 8) × (items ≤ 64) × (items ≡ at b header items_at)
    × (greatest_on b d items < 2 ^ 32) × (needed ≤ length b) × (4 * count s ≤ length bytes)

ready-items : {b : List ℕ} {d s items : ℕ} {bytes : List ℕ} → ReadyWrite b d s bytes
    → items ≡ at b header items_at → WriteReady b d s bytes items
ready-items w i = (
  w.start.first,
  w.start.last,
  omega (arith, w.start.items),
  i,
  rw i w.number_fits,
  w.long,
  w.values,
)

module _ (b : List ℕ) (d s : ℕ) (bytes : List ℕ) (e : refusal_on b (start_write d s bytes) ≡ 0) where
  pub write-ready : (items : ℕ) → items ≡ at b header items_at → WriteReady b d s bytes items
  write-ready items i =
      ready-items
      (ready-write b (tables_of b) d s bytes (accepted-holds b (start_write d s bytes) e).encodes
      ((accepted-write capacities (tables_of b) d s
      bytes).0 (accepted-tables b (start_write d s bytes) e))) i

  pub write-given : (after : List ℕ) (n : ℕ) → after ≡ write_started b d s bytes
      → n ≡ at after header messages_at
      → (Started n ≡ answer_on b (start_write d s bytes))
      × (after ≡ block_after b (start_write d s bytes))
  unfolding changed reply effect
  write-given after n a m = (
    ap Started (count-given b (start_write d s bytes) e after a n m)
        ∙ sym (answer-accepted b (start_write d s bytes) e),
    block-given b
        (start_write d s bytes) e after a,
  )

module _ (b : List ℕ) (d r s : ℕ) (bytes : List ℕ)
    (e : refusal_on b (start_mixed d r s bytes) ≡ 0) where
  pub mixed-ready : (items : ℕ) → items ≡ at b header items_at → WriteReady b d s bytes items
  mixed-ready items i =
      ready-items
      (ready-write b (tables_of b) d s bytes (accepted-holds b (start_mixed d r s bytes) e).encodes
      ((accepted-mixed capacities (tables_of b) d r s
      bytes).0 (accepted-tables b (start_mixed d r s bytes) e)).write) i

  pub mixed-given : (after : List ℕ) (n : ℕ) → after ≡ mixed_started b d r s bytes
      → n ≡ at after header messages_at
      → (Started n ≡ answer_on b (start_mixed d r s bytes))
      × (after ≡ block_after b (start_mixed d r s bytes))
  unfolding changed reply effect
  mixed-given after n a m = (
    ap Started (count-given b (start_mixed d r s bytes) e after a n m)
        ∙ sym (answer-accepted b (start_mixed d r s bytes) e),
    block-given b (start_mixed d r s bytes) e after a,
  )

-- ---- a valid block's clients, views, load and versions

module _ (b : List ℕ) (v : valid_block b ≡ true) where
  facts : Valid capacities (tables_of b)
  facts = valid-facts capacities (tables_of b) (valid-tables b v)

  pub has_words : (d : ℕ) → is_client (sizes_in b) d ≡ true → (1 ≤ d) × (d ≤ 8)
  has_words d c =
      let p = between 1 (sizes_in b).clients d c in (
        p.0,
        omega (
          arith,
          p.1,
          facts.in_range.sizes.clients,
          ap (λ (z : Sizes). z.clients)
              (sizes-read b),
        ),
      )

  pub both_words : (d e : ℕ) → (is_client (sizes_in b) d && is_client (sizes_in b) e) ≡ true
      → (1 ≤ d) × (d ≤ 8) × (1 ≤ e) × (e ≤ 8)
  both_words d e c =
      let p = has_words d (and_left (is_client (sizes_in b) d) _ c) in
      let q = has_words e (and_right (is_client (sizes_in b) d) _ c) in
      (p.0, p.1, q.0, q.1)

  pub view-words : (d : ℕ) → is_client (sizes_in b) d ≡ true → (items : ℕ)
      → items ≡ at b header items_at → (1 ≤ d) × (d ≤ 8) × (items ≤ 64) × (needed ≤ length b)
  view-words d c items i =
      let w = ((tells-valid-block b).0 v).well_formed in
      let p = has_words d c in
      (p.0, p.1, omega (arith, i, w.sizes.items), w.long)

  pub load-few : (n : ℕ) → n ≡ load (tables_of b) → n ≤ most_messages
  load-few n e = omega (arith, e, facts.load)

  pub occupied-few : (n : ℕ) → n ≡ occupied (tables_of b) → n ≤ most_versions
  occupied-few n e = omega (arith, e, facts.occupied)

-- ---- calls that change no word

kept : (b : List ℕ) (r : ℕ) → b ≡ pick r b b
kept b zero = refl
kept b (suc r) = refl

pub show-keeps : (b : List ℕ) (d : ℕ) (out : List ℕ) → b ≡ block_after b (show d out)
unfolding block_after changed
show-keeps b d out = kept b (refusal_on b (show d out))

pub compare-keeps : (b : List ℕ) (d e : ℕ) → b ≡ block_after b (compare d e)
unfolding block_after changed
compare-keeps b d e = kept b (refusal_on b (compare d e))

pub check-keeps : (b : List ℕ) → b ≡ block_after b check
unfolding block_after changed
check-keeps b = kept b (refusal_on b check)

-- ---- showings

module _ (b : List ℕ) (d : ℕ) (out : List ℕ) (e : refusal_on b (show d out) ≡ 0) where
  shown-frame : shown_frame (tables_of b) d ≡ frame_in b d
  unfolding tables_of
  shown-frame =
      shown_frame-tables_of b d
      (client-test (sizes_in b) d ((accepted-show capacities
      (tables_of b) d out).0 (accepted-tables b (show d out) e)).client)

  written-frame : (after : List ℕ) → after ≡ frame_in b d ++ drop (length (frame_in b d)) out
      → after ≡ written (tables_of b) (show d out)
  unfolding written
  written-frame after a = a ∙ ap (λ (l : List ℕ). l ++ drop (length l) out) (sym shown-frame)

  pub show-ready : (1 ≤ d) × (d ≤ 8) × (length (frame_in b d) ≤ length out)
  show-ready =
      let a = (accepted-show capacities (tables_of b) d out).0 (accepted-tables b (show d out) e) in
      let sizes = a.valid.in_range.sizes.clients in (
        a.client.0,
        omega (arith, a.client.1, sizes),
        omega
            (arith, a.room, ap length shown-frame),
      )

  pub show-given : (after : List ℕ) (n : ℕ) → after ≡ frame_in b d ++ drop (length (frame_in b d)) out
      → n ≡ length (frame_in b d)
      → (Shown n ≡ answer_on b (show d out)) × (after ≡ output_on b (show d out))
  unfolding reply
  show-given after n a m = (
    ap Shown (m ∙ ap length (sym shown-frame))
        ∙ sym (answer-accepted b (show d out) e),
    written-frame after a
        ∙ sym (output-accepted b (show d out) e),
  )

-- ---- clearings

-- a valid block is cleared
pub clear-accepted : (b : List ℕ) → valid_block b ≡ true → refusal_on b clear ≡ 0
unfolding refusal first
clear-accepted b v = refusal-valid b clear v ∙ rw (valid-tables b v) refl

pub clear-given : (b after : List ℕ) (n : ℕ) → refusal_on b clear ≡ 0 → n ≡ gone (tables_of b)
    → after ≡ cleared_block b
    → (Cleared n ≡ answer_on b clear) × (after ≡ block_after b clear)
unfolding reply changed
clear-given b after n e m a = (
  ap Cleared m ∙ sym (answer-accepted b clear e),
  block-given b clear e after a,
)

-- ---- hand-overs and comparisons

module _ (b : List ℕ) (d e : ℕ) where
  pub hand-over-ready : refusal_on b (hand_over d e) ≡ 0 → (items : ℕ) → items ≡ at b header items_at
      → (1 ≤ d) × (d ≤ 8) × (1 ≤ e) × (e ≤ 8) × (items ≤ 64)
  hand-over-ready z items i =
      let a = (accepted-hand-over capacities (tables_of b) d e).0
      (accepted-tables b (hand_over d e) z) in
      let sizes = a.valid.in_range.sizes in (
        a.giver.0,
        omega (arith, a.giver.1, sizes.clients),
        a.receiver.0,
        omega (arith, a.receiver.1, sizes.clients),
        omega (arith, i, sizes.items, ap (λ (n : Sizes). n.items) (sizes-read b)),
      )

  pub hand-over-given : refusal_on b (hand_over d e) ≡ 0 → (after : List ℕ) (items : ℕ)
      → items ≡ at b header items_at → after ≡ handed_over_block b d e items
      → (HandedOver d e ≡ answer_on b (hand_over d e)) × (after ≡ block_after b (hand_over d e))
  unfolding reply changed
  hand-over-given z after items i a = (
    sym (answer-accepted b (hand_over d e) z),
    block-given b (hand_over d e) z after (a ∙ ap (handed_over_block b d e) i),
  )

  pub compare-ready : refusal_on b (compare d e) ≡ 0 → (items : ℕ) → items ≡ at b header items_at
      → (1 ≤ d) × (d ≤ at b header clients_at) × (1 ≤ e) × (e ≤ at b header clients_at)
      × (at b header clients_at ≤ 8) × (items ≤ 64) × (items ≡ at b header items_at)
      × (needed ≤ length b)
  compare-ready z items i =
      let a = (accepted-compare capacities (tables_of b) d e).0
      (accepted-tables b (compare d e) z) in
      let words = ((tells-valid-block b).0 (accepted-valid b (compare d e) z)).well_formed in
      let same = ap (λ (n : Sizes). n.clients) (sizes-read b) in (
        a.one.0,
        omega (arith, a.one.1, same),
        a.other.0,
        omega (arith, a.other.1, same),
        words.sizes.clients,
        omega (arith, i, words.sizes.items),
        i,
        words.long,
      )

  pub compare-given : refusal_on b (compare d e) ≡ 0 → (n : ℕ) → n ≡ standing (tables_of b) d e
      → Compared n ≡ answer_on b (compare d e)
  unfolding reply
  compare-given z n m = ap Compared m ∙ sym (answer-accepted b (compare d e) z)

-- ---- checks

pub check-given : (b : List ℕ) → refusal_on b check ≡ 0 → Checked ≡ answer_on b check
unfolding reply
check-given b e = sym (answer-accepted b check e)
