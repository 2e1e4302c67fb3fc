-- The tests of those words of a message that its kind uses are the protocol's test of the message
-- that they are.
use mathlib.Core.Bool.{Bool, true, false, not, ◌&&◌, ◌||◌}
use mathlib.Core.List.{List}
use mathlib.Core.Logic.{◌≢◌}
use mathlib.Core.Path.{◌≡◌, refl, sym, ap, ◌∙◌}
use Prim.Native.Nat.{ℕ, ◌^◌, ◌≤◌, ◌<◌}
use native.Mathlib.Omega.{arith}
use lib.Dec.{eqb, ltb, leb}
use lib.Pow.{pow_pos}
use borrow.Author.Tests.{le-leb, lt-leb, lt-ltb, eqb-true, eqb-false}
use Rattle.basics.proofs.Cases.{by-test, test-ext}
use Rattle.itemset.specs.Set.{has, all_below}
use Rattle.protocol.proofs.Tells.{tells-and}
use Rattle.protocol.specs.Message.{kinds}
use Rattle.protocol.specs.Range.{not_initial, stamp_in_range, entry_in_range, message_in_range}
use Rattle.layout.specs.Decode.{message_of, message_in}
use Rattle.gather.specs.Sized.{sized}
use Rattle.gather.specs.Words.{owned, owns_test}
use Rattle.gather.proofs.Parts.{later-parts}
use Rattle.gather.proofs.OwnedStamps.{own-word}
use Rattle.range_message.specs.declared.Words.{Words}
use Rattle.range_message.specs.Messages.{words_in, words_test, message_test}

-- ---- the same tests in another order, where those of parts that a kind doesn't have are passed

version-order : (item value stamp later below own : Bool)
    → ((item && own) && value && (stamp && later) && below)
    ≡ (item && value && stamp && below && true && later && own)
version-order item value stamp later below own =
    test-ext _ _ (λ e. let f = simp tells-and at e in simp tells-and search)
    (λ e. let f = simp tells-and at e in simp tells-and search)

got-order : (client item value stamp below latest : Bool)
    → (client && item && value && (stamp && below) && latest)
    ≡ (client && item && value && stamp && below && latest && true && true)
got-order client item value stamp below latest =
    test-ext _ _ (λ e. let f = simp tells-and at e in simp tells-and search)
    (λ e. let f = simp tells-and at e in simp tells-and search)

passed : (a : Bool) → (a && true) ≡ a
passed true = refl
passed false = refl

grouped : (a b c : Bool) → (a && (b && c)) ≡ (a && b && c)
grouped true b c = refl
grouped false b c = refl

-- the word of a stamp that is not to be initial
pub owned-word : (c stamp : ℕ) {own : ℕ} → c ≤ 8 → stamp < 2 ^ 64 → own ≡ owned c stamp
    → owns_test own ≡ (stamp_in_range (sized c 0) stamp && not_initial stamp)
owned-word c stamp m l e = ap owns_test e ∙ own-word c stamp m l ∙ sym (later-parts c 0 stamp)

module _ (clients partitions items : ℕ) (some : 1 ≤ partitions) (one : 1 ≤ items) where
  partition-0 : ltb 0 partitions ≡ true
  partition-0 = lt-ltb 0 partitions some

  item-0 : ltb 0 items ≡ true
  item-0 = lt-ltb 0 items one

  empty-below : ltb 0 (2 ^ items) ≡ true
  empty-below = lt-ltb 0 (2 ^ items) (pow_pos items)

  -- from the outcomes of the tests that its kind asks for
  module _ (m : Words) where
    abbrev whole : Bool
    whole = words_test m clients partitions items

    abbrev stamp-passes : Bool
    stamp-passes = stamp_in_range (sized clients 0) m.stamp

    abbrev later-passes : Bool
    later-passes = stamp-passes && not_initial m.stamp

    abbrev client-passes : Bool
    client-passes = leb 1 m.who && leb m.who clients

    pub prepare-tests : {later own : Bool} → later ≡ later-passes → own ≡ has m.set m.item
        → m.kind ≡ 1
        → ((ltb m.item items && own) && ltb m.value (2 ^ 32) && later && ltb m.set (2 ^ items))
        ≡ whole
    unfolding message_of message_in_range entry_in_range stamp_in_range
    prepare-tests p o q = rw (p, o, q, partition-0, empty-below)
        (version-order (ltb m.item items) (ltb m.value (2 ^ 32)) _ (not (eqb m.stamp 0))
        (ltb m.set (2 ^ items)) (has m.set m.item))

    pub prepared-tests : {later : Bool} → later ≡ later-passes → m.kind ≡ 2
        → (ltb m.item items && later) ≡ whole
    unfolding message_of message_in_range entry_in_range stamp_in_range
    prepared-tests p q =
        ap (λ (x : Bool). ltb m.item items && x) p
        ∙ grouped (ltb m.item items) stamp-passes (not_initial m.stamp)
        ∙ rw (q, partition-0, empty-below) (simp passed)

    pub commit-tests : {later : Bool} → later ≡ later-passes → m.kind ≡ 3
        → (ltb m.who partitions && later) ≡ whole
    unfolding message_of message_in_range entry_in_range stamp_in_range
    commit-tests p q =
        ap (λ (x : Bool). ltb m.who partitions && x) p
        ∙ grouped (ltb m.who partitions) stamp-passes (not_initial m.stamp)
        ∙ rw (q, item-0, empty-below) (simp passed)

    pub no-kind-tests : m.kind ≡ 0 → false ≡ whole
    no-kind-tests q = rw q

    pub get_tests : {stamped : Bool} → stamped ≡ stamp-passes → m.kind ≡ 4
        → (client-passes && ltb m.item items && stamped) ≡ whole
    unfolding message_of message_in_range entry_in_range stamp_in_range
    get_tests p q = rw (p, q, empty-below) (simp passed)

    pub first-get-tests : m.kind ≡ 6 → (client-passes && ltb m.item items) ≡ whole
    unfolding message_of message_in_range entry_in_range stamp_in_range
    first-get-tests q = rw (q, empty-below) (simp passed)

    pub got-tests : {version entry : Bool} → version ≡ stamp-passes
        → entry ≡ stamp_in_range (sized clients 0) m.latest.stamp → 5 ≤ m.kind → m.kind ≢ 6
        → (((eqb m.kind 5 || eqb m.kind 7) && client-passes && ltb m.item items)
        && ltb m.value (2 ^ 32) && (version && all_below m.set items)
        && (entry && all_below m.latest.set items)) ≡ whole
    unfolding message_of message_in_range entry_in_range stamp_in_range
    got-tests p q l n =
        let order = got-order client-passes (ltb m.item items) (ltb m.value (2 ^ 32)) _
        (ltb m.set (2 ^ items)) _ in
        by-test (eqb m.kind 5) (λ f. rw (eqb-true m.kind 5 f, p, q) order)
        (λ f. by-test (eqb m.kind 7) (λ g. rw (eqb-true m.kind 7 g, p, q) order)
        (λ g.
        let past : kinds < m.kind = omega (arith, n, eqb-false m.kind 5 f, eqb-false m.kind 7 g) in
        rw (f, g, le-leb 1 m.kind (omega arith), lt-leb m.kind kinds past) refl))

  -- read off the block
  pub message-read : (b : List ℕ) (i : ℕ)
      → words_test (words_in b i) clients partitions items
      ≡ message_test b i clients partitions items
  unfolding message_in
  message-read b i = refl
