-- What the code reads of a message, kind by kind, is what the definitions say.
use mathlib.Core.Bool.{Bool, true, false, not, ◌&&◌, and-true}
use mathlib.Core.List.{List}
use mathlib.Core.Logic.{◌≢◌, ◌⊎◌, inl, inr}
use mathlib.Core.Path.{◌≡◌, refl, sym, ap, ◌∙◌, subst}
use Prim.Native.Nat.{ℕ, ◌%◌, ◌≤◌, ◌<◌, zero-le}
use lib.Dec.{eqb, leb}
use lib.ListN.{length}
use native.Mathlib.Omega.{arith}
use borrow.Author.Tests.{le-leb}
use Rattle.basics.specs.Lists.{all, every}
use Rattle.protocol.specs.declared.Version.{Version}
use Rattle.protocol.specs.declared.Entry.{Entry}
use Rattle.protocol.specs.declared.Message.{Message}
use Rattle.protocol.specs.declared.Message.TheVariants.{Prepare, Prepared, Commit, Get, Got}
use Rattle.protocol.specs.declared.Message.TheVariants.{FirstGet, FirstReply}
use Rattle.protocol.specs.Tables.{Tables, entry_of, is_first_part}
use Rattle.protocol.specs.Message.{kinds, parts_of, kind_of, item_of, owner_of}
use Rattle.protocol.specs.Range.{message_in_range}
use Rattle.protocol.specs.Steps.{stored}
use Rattle.protocol.specs.Check.{write_set, whole_or_initial, writes, agrees, is_counted, stored_value}
use Rattle.protocol.specs.Check.{fits_client}
use Rattle.protocol.proofs.Ranges.Values.{MessageInRange, tells-message, tells-stamp}
use Rattle.protocol.proofs.Ranges.Values.{initial-not, owner-in-range}
use Rattle.layout.specs.Layout.{most_messages, message_words, needed, header, at, clients_at}
use Rattle.layout.specs.Layout.{messages_at}
use Rattle.layout.specs.Decode.{client_in, kind_in, message_of, message_in, tables_of, valid_block}
use Rattle.layout.specs.Encodes.{word}
use Rattle.encoding.proofs.WellFormed.{tells-valid-block}
use Rattle.encoding.proofs.Folds.{all-table}
use Rattle.check_stamps.specs.Stamps.{stamps_end}
use Rattle.check_stamps.proofs.Block.{few-clients}
use Rattle.check_entries.specs.Entries.{Ranged}
use Rattle.check_entries.proofs.Good.{stamp-small, client-is}
use Rattle.check_stamps.specs.Parts.{good_ask, good_entry, good_message}
use Rattle.check_messages.proofs.Seen.{the-messages, message-in, few-messages, long}
use Rattle.check_messages.proofs.Seen.{kind-low, kind-high}

-- ---- in range

module _ (b : List ℕ) (v : valid_block b ≡ true) (m : Message)
    (r : message_in_range (tables_of b).sizes m ≡ true) where
  range : MessageInRange (tables_of b).sizes m
  range = (tells-message (tables_of b).sizes m).0 r

  pub item-few : item_of m < 64
  item-few = omega (arith, range.item, ((tells-valid-block b).0 v).valid.in_range.sizes.items)

  pub stamp-ranged : Ranged b (parts_of m).stamp
  stamp-ranged = (tells-stamp (tables_of b).sizes (parts_of m).stamp).1 range.stamp

  pub stamp-fits : (parts_of m).stamp < stamps_end
  stamp-fits = stamp-small b (parts_of m).stamp stamp-ranged

  pub latest-ranged : Ranged b (parts_of m).latest.stamp
  latest-ranged =
      (tells-stamp (tables_of b).sizes (parts_of m).latest.stamp).1 range.latest.stamp

  pub some-stamp : kind_of m < 4 → (parts_of m).stamp ≢ 0
  some-stamp l = initial-not (tables_of b).sizes (parts_of m).stamp (range.written l)

  pub owner-is : (1 ≤ owner_of m) × (owner_of m ≤ at b header clients_at)
  unfolding tables_of
  owner-is = owner-in-range (tables_of b).sizes m range

  pub owner-few : (1 ≤ owner_of m) × (owner_of m ≤ 8)
  owner-few = (owner-is.0, omega (arith, owner-is.1, few-clients b v))

  pub owner-read : (tables_of b).client (owner_of m) ≡ client_in b (owner_of m)
  owner-read = client-is b (owner_of m) owner-is.0 owner-is.1

-- ---- the same tests in another order, where those that a kind doesn't have are passed

pub asked_is : (first : Bool) (stamp asked : ℕ) {f : Bool} {a : ℕ} → f ≡ first → a ≡ asked
    → (not f && eqb stamp a) ≡ (not first && eqb stamp asked)
asked_is first stamp asked e h = rw (e, h) refl

prepare-order : (agree counts stamp set value held : Bool)
    → (agree && counts && stamp && set && value && not held)
    ≡ ((agree && true) && counts && (stamp && set && value && not held))
prepare-order true true stamp set value true = refl
prepare-order true true stamp set value false = refl
prepare-order true false stamp set value held = refl
prepare-order false counts stamp set value held = refl

-- what is counted of a stamp that is asked for, and of a version, is asked twice
ask-order : (asks counts fits : Bool) → ((asks && counts) && fits)
    ≡ ((((asks && counts) && true) && true) && counts && fits)
ask-order true true fits = refl
ask-order true false fits = refl
ask-order false counts fits = refl

got-order : (agree asks counts latest value fits : Bool)
    → ((agree && (asks && counts)) && latest && value && fits)
    ≡ (((((((agree && (asks && counts)) && latest && value) && true) && true) && true) && true)
    && counts && fits)
got-order true true true true true fits = refl
got-order true true true true false fits = refl
got-order true true true false value fits = refl
got-order true true false latest value fits = refl
got-order true false counts latest value fits = refl
got-order false asks counts latest value fits = refl

-- ---- what a got or first reply brings

module _ (b : List ℕ) (x : Version) (latest : Entry) where
  abbrev brings : Bool
  brings =
      good_entry (tables_of b) x.item (entry_of x) && good_entry (tables_of b) x.item latest
      && eqb x.value (stored_value (tables_of b) x.item x.stamp)

  pub brought-is : {entry other : Bool} {held : ℕ}
      → entry ≡ good_entry (tables_of b) x.item (entry_of x)
      → other ≡ good_entry (tables_of b) x.item latest
      → held ≡ stored_value (tables_of b) x.item x.stamp
      → (entry && other && eqb x.value held) ≡ brings
  brought-is e f h = rw (e, f, h) refl

  counted-once : (fits : Bool) → (brings && fits)
      ≡ ((((brings && true) && true) && true) && true && is_counted (tables_of b) x.stamp && fits)
  unfolding good_entry good_ask
  counted-once fits =
      let t = tables_of b in
      got-order (agrees t (entry_of x)) (writes t x.item x.stamp && whole_or_initial t x.stamp)
      (is_counted t x.stamp) (good_entry t x.item latest) _ fits

-- ---- kind by kind

module _ (b : List ℕ) (v : valid_block b ≡ true) where
  abbrev t : Tables
  t = tables_of b

  abbrev Inside : Message → Type 0
  Inside m = message_in_range t.sizes m ≡ true

  pub prepare-is : (x : Version) → Inside (Prepare x)
      → {own stamp s value : ℕ} {counts held : Bool}
      → own ≡ write_set t x.stamp → counts ≡ is_counted t x.stamp
      → stamp ≡ (client_in b (x.stamp % 16)).write.stamp
      → s ≡ (client_in b (x.stamp % 16)).write.set
      → value ≡ (client_in b (x.stamp % 16)).write.values x.item
      → held ≡ stored t.versions x.item x.stamp
      → (eqb x.set own && counts && eqb x.stamp stamp && eqb x.set s
      && eqb x.value value && not held) ≡ good_message t (Prepare x)
  unfolding good_message fits_client
  prepare-is x r o c p s u h =
      rw (o, c, p, s, u, h, owner-read b v (Prepare x) r)
      (prepare-order (agrees t (entry_of x)) _ _ _ _ (stored t.versions x.item x.stamp))

  pub prepared-is : (k stamp : ℕ) → Inside (Prepared k stamp)
      → {own : ℕ} {counts held : Bool} → held ≡ stored t.versions k stamp
      → counts ≡ is_counted t stamp → own ≡ (client_in b (stamp % 16)).write.stamp
      → (held && counts && eqb stamp own) ≡ good_message t (Prepared k stamp)
  unfolding good_message fits_client
  prepared-is k stamp r h c o = rw (h, c, o, owner-read b v (Prepared k stamp) r) refl

  pub commit-is : (p stamp : ℕ) {ok : Bool} → ok ≡ (whole_or_initial t stamp && is_counted t stamp)
      → ok ≡ good_message t (Commit p stamp)
  unfolding good_message fits_client
  commit-is p stamp e = rw e (sym (simp and-true))

  abbrev Asked : ℕ → ℕ → ℕ → Bool
  Asked d k stamp =
      not (is_first_part (client_in b d).read) && eqb stamp ((client_in b d).read.asked k)

  pub get-is : (d k stamp : ℕ) → Inside (Get d k stamp) → {good asked : Bool}
      → good ≡ good_ask t k stamp → asked ≡ Asked d k stamp
      → (good && asked) ≡ good_message t (Get d k stamp)
  unfolding good_message fits_client good_ask
  get-is d k stamp r g a =
      rw (g, a, owner-read b v (Get d k stamp) r)
      (ask-order (writes t k stamp && whole_or_initial t stamp) (is_counted t stamp) (Asked d k stamp))

  module _ (d : ℕ) (x : Version) (latest : Entry) {good fits : Bool} (g : good ≡ brings b x latest)
    where
      pub got-is : Inside (Got d x latest) → fits ≡ Asked d x.item x.stamp
          → (good && fits) ≡ good_message t (Got d x latest)
      unfolding good_message fits_client
      got-is r f = rw (g, f, owner-read b v (Got d x latest) r) (counted-once b x latest _)

      pub first-reply-is : Inside (FirstReply d x latest) → fits ≡ is_first_part (client_in b d).read
          → (good && fits) ≡ good_message t (FirstReply d x latest)
      unfolding good_message fits_client
      first-reply-is r f =
          rw (g, f, owner-read b v (FirstReply d x latest) r) (counted-once b x latest _)

  pub first-get-is : (d k : ℕ) → Inside (FirstGet d k) → {fits : Bool}
      → fits ≡ is_first_part (client_in b d).read → fits ≡ good_message t (FirstGet d k)
  unfolding good_message fits_client
  first-get-is d k r f =
      let low : leb 0 (t.client 0).count ≡ true = le-leb 0 (t.client 0).count zero-le in
      rw (f, low, owner-read b v (FirstGet d k) r) refl

-- ---- the kind read

module _ (b : List ℕ) (kind who : ℕ) (v : Version) (latest : Entry) where
  abbrev message : ℕ → Message
  message n = message_of n who v.item v.value v.stamp v.set latest

  pub of-kind : (n : ℕ) → kind ≡ n → message_in_range (tables_of b).sizes (message kind) ≡ true
      → message_in_range (tables_of b).sizes (message n) ≡ true
  of-kind n e r = subst (λ (j : ℕ). message_in_range (tables_of b).sizes (message j) ≡ true) e r

  -- a got or first reply
  pub of-reply : valid_block b ≡ true → (kind ≡ 5) ⊎ (kind ≡ 7)
      → message_in_range (tables_of b).sizes (message kind) ≡ true
      → (v.item < 64) × Ranged b v.stamp × Ranged b latest.stamp
  unfolding message_of
  of-reply w (inl e) r =
      let m = Got who v latest in
      let s = of-kind 5 e r in
      (item-few b w m s, stamp-ranged b w m s, latest-ranged b w m s)
  of-reply w (inr e) r =
      let m = FirstReply who v latest in
      let s = of-kind 7 e r in
      (item-few b w m s, stamp-ranged b w m s, latest-ranged b w m s)

  pub test-kind : (n : ℕ) {r : Bool} → kind ≡ n → r ≡ good_message (tables_of b) (message n)
      → r ≡ good_message (tables_of b) (message kind)
  test-kind n e r = r ∙ ap (λ (j : ℕ). good_message (tables_of b) (message j)) (sym e)

-- ---- read off the block

module _ (b : List ℕ) (v : valid_block b ≡ true) (i : ℕ) (l : i < at b header messages_at) where
  pub word-ready : (f : ℕ) → f < message_words
      → (i < most_messages) × (f < message_words) × (needed ≤ length b)
  word-ready f w = (omega (arith, few-messages b v), w, long b v)

  pub kind-read : {kind : ℕ} → kind ≡ kind_in b i → (1 ≤ kind) × (kind ≤ kinds)
  kind-read e = (omega (arith, e, kind-low b v i l), omega (arith, e, kind-high b v i l))

module _ (b : List ℕ) (i : ℕ) {kind who : ℕ} {v : Version} {e : Entry} (p₀ : kind ≡ word b i 0)
    (p₁ : who ≡ word b i 1) (p₂ : v.item ≡ word b i 2) (p₃ : v.value ≡ word b i 3)
    (p₄ : v.stamp ≡ word b i 4) (p₅ : v.set ≡ word b i 5) (p₆ : e.stamp ≡ word b i 6)
    (p₇ : e.set ≡ word b i 7) where
  pub message-read : message_of kind who v.item v.value v.stamp v.set e ≡ message_in b i
  unfolding message_in
  message-read =
      let entry : e ≡ record { stamp = word b i 6; set = word b i 7 } =
      λ j. record { stamp = p₆ j; set = p₇ j } in
      rw (p₀, p₁, p₂, p₃, p₄, p₅, entry)

  pub message-tested : {r : Bool}
      → r ≡ good_message (tables_of b) (message_of kind who v.item v.value v.stamp v.set e)
      → r ≡ good_message (tables_of b) (message_in b i)
  message-tested h = h ∙ ap (good_message (tables_of b)) message-read

module _ (b : List ℕ) (v : valid_block b ≡ true) where
  pub message-inside : (i : ℕ) → i < at b header messages_at → {m : Message} → m ≡ message_in b i
      → message_in_range (tables_of b).sizes m ≡ true
  message-inside i l e =
      (tells-message (tables_of b).sizes _).1
      (subst (MessageInRange (tables_of b).sizes) (sym e)
      (((tells-valid-block b).0 v).valid.in_range.messages (message_in b i) (message-in b v i l)))

  pub messages-all : every (at b header messages_at) (λ i. good_message (tables_of b) (message_in b i))
      ≡ all (good_message (tables_of b)) (tables_of b).messages
  messages-all =
      sym (all-table (good_message (tables_of b)) (at b header messages_at) (message_in b))
      ∙ ap (all (good_message (tables_of b))) (sym (the-messages b v))
