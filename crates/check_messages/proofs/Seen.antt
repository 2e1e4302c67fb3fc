-- A message's part by its kind, and the items met by a loop over the messages.
use mathlib.Core.Bool.{Bool, true, false, cond, not, ◌&&◌}
use mathlib.Core.List.{List, [], ◌∷◌, ◌++◌}
use mathlib.Core.Path.{◌≡◌, refl, sym, ap, ◌∙◌, subst}
use Prim.Native.Nat.{ℕ, zero, suc, ◌+◌, ◌%◌, ◌^◌, ◌≤◌, ◌<◌, min}
use lib.Dec.{eqb, leb}
use native.Mathlib.Numerals.{add-one}
use native.Mathlib.Omega.{arith}
use Rattle.basics.proofs.Cases.{by-test, not-both}
use lib.ListN.{length}
use Rattle.basics.specs.Lists.{In, table}
use Rattle.basics.proofs.Lists.{in_table}
use Rattle.itemset.specs.Set.{has, insert64}
use Rattle.itemset.proofs.Laws.{insert64-lt}
use Rattle.protocol.specs.declared.Entry.{Entry}
use Rattle.protocol.specs.declared.Message.{Message}
use Rattle.protocol.specs.Tables.{Side, awaited_of}
use Rattle.protocol.specs.Message.{item_of}
use Rattle.protocol.specs.Check.{one_each}
use Rattle.protocol.proofs.CheckWords.{is_of, items_for, once, items-for-append, once-append}
use Rattle.protocol.proofs.CheckWords.{one-items}
use Rattle.layout.specs.Layout.{most_messages, needed, header, at, clients_at, messages_at}
use Rattle.layout.specs.Decode.{message_of, message_in, kind_in, tables_of, valid_block}
use Rattle.layout.specs.Encodes.{word}
use Rattle.encoding.proofs.WellFormed.{ValidBlock, tells-valid-block}
use Rattle.check_messages.specs.Sides.{side_if}

side-kind : (kind who k v stamp s : ℕ) (e : Entry) (write : Bool) (d : ℕ) → 1 ≤ kind → kind ≤ 7
    → cond write (leb kind 2 && eqb (stamp % 16) d) (leb 4 kind && eqb who d)
    ≡ is_of (side_if write) d (message_of kind who k v stamp s e)
unfolding message_of
side-kind zero who k v stamp s e w d l m = absurd (omega arith)
side-kind (suc zero) who k v stamp s e true d l m = refl
side-kind (suc zero) who k v stamp s e false d l m = refl
side-kind (suc (suc zero)) who k v stamp s e true d l m = refl
side-kind (suc (suc zero)) who k v stamp s e false d l m = refl
side-kind (suc (suc (suc zero))) who k v stamp s e true d l m = refl
side-kind (suc (suc (suc zero))) who k v stamp s e false d l m = refl
side-kind (suc (suc (suc (suc zero)))) who k v stamp s e true d l m = refl
side-kind (suc (suc (suc (suc zero)))) who k v stamp s e false d l m = refl
side-kind (suc (suc (suc (suc (suc zero))))) who k v stamp s e true d l m = refl
side-kind (suc (suc (suc (suc (suc zero))))) who k v stamp s e false d l m = refl
side-kind (suc (suc (suc (suc (suc (suc zero)))))) who k v stamp s e true d l m = refl
side-kind (suc (suc (suc (suc (suc (suc zero)))))) who k v stamp s e false d l m = refl
side-kind (suc (suc (suc (suc (suc (suc (suc zero))))))) who k v stamp s e true d l m = refl
side-kind (suc (suc (suc (suc (suc (suc (suc zero))))))) who k v stamp s e false d l m = refl
side-kind (suc (suc (suc (suc (suc (suc (suc (suc n)))))))) who k v stamp s e w d l m =
    absurd (omega arith)

item-kind : (kind who k v stamp s : ℕ) (e : Entry) (write : Bool) (d : ℕ) → 1 ≤ kind
    → is_of (side_if write) d (message_of kind who k v stamp s e) ≡ true
    → k ≡ item_of (message_of kind who k v stamp s e)
unfolding message_of
item-kind zero who k v stamp s e w d l h = absurd (omega arith)
item-kind (suc zero) who k v stamp s e w d l h = refl
item-kind (suc (suc zero)) who k v stamp s e w d l h = refl
item-kind (suc (suc (suc zero))) who k v stamp s e true d l h = not-both h refl
item-kind (suc (suc (suc zero))) who k v stamp s e false d l h = not-both h refl
item-kind (suc (suc (suc (suc zero)))) who k v stamp s e w d l h = refl
item-kind (suc (suc (suc (suc (suc zero))))) who k v stamp s e w d l h = refl
item-kind (suc (suc (suc (suc (suc (suc zero)))))) who k v stamp s e w d l h = refl
item-kind (suc (suc (suc (suc (suc (suc (suc n))))))) who k v stamp s e w d l h = refl

module _ (b : List ℕ) (i : ℕ) (write : Bool) (d : ℕ) (low : 1 ≤ kind_in b i) where
  pub of-side : {r : Bool} {kind who stamp : ℕ} → kind_in b i ≤ 7
      → r ≡ cond write (leb kind 2 && eqb (stamp % 16) d) (leb 4 kind && eqb who d)
      → kind ≡ kind_in b i → who ≡ word b i 1 → stamp ≡ word b i 4
      → r ≡ is_of (side_if write) d (message_in b i)
  unfolding message_in
  of-side high r k w s =
      r ∙ rw (k, w, s) (side-kind (kind_in b i) (word b i 1) (word b i 2) (word b i 3) (word b i 4)
      (word b i 5) (record { stamp = word b i 6; set = word b i 7 }) write d low high)

  pub own-item : is_of (side_if write) d (message_in b i) ≡ true → word b i 2 ≡ item_of (message_in b i)
  unfolding message_in
  own-item h =
      item-kind (kind_in b i) (word b i 1) (word b i 2) (word b i 3) (word b i 4)
      (word b i 5) (record { stamp = word b i 6; set = word b i 7 }) write d low h

-- ---- the loop

pub record Met (b : List ℕ) (σ : Side) (d n i : ℕ) (ok : Bool) (seen : ℕ) : Type 0 where
  pub within : i ≤ n
  pub once_so : ok ≡ once σ d (table i (message_in b))
  pub items : seen ≡ items_for σ d (table i (message_in b))

pub met-none : (b : List ℕ) (σ : Side) (d n : ℕ) → Met b σ d n 0 true 0
unfolding once items_for table
met-none b σ d n = record { within = omega arith; once_so = refl; items = refl }

module _ (b : List ℕ) (write : Bool) (d n i : ℕ) {ok own h : Bool} {seen item after : ℕ}
    (m : Met b (side_if write) d n i ok seen) (l : i < n) (low : 1 ≤ kind_in b i)
    (own_is : own ≡ is_of (side_if write) d (message_in b i)) (item-is : item ≡ word b i 2)
    (small : own ≡ true → item < 64)
    (h-is : h ≡ has seen item) (after_is : after ≡ cond own (insert64 seen item) seen) where
  abbrev σ : Side
  σ = side_if write

  abbrev ms : List Message
  ms = table i (message_in b)

  item-own : own ≡ true → item ≡ item_of (message_in b i)
  item-own e = item-is ∙ own-item b i write d low (sym own_is ∙ e)

  once-step : (ok && not (own && h)) ≡ once σ d (ms ++ message_in b i ∷ [])
  once-step =
      by-test own
      (λ e. rw (m.once_so, e, h-is, m.items, item-own e) (sym (once-append σ d ms (message_in b i)
      ∙ rw (sym own_is ∙ e) refl)))
      (λ e. rw (m.once_so, e) (sym (once-append σ d ms (message_in b i)
      ∙ rw (sym own_is ∙ e) refl)))

  items-step : after ≡ items_for σ d (ms ++ message_in b i ∷ [])
  items-step =
      by-test own
      (λ e. after_is ∙ rw (e, insert64-lt seen item (small e), m.items, item-own e)
      (sym (items-for-append σ d ms (message_in b i) ∙ rw (sym own_is ∙ e) refl)))
      (λ e. after_is ∙ rw (e, m.items)
      (sym (items-for-append σ d ms (message_in b i) ∙ rw (sym own_is ∙ e) refl)))

  pub met_next : Met b σ d n (i + 1) (ok && not (own && h)) after
  unfolding table
  met_next = rw add-one (record { within = omega arith; once_so = once-step; items = items-step })

-- ---- the whole

module _ (b : List ℕ) (v : valid_block b ≡ true) where
  facts : ValidBlock b
  facts = (tells-valid-block b).0 v

  pub few-messages : at b header messages_at ≤ most_messages
  few-messages = facts.well_formed.message_count

  pub long : needed ≤ length b
  long = facts.well_formed.long

  pub kind-low : (i : ℕ) → i < at b header messages_at → 1 ≤ kind_in b i
  kind-low = facts.well_formed.some_kind

  pub kind-high : (i : ℕ) → i < at b header messages_at → kind_in b i ≤ 7
  kind-high = facts.well_formed.kind

  pub the-messages : (tables_of b).messages ≡ table (at b header messages_at) (message_in b)
  unfolding tables_of
  the-messages =
      let less : min (at b header messages_at) most_messages ≡ at b header messages_at =
      omega (arith, few-messages) in
      rw less refl

  item-below : (m : Message) → In m (tables_of b).messages → item_of m < (tables_of b).sizes.items
  item-below m i = (facts.valid.in_range.messages m i).item

  pub message-in : (i : ℕ) → i < at b header messages_at
      → In (message_in b i) (tables_of b).messages
  message-in i l = rw the-messages (in_table (at b header messages_at) (message_in b) i l)

  pub item-small : (i : ℕ) → i < at b header messages_at → item_of (message_in b i) < 64
  item-small i l =
      omega (
        arith,
        item-below (message_in b i) (message-in i l),
        facts.valid.in_range.sizes.items,
      )

  module _ (write : Bool) (d : ℕ) (low : 1 ≤ d) (high : d ≤ at b header clients_at) where
    awaited-below : (w : Bool)
        → awaited_of (side_if w) ((tables_of b).client d) < 2 ^ (tables_of b).sizes.items
    unfolding tables_of
    awaited-below true = (facts.valid.in_range.client d (low, high)).write.awaited
    awaited-below false = (facts.valid.in_range.client d (low, high)).read.awaited

    pub met_all : {i n awaited seen : ℕ} {ok : Bool} → n ≡ at b header messages_at
        → Met b (side_if write) d n i ok seen → n ≤ i
        → awaited ≡ awaited_of (side_if write) ((tables_of b).client d)
        → (ok && eqb seen awaited) ≡ one_each (tables_of b) (side_if write) d
    met_all {i} {n} e m l a =
        let whole : i ≡ at b header messages_at = omega (arith, e, l, m.within) in
        let listed : table i (message_in b) ≡ (tables_of b).messages =
        ap (λ (k : ℕ). table k (message_in b)) whole ∙ sym the-messages in
        rw (m.once_so, m.items, a, listed)
        (sym (one-items (tables_of b) (side_if write) d item-below (awaited-below write)))

-- a message that there is, by the count read
module _ (b : List ℕ) (v : valid_block b ≡ true) {n i : ℕ} (c : n ≡ at b header messages_at)
    (l : i < n) where
  there : i < at b header messages_at
  there = omega (arith, c, l)

  pub read-few : i < most_messages
  read-few = omega (arith, there, few-messages b v)

  pub read_low : 1 ≤ kind_in b i
  read_low = kind-low b v i there

  pub read-high : kind_in b i ≤ 7
  read-high = kind-high b v i there

  pub read_small : (write : Bool) (d : ℕ) {own : Bool} {item : ℕ}
      → own ≡ is_of (side_if write) d (message_in b i) → item ≡ word b i 2 → own ≡ true → item < 64
  read_small write d o e t =
      let same = e ∙ own-item b i write d read_low (sym o ∙ t) in
      subst (λ (x : ℕ). x < 64) (sym same) (item-small b v i there)
