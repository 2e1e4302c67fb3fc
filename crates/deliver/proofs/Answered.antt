-- What a reply to a read keeps on the block: its item's view entry becomes the latest of three, and
-- its value the answer so far.
use mathlib.Core.Bool.{Bool, true, false}
use mathlib.Core.List.{List}
use mathlib.Core.Path.{◌≡◌, sym, ap, ◌∙◌, subst}
use Prim.Native.Nat.{ℕ, ◌^◌, ◌≤◌, ◌<◌}
use native.Mathlib.Omega.{arith}
use lib.Dec.{eqb}
use borrow.Author.Tests.{eqb-true}
use Rattle.basics.proofs.Cases.{by-test}
use Rattle.itemset.specs.Set.{has}
use Rattle.protocol.specs.declared.Version.{Version}
use Rattle.protocol.specs.declared.Entry.{Entry}
use Rattle.protocol.specs.Tables.{Tables, put, with_view}
use Rattle.protocol.specs.Range.{is_writing}
use Rattle.protocol.specs.Steps.{offered}
use Rattle.layout.specs.Layout.{scalars, values, is_mixed_mode, read_value, written_value, with_answer}
use Rattle.layout.specs.Decode.{view_in}
use Rattle.layout.specs.Store.{store_view}
use Rattle.layout.specs.Encodes.{writes_alone, Encodes, HoldsClient}
use Rattle.layout.proofs.Halves.{answer-read, answer-written}
use Rattle.layout.proofs.Room.{HasRoom}
use Rattle.layout.proofs.ClientWords.{Words, words_of, put_word}
use Rattle.layout.proofs.Changed.{Changed, changed-none, changed-put}
use Rattle.layout.proofs.EncodesEntry.{encodes-view}
use Rattle.deliver.specs.Deliver.{kept_answer}
use Rattle.ends.proofs.Seen.{view-held}

-- the view after it
abbrev pub grown : Tables → ℕ → Version → Entry → ℕ → Entry
grown t d v latest = put (t.view d) v.item (offered (t.view d v.item) v latest)

-- the block with the view's entry, and client d's words with the answer
abbrev pub seen_block : List ℕ → ℕ → Version → Entry → List ℕ
seen_block b d v latest = store_view b d v.item (offered (view_in b d v.item) v latest)

abbrev pub answer_words : List ℕ → ℕ → Version → Entry → Words
answer_words b d v latest =
    let w = words_of (seen_block b d v latest) d in
    put_word w values v.item
    (with_answer (is_mixed_mode (w scalars 0)) (w values v.item) v.value)

module _ {b : List ℕ} {t : Tables} (d : ℕ) (v : Version) (latest : Entry) (n : Encodes b t)
    (r : HasRoom t) (first : 1 ≤ d) (last : d ≤ t.sizes.clients)
    (item : v.item < t.sizes.items) where
  pub encodes-seen-later : Encodes (seen_block b d v latest) (with_view t d (grown t d v latest))
  encodes-seen-later =
      subst (λ (e : Entry). Encodes (seen_block b d v latest)
      (with_view t d (put (t.view d) v.item e)))
      (ap (λ (e : Entry). offered e v latest)
      (view-held d v.item (n.view d first last v.item item)))
      (encodes-view d v.item (offered (view_in b d v.item) v latest) n r first last item)

  pub held-later : HoldsClient (seen_block b d v latest) d (t.client d)
  held-later = encodes-seen-later.client d first last

  -- its word for the item, and the one with the answer
  abbrev words : Words
  words = words_of (seen_block b d v latest) d

  abbrev mixed : Bool
  mixed = is_mixed_mode (words scalars 0)

  abbrev answer : ℕ
  answer = with_answer mixed (words values v.item) v.value

  pub answer-changed : Changed d (seen_block b d v latest) (kept_answer b d v latest)
      (answer_words b d v latest)
  answer-changed =
      changed-put (changed-none d (seen_block b d v latest) first (omega (arith, r.clients))
      encodes-seen-later.long) values v.item answer
      (omega (arith, r.items))

  -- the answers are those of the read part, with this one
  pub answers-held : v.value < 2 ^ 32 → writes_alone (t.client d) ≡ false → (j : ℕ)
      → has (t.client d).read.set j ≡ true
      → read_value mixed (answer_words b d v latest values j)
      ≡ put (t.client d).read.values v.item v.value j
  answers-held fits reads j e =
      by-test (eqb j v.item)
      (λ x. rw x (answer-read mixed (words values v.item) v.value fits))
      (λ x. rw x ((held-later.read reads).values j e))

  -- and of a mixed transaction the values written stay
  pub values-held : mixed ≡ true → is_writing (t.client d) ≡ true → (j : ℕ)
      → has (t.client d).write.set j ≡ true
      → written_value mixed (answer_words b d v latest values j) ≡ (t.client d).write.values j
  values-held m writes j e =
      by-test (eqb j v.item)
      (λ x. rw (x, m) (answer-written (words values v.item) v.value
      ∙ (rw m at (own v.item (rw (eqb-true j v.item x) at e)))
      ∙ ap (t.client d).write.values (sym (eqb-true j v.item x))))
      (λ x. rw x (own j e))
    where
      own : (i : ℕ) → has (t.client d).write.set i ≡ true
          → written_value mixed (words values i) ≡ (t.client d).write.values i
      own = (held-later.write writes).values
