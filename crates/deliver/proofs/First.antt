-- A first reply on the block is a first reply in the tables: its version is kept, the view takes
-- the latest of three, and the client goes on in its first part; with the last one the second part
-- begins, or the client rests.
use mathlib.Core.Bool.{true, false}
use mathlib.Core.List.{List, [], ◌++◌, append-nil}
use mathlib.Core.Path.{◌≡◌, refl, sym, ap, ◌∙◌, subst}
use Prim.Native.Nat.{ℕ, zero, suc, ◌^◌, ◌≤◌, ◌<◌}
use native.Mathlib.Omega.{arith}
use lib.Dec.{eqb, lit<}
use lib.ListN.{length}
use borrow.Author.Tests.{eqb-true}
use Rattle.basics.proofs.Cases.{by-test, not-both}
use Rattle.itemset.specs.Set.{has, upto, members}
use Rattle.itemset.proofs.Laws.{has-empty}
use Rattle.protocol.specs.declared.Version.{Version}
use Rattle.protocol.specs.declared.Entry.{Entry}
use Rattle.protocol.specs.declared.Message.{Message}
use Rattle.protocol.specs.declared.Message.TheVariants.{FirstReply}
use Rattle.protocol.specs.Tables.{Tables, Client, ReadPart, of_read, entry_of, rested, put, with_read}
use Rattle.protocol.specs.Tables.{is_second_part, with_client, with_view, with_messages}
use Rattle.protocol.specs.Range.{is_idle, is_writing, has_first}
use Rattle.protocol.specs.FastRead.{stale, first_kept, second_part, second_gets}
use Rattle.protocol.specs.Steps.{ended, delivered, joined}
use Rattle.protocol.proofs.FastRead.{first-come, first-other}
use Rattle.protocol.proofs.Put.{put_same, put_other, put-every}
use Rattle.protocol.proofs.Ranges.Clients.{ClientInRange}
use Rattle.layout.specs.Layout.{most_messages, scalars, values, firsts, at, store, mode_at}
use Rattle.layout.specs.Layout.{awaited_at, is_mixed_mode}
use Rattle.layout.specs.Encodes.{writes_alone, Encodes, HoldsClient}
use Rattle.slots.proofs.Chosen.{unless}
use Rattle.layout.proofs.Room.{NarrowClient, HasRoom}
use Rattle.layout.proofs.Parts.{awaits-busy, mode-both}
use Rattle.layout.proofs.RowEntries.{entries_of, put_entry, entries-put}
use Rattle.layout.proofs.ClientWords.{Words, put_word, with_row, row_same}
use Rattle.layout.proofs.ClientHolds.{WordsHold, WordsRest, words-hold}
use Rattle.layout.proofs.Changed.{Changed, changed-put, changed-first, encodes-changed}
use Rattle.second_part.specs.SecondPart.{second_begun}
use Rattle.second_part.proofs.Encodes.{encodes-second-ended, encodes-fetched}
use Rattle.deliver.specs.Deliver.{kept_first, first_delivered}
use Rattle.deliver.proofs.Answered.{grown, seen_block, answer_words, encodes-seen-later}
use Rattle.deliver.proofs.Answered.{held-later, answer-changed, answers-held}

-- with no item to fetch again nothing joins
no-members : (n : ℕ) → members n 0 ≡ []
unfolding upto
no-members zero = refl
no-members (suc n) = rw (no-members n, has-empty n) refl

module _ {b : List ℕ} (t : Tables) (ms : List Message) (d : ℕ) (v : Version) (latest : Entry)
    (n : Encodes b (with_messages t ms)) (r : HasRoom (with_messages t ms)) (first : 1 ≤ d)
    (last : d ≤ t.sizes.clients) (item : v.item < t.sizes.items)
    (range : ClientInRange t.sizes (t.client d)) (by_item : (t.client d).read.stage ≡ 1)
    (awaits : has (t.client d).read.awaited v.item ≡ true) (fits : v.value < 2 ^ 32) where
  abbrev c : Client
  c = t.client d

  abbrev items : ℕ
  items = t.sizes.items

  -- the part with this first reply, and its client
  abbrev p : ReadPart
  p = first_kept c.read v

  abbrev k : Client
  k = with_read c p

  reads : is_writing c ≡ false
  reads = rw (range.fast (λ e. absurd (omega (arith, e, by_item)))).0 refl

  reading : writes_alone c ≡ false
  reading = rw reads refl

  -- so that its words are one value each
  unmixed : is_mixed_mode (at (seen_block b d v latest) scalars (mode_at d)) ≡ false
  unmixed =
      ap is_mixed_mode (held-later d v latest n r first last item).mode
      ∙ mode-both t.sizes c range ∙ rw reads refl

  busy : is_idle c ≡ false
  busy = awaits-busy t.sizes c range of_read v.item awaits

  -- the tables with the view's entry
  abbrev seen_tables : Tables
  seen_tables = with_view (with_messages t ms) d (grown t d v latest)

  seen-later : Encodes (seen_block b d v latest) seen_tables
  seen-later = encodes-seen-later d v latest n r first last item

  held : HoldsClient (seen_block b d v latest) d c
  held = held-later d v latest n r first last item

  -- ---- the words with the answer and the first reply

  abbrev row : ℕ → ℕ
  row = answer_words b d v latest firsts

  abbrev kept_words : Words
  kept_words = with_row (answer_words b d v latest) firsts (put_entry row v.item (entry_of v))

  kept : Changed d (seen_block b d v latest) (kept_first b d v latest) kept_words
  kept =
      changed-first (answer_words b d v latest) row
      (subst (Changed d (seen_block b d v latest) _)
      (sym (row_same (answer_words b d v latest) firsts))
      (answer-changed d v latest n r first last item))
      v.item (entry_of v) (omega (arith, r.items))

  answers : (j : ℕ) → has c.read.set j ≡ true
      → answer_words b d v latest values j ≡ put c.read.values v.item v.value j
  answers j e =
      unless _ _ _ _ unmixed refl
      ∙ answers-held d v latest n r first last item fits reading j e

  replies : (j : ℕ) → has_first p j ≡ true
      → entries_of (put_entry row v.item (entry_of v)) j ≡ p.firsts j
  replies j e =
      entries-put row v.item (entry_of v) j
      ∙ put-every (λ (i : ℕ) (x : Entry). has_first p i ≡ true
      → put (entries_of row) v.item (entry_of v) i ≡ x) c.read.firsts v.item (entry_of v)
      (λ h. put_same (entries_of row) v.item (entry_of v))
      (λ i other h. put_other (entries_of row) v.item (entry_of v) i other
      ∙ (held.read reading).firsts i (sym (first-other c.read v i other) ∙ h)) j e

  narrow : NarrowClient k
  narrow =
      let own = r.client d first last in
      record { read = own.read; write = own.write; last = own.last }

  -- ---- before the last one

  no_second : is_second_part p ≡ false
  no_second = rw by_item refl

  goes_on : eqb p.awaited 0 ≡ false
      → Encodes (store (kept_first b d v latest) scalars (awaited_at d) p.awaited)
      (with_client seen_tables d k)
  goes_on more =
      encodes-changed seen-later r last (changed-put kept scalars 3 p.awaited (lit< tt)) narrow
      hold
    where
      hold : WordsHold (put_word kept_words scalars 3 p.awaited) k
      hold =
          let own = words-hold held in
          let read = held.read reading in
          record {
            mode = own.mode ∙ rw (busy, more) refl;
            read = λ x. record {
              set = read.set;
              awaited = refl;
              stage = read.stage;
              asked = read.asked;
              values = answers-held d v latest n r first last item fits reading;
              firsts = replies;
            };
            write = λ x. not-both x reads;
            rest = own.rest;
          }

  -- ---- with the last one

  module _ (over : eqb p.awaited 0 ≡ true) where
    come : (j : ℕ) → has c.read.set j ≡ true → has_first p j ≡ true
    come j e = first-come p j by_item e
        (rw (eqb-true p.awaited 0 over) (has-empty j))

    mode : kept_words scalars 0 ≡ 3
    mode = held.mode ∙ rw (busy, reads, by_item) refl

    rest : WordsRest kept_words k
    rest = (words-hold held).rest

    set : kept_words scalars 2 ≡ p.set
    set = (held.read reading).set

    all-replies : (j : ℕ) → has c.read.set j ≡ true
        → entries_of (put_entry row v.item (entry_of v)) j ≡ p.firsts j
    all-replies j e = replies j (come j e)

    ends : eqb (stale items p) 0 ≡ true
        → Encodes (second_begun (kept_first b d v latest) items d)
        (with_client seen_tables d (rested c (ended (with_read c (second_part items p)))))
    ends none =
        encodes-second-ended k seen-later r narrow last range.read.set kept reads mode set
        answers all-replies rest none

    fetches : eqb (stale items p) 0 ≡ false
        → length (ms ++ second_gets items d (second_part items p)) ≤ most_messages
        → Encodes (second_begun (kept_first b d v latest) items d)
        (with_messages (with_client seen_tables d (with_read c (second_part items p)))
        (ms ++ second_gets items d (second_part items p)))
    fetches some room =
        encodes-fetched k seen-later r narrow last range.read.set kept reads mode set
        answers all-replies rest some room

  pub encodes-first : length (ms ++ joined t (FirstReply d v latest)) ≤ most_messages
      → Encodes (first_delivered b items d v latest)
      (with_messages (delivered t (FirstReply d v latest))
      (ms ++ joined t (FirstReply d v latest)))
  unfolding first_delivered delivered joined
  encodes-first room =
      rw ((n.client d first last).read reading).awaited
      (by-test (eqb p.awaited 0)
      (λ over. by-test (eqb (stale items p) 0)
      (λ none. rw (over, eqb-true (stale items p) 0 none, no-members items, append-nil ms)
      (ends over none))
      (λ some. rw (over, some) (fetches over some (rw over at room))))
      (λ more. rw (more, more, no_second, append-nil ms) (goes_on more)))
