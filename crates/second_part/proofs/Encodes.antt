-- A client whose first replies have all come is, after it, the client of the tables in its second
-- part, with a get for each item fetched again; or it rests, where there is none.
use mathlib.Core.Bool.{Bool, true, false, ◌&&◌}
use mathlib.Core.List.{List, ◌++◌}
use mathlib.Core.Path.{◌≡◌, refl, sym, ap, ap₂, ◌∙◌, subst}
use Prim.Native.Nat.{ℕ, ◌+◌, ◌*◌, ◌^◌, ◌≤◌, ◌<◌}
use native.Mathlib.Omega.{arith}
use lib.Dec.{eqb, ltb, lit<}
use lib.ListN.{length}
use borrow.Author.Tests.{le-ltb}
use Rattle.basics.specs.Fold.{up_to}
use Rattle.basics.proofs.Cases.{by-test, not-both}
use Rattle.itemset.specs.Set.{has}
use Rattle.itemset.proofs.Laws.{has-below}
use Rattle.itemset.proofs.Pass.{filled, filled_at, pass-fills}
use Rattle.protocol.specs.declared.Entry.{Entry}
use Rattle.protocol.specs.declared.Message.TheVariants.{Get}
use Rattle.protocol.specs.Tables.{Tables, Client, ReadPart, rested, with_read, with_client}
use Rattle.protocol.specs.Tables.{with_messages}
use Rattle.protocol.specs.Range.{is_writing}
use Rattle.protocol.specs.FastRead.{replies_of, freshest, stale, second_part, second_gets}
use Rattle.protocol.specs.Steps.{ended}
use Rattle.protocol.proofs.FastRead.{first-in-set, stale-in-set}
use Rattle.layout.specs.Layout.{most_messages, entry_words, scalars, asked, values, firsts, at, set_at}
use Rattle.layout.specs.Decode.{first_in}
use Rattle.layout.specs.Encodes.{Encodes}
use Rattle.layout.proofs.Room.{HasRoom, NarrowClient}
use Rattle.layout.proofs.RowEntries.{entries_of}
use Rattle.layout.proofs.ClientWords.{Words, put_word, with_row, row_same}
use Rattle.layout.proofs.ClientHolds.{WordsHold, WordsRest}
use Rattle.layout.proofs.Changed.{Changed, changed-put, changed_row, encodes-changed}
use Rattle.start.specs.Start.{get_of}
use Rattle.start.proofs.Choice.{choice-ext}
use Rattle.start.proofs.Sent.{encodes-sends}
use Rattle.ends.specs.Ends.{read_kind}
use Rattle.ends.proofs.Rests.{kind-read}
use Rattle.ends.proofs.Ended.{encodes-read-ended}
use Rattle.second_part.specs.SecondPart.{replies_in, shown, older_than, ask_again, fetched}
use Rattle.second_part.specs.SecondPart.{second_begun}
use Rattle.second_part.proofs.Shown.{set_of-ext}

-- client c has its first replies, in the words w of block b
module _ {a b : List ℕ} {t : Tables} {d : ℕ} {w : Words} (c : Client) (n : Encodes a t)
    (r : HasRoom t) (narrow : NarrowClient c) (last : d ≤ t.sizes.clients)
    (below : c.read.set < 2 ^ t.sizes.items) (changed : Changed d a b w)
    (reads : is_writing c ≡ false) (mode : w scalars 0 ≡ 3) (set : w scalars 2 ≡ c.read.set)
    (answers : (k : ℕ) → has c.read.set k ≡ true → w values k ≡ c.read.values k)
    (replies : (k : ℕ) → has c.read.set k ≡ true
    → entries_of (w firsts) k ≡ c.read.firsts k)
    (rest : WordsRest w c) where
  abbrev p : ReadPart
  p = c.read

  abbrev s : ℕ
  s = p.set

  abbrev items : ℕ
  items = t.sizes.items

  abbrev after : ReadPart
  after = second_part items p

  -- ---- what the block shows is what the first replies show

  set_word : at b scalars (set_at d) ≡ s
  set_word = changed.words.row scalars 2 (lit< tt) ∙ set

  reply-read : (k : ℕ) → has s k ≡ true → first_in b d k ≡ p.firsts k
  reply-read k e =
      let l = narrow.read k e in
      let stamp = changed.words.row firsts (entry_words * k + 0) (omega (arith, l)) in
      let set = changed.words.row firsts (entry_words * k + 1) (omega (arith, l)) in
      (λ x. record { stamp = stamp x; set = set x }) ∙ replies k e

  replies-read : (k : ℕ) → replies_in b d s k ≡ replies_of p k
  replies-read k = by-test (has s k) (λ e. rw e (reply-read k e)) (λ e. rw e refl)

  shown_read_lem : (k : ℕ) → has s k ≡ true → shown b d s items k ≡ freshest items p k
  shown_read_lem k e =
      choice-ext (replies_in b d s) (replies_of p) k items (replies-read k)
      (λ i l. replies-read i)
      ∙ rw e refl

  older-read : (k : ℕ) → (has s k && ltb (first_in b d k).stamp (shown b d s items k))
      ≡ ltb (p.firsts k).stamp (freshest items p k)
  older-read k =
      by-test (has s k)
      (λ e. ap (λ (x : Bool). x && ltb (first_in b d k).stamp (shown b d s items k)) e
      ∙ ap₂ ltb (ap (λ (x : Entry). x.stamp) (reply-read k e)) (shown_read_lem k e))
      (λ e. rw e (sym (le-ltb (p.firsts k).stamp 0 (omega arith))))

  stale-read : older_than b d s (shown b d s items) items ≡ stale items p
  unfolding older_than
  stale-read = set_of-ext items _ _ (λ k l. older-read k)

  -- ---- the stamps asked for

  abbrev asked_block : List ℕ
  asked_block = up_to (ask_again d s (shown b d s items)) b items

  abbrev asked_words : Words
  asked_words = with_row w asked (filled s items (w asked) (shown b d s items))

  asks-changed : Changed d a asked_block asked_words
  asks-changed =
      pass-fills s items (λ row x. Changed d a x (with_row w asked row)) _ b (w asked)
      (shown b d s items) (subst (Changed d a b) (sym (row_same w asked)) changed)
      (λ k x row l e h.
      changed_row w asked row h k (shown b d s items k) (omega (arith, r.items)))

  asks : (k : ℕ) → has s k ≡ true
      → filled s items (w asked) (shown b d s items) k ≡ freshest items p k
  asks k e = filled_at s _ _ items k (has-below s k items below e) e ∙ shown_read_lem k e

  narrow-after : NarrowClient (with_read c after)
  narrow-after = record { read = narrow.read; write = narrow.write; last = narrow.last }

  -- ---- no item is older

  pub encodes-second-ended : eqb (stale items p) 0 ≡ true
      → Encodes (second_begun b items d) (with_client t d (rested c (ended (with_read c after))))
  unfolding second_begun
  encodes-second-ended e =
      rw (set_word, stale-read, e)
      (encodes-read-ended (with_read c after) n r narrow-after last below asks-changed
      (ap read_kind mode ∙ sym (kind-read (with_read c after) reads)) reads rest.0 set asks
      answers)

  -- ---- some are

  module _ (some : eqb (stale items p) 0 ≡ false) where
    abbrev after_words : Words
    after_words = put_word (put_word asked_words scalars 0 4) scalars 3 (stale items p)

    hold : WordsHold after_words (with_read c after)
    hold =
        record {
          mode = rw (some, reads) refl;
          read = λ x. record {
            set = set;
            awaited = refl;
            stage = refl;
            asked = asks;
            values = answers;
            firsts = λ k e. replies k (first-in-set after k e);
          };
          write = λ x. not-both x reads;
          rest = rest;
        }

    pub encodes-fetched : length (t.messages ++ second_gets items d after) ≤ most_messages
        → Encodes (second_begun b items d)
        (with_messages (with_client t d (with_read c after))
        (t.messages ++ second_gets items d after))
    unfolding second_begun fetched
    encodes-fetched room =
        rw (set_word, stale-read, some)
        (encodes-sends _ t d (stale items p) (with_read c after) (λ x k. get_of false d k x)
        (λ k. Get d k (after.asked k))
        (λ x held k e. ap (Get d k) ((held.read (rw reads refl)).asked k (stale-in-set items p k e)))
        (encodes-changed n r last
        (changed-put (changed-put asks-changed scalars 0 4 (lit< tt)) scalars 3 (stale items p)
        (lit< tt)) narrow-after hold)
        narrow-after changed.first last r room)
