-- A block that holds tables, after the start of a read or of a fast read, holds the tables after
-- that start: the client's words are those of the reader, and a get joins for each item of the set.
use mathlib.Core.Bool.{Bool, true, false}
use mathlib.Core.List.{List, map, ◌++◌}
use mathlib.Core.Path.{◌≡◌, refl, sym, ap, ◌∙◌, subst}
use Prim.Native.Nat.{ℕ, ◌≤◌, ◌<◌}
use native.Mathlib.Omega.{arith}
use lib.Dec.{lit<}
use borrow.Author.Tests.{ne_eqb}
use Rattle.basics.proofs.Cases.{by-test, not-both}
use Rattle.basics.specs.Fold.{up_to}
use Rattle.itemset.specs.Set.{has, members}
use Rattle.itemset.proofs.Laws.{has-below, has-empty}
use Rattle.itemset.proofs.Pass.{filled_at}
use Rattle.protocol.specs.declared.Message.{Message}
use Rattle.protocol.specs.declared.Message.TheVariants.{Get, FirstGet}
use Rattle.protocol.specs.Tables.{Tables, Client, ReadPart, initial, no_write, with_read, with_write}
use Rattle.protocol.specs.Tables.{with_client, with_messages}
use Rattle.protocol.specs.Range.{capacities, has_first}
use Rattle.protocol.specs.FastRead.{started_fast_read}
use Rattle.protocol.specs.Steps.{choice, asks, started_read}
use Rattle.protocol.proofs.FastRead.{no-first}
use Rattle.protocol.proofs.Refusals.{AcceptedStart}
use Rattle.layout.specs.Layout.{scalars, asked, at, item_at, is_mixed_mode, stage_of, read_mode}
use Rattle.layout.specs.Decode.{view_in}
use Rattle.layout.specs.Encodes.{Encodes}
use Rattle.layout.proofs.Room.{HasRoom, NarrowClient, narrow_below, room-valid}
use Rattle.layout.proofs.ClientWords.{Words, put_word}
use Rattle.layout.proofs.ClientHolds.{WordsHold, words-hold}
use Rattle.layout.proofs.Changed.{Changed, changed-put, encodes-changed}
use Rattle.layout.proofs.EncodesEntry.{view-held}
use Rattle.start.specs.Start.{busy, ask_for, ask_item, get_of, begun, read_started}
use Rattle.start.specs.Start.{fast_read_started}
use Rattle.start.proofs.Choice.{choice-ext}
use Rattle.start.proofs.Asked.{asked_words, asked-changed, nothing-changed}
use Rattle.start.proofs.Sent.{encodes-started}
use Rattle.start.proofs.Started.{read-started, fast-read-started}

module _ (b : List ℕ) (t : Tables) (d s : ℕ) (n : Encodes b t)
    (a : AcceptedStart capacities t d s) where
  abbrev items : ℕ
  items = t.sizes.items

  room : HasRoom t
  room = room-valid t a.valid

  last : d ≤ 8
  last = omega (arith, a.client.1, room.clients)

  -- a read part of this stage that asks for these stamps, and its client
  abbrev part_of : ℕ → (ℕ → ℕ) → ReadPart
  part_of stage stamps =
      record {
        set = s;
        awaited = s;
        asked = stamps;
        values = λ k. 0;
        stage = stage;
        firsts = λ k. initial;
      }

  abbrev reader_of : ℕ → (ℕ → ℕ) → Client
  reader_of stage stamps = with_write (with_read (t.client d) (part_of stage stamps)) no_write

  module _ (stage : ℕ) (stamps words : ℕ → ℕ) (x : List ℕ)
      (changed : Changed d b x (asked_words b d s words items))
      (same : (k : ℕ) → k < items → has s k ≡ true → words k ≡ stamps k)
      (staged : stage_of (read_mode stage) ≡ stage) (unmixed : is_mixed_mode (read_mode stage) ≡ false)
      (none : (k : ℕ) → has_first (part_of stage stamps) k ≡ false) where
    abbrev reader : Client
    reader = reader_of stage stamps

    abbrev mode : ℕ
    mode = read_mode stage

    abbrev reader_words : Words
    reader_words = put_word (put_word (put_word (asked_words b d s words items) scalars 0 mode)
        scalars 2 s) scalars 3 s

    reader-changed : Changed d b (busy x d mode s) reader_words
    reader-changed =
        changed-put (changed-put (changed-put changed scalars 0 mode (lit< tt)) scalars 2 s
        (lit< tt)) scalars 3 s (lit< tt)

    reader-hold : WordsHold reader_words reader
    reader-hold =
        let held = words-hold (n.client d a.client.0 a.client.1) in
        record {
          mode = rw (ne_eqb s 0 a.some) refl;
          read = λ e. record {
            set = refl;
            awaited = refl;
            stage = staged;
            asked = λ k i. let l : k < items = has-below s k items a.set i in
                filled_at s _ _ items k l i ∙ same k l i;
            values = λ k i. rw unmixed
                (filled_at s _ _ items k (has-below s k items a.set i) i);
            firsts = λ k i. not-both i (none k);
          };
          write = λ e. not-both e refl;
          rest = held.rest;
        }

    narrow-reader : NarrowClient reader
    narrow-reader =
        record {
          read = narrow_below s items a.set room.items;
          write = λ k e. not-both e (has-empty k);
          last = (room.client d a.client.0 a.client.1).last;
        }

    abbrev busy_tables : Tables
    busy_tables = with_client t d reader

    encodes-reader : Encodes (busy x d mode s) busy_tables
    encodes-reader = encodes-changed n room a.client.1 reader-changed narrow-reader reader-hold

    pub encodes-begun : (first : Bool) (g : ℕ → Message)
        → ((y : List ℕ) (k : ℕ) → has s k ≡ true → at y asked (item_at d k) ≡ stamps k
        → get_of first d k y ≡ g k)
        → Encodes (begun x d s mode first items)
        (with_messages busy_tables (t.messages ++ map g (members items s)))
    unfolding begun
    encodes-begun first g made =
        encodes-started (busy x d mode s) t d s reader (λ y k. get_of first d k y) g
        (λ y held k i. made y k i ((held.read refl).asked k i)) encodes-reader narrow-reader a

  -- the stamp chosen from the block's view is that chosen from the tables'
  pub chosen : (k : ℕ) → k < items → choice (view_in b d) k items ≡ asks t d k
  chosen k l =
      choice-ext (view_in b d) (t.view d) k items (view-held n d a.client.0 a.client.1 k l)
      (λ i g. view-held n d a.client.0 a.client.1 i g)

  pub encodes-read : Encodes (read_started b d s) (started_read t d s)
  encodes-read =
      subst (λ (x : List ℕ). Encodes x (started_read t d s))
      (read-started b d s items (sym n.items) _ _ refl refl)
      (encodes-begun 0 _ _ (up_to (ask_item d s items) b items)
      (asked-changed b d s items a.client.0 last room.items n.long)
      (λ k l i. rw i (chosen k l)) refl refl (λ k. no-first (part_of 0 _) k refl)
      false (λ k. Get d k (asks t d k)) (λ y k i e. ap (Get d k) (rw i at e)))

  -- of a fast read no first reply has come
  none-come : (k : ℕ) → has_first (part_of 1 (λ k. 0)) k ≡ false
  unfolding has_first
  none-come k = by-test (has s k) (λ h. rw h refl) (λ h. rw h refl)

  pub encodes-fast-read : Encodes (fast_read_started b d s) (started_fast_read t d s)
  encodes-fast-read =
      subst (λ (x : List ℕ). Encodes x (started_fast_read t d s))
      (fast-read-started b d s items (sym n.items) _ _ refl refl)
      (encodes-begun 1 (λ k. 0) (λ k. 0) (up_to (ask_for d s 0) b items)
      (nothing-changed b d s items a.client.0 last room.items n.long)
      (λ k l i. refl) refl refl none-come true (FirstGet d) (λ y k i e. refl))
