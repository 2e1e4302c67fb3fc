-- A block that holds tables, after the start of a write, holds the tables after that start: the
-- client's words are those of the writer, and a prepare joins for each item of the set.
use mathlib.Core.Bool.{true, false}
use mathlib.Core.List.{List}
use mathlib.Core.Path.{◌≡◌, refl, sym, ap, ◌∙◌, subst}
use Prim.Native.Nat.{ℕ, suc}
use native.Mathlib.Omega.{arith}
use lib.Dec.{lit<, eqb}
use borrow.Author.Tests.{ne_eqb}
use Rattle.basics.proofs.Cases.{not-both}
use Rattle.basics.specs.Fold.{up_to}
use Rattle.itemset.specs.Set.{has}
use Rattle.itemset.proofs.Laws.{has-below, has-empty}
use Rattle.protocol.specs.declared.Message.{Message}
use Rattle.protocol.specs.declared.Message.TheVariants.{Prepare}
use Rattle.protocol.specs.Tables.{Tables, with_client}
use Rattle.protocol.specs.Range.{capacities}
use Rattle.protocol.specs.Steps.{version, value_of, greatest_of, next_stamp, writer, started_write}
use Rattle.protocol.proofs.Refusals.{AcceptedStart, AcceptedWrite}
use Rattle.layout.specs.Layout.{scalars, at, store, mode_at, count_at, stamp_at, writing}
use Rattle.layout.specs.Encodes.{Encodes}
use Rattle.layout.proofs.Room.{HasRoom, NarrowClient, narrow_below, room-valid}
use Rattle.layout.proofs.ClientWords.{Words, words_of, put_word}
use Rattle.layout.proofs.ClientHolds.{WordsHold, words-hold}
use Rattle.layout.proofs.Changed.{Changed, changed-none, changed-put, encodes-changed}
use Rattle.start.specs.Start.{busy, value_item, prepare_of, write_started}
use Rattle.itemset.proofs.Pass.{filled_at}
use Rattle.start.proofs.Valued.{bytes_of, valued_words, valued-changed}
use Rattle.start.proofs.Sent.{encodes-started}
use Rattle.start.proofs.Numbers.{greatest-held}
use Rattle.start.proofs.Started.{write-started}

-- an item's bytes are its value
pub value-bytes : (s : ℕ) (bytes : List ℕ) (k : ℕ) → has s k ≡ true
    → bytes_of s bytes k ≡ value_of s bytes k
value-bytes s bytes k i = rw i refl

module _ (b : List ℕ) (t : Tables) (d s : ℕ) (bytes : List ℕ) (n : Encodes b t)
    (w : AcceptedWrite capacities t d s bytes) where
  abbrev a : AcceptedStart capacities t d s
  a = w.start

  abbrev items : ℕ
  items = t.sizes.items

  -- the write's number and stamp
  abbrev number : ℕ
  number = suc (greatest_of t d)

  some : eqb s 0 ≡ false
  some = ne_eqb s 0 a.some

  room : HasRoom t
  room = room-valid t a.valid

  abbrev valued_block : List ℕ
  valued_block = up_to (value_item false d s bytes) b items

  abbrev writer_words : Words
  writer_words = put_word (put_word (put_word (put_word
      (put_word (valued_words false (words_of b d) s bytes items) scalars 0 writing) scalars 2 s) scalars 3 s)
      scalars 1 number) scalars 4 (next_stamp t d)

  abbrev writer_block : List ℕ
  writer_block = store (store (busy valued_block d writing s) scalars (count_at d) number) scalars
      (stamp_at d) (next_stamp t d)

  writer-changed : Changed d b writer_block writer_words
  writer-changed =
      let valued = valued-changed false b b (words_of b d) d s bytes items room.items
      (changed-none d b a.client.0 (omega (arith, a.client.1, room.clients)) n.long) in
      changed-put
      (changed-put
      (changed-put (changed-put (changed-put valued scalars 0 writing (lit< tt)) scalars 2 s
      (lit< tt)) scalars 3 s (lit< tt))
      scalars 1 number (lit< tt))
      scalars 4 (next_stamp t d) (lit< tt)

  writer-hold : WordsHold writer_words (writer t d s bytes)
  writer-hold =
      let held = words-hold (n.client d a.client.0 a.client.1) in
      record {
        mode = rw some refl;
        read = λ e. not-both (rw some refl) e;
        write = λ e. record {
          set = refl;
          awaited = refl;
          stamp = refl;
          values = λ k i.
              filled_at s _ _ items k (has-below s k items a.set i) i ∙ value-bytes s bytes k i;
        };
        rest = (refl, held.rest.1);
      }

  narrow-writer : NarrowClient (writer t d s bytes)
  narrow-writer =
      record {
        read = λ k e. not-both e (has-empty k);
        write = narrow_below s items a.set room.items;
        last = (room.client d a.client.0 a.client.1).last;
      }

  abbrev busy_tables : Tables
  busy_tables = with_client t d (writer t d s bytes)

  encodes-writer : Encodes writer_block busy_tables
  encodes-writer = encodes-changed n room a.client.1 writer-changed narrow-writer writer-hold

  -- the prepare of an item with this value
  abbrev prepare : ℕ → ℕ → Message
  prepare k value = Prepare (version k value (next_stamp t d) s)

  pub encodes-write : Encodes (write_started b d s bytes) (started_write t d s bytes)
  encodes-write =
      subst (λ (x : List ℕ). Encodes x (started_write t d s bytes))
      (write-started b d s items (sym n.items) bytes number _ _ _ _ _
      (ap suc (sym (greatest-held b t d n a.client.0 a.client.1))) refl refl refl refl refl)
      (encodes-started writer_block t d s (writer t d s bytes)
      (λ x k. prepare_of false d s (next_stamp t d) k x) (λ k. prepare k (value_of s bytes k))
      (λ x held k i.
      let kept = (held.write (rw some refl)).values k i in
      let mode : at x scalars (mode_at d) ≡ writing = held.mode ∙ rw some refl in
      ap (prepare k) (rw mode at kept))
      encodes-writer narrow-writer a)
