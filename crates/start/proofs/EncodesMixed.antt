-- A block that holds tables, after the start of a mixed transaction, holds the tables after that
-- start: the client's words are those of both parts, with two values in a word, and a get joins for
-- each item of the read set, then a prepare for each of the write set.
use mathlib.Core.Bool.{true, false}
use mathlib.Core.List.{List, ◌++◌, append_assoc}
use mathlib.Core.Path.{◌≡◌, refl, sym, ap, ◌∙◌, subst}
use Prim.Native.Nat.{ℕ, suc, ◌≤◌, ◌<◌}
use native.Mathlib.Omega.{arith}
use lib.Dec.{lit<, eqb}
use lib.ListN.{length}
use borrow.Author.Tests.{ne_eqb}
use Rattle.basics.proofs.Cases.{by-test, not-both}
use Rattle.basics.specs.Fold.{up_to}
use Rattle.itemset.specs.Set.{has}
use Rattle.itemset.proofs.Laws.{has-below}
use Rattle.itemset.proofs.Counts.{rank-count}
use Rattle.itemset.proofs.Pass.{filled, filled_at, filled-below, length-grown}
use Rattle.protocol.specs.declared.Message.{Message}
use Rattle.protocol.specs.declared.Message.TheVariants.{Get, Prepare}
use Rattle.protocol.specs.Tables.{Tables, Client, with_client, with_messages}
use Rattle.protocol.specs.Range.{capacities, load}
use Rattle.protocol.specs.Steps.{version, value_of, choice, asks, gets, prepares, greatest_of}
use Rattle.protocol.specs.Steps.{next_stamp, mixer, started_mixed}
use Rattle.protocol.proofs.FastRead.{no-first}
use Rattle.protocol.proofs.Refusals.{AcceptedStart, AcceptedMixed}
use Rattle.layout.specs.Layout.{most_messages, scalars, values, at, mode_at, mixing, low_half}
use Rattle.layout.specs.Layout.{high_half, written_word}
use Rattle.layout.specs.Decode.{view_in}
use Rattle.layout.specs.Encodes.{Encodes}
use Rattle.layout.proofs.Halves.{low-both, written-word}
use Rattle.layout.proofs.Room.{HasRoom, NarrowClient, narrow_below, room-valid, room-messages}
use Rattle.layout.proofs.ClientWords.{Words, words_of, put_word}
use Rattle.layout.proofs.ClientHolds.{WordsHold, words-hold}
use Rattle.layout.proofs.Changed.{Changed, changed-put, encodes-changed}
use Rattle.start.specs.Start.{ask_item, get_of, send_get, value_item, prepare_of, busy_mixed}
use Rattle.start.specs.Start.{mixed_begun, mixed_started}
use Rattle.start.proofs.Asked.{asked_words, asked-changed}
use Rattle.start.proofs.Valued.{bytes_of, valued_words, valued-changed}
use Rattle.start.proofs.Sent.{encodes-sends}
use Rattle.start.proofs.Numbers.{greatest-held}
use Rattle.start.proofs.EncodesRead.{chosen}
use Rattle.start.proofs.EncodesWrite.{value-bytes}
use Rattle.start.proofs.Started.{mixed-started}

module _ (b : List ℕ) (t : Tables) (d r s : ℕ) (bytes : List ℕ) (n : Encodes b t)
    (w : AcceptedMixed capacities t d r s bytes) where
  abbrev a : AcceptedStart capacities t d r
  a = w.read

  abbrev items : ℕ
  items = t.sizes.items

  abbrev number : ℕ
  number = suc (greatest_of t d)

  some_read : eqb r 0 ≡ false
  some_read = ne_eqb r 0 a.some

  some_written : eqb s 0 ≡ false
  some_written = ne_eqb s 0 w.write.start.some

  room : HasRoom t
  room = room-valid t a.valid

  last : d ≤ 8
  last = omega (arith, a.client.1, room.clients)

  -- ---- the words

  -- with the stamps asked for, and no answer yet
  abbrev asked_block : List ℕ
  asked_block = up_to (ask_item d r items) b items

  abbrev stamps : ℕ → ℕ
  stamps k = choice (view_in b d) k items

  abbrev asks_words : Words
  asks_words = asked_words b d r stamps items

  abbrev no_answers : ℕ → ℕ
  no_answers = filled r items (words_of b d values) (λ k. 0)

  -- and with the values written
  abbrev written : ℕ → ℕ
  written k = written_word true (bytes_of s bytes k)

  abbrev mixed_row : ℕ → ℕ
  mixed_row = filled s items no_answers written

  abbrev mixed_block : List ℕ
  mixed_block = up_to (value_item true d s bytes) asked_block items

  mixed-changed : Changed d b mixed_block (valued_words true asks_words s bytes items)
  mixed-changed =
      valued-changed true b asked_block asks_words d s bytes items room.items
      (asked-changed b d r items a.client.0 last room.items n.long)

  abbrev mixer_words : Words
  mixer_words = put_word (put_word (put_word (put_word (put_word (put_word (put_word
      (valued_words true asks_words s bytes items) scalars 0 mixing) scalars 2 r) scalars 3 r) scalars 8 s)
      scalars 9 s) scalars 1 number) scalars 4 (next_stamp t d)

  abbrev mixer_block : List ℕ
  mixer_block = busy_mixed mixed_block d r s number (next_stamp t d)

  mixer-changed : Changed d b mixer_block mixer_words
  mixer-changed =
      changed-put (changed-put (changed-put (changed-put (changed-put (changed-put (changed-put
      mixed-changed scalars 0 mixing (lit< tt)) scalars 2 r (lit< tt)) scalars 3 r (lit< tt))
      scalars 8 s (lit< tt)) scalars 9 s (lit< tt)) scalars 1 number (lit< tt))
      scalars 4 (next_stamp t d) (lit< tt)

  -- ---- are those of its client

  read_below : (k : ℕ) → has r k ≡ true → k < items
  read_below k i = has-below r k items a.set i

  written_below : (k : ℕ) → has s k ≡ true → k < items
  written_below k i = has-below s k items w.write.start.set i

  low-none : (k : ℕ) → has r k ≡ true → low_half (mixed_row k) ≡ 0
  low-none k i =
      let l = read_below k i in
      by-test (has s k)
      (λ e. ap low_half (filled_at s no_answers written items k l e)
      ∙ low-both 0 (bytes_of s bytes k) (omega arith))
      (λ e. let none : mixed_row k ≡ 0 =
      filled-below s no_answers written items k l ∙ rw e (filled_at r _ _ items k l i) in
      ap low_half none)

  high_value : (k : ℕ) → has s k ≡ true → high_half (mixed_row k) ≡ value_of s bytes k
  high_value k i =
      ap high_half (filled_at s no_answers written items k (written_below k i) i)
      ∙ written-word true (bytes_of s bytes k) (omega arith)
      ∙ value-bytes s bytes k i

  abbrev client : Client
  client = mixer t d r s bytes

  mixer-hold : WordsHold mixer_words client
  mixer-hold =
      let held = words-hold (n.client d a.client.0 a.client.1) in
      record {
        mode = rw (some_read, some_written) refl;
        read = λ e. record {
          set = refl;
          awaited = refl;
          stage = refl;
          asked = λ k i. let l = read_below k i in
              filled_at r _ _ items k l i ∙ rw i (chosen b t d r n a k l);
          values = low-none;
          firsts = λ k i. not-both i (no-first client.read k refl);
        };
        write = λ e. record { set = refl; awaited = refl; stamp = refl; values = high_value };
        rest = (refl, held.rest.1);
      }

  narrow-mixer : NarrowClient client
  narrow-mixer =
      record {
        read = narrow_below r items a.set room.items;
        write = narrow_below s items w.write.start.set room.items;
        last = (room.client d a.client.0 a.client.1).last;
      }

  abbrev busy_tables : Tables
  busy_tables = with_client t d client

  encodes-mixer : Encodes mixer_block busy_tables
  encodes-mixer = encodes-changed n room a.client.1 mixer-changed narrow-mixer mixer-hold

  -- ---- the messages

  abbrev get_for : ℕ → Message
  get_for k = Get d k (asks t d k)

  abbrev prepare_for : ℕ → ℕ → Message
  prepare_for k value = Prepare (version k value (next_stamp t d) s)

  abbrev before : List Message
  before = t.messages ++ gets t d r

  few-gets : length before ≤ most_messages
  unfolding load
  few-gets =
      omega (arith, w.load, length-grown get_for r t.messages items, rank-count r items)

  encodes-gets : Encodes (up_to (send_get false d r) mixer_block items)
      (with_messages busy_tables before)
  encodes-gets =
      encodes-sends mixer_block t d r client (λ x k. get_of false d k x) get_for
      (λ x held k i.
      ap (Get d k) ((held.read (rw (some_written, some_read) refl)).asked k i ∙ rw i refl))
      encodes-mixer narrow-mixer a.client.0 a.client.1 room few-gets

  encodes-begun : Encodes (mixed_begun mixer_block d r s (next_stamp t d) items)
      (with_messages busy_tables (before ++ prepares t d s bytes))
  unfolding mixed_begun load
  encodes-begun =
      encodes-sends _ (with_messages t before) d s client
      (λ x k. prepare_of true d s (next_stamp t d) k x) (λ k. prepare_for k (value_of s bytes k))
      (λ x held k i.
      let kept = (held.write (rw some_written refl)).values k i in
      let mode : at x scalars (mode_at d) ≡ mixing = held.mode ∙ rw (some_read, some_written) refl in
      ap (prepare_for k) (rw mode at kept))
      encodes-gets narrow-mixer a.client.0 a.client.1 (room-messages t before room few-gets)
      (omega (
        arith,
        w.load,
        length-grown get_for r t.messages items,
        rank-count r items,
        length-grown (λ k. prepare_for k (value_of s bytes k)) s before items,
        rank-count s items,
      ))

  pub encodes-mixed : Encodes (mixed_started b d r s bytes) (started_mixed t d r s bytes)
  encodes-mixed =
      subst (λ (x : List ℕ). Encodes x (started_mixed t d r s bytes))
      (mixed-started b d r items s (sym n.items) bytes number _ _ _ _
      (ap suc (sym (greatest-held b t d n a.client.0 a.client.1))) refl refl refl refl)
      (subst (λ (ms : List Message). Encodes (mixed_begun mixer_block d r s (next_stamp t d) items)
      (with_messages busy_tables ms))
      (append_assoc t.messages (gets t d r) (prepares t d s bytes)) encodes-begun)
