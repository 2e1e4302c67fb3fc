-- A start keeps the tables in range: a read asks for stamps that its view holds, and a write's
-- stamp has the next number and its own client.
use mathlib.Core.Bool.{true, cond}
use mathlib.Core.List.{List, ◌++◌}
use mathlib.Core.Path.{◌≡◌, refl}
use Prim.Native.Nat.{ℕ, zero, suc, ◌*◌, ◌%◌, ◌^◌, ◌≤◌, ◌<◌}
use native.Mathlib.Nat.{le_refl}
use native.Mathlib.Omega.{arith}
use borrow.Author.Tests.{ne_eqb}
use Rattle.basics.proofs.Cases.{not-both}
use Rattle.hexadecimal.specs.Number.{number_at}
use Rattle.itemset.specs.Set.{has, rank}
use Rattle.itemset.proofs.Laws.{has-below}
use Rattle.protocol.specs.declared.Entry.{Entry}
use Rattle.protocol.specs.declared.Message.{Message}
use Rattle.protocol.specs.declared.Message.TheVariants.{Prepare, Get, FirstGet}
use Rattle.protocol.specs.Tables.{Sizes, Tables, Client, no_read, no_write, with_client}
use Rattle.protocol.specs.Tables.{with_messages, with_count}
use Rattle.protocol.specs.Range.{Capacities}
use Rattle.protocol.specs.FastRead.{fast_reader, first_gets}
use Rattle.protocol.specs.Steps.{choice, asks, reader, gets, next_stamp, value_of, writer}
use Rattle.protocol.specs.Steps.{version, prepares, greatest_of, mixer, mixed_messages}
use Rattle.protocol.specs.Calls.{start_read, start_fast_read, start_write, start_mixed, effect}
use Rattle.protocol.proofs.Each.{Each, each_append, each-upto}
use Rattle.protocol.proofs.Ranges.Values.{Stamped, StampInRange, EntriesInRange}
use Rattle.protocol.proofs.Ranges.Values.{MessageInRange, entry-initial, range-get}
use Rattle.protocol.proofs.Ranges.Values.{range-first-get, range-prepare}
use Rattle.protocol.proofs.Ranges.Clients.{ReadPartInRange, WritePartInRange, ClientInRange}
use Rattle.protocol.proofs.Ranges.Tables.{InRange}
use Rattle.protocol.proofs.Refusals.{AcceptedStart, AcceptedWrite, AcceptedMixed}
use Rattle.protocol.proofs.Put.{by_cond}
use Rattle.protocol.proofs.Known.{greatest-fits}
use Rattle.protocol.proofs.FastRead.{no-first}
use Rattle.protocol.proofs.Kept.Changes.{range-client, range-messages}
use Rattle.protocol.proofs.Kept.Values.{range-no-read, range-no-write, range-initial}
use Rattle.protocol.proofs.Kept.Values.{range-max, range-count, range-parts}

-- ---- Stamps and values

-- among entries in range
pub range-choice : (z : Sizes) (view : ℕ → Entry) → EntriesInRange z view
    → (k : ℕ) → k < z.items → (n : ℕ) → n ≤ z.items → StampInRange z (choice view k n)
unfolding choice
range-choice z view h k l zero b = (h k l).stamp
range-choice z view h k l (suc n) b =
    range-max z (choice view k n) (cond (has (view n).set k) (view n).stamp 0)
    (range-choice z view h k l n (omega arith))
    (by_cond (StampInRange z) (has (view n).set k) _ _ (λ e. (h n b).stamp) (λ e. range-initial z))

pub value-fits : (s : ℕ) (bytes : List ℕ) (k : ℕ) → value_of s bytes k < 2 ^ 32
value-fits s bytes k =
    by_cond (λ v. v < 2 ^ 32) (has s k) (number_at 4 bytes (4 * rank s k) % 2 ^ 32) 0
    (λ e. omega arith) (λ e. omega arith)

-- ---- A client starts, and messages join

range-start : (t : Tables) → InRange t → (d : ℕ) (c : Client) (ms : List Message)
    → ClientInRange t.sizes c
    → Each (MessageInRange t.sizes) ms
    → InRange (with_messages (with_client t d c) (t.messages ++ ms))
range-start t r d c ms h each =
    range-messages (with_client t d c) (range-client t r d c h) (t.messages ++ ms)
    (each_append (MessageInRange t.sizes) t.messages ms r.messages each)

-- ---- Start a read, or a fast read

module _ (caps : Capacities) (t : Tables) (d s : ℕ) (a : AcceptedStart caps t d s) where
  pub range-asks : (k : ℕ) → has s k ≡ true → StampInRange t.sizes (asks t d k)
  range-asks k e =
      range-choice t.sizes (t.view d) (a.valid.in_range.view d a.client) k
      (has-below s k t.sizes.items a.set e) t.sizes.items (omega arith)

  range-read-part : ReadPartInRange t.sizes (reader t d s).read
  range-read-part =
      record {
        set = a.set;
        awaited = a.set;
        within = λ k e. e;
        asked = λ k e. rw e (range-asks k e);
        values = λ k e. omega arith;
        stage = omega arith;
        firsts = λ k e. not-both e (no-first (reader t d s).read k refl);
      }

  range-gets : Each (MessageInRange t.sizes) (gets t d s)
  range-gets =
      each-upto (MessageInRange t.sizes) (λ k. Get d k (asks t d k)) t.sizes.items (has s)
      (λ k l e. range-get t.sizes a.valid.in_range.sizes d k (asks t d k) a.client l
      (range-asks k e))

  pub range-reader : ClientInRange t.sizes (reader t d s)
  range-reader =
      range-parts t.sizes (t.client d) (reader t d s).read no_write
      (a.valid.in_range.client d a.client) range-read-part (range-no-write t.sizes)
      (λ n. absurd (n refl)) (λ n. absurd (n refl))

  pub range-read : InRange (effect t (start_read d s))
  unfolding effect
  range-read =
      range-start t a.valid.in_range d (reader t d s) (gets t d s) range-reader range-gets

  pub range-fast-reader : ClientInRange t.sizes (fast_reader t d s)
  range-fast-reader =
      range-parts t.sizes (t.client d) (fast_reader t d s).read no_write
      (a.valid.in_range.client d a.client) (record {
        set = a.set;
        awaited = a.set;
        within = λ k e. e;
        asked = λ k e. range-initial t.sizes;
        values = λ k e. omega arith;
        stage = omega arith;
        firsts = λ k e. entry-initial t.sizes;
      }) (range-no-write t.sizes) (λ n. absurd (n refl)) (λ n. (refl, a.some))

  pub range-fast-read : InRange (effect t (start_fast_read d s))
  unfolding effect
  range-fast-read =
      range-start t a.valid.in_range d (fast_reader t d s) (first_gets t d s) range-fast-reader
      (each-upto (MessageInRange t.sizes) (FirstGet d) t.sizes.items (has s)
      (λ k l e. range-first-get t.sizes d k a.client l))

-- ---- Start a write

module _ (caps : Capacities) (t : Tables) (d s : ℕ) (bytes : List ℕ)
    (a : AcceptedWrite caps t d s bytes) where
  range : InRange t
  range = a.start.valid.in_range

  -- neither the count nor a number of the view is beyond 32 bits, and the greatest isn't the last
  number_fits_lem : suc (greatest_of t d) < 2 ^ 32
  number_fits_lem =
      omega (
        arith,
        a.number_left,
        (range.client d a.start.client).count,
        greatest-fits t.sizes (t.view d) (range.view d a.start.client)
            t.sizes.items (le_refl t.sizes.items),
      )

  pub range-next : Stamped t.sizes (next_stamp t d)
  range-next = omega (arith, number_fits_lem)

  -- its client with another count
  abbrev counted : Client
  counted = with_count (t.client d) (suc (greatest_of t d))

  range-counted : ClientInRange t.sizes counted
  range-counted = range-count t.sizes (t.client d) (suc (greatest_of t d))
      (range.client d a.start.client) number_fits_lem

  range-write-part : WritePartInRange t.sizes (writer t d s bytes).write
  range-write-part =
      record {
        set = a.start.set;
        awaited = a.start.set;
        within = λ k e. e;
        stamp = λ n. range-next;
        values = λ k e. value-fits s bytes k;
      }

  range-prepares : Each (MessageInRange t.sizes) (prepares t d s bytes)
  range-prepares =
      each-upto (MessageInRange t.sizes)
      (λ k. Prepare (version k (value_of s bytes k) (next_stamp t d) s)) t.sizes.items (has s)
      (λ k l e. range-prepare t.sizes range.sizes _
      (record {
        item = l;
        value = value-fits s bytes k;
        stamp = range-next;
        set = a.start.set;
        own = e;
      }))

  pub range-writer : ClientInRange t.sizes (writer t d s bytes)
  range-writer =
      range-parts t.sizes counted no_read (writer t d s bytes).write range-counted
      (range-no-read t.sizes) range-write-part (λ n. ne_eqb s 0 n) (λ n. absurd (n refl))

  pub range-write : InRange (effect t (start_write d s bytes))
  unfolding effect
  range-write =
      range-start t range d (writer t d s bytes) (prepares t d s bytes) range-writer range-prepares

-- ---- Start a mixed transaction

module _ (caps : Capacities) (t : Tables) (d r s : ℕ) (bytes : List ℕ)
    (a : AcceptedMixed caps t d r s bytes) where
  pub range-mixer : ClientInRange t.sizes (mixer t d r s bytes)
  range-mixer =
      range-parts t.sizes (counted caps t d s bytes a.write) (reader t d r).read
      (writer t d s bytes).write
      (range-counted caps t d s bytes a.write) (range-read-part caps t d r a.read)
      (range-write-part caps t d s bytes a.write)
      (λ n. rw (ne_eqb r 0 a.read.some) refl) (λ n. absurd (n refl))

  pub range-mixed : InRange (effect t (start_mixed d r s bytes))
  unfolding effect
  range-mixed =
      range-start t a.read.valid.in_range d (mixer t d r s bytes) (mixed_messages t d r s bytes)
      range-mixer
      (each_append (MessageInRange t.sizes) (gets t d r) (prepares t d s bytes)
      (range-gets caps t d r a.read) (range-prepares caps t d s bytes a.write))
