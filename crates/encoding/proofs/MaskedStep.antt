-- An accepted call leaves tables initial outside their sizes and sets: it writes only at clients
-- and items that exist, and a client's stamps and values only at the items of its set. So does a
-- fresh start.
use mathlib.Core.Bool.{Bool, true, false, cond, ◌&&◌}
use mathlib.Core.List.{List, ◌∷◌, [], ◌++◌}
use mathlib.Core.Logic.{◌≢◌}
use mathlib.Core.Path.{◌≡◌, refl, sym, ap, ◌∙◌, subst}
use Prim.Native.Nat.{ℕ, ◌^◌, ◌<◌}
use native.Mathlib.Omega.{arith}
use lib.Dec.{eqb}
use borrow.Author.Tests.{lt-ltb, ne_eqb}
use Rattle.basics.proofs.Cases.{by-test, not-both, and_right}
use Rattle.basics.specs.Lists.{without}
use Rattle.itemset.specs.Set.{has}
use Rattle.itemset.proofs.Laws.{has-below, has-remove-same}
use Rattle.protocol.specs.declared.Version.{Version}
use Rattle.protocol.specs.declared.Entry.{Entry}
use Rattle.protocol.specs.declared.Message.{Message}
use Rattle.protocol.specs.declared.Message.TheVariants.{Prepare, Prepared, Commit, Get, Got}
use Rattle.protocol.specs.declared.Message.TheVariants.{FirstGet, FirstReply}
use Rattle.protocol.specs.Tables.{Sizes, Tables, Client, ReadPart, of_read, of_write, nothing}
use Rattle.protocol.specs.Tables.{initial, entry_of, fresh, resting, rested, put, writer_of}
use Rattle.protocol.specs.Tables.{partition_of, with_client, with_read, with_view, with_latest}
use Rattle.protocol.specs.Tables.{with_versions, with_messages}
use Rattle.protocol.specs.Range.{Capacities, is_client, is_item, is_writing, has_first}
use Rattle.protocol.specs.FastRead.{fast_reader, first_gets, first_kept, second_part, first_replied}
use Rattle.protocol.specs.Steps.{reader, gets, writer, prepares, mixer, mixed_messages, stored}
use Rattle.protocol.specs.Steps.{found, struck, answered}
use Rattle.protocol.specs.Steps.{ended_read, ended_write, ended, is_last, prepared, got, got_first}
use Rattle.protocol.specs.Steps.{offered, seen, committed, delivered, joined, message_at}
use Rattle.protocol.specs.Clear.{cleared}
use Rattle.protocol.specs.HandOver.{taken_over}
use Rattle.protocol.specs.Calls.{Call, start_read, start_fast_read, start_write, start_mixed, deliver}
use Rattle.protocol.specs.Calls.{show, clear, hand_over, compare, check, refusal, effect}
use Rattle.protocol.proofs.FastRead.{first-in-set, first-come, first-kept, first-apart, first-other}
use Rattle.protocol.proofs.Put.{by_cond, put_all, put_other, put-every}
use Rattle.protocol.proofs.Stored.{found-held}
use Rattle.protocol.proofs.Ranges.Values.{IsClient, MessageInRange}
use Rattle.protocol.proofs.Ranges.Tables.{InRange}
use Rattle.protocol.proofs.Refusals.{AcceptedDeliver, Expected, accepted-read, accepted-write}
use Rattle.protocol.proofs.Refusals.{accepted-deliver, accepted-message, tells-prepared, tells-got}
use Rattle.protocol.proofs.Refusals.{accepted-fast-read, accepted-mixed, tells-first-reply}
use Rattle.protocol.proofs.Refusals.{accepted-hand-over}
use Rattle.layout.specs.Encodes.{writes_alone}
use Rattle.layout.proofs.Masked.{Only, OnlyCome, MaskedEnded, MaskedClient, Masked}
use Rattle.layout.proofs.Parts.{awaits-reply, awaits-answer}
use Rattle.encoding.proofs.WellFormed.{client-test}
use Rattle.encoding.proofs.MaskedTables.{masked-nothing, masked-rested}

-- ---- Changes

-- entries that are initial outside the items
abbrev MaskedEntries : Sizes → (ℕ → Entry) → Type 0
MaskedEntries z f = (k : ℕ) → is_item z k ≡ false → f k ≡ initial

-- a client that exists is none of those that don't
put-absent : {A : Type 0} (z : Sizes) (f : ℕ → A) (d : ℕ) (v : A) (e : ℕ) → IsClient z d
    → is_client z e ≡ false → put f d v e ≡ f e
put-absent z f d v e c h = put_other f d v e
    (λ p. not-both (client-test z d c) (subst (λ (x : ℕ). is_client z x ≡ false) p h))

module _ (t : Tables) (m : Masked t) where
  masked-client : (d : ℕ) (c : Client) → IsClient t.sizes d → MaskedClient c
      → Masked (with_client t d c)
  masked-client d c i h =
      record {
        latest = m.latest;
        client_view = m.client_view;
        item_view = m.item_view;
        absent = λ e f. put-absent t.sizes t.client d c e i f ∙ m.absent e f;
        client = λ e. put_all MaskedClient t.client d c e h (m.client e);
      }

  masked-view : (d : ℕ) (f : ℕ → Entry) → IsClient t.sizes d → MaskedEntries t.sizes f
      → Masked (with_view t d f)
  masked-view d f i h =
      record {
        latest = m.latest;
        client_view =
            λ e k g. ap (λ (view : ℕ → Entry). view k) (put-absent t.sizes t.view d f e i g)
            ∙ m.client_view e k g;
        item_view =
            λ e k g. put_all (λ (view : ℕ → Entry). view k ≡ initial) t.view d f e (h k g)
            (m.item_view e k g);
        absent = m.absent;
        client = m.client;
      }

  masked-latest : (f : ℕ → Entry) → MaskedEntries t.sizes f → Masked (with_latest t f)
  masked-latest f h = search

  masked-versions : (vs : List Version) → Masked (with_versions t vs)
  masked-versions vs = search

  masked-messages : (ms : List Message) → Masked (with_messages t ms)
  masked-messages ms = search

-- ---- Starts

masked-start : (t : Tables) → Masked t → (d : ℕ) (c : Client) (ms : List Message)
    → IsClient t.sizes d → MaskedClient c
    → Masked (with_messages (with_client t d c) (t.messages ++ ms))
masked-start t m d c ms i h =
    masked-messages (with_client t d c) (masked-client t m d c i h) (t.messages ++ ms)

masked-reader : (t : Tables) → Masked t → (d s : ℕ) → MaskedClient (reader t d s)
masked-reader t m d s =
    record {
      asked = λ k e. rw e;
      answers = λ k e. refl;
      firsts = λ k e. refl;
      values = λ k e. refl;
      writing = λ w. not-both w refl;
      others = λ w. refl;
      last = (m.client d).last;
    }

masked-fast-reader : (t : Tables) → Masked t → (d s : ℕ) → MaskedClient (fast_reader t d s)
masked-fast-reader t m d s =
    record {
      asked = λ k e. refl;
      answers = λ k e. refl;
      firsts = λ k e. refl;
      values = λ k e. refl;
      writing = λ w. not-both w refl;
      others = λ w. refl;
      last = (m.client d).last;
    }

masked-writer : (t : Tables) → Masked t → (d s : ℕ) (bytes : List ℕ) → s ≢ 0
    → MaskedClient (writer t d s bytes)
masked-writer t m d s bytes n =
    record {
      asked = λ k e. refl;
      answers = λ k e. refl;
      firsts = λ k e. refl;
      values = λ k e. rw e;
      writing = λ w. refl;
      others = λ w. not-both (rw (ne_eqb s 0 n) refl) w;
      last = (m.client d).last;
    }

masked-mixer : (t : Tables) → Masked t → (d r s : ℕ) (bytes : List ℕ) → r ≢ 0 → s ≢ 0
    → MaskedClient (mixer t d r s bytes)
masked-mixer t m d r s bytes l n =
    record {
      asked = λ k e. rw e;
      answers = λ k e. refl;
      firsts = λ k e. refl;
      values = λ k e. rw e;
      writing = λ w. not-both w (rw (ne_eqb s 0 n, ne_eqb r 0 l) refl);
      others = λ w. not-both (rw (ne_eqb s 0 n) refl) w;
      last = (m.client d).last;
    }

-- ---- Deliveries

-- item k of the set, or another, gets a value
only-put : (s : ℕ) (f : ℕ → ℕ) (k v : ℕ) → has s k ≡ true → Only s f → Only s (put f k v)
only-put s f k v h o j e = put_other f k v j
    (λ p. not-both h (subst (λ (x : ℕ). has s x ≡ false) p e)) ∙ o j e

masked-struck : (c : Client) (k : ℕ) → MaskedClient c → is_writing c ≡ true
    → MaskedClient (struck c k)
masked-struck c k m w = record {
  asked = m.asked;
  answers = m.answers;
  firsts = m.firsts;
  values = m.values;
  writing = m.writing;
  others = λ o. not-both w o;
  last = m.last;
}

-- another read part of the same items, with nothing outside its set
masked-read : (c : Client) (p : ReadPart) → MaskedClient c → writes_alone c ≡ false
    → p.set ≡ c.read.set → Only p.set p.asked → Only p.set p.values → OnlyCome p
    → MaskedClient (with_read c p)
masked-read c p m w s asks answers come = record {
  asked = asks;
  answers = answers;
  firsts = come;
  values = m.values;
  writing = λ a. not-both (rw s at a) w;
  others = m.others;
  last = m.last;
}

masked-ended : (c : Client) → MaskedClient c → MaskedEnded (ended c)
masked-ended c m =
    record {
      asked = m.asked;
      answers = m.answers;
      firsts = λ k e. refl;
      values = m.values;
      hidden_read = λ s. by-test (eqb c.write.set 0)
          (λ e. by-test (eqb c.read.stage 0) (λ n. not-both refl (rw (e, n) at s))
          (λ n. not-both refl (rw (e, n) at s)))
          (λ e. by-test (eqb c.read.set 0) (λ n. ap ended_read (m.writing (rw (e, n) refl)))
          (λ n. not-both refl (rw (e, n) at s)));
      hidden_write = λ s. by-test (eqb c.write.set 0)
          (λ e. ap ended_write (m.others (rw e refl)))
          (λ e. by-test (eqb c.read.set 0) (λ n. not-both refl (rw (e, n) at s))
          (λ n. not-both refl (rw (e, n) at s)));
    }

-- with the last reply it rests, and its part is as it ended
masked-last : (c : Client) (last : Bool) (p : ReadPart) → MaskedClient (with_read c p)
    → MaskedClient (cond last (rested c (ended (with_read c p))) (with_read c p))
masked-last c last p m =
    by_cond MaskedClient last _ _
    (λ l. masked-rested c (ended (with_read c p)) (masked-ended (with_read c p) m)) (λ l. m)

masked-prepared : (c : Client) (k : ℕ) → MaskedClient c → is_writing c ≡ true
    → MaskedClient (prepared c k)
masked-prepared c k m w =
    by_cond MaskedClient (is_last of_write c k) _ _
    (λ l. masked-rested c (ended c) (masked-ended c m))
    (λ l. masked-struck c k m w)

-- a got comes in no first part, so the first replies that have come stay the same
masked-got : (c : Client) (k v : ℕ) → MaskedClient c → writes_alone c ≡ false
    → has c.read.set k ≡ true → c.read.stage ≢ 1 → MaskedClient (got c k v)
masked-got c k v m w h n =
    let p = (answered c k v).read in
    masked-last c (is_last of_read c k) p
    (masked-read c p m w refl m.asked
    (only-put c.read.set c.read.values k v h m.answers)
    (λ j e. m.firsts j (sym (first-apart c.read p j n refl refl) ∙ e)))

-- a first reply is kept for its item, and in the second part all have come
come-kept : (p : ReadPart) (v : Version) → p.stage ≡ 1 → has p.set v.item ≡ true
    → OnlyCome p → OnlyCome (first_kept p v)
come-kept p v first h o =
    put-every (λ (k : ℕ) (x : Entry). has_first (first_kept p v) k ≡ false → x ≡ initial)
    p.firsts v.item (entry_of v)
    (λ e. not-both
    (first-come (first_kept p v) v.item first h (has-remove-same p.awaited v.item)) e)
    (λ k other e. o k (sym (first-other p v k other) ∙ e))

come-second : (n : ℕ) (p : ReadPart) → OnlyCome p → OnlyCome (second_part n p)
come-second n p o k e =
    o k (by-test (has_first p k)
    (λ h. not-both (first-kept (second_part n p) k refl (first-in-set p k h)) e) (λ h. h))

masked-first-reply : (n : ℕ) (c : Client) (v : Version) → MaskedClient c → writes_alone c ≡ false
    → has c.read.set v.item ≡ true → c.read.stage ≡ 1 → MaskedClient (got_first n c v)
masked-first-reply n c v m w h first =
    let p = c.read in
    let kept = first_kept p v in
    let answers = only-put p.set p.values v.item v.value h m.answers in
    let come = come-kept p v first h m.firsts in
    let after = first_replied n p v in
    masked-last c (eqb after.awaited 0) after
    (by_cond (λ (q : ReadPart). MaskedClient (with_read c q)) (eqb kept.awaited 0) _ _
    (λ e. masked-read c (second_part n kept) m w refl (λ k o. rw o) answers
    (come-second n kept come))
    (λ e. masked-read c kept m w refl m.asked answers come))

-- a set of existing items has none of those that don't exist
hasnt-item : (z : Sizes) (s k : ℕ) → s < 2 ^ z.items → is_item z k ≡ false → has s k ≡ false
hasnt-item z s k l f = by-test (has s k)
    (λ h. not-both (lt-ltb k z.items (has-below s k z.items l h)) f) (λ h. h)

masked-seen : (z : Sizes) (view : ℕ → Entry) (s stamp : ℕ) → s < 2 ^ z.items → MaskedEntries z view
    → MaskedEntries z (seen view s stamp)
masked-seen z view s stamp l m k f = rw (hasnt-item z s k l f) (m k f)

-- a stored version is of an item that exists
masked-committed : (t : Tables) → Masked t → InRange t → (p stamp : ℕ)
    → MaskedEntries t.sizes (committed t p stamp)
masked-committed t m r p stamp k f =
    by_cond (λ (e : Entry). e ≡ initial)
    (eqb (partition_of t k) p && stored t.versions k stamp) _ _
    (λ y.
    let held = found-held t.versions k stamp
    (and_right (eqb (partition_of t k) p) (stored t.versions k stamp) y) in
    let exists : k < t.sizes.items =
    rw held.item at (r.versions (found t.versions k stamp) held.is_in).item in
    not-both (lt-ltb k t.sizes.items exists) f)
    (λ n. m.latest k f)

-- a reply is for an item that exists
masked-offered : (t : Tables) → Masked t → (d : ℕ) (v : Version) (latest : Entry)
    → v.item < t.sizes.items
    → MaskedEntries t.sizes (put (t.view d) v.item (offered (t.view d v.item) v latest))
masked-offered t m d v latest l j f =
    let k = v.item in
    let other : j ≢ k =
    λ p. not-both (lt-ltb k t.sizes.items l)
    (subst (λ (y : ℕ). is_item t.sizes y ≡ false) p f) in
    put_other (t.view d) k (offered (t.view d k) v latest) j other ∙ m.item_view d j f

masked-delivered : (t : Tables) (x : Message) → Masked t → InRange t → MessageInRange t.sizes x
    → Expected t x → Masked (delivered t x)
unfolding delivered
masked-delivered t (Prepare v) m r h x = masked-versions t m (t.versions ++ v ∷ [])
masked-delivered t (Prepared k stamp) m r h x =
    let d = writer_of stamp in
    let c = t.client d in
    let one : IsClient t.sizes d = (h.written (omega arith)).writer in
    masked-view (with_client t d (prepared c k))
    (masked-client t m d (prepared c k) one (masked-prepared c k (m.client d)
    (awaits-reply t.sizes c (r.client d one) k ((tells-prepared t k stamp).0 x).awaited))) d
    (cond (is_last of_write c k) (seen (t.view d) c.write.set stamp) (t.view d)) one
    (by_cond (MaskedEntries t.sizes) (is_last of_write c k) _ _
    (λ l. masked-seen t.sizes (t.view d) c.write.set stamp (r.client d one).write.set
    (m.item_view d))
    (λ l. m.item_view d))
masked-delivered t (Commit p stamp) m r h x =
    masked-latest t m (committed t p stamp) (masked-committed t m r p stamp)
masked-delivered t (Get d k stamp) m r h x = m
masked-delivered t (Got d v latest) m r h x =
    let c = t.client d in
    let k = v.item in
    let one : IsClient t.sizes d = h.client (omega arith) in
    let range = r.client d one in
    let expected = (tells-got t d v latest).0 x in
    let own = range.read.within k expected.awaited in
    let reads = awaits-answer t.sizes c range k expected.awaited in
    let view = put (t.view d) k (offered (t.view d k) v latest) in
    let entries = masked-offered t m d v latest h.item in
    masked-view (with_client t d (got c k v.value))
    (masked-client t m d (got c k v.value) one
    (masked-got c k v.value (m.client d) reads own expected.by_stamp)) d
    (cond (is_last of_read c k) (seen view c.write.set c.write.stamp) view) one
    (by_cond (MaskedEntries t.sizes) (is_last of_read c k) _ _
    (λ l. masked-seen t.sizes view c.write.set c.write.stamp range.write.set entries)
    (λ l. entries))
masked-delivered t (FirstGet d k) m r h x = m
masked-delivered t (FirstReply d v latest) m r h x =
    let c = t.client d in
    let k = v.item in
    let n = t.sizes.items in
    let one : IsClient t.sizes d = h.client (omega arith) in
    let range = r.client d one in
    let expected = (tells-first-reply t d v latest).0 x in
    let own = range.read.within k expected.awaited in
    let reads = awaits-answer t.sizes c range k expected.awaited in
    masked-view (with_client t d (got_first n c v))
    (masked-client t m d (got_first n c v) one
    (masked-first-reply n c v (m.client d) reads own expected.by_item)) d
    (put (t.view d) k (offered (t.view d k) v latest)) one
    (masked-offered t m d v latest h.item)

masked-deliver : (caps : Capacities) (t : Tables) → Masked t → (i : ℕ) → AcceptedDeliver caps t i
    → Masked (effect t (deliver i))
unfolding effect
masked-deliver caps t m i a =
    let x = message_at t i in
    masked-messages (delivered t x)
    (masked-delivered t x m a.valid.in_range (accepted-message caps t i a) a.expected)
    (without i t.messages ++ joined t x)

-- ---- Any call, and a fresh start

pub masked-step : (caps : Capacities) (t : Tables) (c : Call) → refusal caps t c ≡ 0 → Masked t
    → Masked (effect t c)
unfolding effect
masked-step caps t (start_read d s) e m =
    let a = (accepted-read caps t d s).0 e in
    masked-start t m d (reader t d s) (gets t d s) a.client (masked-reader t m d s)
masked-step caps t (start_fast_read d s) e m =
    let a = (accepted-fast-read caps t d s).0 e in
    masked-start t m d (fast_reader t d s) (first_gets t d s) a.client (masked-fast-reader t m d s)
masked-step caps t (start_write d s bytes) e m =
    let a = (accepted-write caps t d s bytes).0 e in
    masked-start t m d (writer t d s bytes) (prepares t d s bytes) a.start.client
    (masked-writer t m d s bytes a.start.some)
masked-step caps t (start_mixed d r s bytes) e m =
    let a = (accepted-mixed caps t d r s bytes).0 e in
    masked-start t m d (mixer t d r s bytes) (mixed_messages t d r s bytes) a.read.client
    (masked-mixer t m d r s bytes a.read.some a.write.start.some)
masked-step caps t (deliver i) e m = masked-deliver caps t m i ((accepted-deliver caps t i).0 e)
masked-step caps t (show d output) e m = m
masked-step caps t clear e m = masked-versions t m (cleared t).versions
masked-step caps t (hand_over d r) e m =
    masked-view t m r (taken_over t d r) ((accepted-hand-over caps t d r).0 e).receiver
    (λ k f. rw (m.item_view r k f, m.item_view d k f) refl)
masked-step caps t (compare d r) e m = m
masked-step caps t check e m = m

pub masked-fresh : (z : Sizes) → Masked (fresh z)
masked-fresh z =
    record {
      latest = λ k e. refl;
      client_view = λ d k e. refl;
      item_view = λ d k e. refl;
      absent = λ d e. refl;
      client = λ d. masked-rested (resting 0 nothing) nothing masked-nothing;
    }
