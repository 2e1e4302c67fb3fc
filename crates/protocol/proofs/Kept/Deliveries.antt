-- A delivery keeps the tables in range: whatever it stores, shows or sends was in the message, the
-- client, a latest or a stored version.
use mathlib.Core.Bool.{false}
use mathlib.Core.List.{[], ◌∷◌, ◌++◌}
use mathlib.Core.Path.{◌≡◌, refl, sym, ap, ◌∙◌, subst}
use Prim.Native.Nat.{ℕ, ◌<◌}
use native.Mathlib.Omega.{arith}
use lib.Dec.{eqb}
use borrow.Author.Tests.{eqb-true, eqb-false}
use Rattle.basics.proofs.Cases.{by-test}
use Rattle.basics.specs.Lists.{without}
use Rattle.itemset.specs.Set.{has}
use Rattle.protocol.specs.declared.Message.{Message}
use Rattle.protocol.specs.declared.Version.{Version}
use Rattle.protocol.specs.declared.Entry.{Entry}
use Rattle.protocol.specs.declared.Message.TheVariants.{Prepare, Prepared, Commit, Get, Got}
use Rattle.protocol.specs.declared.Message.TheVariants.{FirstGet, FirstReply}
use Rattle.protocol.specs.Tables.{Sizes, Tables, is_second_part, of_read, of_write, put, writer_of}
use Rattle.protocol.specs.Range.{Capacities}
use Rattle.protocol.specs.FastRead.{first_replied}
use Rattle.protocol.specs.Steps.{is_last, prepared, got, got_first, committed, commits, touches}
use Rattle.protocol.specs.Steps.{offered, answer_of, delivered, joined, message_at}
use Rattle.protocol.specs.Calls.{deliver, effect}
use Rattle.protocol.proofs.Each.{Each, each_none, each-one, each_append, each-without}
use Rattle.protocol.proofs.Each.{each-upto}
use Rattle.protocol.proofs.Ranges.Values.{IsClient, EntryInRange, EntriesInRange}
use Rattle.protocol.proofs.Ranges.Values.{StampInRange, Stamped, VersionInRange}
use Rattle.protocol.proofs.Ranges.Values.{MessageInRange, ReplyInRange, tells-reply}
use Rattle.protocol.proofs.Ranges.Values.{range-reply, range-commit, range-get}
use Rattle.protocol.proofs.Ranges.Tables.{InRange, Stamps}
use Rattle.protocol.proofs.Refusals.{Expected, AcceptedDeliver, accepted-message}
use Rattle.protocol.proofs.Refusals.{tells-prepared, tells-got, tells-first-reply}
use Rattle.protocol.proofs.Commits.{no-commits}
use Rattle.protocol.proofs.Delivered.{delivered-work}
use Rattle.protocol.proofs.Put.{by_cond, put_all}
use Rattle.protocol.proofs.Kept.Changes.{range-both, range-latest, range-versions}
use Rattle.protocol.proofs.Kept.Changes.{range-messages}
use Rattle.protocol.proofs.Kept.Values.{range-offered, range-seen, range-found}
use Rattle.protocol.proofs.Kept.Values.{range-committed, range-prepared, range-got}
use Rattle.protocol.proofs.Kept.Values.{awaits-some, fast-alone}
use Rattle.protocol.proofs.Kept.Firsts.{range-replied, range-first-reply}

-- the view with what a reply offers to it
range-grown : (t : Tables) → InRange t → (d : ℕ) (v : Version) (latest : Entry)
    → ReplyInRange t.sizes d v latest
    → EntriesInRange t.sizes
    (put (t.view d) v.item (offered (t.view d v.item) v latest))
range-grown t r d v latest h j l =
    let z = t.sizes in
    let view = r.view d h.client in
    put_all (EntryInRange z) (t.view d) v.item (offered (t.view d v.item) v latest) j
    (range-offered z (t.view d v.item) v latest (view v.item h.item) h.entry
    h.latest)
    (view j l)

-- what changes beside the messages in flight
pub range-delivered : (t : Tables) (m : Message) → InRange t → MessageInRange t.sizes m
    → Expected t m → InRange (delivered t m)
unfolding delivered
range-delivered t (Prepare v) r h x =
    range-versions t r (t.versions ++ v ∷ [])
    (each_append (VersionInRange t.sizes) t.versions (v ∷ []) r.versions
    (each-one (VersionInRange t.sizes) v
    (record {
      item = h.item;
      value = h.value;
      stamp = h.written (omega arith);
      set = h.set;
      own = h.own refl;
    })))
range-delivered t (Prepared k stamp) r h x =
    let z = t.sizes in
    let d = writer_of stamp in
    let c = t.client d in
    let stamped = h.written (omega arith) in
    let one : IsClient z d = stamped.writer in
    range-both t r d (prepared c k) _
    (range-prepared z c k (r.client d one) ((tells-prepared t k stamp).0 x).awaited)
    (by_cond (EntriesInRange z) (is_last of_write c k) _ _
    (λ l. range-seen z (t.view d) c.write.set stamp (r.view d one)
    (r.client d one).write.set (λ n. stamped))
    (λ l. r.view d one))
range-delivered t (Commit p stamp) r h x =
    range-latest t r (committed t p stamp) (range-committed t p stamp r (h.written (omega arith)))
range-delivered t (Get d k stamp) r h x = r
range-delivered t (Got d v latest) r h x =
    let z = t.sizes in
    let reply = (tells-reply z d v latest 5 (omega arith)).0 h in
    let one : IsClient z d = reply.client in
    let k = v.item in
    let c = t.client d in
    let after = range-grown t r d v latest reply in
    let awaited = (tells-got t d v latest).0 x in
    range-both t r d (got c k v.value) _
    (range-got z c k v.value (r.client d one) awaited.awaited awaited.by_stamp
    reply.value)
    (by_cond (EntriesInRange z) (is_last of_read c k) _ _
    (λ l. range-seen z _ c.write.set c.write.stamp after
    (r.client d one).write.set (r.client d one).write.stamp)
    (λ l. after))
range-delivered t (FirstGet d k) r h x = r
range-delivered t (FirstReply d v latest) r h x =
    let z = t.sizes in
    let reply = (tells-reply z d v latest 7 (omega arith)).0 h in
    let c = t.client d in
    let one = r.client d reply.client in
    let awaited = (tells-first-reply t d v latest).0 x in
    range-both t r d (got_first z.items c v) _
    (range-first-reply z c one v awaited.by_item reply.value reply.entry
    (fast-alone z c one awaited.by_item))
    (range-grown t r d v latest reply)

-- what joins

-- what a partition answers
range-answer : (t : Tables) → InRange t → (d k stamp : ℕ) → IsClient t.sizes d
    → k < t.sizes.items → StampInRange t.sizes stamp
    → ReplyInRange t.sizes d (answer_of t k stamp) (t.latest k)
range-answer t r d k stamp client item h =
    let found_in = range-found t.sizes t.versions k stamp r.versions in
    record {
      client = client;
      item = item;
      value = found_in.value;
      entry = record { stamp = h; set = found_in.set };
      latest = r.latest k item;
    }

range-commits : (t : Tables) (s stamp : ℕ) → InRange t → Stamped t.sizes stamp
    → Each (MessageInRange t.sizes) (commits t s stamp)
range-commits t s stamp r h =
    each-upto (MessageInRange t.sizes) (λ p. Commit p stamp) t.sizes.partitions
    (λ p. touches t s p t.sizes.items)
    (λ p l e. range-commit t.sizes r.sizes p stamp l h)

-- commits that a got sends have their client's stamp, which must be one
pub range-joined : (t : Tables) (m : Message) → InRange t → Stamps t → MessageInRange t.sizes m
    → Expected t m → Each (MessageInRange t.sizes) (joined t m)
unfolding joined
range-joined t (Prepare v) r stamps h x =
    each-one (MessageInRange t.sizes) (Prepared v.item v.stamp)
    (range-reply t.sizes r.sizes v.item v.stamp h.item (h.written (omega arith)))
range-joined t (Prepared k stamp) r stamps h x =
    by_cond (Each (MessageInRange t.sizes)) (is_last of_write (t.client (writer_of stamp)) k) _ _
    (λ l. range-commits t (t.client (writer_of stamp)).write.set stamp r
    (h.written (omega arith)))
    (λ l. each_none (MessageInRange t.sizes))
range-joined t (Commit p stamp) r stamps h x = each_none (MessageInRange t.sizes)
range-joined t (Get d k stamp) r stamps h x =
    each-one (MessageInRange t.sizes) (Got d (answer_of t k stamp) (t.latest k))
    ((tells-reply t.sizes d (answer_of t k stamp) (t.latest k) 5 (omega arith)).1
    (range-answer t r d k stamp (h.client (omega arith)) h.item h.stamp))
range-joined t (Got d v latest) r stamps h x =
    let c = t.client d in
    let k = v.item in
    let s = c.write.set in
    let one = r.client d (h.client (omega arith)) in
    let reads : eqb c.read.set 0 ≡ false =
    awaits-some c.read.awaited c.read.set k one.read.within
    ((tells-got t d v latest).0 x).awaited in
    by_cond (Each (MessageInRange t.sizes)) (is_last of_read c k) _ _
    (λ l. by-test (eqb s 0)
    (λ e. subst (Each (MessageInRange t.sizes))
    (sym (ap (λ (y : ℕ). commits t y c.write.stamp) (eqb-true s 0 e)
    ∙ no-commits t c.write.stamp)) (each_none (MessageInRange t.sizes)))
    (λ e. range-commits t s c.write.stamp r
    (one.write.stamp (stamps d (h.client (omega arith)) (eqb-false c.read.set 0 reads)
    (eqb-false s 0 e)))))
    (λ l. each_none (MessageInRange t.sizes))
range-joined t (FirstGet d k) r stamps h x =
    let stamp = (t.latest k).stamp in
    each-one (MessageInRange t.sizes) (FirstReply d (answer_of t k stamp) (t.latest k))
    ((tells-reply t.sizes d (answer_of t k stamp) (t.latest k) 7 (omega arith)).1
    (range-answer t r d k stamp (h.client (omega arith)) h.item (r.latest k h.item).stamp))
range-joined t (FirstReply d v latest) r stamps h x =
    let z = t.sizes in
    let reply = (tells-reply z d v latest 7 (omega arith)).0 h in
    let c = t.client d in
    let p = first_replied z.items c.read v in
    let part = range-replied z c (r.client d reply.client) v
    ((tells-first-reply t d v latest).0 x).by_item reply.value reply.entry in
    by_cond (Each (MessageInRange z)) (is_second_part p) _ _
    (λ e. each-upto (MessageInRange z) (λ k. Get d k (p.asked k)) z.items (has p.awaited)
    (λ k l a. range-get z r.sizes d k (p.asked k) reply.client l
    (part.asked k (part.within k a))))
    (λ e. each_none (MessageInRange z))

pub range-deliver : (caps : Capacities) (t : Tables) (i : ℕ) → AcceptedDeliver caps t i → Stamps t
    → InRange (effect t (deliver i))
unfolding effect
range-deliver caps t i a stamps =
    let r = a.valid.in_range in
    let m = message_at t i in
    let known = accepted-message caps t i a in
    let P = MessageInRange t.sizes in
    let rest = without i t.messages in
    let each : Each P (rest ++ joined t m) =
    each_append P rest (joined t m) (each-without P i t.messages r.messages)
    (range-joined t m r stamps known a.expected) in
    range-messages (delivered t m) (range-delivered t m r known a.expected) (rest ++ joined t m)
    (subst (λ (z : Sizes). Each (MessageInRange z) (rest ++ joined t m))
    (sym (delivered-work t m).sizes) each)
