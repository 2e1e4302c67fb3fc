-- A start adds to the load one for each item of its set, and a delivery adds nothing: what joins
-- and what has arrived is at most the message that leaves.
use mathlib.Core.Bool.{true, cond}
use mathlib.Core.List.{List, [], ◌++◌}
use mathlib.Core.Logic.{◌≢◌}
use mathlib.Core.Path.{◌≡◌, refl, ap, ◌∙◌}
use Prim.Native.Nat.{ℕ, suc, ◌+◌, ◌-◌, ◌^◌, ◌≤◌, ◌<◌}
use native.Mathlib.Omega.{arith}
use lib.Dec.{eqb}
use lib.ListN.{length, length-append, length-map}
use borrow.Author.Tests.{eqb-true, eqb-false, ne_eqb}
use Rattle.basics.proofs.Cases.{by-test, not-both, and_right}
use Rattle.basics.specs.Lists.{without}
use Rattle.basics.proofs.Lists.{length_without}
use Rattle.itemset.specs.Set.{has, count, remove}
use Rattle.itemset.proofs.Counts.{count-empty, count-remove, count-some}
use Rattle.itemset.proofs.Members.{length-members}
use Rattle.protocol.specs.declared.Version.{Version}
use Rattle.protocol.specs.declared.Message.{Message}
use Rattle.protocol.specs.declared.Message.TheVariants.{Prepare, Prepared, Commit, Get, Got}
use Rattle.protocol.specs.declared.Message.TheVariants.{FirstGet, FirstReply}
use Rattle.protocol.specs.Tables.{Tables, Client, of_read, of_write, rested, writer_of}
use Rattle.protocol.specs.Tables.{with_client, with_messages, with_read}
use Rattle.protocol.specs.Range.{Capacities, arrived_first, arrived, load}
use Rattle.protocol.specs.FastRead.{fast_reader, first_gets, first_kept, first_replied}
use Rattle.protocol.specs.FastRead.{second_part, second_gets}
use Rattle.protocol.specs.Steps.{reader, gets, writer, prepares, is_last, ended, struck}
use Rattle.protocol.specs.Steps.{answered, prepared, got, commits, delivered, joined}
use Rattle.protocol.specs.Steps.{got_first, message_at, mixer, mixed_messages}
use Rattle.protocol.specs.Calls.{start_read, start_fast_read, start_write, start_mixed, deliver}
use Rattle.protocol.specs.Calls.{effect}
use Rattle.protocol.proofs.Ranges.Values.{IsClient, MessageInRange}
use Rattle.protocol.proofs.Ranges.Tables.{InRange}
use Rattle.protocol.proofs.Refusals.{AcceptedStart, AcceptedMixed, AcceptedDeliver, Expected}
use Rattle.protocol.proofs.Refusals.{accepted-message, tells-prepared, tells-got}
use Rattle.protocol.proofs.Refusals.{tells-first-reply}
use Rattle.protocol.proofs.Delivered.{delivered-work}
use Rattle.protocol.proofs.Put.{by_cond, total-put}
use Rattle.protocol.proofs.FastRead.{stale-below, few-stale, length-second}
use Rattle.protocol.proofs.Touched.{length-commits}

-- ---- The load of changed tables

pub load-messages : (t : Tables) (ms : List Message)
    → load (with_messages t ms) + length t.messages ≡ load t + length ms
unfolding load
load-messages t ms = omega arith

pub load-client : (t : Tables) (d : ℕ) (c : Client) → IsClient t.sizes d
    → load (with_client t d c) + arrived (t.client d) ≡ load t + arrived c
unfolding load
load-client t d c h = omega (
  arith,
  total-put arrived t.client d c t.sizes.clients h.0
      h.1,
)

-- ---- What has arrived

-- nothing of an empty write part and an ordinary read, so of an idle client
pub arrived-none : (c : Client) → c.write.set ≡ 0 → c.read.stage ≡ 0 → arrived c ≡ 0
unfolding arrived
arrived-none c e f = rw f (omega (arith, ap count e, count-empty))

pub arrived-of : (c : Client) → arrived c ≡ count c.write.set - count c.write.awaited
    + arrived_first c.read
unfolding arrived
arrived-of c = refl

-- ---- Starts

-- one message for each item of its set
length-gets : (t : Tables) (d s : ℕ) → s < 2 ^ t.sizes.items → length (gets t d s) ≡ count s
length-gets t d s h = simp length-map (length-members s t.sizes.items h)

length-prepares : (t : Tables) (d s : ℕ) (bytes : List ℕ) → s < 2 ^ t.sizes.items
    → length (prepares t d s bytes) ≡ count s
length-prepares t d s bytes h = simp length-map (length-members s t.sizes.items h)

-- client d of t, idle, is replaced by one of whose messages none has arrived, and messages join
load-start : (t : Tables) (d : ℕ) (c : Client) (ms : List Message) → IsClient t.sizes d
    → arrived (t.client d) ≡ 0 → arrived c ≡ 0
    → load (with_messages (with_client t d c) (t.messages ++ ms)) ≡ load t + length ms
load-start t d c ms h rests none =
    omega (
      arith,
      load-messages (with_client t d c) (t.messages ++ ms),
      length-append
          t.messages ms,
      load-client t d c h,
    )

-- an idle client in range has no write part and no fast read
start-rests : (caps : Capacities) (t : Tables) (d s : ℕ) → AcceptedStart caps t d s
    → arrived (t.client d) ≡ 0
start-rests caps t d s a =
    let c = t.client d in
    let r = a.valid.in_range.client d a.client in
    arrived-none c
    (by-test (eqb c.write.set 0) (λ e. eqb-true c.write.set 0 e)
    (λ e. not-both (rw (a.idle.read, a.idle.write) refl)
    (r.busy (eqb-false c.write.set 0 e))))
    (by-test (eqb c.read.stage 0) (λ e. eqb-true c.read.stage 0 e)
    (λ e. absurd ((r.fast (eqb-false c.read.stage 0 e)).1 a.idle.read)))

module _ (caps : Capacities) (t : Tables) (d s : ℕ) (a : AcceptedStart caps t d s) where
  pub load_read : load (effect t (start_read d s)) ≡ load t + count s
  unfolding effect
  load_read =
      load-start t d (reader t d s) (gets t d s) a.client (start-rests caps t d s a)
      (arrived-none (reader t d s) refl refl)
      ∙ ap (λ (n : ℕ). load t + n) (length-gets t d s a.set)

  pub load-fast-read : load (effect t (start_fast_read d s)) ≡ load t + count s
  unfolding effect
  load-fast-read =
      load-start t d (fast_reader t d s) (first_gets t d s) a.client (start-rests caps t d s a)
      (omega (arith, arrived-of (fast_reader t d s), count-empty))
      ∙ ap (λ (n : ℕ). load t + n) (simp length-map (length-members s t.sizes.items a.set))

  pub load-write : (bytes : List ℕ) → load (effect t (start_write d s bytes)) ≡ load t + count s
  unfolding effect
  load-write bytes =
      load-start t d (writer t d s bytes) (prepares t d s bytes) a.client
      (start-rests caps t d s a)
      (omega (arith, arrived-of (writer t d s bytes)))
      ∙ ap (λ (n : ℕ). load t + n) (length-prepares t d s bytes a.set)

-- both sets' items, a shared one twice
pub load-mixed : (caps : Capacities) (t : Tables) (d r s : ℕ) (bytes : List ℕ)
    → AcceptedMixed caps t d r s bytes
    → load (effect t (start_mixed d r s bytes)) ≡ load t + (count r + count s)
unfolding effect
load-mixed caps t d r s bytes a =
    load-start t d (mixer t d r s bytes) (mixed_messages t d r s bytes) a.read.client
    (start-rests caps t d r a.read)
    (omega (arith, arrived-of (mixer t d r s bytes)))
    ∙ omega (
      arith,
      length-append (gets t d r) (prepares t d s bytes),
      length-gets t d r a.read.set,
      length-prepares t d s bytes a.write.start.set,
    )

-- ---- Deliveries

-- a prepared reply: it has arrived, or it was the last and commits join
pub arrived-prepared : (t : Tables) (c : Client) (k stamp : ℕ) → c.write.set < 2 ^ t.sizes.items
    → has c.write.awaited k ≡ true
    → arrived (prepared c k) + length
    (cond (is_last of_write c k) (commits t c.write.set stamp) []) ≤ suc (arrived c)
arrived-prepared t c k stamp h e =
    by-test (is_last of_write c k)
    (λ l.
    let none : count (remove c.write.awaited k) ≡ 0 =
    ap count (eqb-true (remove c.write.awaited k) 0
    (and_right (eqb c.read.awaited 0) (eqb (remove c.write.awaited k) 0) l))
    ∙ count-empty in
    rw l (omega (
      arith,
      arrived-none (rested c (ended c)) refl refl,
      arrived-of c,
      count-remove
          c.write.awaited k e,
      length-commits t c.write.set stamp h,
    )))
    (λ l. rw l (omega (
      arith,
      arrived-of (struck c k),
      arrived-of c,
      count-remove
          c.write.awaited k e,
    )))

-- a got: nothing arrives, or it was the last and the commits of what had arrived join
pub arrived-got : (t : Tables) (c : Client) (k value stamp : ℕ)
    → c.write.set < 2 ^ t.sizes.items → c.read.stage ≢ 1
    → arrived (got c k value) + length
    (cond (is_last of_read c k) (commits t c.write.set stamp) []) ≤ arrived c
arrived-got t c k value stamp h n =
    let mine : arrived_first c.read ≡ 0 = rw (ne_eqb c.read.stage 1 n) refl in
    let after : arrived_first (answered c k value).read ≡ 0 =
    rw (ne_eqb c.read.stage 1 n) refl in
    by-test (is_last of_read c k)
    (λ l.
    let none : count c.write.awaited ≡ 0 =
    ap count (eqb-true c.write.awaited 0
    (and_right (eqb (remove c.read.awaited k) 0) (eqb c.write.awaited 0) l))
    ∙ count-empty in
    rw l (omega (
      arith,
      arrived-none (rested c (ended (answered c k value))) refl refl,
      arrived-of c,
      length-commits t c.write.set stamp h,
    )))
    (λ l. rw l (omega (arith, arrived-of (answered c k value), arrived-of c)))

-- a first reply: it has arrived, or it was the last and gets of the second part join
pub arrived-first : (n d : ℕ) (c : Client) (v : Version) → c.read.stage ≡ 1
    → has c.read.awaited v.item ≡ true → has c.read.set v.item ≡ true
    → arrived (got_first n c v) + length (second_gets n d (first_replied n c.read v))
    ≤ suc (arrived c)
arrived-first n d c v first e h =
    let k = v.item in
    let kept = first_kept c.read v in
    let second = second_part n kept in
    let mine : arrived_first c.read ≡ count c.read.set - count c.read.awaited =
    rw first refl in
    let still : arrived_first kept ≡ count c.read.set - count (remove c.read.awaited k) =
    rw first refl in
    let none : length (second_gets n d kept) ≡ 0 = rw first refl in
    by-test (eqb (remove c.read.awaited k) 0)
    (λ l.
    let last : count (remove c.read.awaited k) ≡ 0 =
    ap count (eqb-true (remove c.read.awaited k) 0 l) ∙ count-empty in
    let fewer : arrived (cond (eqb second.awaited 0) (rested c (ended (with_read c second)))
    (with_read c second)) ≤ count c.write.set - count c.write.awaited =
    by_cond (λ (x : Client). arrived x ≤ count c.write.set - count c.write.awaited)
    (eqb second.awaited 0) _ _
    (λ z. omega (arith, arrived-none (rested c (ended (with_read c second))) refl refl))
    (λ z. omega (arith, arrived-of (with_read c second))) in
    rw l (omega (
      arith,
      arrived-of c,
      count-remove c.read.awaited k e,
      length-second n d second refl (stale-below n kept),
      few-stale n kept,
      count-some c.read.set k h,
    )))
    (λ l. rw l (rw l (omega (
      arith,
      none,
      still,
      arrived-of c,
      arrived-of (with_read c kept),
      count-remove c.read.awaited k e,
    ))))

pub load-delivered : (t : Tables) (m : Message) → InRange t → MessageInRange t.sizes m
    → Expected t m
    → load (delivered t m) + length (joined t m) ≤ suc (load t)
unfolding delivered joined load
load-delivered t (Prepare v) r h x = omega arith
load-delivered t (Prepared k stamp) r h x =
    let d = writer_of stamp in
    let c = t.client d in
    let one : IsClient t.sizes d = (h.written (omega arith)).writer in
    omega (
      arith,
      load-client t d (prepared c k) one,
      arrived-prepared t c k stamp (r.client d one).write.set
          ((tells-prepared t k stamp).0 x).awaited,
    )
load-delivered t (Commit p stamp) r h x = omega arith
load-delivered t (Get d k stamp) r h x = omega arith
load-delivered t (Got d v latest) r h x =
    let c = t.client d in
    let one : IsClient t.sizes d = h.client (omega arith) in
    omega (
      arith,
      load-client t d (got c v.item v.value) one,
      arrived-got t c v.item v.value c.write.stamp (r.client d one).write.set
          ((tells-got t d v latest).0 x).by_stamp,
    )
load-delivered t (FirstGet d k) r h x = omega arith
load-delivered t (FirstReply d v latest) r h x =
    let c = t.client d in
    let n = t.sizes.items in
    let one : IsClient t.sizes d = h.client (omega arith) in
    let awaited = (tells-first-reply t d v latest).0 x in
    omega (
      arith,
      load-client t d (got_first n c v) one,
      arrived-first n d c v awaited.by_item awaited.awaited
          ((r.client d one).read.within v.item awaited.awaited),
    )

pub load-deliver : (caps : Capacities) (t : Tables) (i : ℕ) → AcceptedDeliver caps t i
    → load (effect t (deliver i)) ≤ load t
unfolding effect
load-deliver caps t i a =
    let m = message_at t i in
    omega (
      arith,
      load-messages (delivered t m) (without i t.messages ++ joined t m),
      ap length (delivered-work t m).messages,
      length-append (without i t.messages) (joined t m),
      length_without i t.messages a.place,
      load-delivered t m a.valid.in_range (accepted-message caps t i a) a.expected,
    )
