-- A read that awaits replies, ordinary, in either part of a fast one, or the read part of a mixed
-- transaction: of each of its items it has had the replies due, but one where the item is awaited,
-- and each reply strikes one item and brings the value of a write that had landed. And the write
-- part beside it, which each prepared reply brings nearer to its end.
use mathlib.Core.Bool.{Bool, true, false, cond}
use mathlib.Core.List.{List, [], ◌∷◌, ◌++◌, append_assoc}
use mathlib.Core.Logic.{◌≢◌, inl, inr}
use mathlib.Core.Path.{◌≡◌, refl, sym, ap, ◌∙◌, subst}
use Prim.Native.Nat.{ℕ, suc, ◌+◌, ◌≤◌}
use native.Mathlib.Nat.{le_trans}
use native.Mathlib.Omega.{arith}
use lib.Dec.{eqb}
use borrow.Author.Tests.{eqb-true, eqb-false, ne_eqb}
use Rattle.basics.proofs.Cases.{by-test, not-both, eqb_same}
use Rattle.basics.specs.Lists.{In, counted}
use Rattle.basics.proofs.Lists.{counted-append, none-counted}
use Rattle.itemset.specs.Set.{has, count, remove}
use Rattle.itemset.proofs.Laws.{has-empty, has-remove-same, has-remove-other}
use Rattle.itemset.proofs.Counts.{count-empty, count-remove, count-zero}
use Rattle.protocol.specs.declared.Version.{Version}
use Rattle.protocol.specs.declared.Message.TheVariants.{Prepared}
use Rattle.protocol.specs.Tables.{Client, ReadPart, WritePart, of_read, of_write, writer_of}
use Rattle.protocol.specs.Message.{parts_of, is_prepared, is_any_got, item_of, owner_of}
use Rattle.protocol.specs.Range.{Capacities, is_idle}
use Rattle.condition3.specs.World.{World, Labelled, Write, placed, is_reply, is_reply_for}
use Rattle.condition3.specs.World.{is_prepared_reply, is_prepared_reply_for}
use Rattle.condition3.specs.Condition3.{LastReply}
use Rattle.protocol.proofs.Ranges.Values.{IsClient}
use Rattle.condition3.proofs.Sound.{Good}
use Rattle.condition3.proofs.Sound.Carry.{owner-client}
use Rattle.condition3.proofs.Sound.Delivery.{awaited-in}
use Rattle.condition3.proofs.Link.{LandedBefore, FromAnswer, Inv}
use Rattle.condition3.proofs.Link.Grows.{Grows, grow-known}
use Rattle.condition3.proofs.Link.Messages.{in-message}
use Rattle.condition3.proofs.Link.Asks.{answer-value}
use Rattle.condition3.proofs.Common.{known, is_for, got-names, got-unprepared}

-- item k has the value of the write of this stamp, brought by its last reply among `left`, that
-- write had landed when the reply joined, and the view has it or a later one
pub record Answer (v : World) (d k stamp value : ℕ) (left : List Labelled) : Type 0 where
  pub write : Write
  pub is_known : In write (known v.writes)
  pub same : write.stamp ≡ stamp
  pub brings : write.values k ≡ value
  pub reply : Labelled
  pub last : LastReply d k left reply
  pub holds : (parts_of reply.message).stamp ≡ stamp
  pub bears : (parts_of reply.message).value ≡ value
  pub landed : (j : ℕ) → has write.set j ≡ true
      → LandedBefore v.stores write j reply.label.since
  pub seen : stamp ≤ (v.tables.view d k).stamp

-- the read of s by client d, of whose items `again` are fetched again, once the messages `left`
-- have been delivered
pub record Awaiting (d s again : ℕ) (v : World) (left : List Labelled) : Type 0 where
  pub mode : (v.tables.client d).read.set ≢ 0
  pub set : (v.tables.client d).read.set ≡ s
  -- each item has had its replies, but one where it is awaited
  pub once : (k : ℕ) → counted (is_reply_for d k) left + cond
      (has (v.tables.client d).read.awaited k) 1 0
      ≡ cond (has s k) 1 0 + cond (has again k) 1 0
  pub replied : counted (is_reply d) left + count (v.tables.client d).read.awaited
      ≡ count s + count again

-- the write part beside it, of z: none of an ordinary or a fast read
pub record Beside (d z : ℕ) (v : World) (left : List Labelled) : Type 0 where
  pub set : (v.tables.client d).write.set ≡ z
  pub once : (k : ℕ) → counted (is_prepared_reply_for d k) left + cond
      (has (v.tables.client d).write.awaited k) 1 0 ≡ cond (has z k) 1 0
  pub prepared : counted (is_prepared_reply d) left + count (v.tables.client d).write.awaited
      ≡ count z

pub none_beside : (d : ℕ) (v : World) (left : List Labelled) → Beside d 0 v left
    → (v.tables.client d).write.awaited ≡ 0
none_beside d v left b =
    count-zero (v.tables.client d).write.awaited (omega (arith, b.prepared, count-empty))

-- so a client that isn't idle awaits an item that it reads
pub reads_on : (d : ℕ) (v : World) (left : List Labelled) → Beside d 0 v left
    → is_idle (v.tables.client d) ≡ false
    → eqb (v.tables.client d).read.awaited 0 ≡ false
reads_on d v left b busy =
    by-test (eqb (v.tables.client d).read.awaited 0)
    (λ e. not-both (rw (e, none_beside d v left b) refl) busy) (λ e. e)

-- ---- counts of replies against what is awaited

-- messages that are none of these
pub none_more : (p : Labelled → Bool) (left more : List Labelled)
    → ((l : Labelled) → In l more → p l ≡ false) → counted p (left ++ more) ≡ counted p left
none_more p left more none =
    counted-append p left more ∙ omega (arith, none-counted p more none)

-- one more, of item k, which is struck
struck-replied : (p : Labelled → Bool) (awaited k due : ℕ) (left : List Labelled) (l : Labelled)
    → p l ≡ true → has awaited k ≡ true → counted p left + count awaited ≡ due
    → counted p (left ++ l ∷ []) + count (remove awaited k) ≡ due
unfolding counted
struck-replied p awaited k due left l is here e =
    let more : counted p (left ++ l ∷ []) ≡ suc (counted p left) =
    counted-append p left (l ∷ []) ∙ rw is (omega arith) in
    omega (arith, more, count-remove awaited k here, e)

-- and of no other item
struck-once : (p : ℕ → Labelled → Bool) (awaited k : ℕ) (due : ℕ → ℕ) (left : List Labelled)
    (l : Labelled) → ((j : ℕ) → p j l ≡ eqb k j) → has awaited k ≡ true
    → ((j : ℕ) → counted (p j) left + cond (has awaited j) 1 0 ≡ due j)
    → (j : ℕ) → counted (p j) (left ++ l ∷ []) + cond (has (remove awaited k) j) 1 0 ≡ due j
unfolding counted
struck-once p awaited k due left l is here before j =
    ap (λ (n : ℕ). n + cond (has (remove awaited k) j) 1 0) (counted-append (p j) left (l ∷ []))
    ∙ rw (is j)
    (by-test (eqb k j)
    (λ t. let same : k ≡ j = eqb-true k j t in
    rw (t, subst (λ (x : ℕ). has (remove awaited k) x ≡ false) same (has-remove-same awaited k))
    (let was : counted (p j) left + 1 ≡ due j =
    ap (λ (b : Bool). counted (p j) left + cond b 1 0)
    (sym (subst (λ (x : ℕ). has awaited x ≡ true) same here)) ∙ before j in
    omega arith ∙ was))
    (λ t. rw (t, has-remove-other awaited k j (λ q. eqb-false k j t (sym q)))
    (let was = before j in omega arith ∙ was)))

-- a part P that stays as it was, and none of these more
still-once : {P : Type 0} (p : ℕ → Labelled → Bool) (awaited : P → ℕ) (part part' : P)
    (due : ℕ → ℕ) (left more : List Labelled) → part' ≡ part
    → ((j : ℕ) (l : Labelled) → In l more → p j l ≡ false)
    → ((j : ℕ) → counted (p j) left + cond (has (awaited part) j) 1 0 ≡ due j)
    → (j : ℕ) → counted (p j) (left ++ more) + cond (has (awaited part') j) 1 0 ≡ due j
still-once p awaited part part' due left more same none before j =
    ap (λ (x : _). counted (p j) (left ++ more) + cond (has (awaited x) j) 1 0) same
    ∙ ap (λ (n : ℕ). n + cond (has (awaited part) j) 1 0) (none_more (p j) left more (none j))
    ∙ before j

-- where nothing is awaited, all have come
pub all_come : (p : ℕ → Labelled → Bool) (awaited : ℕ) (due : ℕ → ℕ) (left : List Labelled)
    → awaited ≡ 0 → ((j : ℕ) → counted (p j) left + cond (has awaited j) 1 0 ≡ due j)
    → (j : ℕ) → counted (p j) left ≡ due j
all_come p awaited due left none before j =
    let zero : ◌≡◌ {A = ℕ} (cond (has awaited j) 1 0) 0 =
    rw (subst (λ (x : ℕ). has x j ≡ false) (sym none) (has-empty j)) refl in
    omega (arith, before j)

-- ---- the history grows under an answer

-- and no more replies for the item come
pub last-stays : (d k : ℕ) (reply : Labelled) (left more : List Labelled)
    → counted (is_reply_for d k) more ≡ 0 → LastReply d k left reply
    → LastReply d k (left ++ more) reply
last-stays d k reply left more none x = (
  x.0,
  x.1 ++ more,
  ap (λ (l : List Labelled). l ++ more) x.2 ∙ append_assoc x.0 (reply ∷ x.1) more,
  x.3,
  counted-append (is_reply_for d k) x.1 more ∙ omega (arith, x.4, none),
)

pub answer-grows : (v v' : World) (d k a x : ℕ) (left more : List Labelled) → Grows v v'
    → counted (is_reply_for d k) more ≡ 0 → Answer v d k a x left
    → Answer v' d k a x (left ++ more)
answer-grows v v' d k a x left more g none y =
    record {
      write = y.write;
      is_known = grow-known v v' g y.write y.is_known;
      same = y.same;
      brings = y.brings;
      reply = y.reply;
      last = last-stays d k y.reply left more none y.last;
      holds = y.holds;
      bears = y.bears;
      landed = λ j e. let σ = y.landed j e in (σ.0, g.stores σ.0 σ.1, σ.2, σ.3, σ.4);
      seen = le_trans y.seen (g.view d k);
    }

-- messages that bring the client no reply
pub no-reply-for : (d k : ℕ) (ls : List Labelled) → ((l : Labelled) → In l ls → is_reply d l ≡ false)
    → counted (is_reply_for d k) ls ≡ 0
no-reply-for d k ls none = none-counted (is_reply_for d k) ls (λ l i. rw (none l i) refl)

-- ---- a call that leaves the read part, or the write part, as it was

pub still-awaiting : (d s again : ℕ) (v v' : World) (left more : List Labelled)
    → (v'.tables.client d).read ≡ (v.tables.client d).read
    → ((l : Labelled) → In l more → is_reply d l ≡ false)
    → Awaiting d s again v left → Awaiting d s again v' (left ++ more)
still-awaiting d s again v v' left more same none r =
    record {
      mode = λ z. r.mode (sym (ap (λ (p : ReadPart). p.set) same) ∙ z);
      set = ap (λ (p : ReadPart). p.set) same ∙ r.set;
      once = still-once (is_reply_for d) (λ (p : ReadPart). p.awaited)
          (v.tables.client d).read (v'.tables.client d).read
          (λ k. cond (has s k) 1 0 + cond (has again k) 1 0) left more same
          (λ k l i. rw (none l i) refl) r.once;
      replied = omega (
        arith,
        none_more (is_reply d) left more none,
        ap (λ (p : ReadPart). count p.awaited) same,
        r.replied,
      );
    }

pub still-beside : (d z : ℕ) (v v' : World) (left more : List Labelled)
    → (v'.tables.client d).write ≡ (v.tables.client d).write
    → ((l : Labelled) → In l more → is_prepared_reply d l ≡ false)
    → Beside d z v left → Beside d z v' (left ++ more)
still-beside d z v v' left more same none b =
    record {
      set = ap (λ (p : WritePart). p.set) same ∙ b.set;
      once = still-once (is_prepared_reply_for d) (λ (p : WritePart). p.awaited)
          (v.tables.client d).write (v'.tables.client d).write (λ k. cond (has z k) 1 0) left
          more same (λ k l i. rw (none l i) refl) b.once;
      prepared = omega (
        arith,
        none_more (is_prepared_reply d) left more none,
        ap (λ (p : WritePart). count p.awaited) same,
        b.prepared,
      );
    }

-- ---- the delivery of one of its prepared replies: it strikes an item of the write part alone

module _ (caps : Capacities) (v : World) (inv : Inv caps v) (d i k s : ℕ)
    (here : In (placed v i) v.in_flight) (is : (placed v i).message ≡ Prepared k s)
    (owner : writer_of s ≡ d) where
  abbrev w : WritePart
  w = (v.tables.client d).write

  prepared-client : (placed v i).label.client ≡ d
  prepared-client = inv.owners (placed v i) here ∙ ap owner_of is ∙ owner

  pub no-got : (l : Labelled) → In l (placed v i ∷ []) → is_reply d l ≡ false
  no-got l (inl e) = ap (is_reply d) e
      ∙ rw (prepared-client, eqb_same d) (ap is_any_got is)
  no-got l (inr z) = absurd z

  pub prepared-here : has w.awaited k ≡ true
  prepared-here =
      awaited-in caps inv.ledger v.tables inv.sound (placed v i).message
      (in-message caps v inv (placed v i) here) of_write d k
      (subst (IsClient v.tables.sizes) (ap owner_of is ∙ owner)
      (owner-client caps inv.ledger v.tables inv.sound (placed v i).message
      (in-message caps v inv (placed v i) here)))
      (ap (is_for of_write d k) is ∙ rw (owner, eqb_same d) (eqb_same k))

  is-prepared : is_prepared_reply d (placed v i) ≡ true
  is-prepared = rw (prepared-client, eqb_same d) (ap is_prepared is)

  pub prepared-beside : (z : ℕ) (left : List Labelled) → Beside d z v left
      → counted (is_prepared_reply d) (left ++ placed v i ∷ []) + count (remove w.awaited k)
      ≡ count z
  prepared-beside z left b = struck-replied (is_prepared_reply d) w.awaited k (count z) left
      (placed v i) is-prepared prepared-here b.prepared

  pub prepared-once : (z : ℕ) (left : List Labelled) → Beside d z v left → (j : ℕ)
      → counted (is_prepared_reply_for d j) (left ++ placed v i ∷ [])
      + cond (has (remove w.awaited k) j) 1 0 ≡ cond (has z j) 1 0
  prepared-once z left b =
      struck-once (is_prepared_reply_for d) w.awaited k (λ j. cond (has z j) 1 0) left (placed v i)
      (λ j. rw (is-prepared, ap item_of is) refl) prepared-here b.once

-- ---- the delivery of one of its replies

-- a got or a first reply of client d that brings version u
pub record Reply (caps : Capacities) (v : World) (inv : Inv caps v) (d i : ℕ) (u : Version)
    : Type 0 where
  pub here : In (placed v i) v.in_flight
  pub owner : owner_of (placed v i).message ≡ d
  pub item : item_of (placed v i).message ≡ u.item
  pub stamp : (parts_of (placed v i).message).stamp ≡ u.stamp
  pub bears : (parts_of (placed v i).message).value ≡ u.value
  pub got : is_any_got (placed v i).message ≡ true
  pub good : Good inv.ledger v.tables.versions u.item u.stamp
  pub value : u.value ≡ inv.ledger.value u.stamp u.item

module _ (caps : Capacities) (v : World) (inv : Inv caps v) (d i : ℕ) (u : Version)
    (y : Reply caps v inv d i u) where
  abbrev c : Client
  c = v.tables.client d

  abbrev k : ℕ
  k = u.item

  -- the world after it: the view has its version or a later one
  pub record Brings (v' : World) : Type 0 where
    pub grows : Grows v v'
    pub seen : u.stamp ≤ (v'.tables.view d k).stamp

  from : FromAnswer v.writes v.stores (placed v i).label u.stamp
  from = subst (FromAnswer v.writes v.stores (placed v i).label) y.stamp
      ((inv.comes (placed v i) y.here).got y.got)

  is-client : IsClient v.tables.sizes d
  is-client = subst (IsClient v.tables.sizes) y.owner
      (owner-client caps inv.ledger v.tables inv.sound (placed v i).message
      (in-message caps v inv (placed v i) y.here))

  label-client : (placed v i).label.client ≡ d
  label-client = inv.owners (placed v i) y.here ∙ y.owner

  is-reply : is_reply d (placed v i) ≡ true
  is-reply = rw (label-client, eqb_same d) y.got

  is-reply-for : (j : ℕ) → is_reply_for d j (placed v i) ≡ eqb k j
  is-reply-for j = rw (label-client, eqb_same d, y.got, y.item) refl

  -- it is none for another item
  pub not-for : (j : ℕ) → (j ≡ k → ⊥) → counted (is_reply_for d j) (placed v i ∷ []) ≡ 0
  unfolding counted
  not-for j other = rw (is-reply-for j ∙ ne_eqb k j (λ e. other (sym e))) refl

  pub no-prepared : (l : Labelled) → In l (placed v i ∷ []) → is_prepared_reply d l ≡ false
  no-prepared l (inl e) = ap (is_prepared_reply d) e
      ∙ rw (label-client, eqb_same d) (got-unprepared (placed v i).message y.got)
  no-prepared l (inr z) = absurd z

  -- so a write part beside it that awaits nothing has had all of its replies, and still has
  module _ (z : ℕ) (left : List Labelled) (b : Beside d z v left) (none : c.write.awaited ≡ 0)
    where
      pub all-prepared : counted (is_prepared_reply d) (left ++ placed v i ∷ []) ≡ count z
      all-prepared = omega (
        arith,
        none_more (is_prepared_reply d) left (placed v i ∷ []) no-prepared,
        b.prepared,
        ap count none,
        count-empty,
      )

      pub each-prepared : (j : ℕ) → counted (is_prepared_reply_for d j) (left ++ placed v i ∷ [])
          ≡ cond (has z j) 1 0
      each-prepared j =
          none_more (is_prepared_reply_for d j) left (placed v i ∷ [])
          (λ l p. rw (no-prepared l p) refl)
          ∙ all_come (is_prepared_reply_for d) c.write.awaited (λ x. cond (has z x) 1 0) left none
          b.once j

  pub awaited-here : has c.read.awaited k ≡ true
  awaited-here = awaited-in caps inv.ledger v.tables inv.sound (placed v i).message
      (in-message caps v inv (placed v i) y.here) of_read d k is-client
      (rw (y.owner, y.item, got-names (placed v i).message y.got, eqb_same d) (eqb_same k))

  -- what it brings: the value of a write that had landed
  pub brought : (v' : World) → Brings v' → (left : List Labelled)
      → Answer v' d k u.stamp u.value (left ++ placed v i ∷ [])
  unfolding counted
  brought v' b left =
      let g : Grows v v' = b.grows in
      record {
        write = from.write;
        is_known = grow-known v v' g from.write from.is_known;
        same = from.same;
        brings = answer-value caps v inv (placed v i).label k u.stamp y.good from
            ∙ sym y.value;
        reply = placed v i;
        last = (left, [], refl, is-reply-for k ∙ eqb_same k, refl);
        holds = y.stamp;
        bears = y.bears;
        landed = λ j e. let σ = from.landed j e in
            (σ.0, g.stores σ.0 σ.1, σ.2, σ.3, σ.4);
        seen = b.seen;
      }

  module _ (s again : ℕ) (left : List Labelled) (r : Awaiting d s again v left) where
    -- this item is struck, and has its reply
    once_after : (j : ℕ) → counted (is_reply_for d j) (left ++ placed v i ∷ []) + cond
        (has (remove c.read.awaited k) j) 1 0
        ≡ cond (has s j) 1 0 + cond (has again j) 1 0
    once_after =
        struck-once (is_reply_for d) c.read.awaited k
        (λ j. cond (has s j) 1 0 + cond (has again j) 1 0) left (placed v i) is-reply-for
        awaited-here r.once

    replied-after : counted (is_reply d) (left ++ placed v i ∷ [])
        + count (remove c.read.awaited k) ≡ count s + count again
    replied-after = struck-replied (is_reply d) c.read.awaited k (count s + count again) left
        (placed v i) is-reply awaited-here r.replied

    -- its item is struck
    pub goes_on : (v' : World) → (v'.tables.client d).read.set ≡ c.read.set
        → (v'.tables.client d).read.awaited ≡ remove c.read.awaited k
        → Awaiting d s again v' (left ++ placed v i ∷ [])
    goes_on v' set awaited =
        record {
          mode = λ z. r.mode (sym set ∙ z);
          set = set ∙ r.set;
          once = λ j. ap (λ (x : ℕ). counted (is_reply_for d j) (left ++ placed v i ∷ [])
              + cond (has x j) 1 0) awaited ∙ once_after j;
          replied = ap (λ (x : ℕ). counted (is_reply d) (left ++ placed v i ∷ []) + count x) awaited
              ∙ replied-after;
        }

    -- the last: all have come
    pub all-replied : eqb (remove c.read.awaited k) 0 ≡ true
        → counted (is_reply d) (left ++ placed v i ∷ []) ≡ count s + count again
    all-replied last =
        let none : count (remove c.read.awaited k) ≡ 0 =
        ap count (eqb-true (remove c.read.awaited k) 0 last) ∙ count-empty in
        omega (arith, replied-after)

    pub once-each : eqb (remove c.read.awaited k) 0 ≡ true → (j : ℕ)
        → counted (is_reply_for d j) (left ++ placed v i ∷ [])
        ≡ cond (has s j) 1 0 + cond (has again j) 1 0
    once-each last =
        all_come (is_reply_for d) (remove c.read.awaited k)
        (λ j. cond (has s j) 1 0 + cond (has again j) 1 0) (left ++ placed v i ∷ [])
        (eqb-true (remove c.read.awaited k) 0 last) once_after
