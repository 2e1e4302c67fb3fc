-- Where a first reply comes from: the delivery of a first get, at which it took the stamp of its
-- item's latest. A read that begins finds none of its client in flight, so each that comes to it
-- was answered since.
use mathlib.Core.Bool.{true, false, cond}
use mathlib.Core.List.{List, [], ◌∷◌, ◌++◌, map}
use mathlib.Core.Logic.{◌⊎◌, inl, inr, ⊎_elim}
use mathlib.Core.Path.{◌≡◌, refl, sym, ap, ◌∙◌, subst}
use Prim.Native.Nat.{ℕ}
use lib.Dec.{eqb}
use lib.ListN.{get_or, drop}
use borrow.Author.Tests.{eqb-true}
use Rattle.basics.proofs.Cases.{by-test, not-both, and_left, and_right}
use Rattle.basics.specs.Lists.{In}
use Rattle.basics.proofs.Lists.{in_right, in-append, in_map, in_without}
use Rattle.itemset.specs.Set.{has}
use Rattle.protocol.specs.declared.Message.{Message}
use Rattle.protocol.specs.declared.Message.TheVariants.{FirstGet}
use Rattle.protocol.specs.Tables.{Tables}
use Rattle.protocol.specs.Message.{parts_of, is_any_got, is_first_get, is_first_reply, item_of, owner_of}
use Rattle.protocol.specs.Range.{Capacities}
use Rattle.protocol.specs.FastRead.{first_gets}
use Rattle.protocol.specs.Steps.{gets, prepares, mixed_messages, message_at, joined}
use Rattle.protocol.specs.Calls.{Call, start_read, start_fast_read, start_write, start_mixed, deliver}
use Rattle.protocol.specs.Calls.{clear, refusal}
use Rattle.condition3.specs.World.{World, Labelled, labelled, placed, without_all, does}
use Rattle.condition3.specs.World.{joining, leaving, staying, accepts, next, after}
use Rattle.condition3.specs.World.{leaving_over, is_reply, is_reply_for, is_first_reply_for}
use Rattle.condition3.specs.Condition3.{AddedBy}
use Rattle.protocol.proofs.Each.{Each, each-one, each_append, each-upto}
use Rattle.protocol.proofs.Delivered.{Reply, joined-each}
use Rattle.protocol.proofs.MessageKinds.{first-get-is}
use Rattle.protocol.proofs.Refusals.{Idle}
use Rattle.protocol.proofs.Sorts.{Sort, reads, reads_fast, writes, mixes, delivers, apart, sort}
use Rattle.condition3.proofs.Link.{Inv}
use Rattle.condition3.proofs.Link.Step.{moved-inv, next-inv}
use Rattle.condition3.proofs.Link.Messages.{placed-message, placed-here, in-message}
use Rattle.condition3.proofs.Runs.Run.{next-all, after-inv}
use Rattle.condition3.proofs.Runs.Touch.{got-answers, no_answer}
use Rattle.condition3.proofs.Common.{gets_none, prepares-none}

-- ---- what is in flight, and what leaves, was in flight at first or joined

pub in-staying : (w : World) (c : Call) (l : Labelled) → In l (staying w c) → In l w.in_flight
unfolding staying without_all
in-staying w c l i = go (does w c).leaves i
  where
    go : (is : List ℕ) → In l (without_all is w.in_flight) → In l w.in_flight
    go [] h = h
    go (j ∷ is) h = go is (in_without l j (without_all is w.in_flight) h)

module _ (caps : Capacities) where
  flies-from : (w : World) (c : Call) (l : Labelled) → In l (next caps w c).in_flight
      → In l w.in_flight ⊎ ((refusal caps w.tables c ≡ 0) × In l (joining w c))
  flies-from w c l =
      next-all caps (λ v. In l v.in_flight → In l w.in_flight
      ⊎ ((refusal caps w.tables c ≡ 0) × In l (joining w c))) w c
      (λ e i. ⊎_elim (λ p. inl (in-staying w c l p)) (λ p. inr (e, p))
      (in-append l (staying w c) (joining w c) i))
      (λ i. inl i)

  sort-leaves : (w : World) → Inv caps w → {c : Call} → Sort caps w.tables c
      → Each (λ l. In l w.in_flight) (leaving w c)
  unfolding leaving
  sort-leaves w inv (reads d s a) = λ l i. absurd i
  sort-leaves w inv (reads_fast d s a) = λ l i. absurd i
  sort-leaves w inv (writes d s bytes a) = λ l i. absurd i
  sort-leaves w inv (mixes d r s bytes a) = λ l i. absurd i
  sort-leaves w inv (delivers j a) =
      each-one (λ l. In l w.in_flight) (placed w j) (placed-here caps w inv j a.place)
  sort-leaves w inv (apart c ok a) = rw a.does (λ l i. absurd i)

  leaves-from : (w : World) → Inv caps w → (c : Call)
      → Each (λ l. In l w.in_flight) (cond (accepts caps w c) (leaving w c) [])
  leaves-from w inv c =
      by-test (accepts caps w c)
      (λ a. rw a (sort-leaves w inv (sort caps w.tables c
      (eqb-true (refusal caps w.tables c) 0 a))))
      (λ a. rw a (λ l i. absurd i))

  left-from : (w : World) → Inv caps w → (calls : List Call) (l : Labelled)
      → In l (leaving_over caps w calls) → In l w.in_flight ⊎ AddedBy caps w joining calls l
  unfolding after leaving_over
  left-from w inv [] l i = absurd i
  left-from w inv (c ∷ cs) l i =
      ⊎_elim (λ p. inl (leaves-from w inv c l p))
      (λ p. ⊎_elim
      (λ q. ⊎_elim (λ x. inl x) (λ x. inr ([], cs, (c, refl, x.0, x.1))) (flies-from w c l q))
      (λ q. inr (
        c ∷ q.0,
        q.1,
        (q.2.0, ap (λ (cs : List Call). c ∷ cs) q.2.1, q.2.2, q.2.3),
      ))
      (left-from (next caps w c) (next-inv caps w inv c) cs l p))
      (in-append l (cond (accepts caps w c) (leaving w c) []) (leaving_over caps (next caps w c) cs)
      i)

-- ---- a first reply joins at the delivery of a first get, with the latest's stamp

pub record Answered (w : World) (c : Call) (l : Labelled) : Type 0 where
  pub place : ℕ
  pub delivery : c ≡ deliver place
  pub request : (placed w place).message ≡ FirstGet (owner_of l.message) (item_of l.message)
  pub since : l.label.since ≡ w.time
  pub stamp : (parts_of l.message).stamp ≡ (w.tables.latest (item_of l.message)).stamp

abbrev FirstFrom : World → Call → Labelled → Type 0
FirstFrom w c l = is_first_reply l.message ≡ true → Answered w c l

-- a start sends none
not-sent : (w : World) (c : Call) (d : ℕ) (ms : List Message)
    → Each (λ m. is_first_reply m ≡ false) ms
    → Each (FirstFrom w c) (map (labelled d w.time w.time) ms)
not-sent w c d ms none l i e =
    let x = in_map (labelled d w.time w.time) l ms i in
    not-both e (ap (λ (z : Labelled). is_first_reply z.message) x.2 ∙ none x.0 x.1)

module _ (caps : Capacities) (w : World) (inv : Inv caps w) where
  abbrev t : Tables
  t = w.tables

  -- a delivery, by what replies to its message
  answered-by : (j : ℕ) (m : Message) → is_first_reply m ≡ true → Reply t (message_at t j) m
      → Answered w (deliver j) (labelled (placed w j).label.client (placed w j).label.start
      w.time m)
  answered-by j m e r =
      let first : is_first_get (message_at t j) ≡ true = sym r.first ∙ e in
      record {
        place = j;
        delivery = refl;
        request = placed-message caps w inv j ∙ first-get-is (message_at t j) first
            ∙ rw (r.owner, r.item) refl;
        since = refl;
        stamp = r.stamp ∙ rw (first, r.item) refl;
      }

  answered-all : (j : ℕ) → Each (FirstFrom w (deliver j)) (map (labelled
      (placed w j).label.client (placed w j).label.start w.time) (joined t (message_at t j)))
  answered-all j l i e =
      let label = labelled (placed w j).label.client (placed w j).label.start w.time in
      let x = in_map label l (joined t (message_at t j)) i in
      let first : is_first_reply x.0 ≡ true =
      sym (ap (λ (z : Labelled). is_first_reply z.message) x.2) ∙ e in
      subst (Answered w (deliver j)) (sym x.2)
      (joined-each (λ m. is_first_reply m ≡ true → Answered w (deliver j) (label m)) t
      (message_at t j) (λ m r h. answered-by j m h r) (λ p stamp s o h. not-both h refl)
      (λ f k stamp h. not-both h refl) x.0 x.1 first)

  sort-first : {c : Call} → Sort caps t c → Each (FirstFrom w c) (joining w c)
  unfolding joining
  sort-first (reads d s a) =
      not-sent w (start_read d s) d (gets t d s) (gets_none is_first_reply t d s (λ k n. refl))
  sort-first (reads_fast d s a) =
      not-sent w (start_fast_read d s) d (first_gets t d s)
      (each-upto (λ m. is_first_reply m ≡ false) (FirstGet d) t.sizes.items (has s)
      (λ k l h. refl))
  sort-first (writes d s bytes a) =
      not-sent w (start_write d s bytes) d (prepares t d s bytes)
      (prepares-none is_first_reply t d s bytes (λ u. refl))
  sort-first (mixes d r s bytes a) =
      not-sent w (start_mixed d r s bytes) d (mixed_messages t d r s bytes)
      (each_append (λ m. is_first_reply m ≡ false) (gets t d r) (prepares t d s bytes)
      (gets_none is_first_reply t d r (λ k n. refl))
      (prepares-none is_first_reply t d s bytes (λ u. refl)))
  sort-first (delivers j a) = answered-all j
  sort-first (apart c ok a) = rw a.does (λ l i. absurd i)

-- ---- to a read that begins in world w, for item k

-- it was answered after the calls `early` since the start
pub record AnsweredSince (caps : Capacities) (w : World) (d k : ℕ) (begins : Call)
    (during : List Call) (l : Labelled) : Type 0 where
  pub early : List Call
  pub late : List Call
  pub place : ℕ
  pub splits : during ≡ early ++ deliver place ∷ late
  pub request : (placed (after caps w (begins ∷ early)) place).message ≡ FirstGet d k
  pub since : l.label.since ≡ (after caps w (begins ∷ early)).time
  pub stamp : (parts_of l.message).stamp ≡ ((after caps w (begins ∷ early)).tables.latest k).stamp

module _ (caps : Capacities) (w : World) (inv : Inv caps w) (d k : ℕ)
    (idle : Idle (w.tables.client d)) (begins : Call)
    (starts : (i : ℕ) → begins ≡ deliver i → ⊥) (during : List Call) (l : Labelled)
    (first : is_first_reply_for d k l ≡ true) (i : In l (leaving_over caps w (begins ∷ during))) where
  is-first : is_first_reply l.message ≡ true
  is-first = and_right (is_reply_for d k l) (is_first_reply l.message) first

  is-reply : is_reply d l ≡ true
  is-reply = and_left (is_reply d l) (eqb (item_of l.message) k)
      (and_left (is_reply_for d k l) (is_first_reply l.message) first)

  -- it wasn't in flight at the start
  not-before : In l w.in_flight → ⊥
  not-before here =
      no_answer caps inv.ledger w.tables inv.sound l.message
      (in-message caps w inv l here) d
      (got-answers l.message d
      (and_right (eqb l.label.client d) (is_any_got l.message) is-reply)
      (sym (inv.owners l here)
      ∙ eqb-true l.label.client d
      (and_left (eqb l.label.client d) (is_any_got l.message) is-reply))) idle

  -- so it joined, and at no start
  from-joined : AddedBy caps w joining (begins ∷ during) l
      → AnsweredSince caps w d k begins during l
  unfolding after
  from-joined ([], rest, (c, split, a, here)) =
      absurd (starts (sort-first caps w inv (sort caps w.tables c a) l here is-first).place
      (ap (λ (cs : List Call). get_or cs 0 clear) split
      ∙ (sort-first caps w inv (sort caps w.tables c a) l here is-first).delivery))
  from-joined (x ∷ early, rest, (c, split, a, here)) =
      let same : begins ≡ x = ap (λ (cs : List Call). get_or cs 0 clear) split in
      let v = after caps w (begins ∷ early) in
      let is-v : after caps w (x ∷ early) ≡ v =
      ap (λ (c : Call). after caps w (c ∷ early)) (sym same) in
      let ok : refusal caps v.tables c ≡ 0 =
      subst (λ (u : World). refusal caps u.tables c ≡ 0) is-v a in
      let joins : In l (joining v c) = subst (λ (u : World). In l (joining u c)) is-v here in
      let inv-v : Inv caps v = after-inv caps w inv (begins ∷ early) in
      let y = sort-first caps v inv-v (sort caps v.tables c ok) l joins is-first in
      let owner : owner_of l.message ≡ d =
      sym ((moved-inv caps v inv-v c ok).owners l
      (in_right l (staying v c) (joining v c) joins))
      ∙ eqb-true l.label.client d
      (and_left (eqb l.label.client d) (is_any_got l.message) is-reply) in
      let item : item_of l.message ≡ k =
      eqb-true (item_of l.message) k (and_right (is_reply d l) (eqb (item_of l.message) k)
      (and_left (is_reply_for d k l) (is_first_reply l.message) first)) in
      record {
        early = early;
        late = rest;
        place = y.place;
        splits = ap (drop 1) split ∙ ap (λ (c : Call). early ++ c ∷ rest) y.delivery;
        request = y.request ∙ rw (owner, item) refl;
        since = y.since;
        stamp = y.stamp ∙ rw item refl;
      }

  pub answered-since : AnsweredSince caps w d k begins during l
  answered-since =
      ⊎_elim (λ p. absurd (not-before p)) from-joined (left-from caps w inv (begins ∷ during) l i)
