-- A call while a read is under way, alone or as the read part of a mixed transaction: the read goes
-- on, or the delivery of its last reply ends it.
use mathlib.Core.Bool.{true, false, cond, and-false}
use mathlib.Core.List.{List, [], ◌∷◌, ◌++◌}
use mathlib.Core.Logic.{◌≢◌, ◌⊎◌, inl, inr, ⊎_elim}
use mathlib.Core.Path.{◌≡◌, refl, sym, ap, ◌∙◌, subst}
use Prim.Native.Nat.{ℕ, ◌+◌, ◌≤◌}
use lib.Dec.{eqb}
use native.Mathlib.Omega.{arith}
use borrow.Author.Tests.{eqb-true, eq-eqb, ne_eqb}
use Rattle.basics.proofs.Cases.{by-test, not-both, and_left, and_right}
use Rattle.basics.specs.Lists.{In, counted}
use Rattle.itemset.specs.Set.{has, count, remove}
use Rattle.itemset.proofs.Laws.{has-empty}
use Rattle.itemset.proofs.Counts.{count-empty}
use Rattle.protocol.specs.declared.Version.{Version}
use Rattle.protocol.specs.declared.Entry.{Entry}
use Rattle.protocol.specs.declared.Message.{Message}
use Rattle.protocol.specs.declared.Message.TheVariants.{Prepared, Got}
use Rattle.protocol.specs.Tables.{Tables, Client, ReadPart, WritePart, Ended, initial, of_read}
use Rattle.protocol.specs.Tables.{of_write, rested, put, writer_of}
use Rattle.protocol.specs.Message.{is_first_reply, owner_of}
use Rattle.protocol.specs.Range.{Capacities, is_idle}
use Rattle.protocol.specs.Steps.{delivered, prepared, got, answered, struck, is_last, message_at}
use Rattle.protocol.specs.Steps.{ended_write, kind_ended, ended}
use Rattle.protocol.specs.Calls.{Call, deliver, refusal, effect, step, outcome_of}
use Rattle.condition3.specs.World.{World, Labelled, placed, joining, leaving, accepts, moved}
use Rattle.condition3.specs.World.{passed, next, is_reply, is_reply_for, is_prepared_reply}
use Rattle.condition3.specs.World.{is_prepared_reply_for, is_request, outcome_in, delivers}
use Rattle.condition3.specs.World.{ends_for, starts_for}
use Rattle.protocol.proofs.Put.{put_same}
use Rattle.protocol.proofs.Behaviour.{got-view}
use Rattle.protocol.proofs.Keeps.{keeps}
use Rattle.condition3.proofs.Link.{Inv}
use Rattle.condition3.proofs.Link.Messages.{placed-message, fits}
use Rattle.condition3.proofs.Link.Grows.{Grows, moved-grows, grows_self}
use Rattle.condition3.proofs.Runs.Touch.{refused-outcome, delivered-outcome, no-requests}
use Rattle.condition3.proofs.Runs.Touch.{Way, quiet, starts, answers, way, answers-owner}
use Rattle.condition3.proofs.Runs.Touch.{Answers, by_got, by_prepared, answers_of, answers_to}
use Rattle.condition3.proofs.Link.Asks.{Picked, picked-grows}
use Rattle.condition3.proofs.Runs.Replies.{Answer, Awaiting, Brings, answer-grows, none_more}
use Rattle.condition3.proofs.Runs.Replies.{all_come, no-reply-for, no-got, prepared-beside}
use Rattle.condition3.proofs.Runs.Replies.{prepared-once, all-prepared, each-prepared}
use Rattle.condition3.proofs.Runs.Replies.{all-replied, once-each}
use Rattle.condition3.proofs.Runs.ReadSpan.{Reading, undisturbed, unmoved, reply, goes_on}
use Rattle.condition3.proofs.Runs.ReadSpan.{all-answered}

-- ---- the record of the client that a got is for

module _ (t : Tables) (i d : ℕ) (u : Version) (latest : Entry)
    (is-got : message_at t i ≡ Got d u latest) where
  pub got-client : (effect t (deliver i)).client d ≡ got (t.client d) u.item u.value
  unfolding effect delivered
  got-client =
      ap (λ (m : Message). (delivered t m).client d) is-got
      ∙ put_same t.client d (got (t.client d) u.item u.value)

  -- and its view has the version or a later one
  got-seen : u.stamp ≤ ((effect t (deliver i)).view d u.item).stamp
  unfolding effect
  got-seen = subst (λ (m : Message). u.stamp ≤ ((delivered t m).view d u.item).stamp) (sym is-got)
      (got-view t d u latest)

  pub got-outcome : outcome_of t (message_at t i) ≡ cond (is_last of_read (t.client d) u.item)
      (cond (eqb (t.client d).write.set 0) 1 2) 0
  unfolding outcome_of
  got-outcome = ap (outcome_of t) is-got

-- ---- the record of the client that a prepared reply is for

module _ (t : Tables) (i k s : ℕ) (is-prepared : message_at t i ≡ Prepared k s) where
  pub prepared-client : (effect t (deliver i)).client (writer_of s)
      ≡ prepared (t.client (writer_of s)) k
  unfolding effect delivered
  prepared-client = ap (λ (m : Message). (delivered t m).client (writer_of s)) is-prepared
      ∙ put_same t.client (writer_of s) (prepared (t.client (writer_of s)) k)

  pub prepared-outcome : outcome_of t (message_at t i)
      ≡ cond (is_last of_write (t.client (writer_of s)) k) 2 0
  unfolding outcome_of
  prepared-outcome = ap (outcome_of t) is-prepared

-- ---- a read that has ended

-- the last ended transaction that it leaves, of this kind and with this write part beside it
abbrev pub was_read : ℕ → ℕ → (ℕ → ℕ) → (ℕ → ℕ) → WritePart → Ended
was_read kind s asked values beside =
    record {
      kind = kind;
      read = record {
        set = s;
        awaited = 0;
        asked = asked;
        values = values;
        stage = 0;
        firsts = λ k. initial;
      };
      write = ended_write beside;
    }

-- the kind and the outcome of a read that ends at this stage beside a write of z
abbrev pub kind_at : ℕ → ℕ → ℕ
kind_at stage z = cond (eqb z 0) (cond (eqb stage 0) 1 3) 4

abbrev pub outcome_at : ℕ → ℕ
outcome_at z = cond (eqb z 0) 1 2

-- the read has ended: what its client keeps, and that every item has its answer
pub record Finished (caps : Capacities) (d s kind again z : ℕ) (asked : ℕ → ℕ) (v : World)
    (c : Call) (left : List Labelled) : Type 0 where
  pub accepted : refusal caps v.tables c ≡ 0
  pub outcome : outcome_in (step caps v.tables c).answer ≡ outcome_at z
  pub beside : (v.tables.client d).write.set ≡ z
  pub prepared : counted (is_prepared_reply d) (left ++ leaving v c) ≡ count z
  pub prepared_each : (j : ℕ) → counted (is_prepared_reply_for d j) (left ++ leaving v c)
      ≡ cond (has z j) 1 0
  pub replied : counted (is_reply d) (left ++ leaving v c) ≡ count s + count again
  pub once_each : (j : ℕ) → counted (is_reply_for d j) (left ++ leaving v c)
      ≡ cond (has s j) 1 0 + cond (has again j) 1 0
  pub requests : counted (is_request d) (joining v c) ≡ 0
  pub values : ℕ → ℕ
  pub client : (moved v c).tables.client d ≡ rested (v.tables.client d)
      (was_read kind s asked values (v.tables.client d).write)
  pub picked : Picked (moved v c).writes s asked
  pub answered : (j : ℕ) → has s j ≡ true
      → Answer (moved v c) d j (asked j) (values j) (left ++ leaving v c)

-- ---- deliveries and starts while a read of client d is under way

module _ (caps : Capacities) (v : World) (inv : Inv caps v) (d : ℕ) where
  pub not-started : is_idle (v.tables.client d) ≡ false → (c : Call)
      → refusal caps v.tables c ≡ 0 → starts_for v d c ≡ true → ⊥
  unfolding starts_for
  not-started busy c a t =
      let rests = ((keeps caps v.tables c a).starter d t).1 in
      not-both (rw (rests.read, rests.write) refl) busy

  -- the delivery of a message of the client delivers for it, and ends by its outcome alone
  pub delivers-reply : (i : ℕ) → In (placed v i) v.in_flight
      → owner_of (placed v i).message ≡ d → delivers v d (deliver i) ≡ true
  unfolding delivers
  delivers-reply i here e = eq-eqb (placed v i).label.client d
      (inv.owners (placed v i) here ∙ e)

  pub ends_by : (i n : ℕ) → eqb n 0 ≡ false
      → outcome_in (step caps v.tables (deliver i)).answer ≡ n
      → delivers v d (deliver i) ≡ true → ends_for caps v d (deliver i) ≡ true
  ends_by i n some o e = rw (e, o, some) refl

  pub silent : (i : ℕ) → outcome_in (step caps v.tables (deliver i)).answer ≡ 0
      → ends_for caps v d (deliver i) ≡ false
  silent i o = rw o (and-false (delivers v d (deliver i)))

  -- a refused call ends nothing
  pub refused-ends : (c : Call) → accepts caps v c ≡ false → ends_for caps v d c ≡ false
  refused-ends c a = rw (refused-outcome caps v c a) (and-false (delivers v d c))

-- the outcome is one of an end, and a mixed transaction's kind is 4
outcome-some : (z : ℕ) → eqb (outcome_at z) 0 ≡ false
outcome-some z = by-test (eqb z 0) (λ e. rw e refl) (λ e. rw e refl)

kind-at : (p : ReadPart) (w : WritePart) (stage z : ℕ) → p.set ≢ 0 → p.stage ≡ stage
    → w.set ≡ z → kind_ended p w ≡ kind_at stage z
kind-at p w stage z some is beside = rw (is, beside, ne_eqb p.set 0 some) refl

module _ (caps : Capacities) (v : World) (inv : Inv caps v) (d s stage again z : ℕ)
    (asked : ℕ → ℕ) (left : List Labelled)
    (r : Reading d s stage again z asked v left) where
  -- what an accepted call does to the read
  abbrev Ways : Call → Type 0
  Ways c = (Reading d s stage again z asked (moved v c) (left ++ leaving v c)
      × (counted (is_request d) (joining v c) ≡ 0) × (ends_for caps v d c ≡ false))
      ⊎ ((ends_for caps v d c ≡ true)
      × Finished caps d s (kind_at stage z) again z asked v c left)

  abbrev here : Client
  here = v.tables.client d

  -- what its end leaves, with these answers
  ended-as : (values : ℕ → ℕ) (c : Client) → c.read.set ≡ here.read.set
      → c.read.asked ≡ here.read.asked → c.read.stage ≡ here.read.stage
      → c.read.values ≡ values → c.write.set ≡ here.write.set
      → ended_write c.write ≡ ended_write here.write
      → ended c ≡ was_read (kind_at stage z) s asked values here.write
  ended-as values c set asks Stage-is values-are writes write =
      let kind : kind_ended c.read c.write ≡ kind_at stage z =
      kind-at c.read c.write stage z (λ e. r.awaiting.mode (sym set ∙ e))
      (Stage-is ∙ r.is_stage) (writes ∙ r.beside.set) in
      rw (kind, set ∙ r.awaiting.set, asks ∙ r.asks, values-are, write) refl

  -- the delivery of a got of the client
  by-got : (i : ℕ) → refusal caps v.tables (deliver i) ≡ 0 → In (placed v i) v.in_flight
      → (u : Version) (latest : Entry) → (placed v i).message ≡ Got d u latest → Ways (deliver i)
  unfolding leaving
  by-got i a is_in u latest is-got =
      let same : message_at v.tables i ≡ Got d u latest =
      sym (placed-message caps v inv i) ∙ is-got in
      let w : Awaiting d s again v left = r.awaiting in
      let record-after : (moved v (deliver i)).tables.client d ≡ got here u.item u.value =
      got-client v.tables i d u latest same in
      let outcome : outcome_in (step caps v.tables (deliver i)).answer ≡ cond
      (is_last of_read here u.item) (outcome_at z) 0 =
      delivered-outcome caps v i a ∙ got-outcome v.tables i d u latest same
      ∙ ap (λ (x : ℕ). cond (is_last of_read here u.item) (outcome_at x) 0) r.beside.set in
      let delivers-it : delivers v d (deliver i) ≡ true =
      delivers-reply caps v inv d i is_in (ap owner_of is-got) in
      let one = reply caps v inv d s stage again z asked left r i is_in u latest is-got in
      let requests = no-requests caps v inv d i (λ t. ap is_first_reply same) in
      let brings : Brings caps v inv d i u one (moved v (deliver i)) =
      record {
        grows = moved-grows caps v (deliver i) a;
        seen = got-seen v.tables i d u latest same;
      } in
      by-test (is_last of_read here u.item)
      (λ is-last.
      let last : eqb (remove here.read.awaited u.item) 0 ≡ true =
      and_left (eqb (remove here.read.awaited u.item) 0) (eqb here.write.awaited 0)
      is-last in
      let none_written : here.write.awaited ≡ 0 =
      eqb-true here.write.awaited 0
      (and_right (eqb (remove here.read.awaited u.item) 0) (eqb here.write.awaited 0)
      is-last) in
      let ends_now : outcome_in (step caps v.tables (deliver i)).answer ≡ outcome_at z =
      outcome ∙ rw is-last refl in
      inr (
        ends_by caps v inv d i (outcome_at z) (outcome-some z) ends_now delivers-it,
        record {
          accepted = a;
          outcome = ends_now;
          beside = r.beside.set;
          prepared = all-prepared caps v inv d i u one z left r.beside none_written;
          prepared_each = each-prepared caps v inv d i u one z left r.beside none_written;
          replied = all-replied caps v inv d i u one s again left w last;
          once_each = once-each caps v inv d i u one s again left w last;
          requests = requests;
          values = put here.read.values u.item u.value;
          client = record-after ∙ rw is-last
              (ap (rested here) (ended-as (put here.read.values u.item u.value)
              (answered here u.item u.value) refl refl refl refl refl refl));
          picked = picked-grows v (moved v (deliver i)) brings.grows s asked r.picked;
          answered = all-answered caps v inv d s stage again z asked left r i is_in u latest is-got
              (moved v (deliver i)) brings last;
        },
      ))
      (λ f. inl (
        goes_on caps v inv d s stage again z asked left r i is_in u latest is-got
            (moved v (deliver i)) brings (record-after ∙ rw f refl) f,
        requests,
        silent caps v inv d i (outcome ∙ rw f refl),
      ))

  -- the delivery of a prepared reply of a mixed transaction
  by-prepared : (i : ℕ) → refusal caps v.tables (deliver i) ≡ 0 → In (placed v i) v.in_flight
      → (k n : ℕ) → (placed v i).message ≡ Prepared k n → writer_of n ≡ d → here.write.set ≢ 0
      → Ways (deliver i)
  unfolding leaving
  by-prepared i a is_in k n is owner some =
      let same : message_at v.tables i ≡ Prepared k n =
      sym (placed-message caps v inv i) ∙ is in
      let v' = moved v (deliver i) in
      let more = left ++ placed v i ∷ [] in
      let grows : Grows v v' = moved-grows caps v (deliver i) a in
      let record-after : v'.tables.client d ≡ prepared here k =
      subst (λ (x : ℕ). v'.tables.client x ≡ prepared (v.tables.client x) k) owner
      (prepared-client v.tables i k n same) in
      let two : outcome_at z ≡ 2 = rw (ne_eqb z 0 (λ e. some (r.beside.set ∙ e))) refl in
      let outcome : outcome_in (step caps v.tables (deliver i)).answer ≡ cond
      (is_last of_write here k) 2 0 =
      delivered-outcome caps v i a ∙ subst (λ (x : ℕ). outcome_of v.tables
      (message_at v.tables i) ≡ cond (is_last of_write (v.tables.client x) k) 2 0) owner
      (prepared-outcome v.tables i k n same) in
      let delivers-it : delivers v d (deliver i) ≡ true =
      delivers-reply caps v inv d i is_in (ap owner_of is ∙ owner) in
      let requests = no-requests caps v inv d i (λ t. ap is_first_reply same) in
      let no-reply = no-got caps v inv d i k n is_in is owner in
      let struck-count = prepared-beside caps v inv d i k n is_in is owner z left r.beside in
      let struck-once = prepared-once caps v inv d i k n is_in is owner z left r.beside in
      by-test (is_last of_write here k)
      (λ is-last.
      let none : here.read.awaited ≡ 0 =
      eqb-true here.read.awaited 0 (and_left (eqb here.read.awaited 0)
      (eqb (remove here.write.awaited k) 0) is-last) in
      let all-struck : remove here.write.awaited k ≡ 0 =
      eqb-true (remove here.write.awaited k) 0
      (and_right (eqb here.read.awaited 0) (eqb (remove here.write.awaited k) 0) is-last) in
      let ends_now : outcome_in (step caps v.tables (deliver i)).answer ≡ outcome_at z =
      outcome ∙ rw is-last (sym two) in
      let read_same : (j : ℕ) → has here.read.awaited j ≡ false =
      λ j. subst (λ (x : ℕ). has x j ≡ false) (sym none) (has-empty j) in
      inr (
        ends_by caps v inv d i (outcome_at z) (outcome-some z) ends_now delivers-it,
        record {
          accepted = a;
          outcome = ends_now;
          beside = r.beside.set;
          prepared = omega (arith, struck-count, ap count all-struck, count-empty);
          prepared_each = all_come (is_prepared_reply_for d) (remove here.write.awaited k)
              (λ x. cond (has z x) 1 0) more all-struck struck-once;
          replied = omega (
            arith,
            none_more (is_reply d) left (placed v i ∷ []) no-reply,
            r.awaiting.replied,
            ap count none,
            count-empty,
          );
          once_each = λ j. none_more (is_reply_for d j) left (placed v i ∷ [])
              (λ l p. rw (no-reply l p) refl)
              ∙ all_come (is_reply_for d) here.read.awaited
              (λ x. cond (has s x) 1 0 + cond (has again x) 1 0) left none r.awaiting.once j;
          requests = requests;
          values = here.read.values;
          client = record-after ∙ rw is-last
              (ap (rested here) (ended-as here.read.values here refl refl refl refl refl refl));
          picked = picked-grows v v' grows s asked r.picked;
          answered = λ j e. answer-grows v v' d j (asked j) (here.read.values j) left
              (placed v i ∷ []) grows (no-reply-for d j (placed v i ∷ []) no-reply)
              (r.answered j e (read_same j));
        },
      ))
      (λ f.
      let is-struck : v'.tables.client d ≡ struck here k = record-after ∙ rw f refl in
      inl (
        undisturbed d s stage again z asked v v' left (placed v i ∷ []) grows
            (ap (λ (x : Client). x.read) is-struck) no-reply
            (record {
              set = ap (λ (x : Client). x.write.set) is-struck ∙ r.beside.set;
              once = λ j. ap (λ (x : Client). counted (is_prepared_reply_for d j) more
                  + cond (has x.write.awaited j) 1 0) is-struck ∙ struck-once j;
              prepared = omega (
                arith,
                ap (λ (x : Client). count x.write.awaited) is-struck,
                struck-count,
              );
            })
            (ap is_idle is-struck ∙ f) r,
        requests,
        silent caps v inv d i (outcome ∙ rw f refl),
      ))

  -- an answer to the client is a got or a prepared reply
  abbrev Answering : (i : ℕ) → In (placed v i) v.in_flight
      → answers_to d (placed v i).message ≡ true → Type 0
  Answering i is_in t =
      Answers inv.ledger v.tables.versions
      (v.tables.client (owner_of (placed v i).message)) (placed v i).message d t
      (fits caps v inv (placed v i) is_in)

  answers-here : (i : ℕ) (is_in : In (placed v i) v.in_flight)
      (t : answers_to d (placed v i).message ≡ true) → Answering i is_in t
  answers-here i is_in t =
      let m = (placed v i).message in
      answers_of inv.ledger v.tables.versions (v.tables.client (owner_of m)) m d t
      (fits caps v inv (placed v i) is_in)
      (subst (λ (x : ℕ). (v.tables.client x).read.stage ≢ 1) (sym (answers-owner m d t))
      r.by_stamp)

  pub not_first : (i : ℕ) → In (placed v i) v.in_flight
      → answers_to d (placed v i).message ≡ true → is_first_reply (placed v i).message ≡ false
  not_first i is_in t = go (answers-here i is_in t)
    where
      go : Answering i is_in t → is_first_reply (placed v i).message ≡ false
      go (by_got u e is) = ap is_first_reply is
      go (by_prepared k n is own some stamp) = ap is_first_reply is

  by_way : (c : Call) → refusal caps v.tables c ≡ 0 → Way caps v inv d c → Ways c
  by_way c a (quiet c' q) =
      inl (
        unmoved d s stage again z asked v (moved v c') left (leaving v c')
            (moved-grows caps v c' a) q.client q.replies q.prepareds r,
        q.requests,
        q.ends,
      )
  by_way c a (starts c' t) = absurd (not-started caps v inv d r.busy c' a t)
  by_way c a (answers i is_in t) = go (answers-here i is_in t)
    where
      go : Answering i is_in t → Ways (deliver i)
      go (by_got u e is) = by-got i a is_in u e is
      go (by_prepared k n is own some stamp) =
          by-prepared i a is_in k n is own
          (subst (λ (x : ℕ). (v.tables.client x).write.set ≢ 0)
          (answers-owner (placed v i).message d t) some)

  ways : (c : Call) → refusal caps v.tables c ≡ 0 → Ways c
  ways c a = by_way c a (way caps v inv d c a)

  pub read-goes-on : (c : Call) → ends_for caps v d c ≡ false
      → Reading d s stage again z asked (next caps v c)
      (left ++ cond (accepts caps v c) (leaving v c) [])
      × (counted (is_request d) (cond (accepts caps v c) (joining v c) []) ≡ 0)
  unfolding next counted
  read-goes-on c f =
      by-test (accepts caps v c)
      (λ a. rw a (⊎_elim (λ x. (x.0, x.1)) (λ x. not-both x.0 f)
      (ways c (eqb-true (refusal caps v.tables c) 0 a))))
      (λ a. rw a (
        unmoved d s stage again z asked v (passed v) left [] (grows_self v) refl
            (λ l p. absurd p) (λ l p. absurd p) r,
        refl,
      ))

  pub read-ends : (c : Call) → ends_for caps v d c ≡ true
      → Finished caps d s (kind_at stage z) again z asked v c left
  read-ends c t =
      by-test (accepts caps v c)
      (λ a. ⊎_elim (λ x. not-both t x.2) (λ x. x.1)
      (ways c (eqb-true (refusal caps v.tables c) 0 a)))
      (λ a. not-both t (refused-ends caps v inv d c a))
