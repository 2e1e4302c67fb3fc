-- Which calls touch a client's record: its own starts, and the deliveries of its prepared replies,
-- gots and first replies; any other leaves it as it was, sends it no request and brings it no
-- reply.
use mathlib.Core.Bool.{Bool, true, false, and-false, ◌&&◌}
use mathlib.Core.List.{List, [], map}
use mathlib.Core.Logic.{◌≢◌, ⊎_elim}
use mathlib.Core.Path.{◌≡◌, refl, sym, ap, ◌∙◌, subst}
use Prim.Native.Nat.{ℕ, zero, suc}
use lib.Dec.{eqb}
use borrow.Author.Tests.{eqb-true, eqb-false, eq-eqb}
use Rattle.basics.proofs.Cases.{by-test, not-both, and_left, and_right, and_both, or_right, or_left}
use Rattle.basics.proofs.Cases.{or_cases, eqb_same}
use Rattle.basics.specs.Lists.{In, counted}
use Rattle.basics.proofs.Lists.{none-counted, in_map}
use Rattle.protocol.specs.declared.Version.{Version}
use Rattle.protocol.specs.declared.Entry.{Entry}
use Rattle.protocol.specs.declared.Message.{Message}
use Rattle.protocol.specs.declared.Message.TheVariants.{Prepared, Got, FirstReply}
use Rattle.protocol.specs.declared.Answer.TheVariants.{Refused}
use Rattle.protocol.specs.Tables.{Tables, Client, writer_of}
use Rattle.protocol.specs.Message.{kind_of, is_prepared, is_got, is_first_reply, is_any_get, is_any_got}
use Rattle.protocol.specs.Message.{owner_of}
use Rattle.protocol.specs.Range.{Capacities}
use Rattle.protocol.specs.FastRead.{fast_reader, first_gets}
use Rattle.protocol.specs.Steps.{joined, gets, prepares, reader, writer, mixer, mixed_messages}
use Rattle.protocol.specs.Steps.{message_at}
use Rattle.protocol.specs.Calls.{Call, start_read, start_fast_read, start_write, start_mixed, deliver}
use Rattle.protocol.specs.Calls.{refusal, effect, step, reply, outcome_of, pick}
use Rattle.condition3.specs.World.{World, Labelled, labelled, placed, joining, leaving}
use Rattle.condition3.specs.World.{is_request, is_reply, is_prepared_reply, starts_for, accepts}
use Rattle.condition3.specs.World.{outcome_in, is_delivery, delivers, ends_for}
use Rattle.protocol.proofs.Refusals.{Idle}
use Rattle.protocol.proofs.Sorts.{Apart, Sort, reads, reads_fast, writes, mixes}
use Rattle.protocol.proofs.Sorts.{delivers as delivered-at, apart, sort}
use Rattle.protocol.proofs.Put.{put_other}
use Rattle.protocol.proofs.Each.{Each}
use Rattle.protocol.proofs.Delivered.{is_answer, delivered-work, outcome-none, joined-each}
use Rattle.protocol.proofs.MessageKinds.{answer-is, answer-asks}
use Rattle.condition3.proofs.Sound.{Ledger, Fits, FitsPrepared, FitsGot, FitsFirstReply}
use Rattle.condition3.proofs.Sound.{SoundBy}
use Rattle.condition3.proofs.Sound.Delivery.{no-message}
use Rattle.condition3.proofs.Common.{has_item}
use Rattle.condition3.proofs.Link.{Inv}
use Rattle.condition3.proofs.Link.Messages.{placed-message, placed-here}
use Rattle.condition3.proofs.Link.Apart.{apart-tables, apart-origin, apart-joining}
use Rattle.condition3.proofs.Link.Apart.{apart-leaving}

-- a prepared reply, a got or a first reply of client d
abbrev pub answers_to : ℕ → Message → Bool
answers_to d m = is_answer m && eqb (owner_of m) d

-- a delivery makes no get join, but that of a first reply
joined-no-get : (t : Tables) (m : Message) → is_first_reply m ≡ false → (j : Message)
    → In j (joined t m) → is_any_get j ≡ false
joined-no-get t m f =
    joined-each (λ j. is_any_get j ≡ false) t m (λ j r. answer-asks j r.answer)
    (λ p s some o. refl) (λ first k s. not-both first f)

-- a got of client d, of either kind, is an answer to it
pub got-answers : (m : Message) (d : ℕ) → is_any_got m ≡ true → owner_of m ≡ d → answers_to d m ≡ true
got-answers m d e o = and_both (is_answer m) (eqb (owner_of m) d)
    (or_right (is_prepared m) (is_any_got m) e) (eq-eqb (owner_of m) d o)

-- ---- which deliveries report an end

-- a refused call reports none
pub refused-outcome : (caps : Capacities) (v : World) (c : Call) → accepts caps v c ≡ false
    → outcome_in (step caps v.tables c).answer ≡ 0
unfolding step outcome_in
refused-outcome caps v c f = go (refusal caps v.tables c) f
  where
    go : (r : ℕ) → eqb r 0 ≡ false → outcome_in (pick r (reply v.tables c) (Refused r)) ≡ 0
    go zero e = not-both (eqb_same 0) e
    go (suc r) e = refl

-- an accepted delivery reports its message's outcome
pub delivered-outcome : (caps : Capacities) (v : World) (i : ℕ)
    → refusal caps v.tables (deliver i) ≡ 0
    → outcome_in (step caps v.tables (deliver i)).answer ≡ outcome_of v.tables
    (message_at v.tables i)
unfolding step outcome_in reply
delivered-outcome caps v i e = rw e refl

-- a message of client d that is no answer to it has the outcome none
no-outcome : (t : Tables) (m : Message) (d : ℕ) → owner_of m ≡ d → answers_to d m ≡ false
    → outcome_of t m ≡ 0
no-outcome t m d o f =
    by-test (is_answer m)
    (λ e. not-both (and_both (is_answer m) (eqb (owner_of m) d) e (eq-eqb (owner_of m) d o)) f)
    (λ e. outcome-none t m e)

answers-item : (m : Message) (d : ℕ) → answers_to d m ≡ true → has_item m ≡ true
answers-item m d e =
    ⊎_elim (λ f. rw (eqb-true (kind_of m) 2 f) refl)
    (λ f. ⊎_elim (λ g. rw (eqb-true (kind_of m) 5 g) refl) (λ g. rw (eqb-true (kind_of m) 7 g) refl)
    (or_cases (is_got m) (is_first_reply m) f))
    (or_cases (is_prepared m) (is_any_got m) (and_left (is_answer m) (eqb (owner_of m) d) e))

pub answers-owner : (m : Message) (d : ℕ) → answers_to d m ≡ true → owner_of m ≡ d
answers-owner m d e =
    eqb-true (owner_of m) d (and_right (is_answer m) (eqb (owner_of m) d) e)

pub record Quiet (caps : Capacities) (v : World) (c : Call) (d : ℕ) : Type 0 where
  pub ends : ends_for caps v d c ≡ false
  pub client : (effect v.tables c).client d ≡ v.tables.client d
  pub requests : counted (is_request d) (joining v c) ≡ 0
  pub replies : (l : Labelled) → In l (leaving v c) → is_reply d l ≡ false
  pub prepareds : (l : Labelled) → In l (leaving v c) → is_prepared_reply d l ≡ false

-- a message of client d, of the kinds q
abbrev pub of_client : (Message → Bool) → ℕ → Labelled → Bool
of_client q d l = eqb l.label.client d && q l.message

-- labels of another client make none of d
pub others-labelled : (q : Message → Bool) (d e n : ℕ) → eqb e d ≡ false → (ms : List Message)
    → counted (of_client q d) (map (labelled e n n) ms) ≡ 0
others-labelled q d e n f ms =
    none-counted (of_client q d) (map (labelled e n n) ms)
    (λ x i. let y = in_map (labelled e n n) x ms i in ap (of_client q d) y.2 ∙ rw f refl)

module _ (caps : Capacities) (v : World) (inv : Inv caps v) (d : ℕ) where
  -- a delivery makes none of the client join, where its message is none of its
  pub none-join : (q : Message → Bool) (i : ℕ) → (eqb (placed v i).label.client d ≡ true
      → Each (λ m. q m ≡ false) (joined v.tables (message_at v.tables i)))
      → counted (of_client q d) (joining v (deliver i)) ≡ 0
  unfolding joining
  none-join q i none =
      none-counted (of_client q d) (joining v (deliver i))
      (λ x p. let y = in_map (labelled (placed v i).label.client (placed v i).label.start
      v.time) x (joined v.tables (message_at v.tables i)) p in
      ap (of_client q d) y.2
      ∙ by-test (eqb (placed v i).label.client d) (λ t. rw t (none t y.0 y.1))
      (λ t. rw t refl))

  -- no request does, but with a first reply of its
  pub no-requests : (i : ℕ) → (eqb (placed v i).label.client d ≡ true
      → is_first_reply (message_at v.tables i) ≡ false)
      → counted (is_request d) (joining v (deliver i)) ≡ 0
  no-requests i none =
      none-join is_any_get i
      (λ t. joined-no-get v.tables (message_at v.tables i) (none t))

  no_end : (i : ℕ) → In (placed v i) v.in_flight → answers_to d (placed v i).message ≡ false
      → ends_for caps v d (deliver i) ≡ false
  unfolding delivers
  no_end i here f =
      by-test (eqb (placed v i).label.client d)
      (λ t.
      let owner : owner_of (message_at v.tables i) ≡ d =
      ap owner_of (sym (placed-message caps v inv i)) ∙ sym (inv.owners (placed v i) here)
      ∙ eqb-true (placed v i).label.client d t in
      let none : outcome_in (step caps v.tables (deliver i)).answer ≡ 0 =
      by-test (accepts caps v (deliver i))
      (λ a. delivered-outcome caps v i (eqb-true (refusal caps v.tables (deliver i)) 0 a)
      ∙ no-outcome v.tables (message_at v.tables i) d owner
      (subst (λ (m : Message). answers_to d m ≡ false) (placed-message caps v inv i) f))
      (λ a. refused-outcome caps v (deliver i) a) in
      rw none (and-false (eqb (placed v i).label.client d)))
      (λ t. rw t refl)

  -- a message that is no answer to the client is none of a kind of answers, by its label
  no-answer-of : (q : Message → Bool) → ((m : Message) → q m ≡ true → is_answer m ≡ true)
      → (i : ℕ) → In (placed v i) v.in_flight → answers_to d (placed v i).message ≡ false
      → (eqb (placed v i).label.client d && q (placed v i).message) ≡ false
  no-answer-of q is i here f =
      let l = placed v i in
      by-test (eqb l.label.client d && q l.message)
      (λ t. not-both
      (and_both (is_answer l.message) (eqb (owner_of l.message) d)
      (is l.message (and_right (eqb l.label.client d) (q l.message) t))
      (eq-eqb (owner_of l.message) d (sym (inv.owners l here)
      ∙ eqb-true l.label.client d (and_left (eqb l.label.client d) (q l.message) t))))
      f)
      (λ t. t)

  quiet-delivery : (i : ℕ) → In (placed v i) v.in_flight
      → answers_to d (placed v i).message ≡ false
      → Quiet caps v (deliver i) d
  unfolding effect leaving
  quiet-delivery i here f =
      record {
        ends = no_end i here f;
        client = (delivered-work v.tables (message_at v.tables i)).client d
            (subst (λ (m : Message). answers_to d m ≡ false) (placed-message caps v inv i) f);
        requests = no-requests i
            (λ t. by-test (is_first_reply (message_at v.tables i))
            (λ e. not-both
            (got-answers (placed v i).message d
            (or_right (is_got (placed v i).message) (is_first_reply (placed v i).message)
            (ap is_first_reply (placed-message caps v inv i) ∙ e))
            (sym (inv.owners (placed v i) here) ∙ eqb-true (placed v i).label.client d t)) f)
            (λ e. e));
        replies = λ l p. ⊎_elim
            (λ e. ap (is_reply d) e
            ∙ no-answer-of is_any_got (λ m t. or_right (is_prepared m) (is_any_got m) t) i here f)
            (λ z. absurd z) p;
        prepareds = λ l p. ⊎_elim
            (λ e. ap (is_prepared_reply d) e
            ∙ no-answer-of is_prepared (λ m t. or_left (is_prepared m) (is_any_got m) t) i here f)
            (λ z. absurd z) p;
      }

  not-delivered : (c : Call) → Apart v.tables c → delivers v d c ≡ false
  unfolding delivers
  not-delivered c a = ap (is_delivery v d) (apart-origin v c a)

  quiet-apart : (c : Call) → Apart v.tables c → Quiet caps v c d
  quiet-apart c a =
      record {
        ends = rw (not-delivered c a) refl;
        client = ap (λ (t : Tables). t.client d) (apart-tables v c a);
        requests = ap (counted (is_request d)) (apart-joining v c a)
            ∙ none-counted (is_request d) [] (λ x p. absurd p);
        replies = λ l p. absurd (rw (apart-leaving v c a) at p);
        prepareds = λ l p. absurd (rw (apart-leaving v c a) at p);
      }

  -- the three ways of an accepted call
  pub data Way : Call → Type 0 where
    quiet : (c : Call) → Quiet caps v c d → Way c
    starts : (c : Call) → starts_for v d c ≡ true → Way c
    answers : (i : ℕ) → In (placed v i) v.in_flight → answers_to d (placed v i).message ≡ true
        → Way (deliver i)

  sort-way : {c : Call} → Sort caps v.tables c → Way c
  unfolding effect joining leaving starts_for delivers
  sort-way (reads e s a) =
      by-test (eqb e d)
      (λ t. starts (start_read e s) t)
      (λ f. quiet (start_read e s)
      (record {
        ends = refl;
        client = put_other v.tables.client e (reader v.tables e s) d
            (λ q. eqb-false e d f (sym q));
        requests = others-labelled is_any_get d e v.time f (gets v.tables e s);
        replies = λ l p. absurd p;
        prepareds = λ l p. absurd p;
      }))
  sort-way (reads_fast e s a) =
      by-test (eqb e d)
      (λ t. starts (start_fast_read e s) t)
      (λ f. quiet (start_fast_read e s)
      (record {
        ends = refl;
        client = put_other v.tables.client e (fast_reader v.tables e s) d
            (λ q. eqb-false e d f (sym q));
        requests = others-labelled is_any_get d e v.time f (first_gets v.tables e s);
        replies = λ l p. absurd p;
        prepareds = λ l p. absurd p;
      }))
  sort-way (writes e s bytes a) =
      by-test (eqb e d)
      (λ t. starts (start_write e s bytes) t)
      (λ f. quiet (start_write e s bytes)
      (record {
        ends = refl;
        client = put_other v.tables.client e (writer v.tables e s bytes) d
            (λ q. eqb-false e d f (sym q));
        requests = others-labelled is_any_get d e v.time f (prepares v.tables e s bytes);
        replies = λ l p. absurd p;
        prepareds = λ l p. absurd p;
      }))
  sort-way (mixes e r s bytes a) =
      by-test (eqb e d)
      (λ t. starts (start_mixed e r s bytes) t)
      (λ f. quiet (start_mixed e r s bytes)
      (record {
        ends = refl;
        client = put_other v.tables.client e (mixer v.tables e r s bytes) d
            (λ q. eqb-false e d f (sym q));
        requests = others-labelled is_any_get d e v.time f (mixed_messages v.tables e r s bytes);
        replies = λ l p. absurd p;
        prepareds = λ l p. absurd p;
      }))
  sort-way (delivered-at i a) =
      let here = placed-here caps v inv i a.place in
      by-test (answers_to d (placed v i).message)
      (λ t. answers i here t)
      (λ f. quiet (deliver i) (quiet-delivery i here f))
  sort-way (apart c ok a) = quiet c (quiet-apart c a)

  pub way : (c : Call) → refusal caps v.tables c ≡ 0 → Way c
  way c e = sort-way (sort caps v.tables c e)

-- ---- answers go to a client with the right part

module _ (L : Ledger) (vs : List Version) (c : Client) (m : Message) (d : ℕ)
    (t : answers_to d m ≡ true) (f : Fits L vs c m) where
  -- a prepared reply, of its stamp; a got, outside a first part; a first reply, in a first part
  pub data Kind : Type 0 where
    prepared : (k s : ℕ) → m ≡ Prepared k s → writer_of s ≡ d → FitsPrepared vs c k s → Kind
    got : (u : Version) (e : Entry) → m ≡ Got d u e → FitsGot L vs c u e → Kind
    first : (u : Version) (e : Entry) → m ≡ FirstReply d u e → FitsFirstReply L vs c u e → Kind

  pub kind-of : Kind
  unfolding Fits
  kind-of =
      ⊎_elim
      (λ x. prepared x.0 x.1.0 x.1.1
      (sym (ap owner_of x.1.1) ∙ answers-owner m d t) (subst (Fits L vs c) x.1.1 f))
      (⊎_elim
      (λ x. got x.1.0 x.1.1.0 (x.1.1.1
      ∙ ap (λ (e : ℕ). Got e x.1.0 x.1.1.0)
      (sym (ap owner_of x.1.1.1) ∙ answers-owner m d t)) (subst (Fits L vs c) x.1.1.1 f))
      (λ x. first x.1.0 x.1.1.0 (x.1.1.1
      ∙ ap (λ (e : ℕ). FirstReply e x.1.0 x.1.1.0)
      (sym (ap owner_of x.1.1.1) ∙ answers-owner m d t)) (subst (Fits L vs c) x.1.1.1 f)))
      (answer-is m (and_left (is_answer m) (eqb (owner_of m) d) t))

  -- outside the first part of a fast read, a got or a prepared reply
  pub data Answers : Type 0 where
    by_got : (u : Version) (e : Entry) → m ≡ Got d u e → Answers
    by_prepared : (k s : ℕ) → m ≡ Prepared k s → writer_of s ≡ d → c.write.set ≢ 0
        → c.write.stamp ≡ s → Answers

  pub answers_of : c.read.stage ≢ 1 → Answers
  answers_of n = go kind-of
    where
      go : Kind → Answers
      go (prepared k s is own fit) = by_prepared k s is own fit.mode fit.stamp
      go (got u e is fit) = by_got u e is
      go (first u e is fit) = absurd (n fit.by_item)

  -- in it a first reply, where there is no write part
  pub first_of : c.write.set ≡ 0 → c.read.stage ≡ 1
      → (u : Version) × ((e : Entry) × (m ≡ FirstReply d u e))
  first_of none stage = go kind-of
    where
      go : Kind → (u : Version) × ((e : Entry) × (m ≡ FirstReply d u e))
      go (prepared k s is own fit) = absurd (fit.mode none)
      go (got u e is fit) = absurd (fit.by_stamp stage)
      go (first u e is fit) = (u, (e, is))

-- and an idle client has none
pub no_answer : (caps : Capacities) (L : Ledger) (t : Tables) → SoundBy caps L t → (m : Message)
    → In m t.messages → (d : ℕ) → answers_to d m ≡ true → Idle (t.client d) → ⊥
no_answer caps L t sound m i d e idle =
    no-message caps L t sound m i (answers-item m d e)
    (subst (λ (x : ℕ). Idle (t.client x)) (sym (answers-owner m d e)) idle)
