-- The first part of a fast read: each first reply strikes one item and is kept with the value of a
-- write that had landed. With the last one the read ends, or the second part begins, which asks for
-- the latest stamps that the first replies show.
use mathlib.Core.Bool.{true, false, cond}
use mathlib.Core.List.{List, [], ◌∷◌, ◌++◌, map}
use mathlib.Core.Logic.{inl}
use mathlib.Core.Path.{◌≡◌, refl, sym, ap, ◌∙◌, subst}
use Prim.Native.Nat.{ℕ, ◌+◌, ◌<◌}
use native.Mathlib.Omega.{arith}
use lib.Dec.{eqb}
use borrow.Author.Tests.{eqb-true, eqb-false}
use Rattle.basics.proofs.Cases.{by-test, not-both, and_left, eqb_same}
use Rattle.basics.specs.Lists.{In, counted}
use Rattle.basics.proofs.Lists.{in_right, counted-map, counted-all, counted-ext}
use Rattle.itemset.specs.Set.{has, count, members}
use Rattle.itemset.proofs.Laws.{has-empty, has-remove-other, has-below}
use Rattle.itemset.proofs.Counts.{count-empty}
use Rattle.itemset.proofs.Members.{length-members}
use Rattle.protocol.specs.declared.Version.{Version}
use Rattle.protocol.specs.declared.Entry.{Entry}
use Rattle.protocol.specs.declared.Message.{Message}
use Rattle.protocol.specs.declared.Message.TheVariants.{Get, FirstReply}
use Rattle.protocol.specs.Tables.{Client, ReadPart, entry_of, with_read}
use Rattle.protocol.specs.Message.{parts_of, is_first_reply, is_any_got, item_of, owner_of}
use Rattle.protocol.specs.Range.{Capacities, is_idle}
use Rattle.protocol.specs.FastRead.{replies_of, freshest, stale, first_kept, second_part}
use Rattle.condition3.specs.World.{World, Labelled, labelled, placed, is_request, is_request_for}
use Rattle.condition3.specs.World.{is_reply, is_reply_for, is_prepared_reply}
use Rattle.protocol.proofs.Each.{each-one, each_append}
use Rattle.protocol.proofs.Put.{put_same, put_other}
use Rattle.protocol.proofs.FastRead.{freshest-own, stale-below, freshest-first}
use Rattle.protocol.proofs.Ranges.Values.{IsClient}
use Rattle.condition3.proofs.Sound.{Fits, FitsFirstReply}
use Rattle.condition3.proofs.Sound.Carry.{owner-client}
use Rattle.condition3.proofs.Sound.DeliverFirst.{replies-good}
use Rattle.condition3.proofs.Link.{Inv}
use Rattle.condition3.proofs.Link.Grows.{Grows}
use Rattle.condition3.proofs.Link.Messages.{in-message, fits}
use Rattle.condition3.proofs.Link.Asks.{Picked, picked, picked-grows}
use Rattle.condition3.proofs.Runs.Replies.{Answer, Awaiting, answer-grows, no-reply-for}
use Rattle.condition3.proofs.Runs.Replies.{still-awaiting, Reply, Brings, not-for, brought}
use Rattle.condition3.proofs.Runs.Replies.{all-replied, once-each, Beside, still-beside}
use Rattle.condition3.proofs.Runs.Replies.{no-prepared, goes_on as still-awaited}
use Rattle.condition3.proofs.Runs.FastKinds.{AllFirst, first_counted, Firsts}
use Rattle.condition3.proofs.Runs.ReadSpan.{Reading}
use Rattle.condition3.proofs.Common.{members-once}

-- a fast read of s by client d in its first part: each first reply that has come is an answer
pub record Fetching (d s : ℕ) (v : World) (left : List Labelled) : Type 0 where
  pub awaiting : Awaiting d s 0 v left
  pub beside : Beside d 0 v left
  pub busy : is_idle (v.tables.client d) ≡ false
  pub is_stage : (v.tables.client d).read.stage ≡ 1
  pub firsts : AllFirst d left
  pub answered : (k : ℕ) → has s k ≡ true → has (v.tables.client d).read.awaited k ≡ false
      → Answer v d k ((v.tables.client d).read.firsts k).stamp
      ((v.tables.client d).read.values k) left

-- ---- a call that leaves the client's record as it was

pub still-fetching : (d s : ℕ) (v v' : World) (left more : List Labelled) → Grows v v'
    → v'.tables.client d ≡ v.tables.client d
    → ((l : Labelled) → In l more → is_reply d l ≡ false)
    → ((l : Labelled) → In l more → is_prepared_reply d l ≡ false)
    → Fetching d s v left → Fetching d s v' (left ++ more)
still-fetching d s v v' left more g same none unprepared r =
    record {
      awaiting = still-awaiting d s 0 v v' left more (ap (λ (c : Client). c.read) same) none
          r.awaiting;
      beside = still-beside d 0 v v' left more (ap (λ (c : Client). c.write) same) unprepared
          r.beside;
      busy = ap is_idle same ∙ r.busy;
      is_stage = ap (λ (c : Client). c.read.stage) same ∙ r.is_stage;
      firsts = each_append (λ l. is_reply d l ≡ true → is_first_reply l.message ≡ true) left more
          r.firsts (λ l i e. not-both e (none l i));
      answered =
          λ k e f. subst
          (λ (c : Client). Answer v' d k (c.read.firsts k).stamp (c.read.values k)
          (left ++ more)) (sym same)
          (answer-grows v v' d k ((v.tables.client d).read.firsts k).stamp
          ((v.tables.client d).read.values k) left more g (no-reply-for d k more none)
          (r.answered k e (sym (ap (λ (c : Client). has c.read.awaited k) same) ∙ f)));
    }

-- ---- the delivery of one of its first replies

module _ (caps : Capacities) (v : World) (inv : Inv caps v) (d s : ℕ) (left : List Labelled)
    (r : Fetching d s v left) (i : ℕ) (here : In (placed v i) v.in_flight)
    (u : Version) (latest : Entry) (is-first : (placed v i).message ≡ FirstReply d u latest) where
  abbrev c : Client
  c = v.tables.client d

  abbrev k : ℕ
  k = u.item

  abbrev n : ℕ
  n = v.tables.sizes.items

  -- its part with the reply kept, the items that are fetched again, and the stamps asked for then
  abbrev kept : ReadPart
  kept = first_kept c.read u

  abbrev again : ℕ
  again = stale n kept

  abbrev asked : ℕ → ℕ
  asked = freshest n kept

  abbrev more : List Labelled
  more = left ++ placed v i ∷ []

  fit : FitsFirstReply inv.ledger v.tables.versions c u latest
  unfolding Fits
  fit = subst (λ (m : Message). Fits inv.ledger v.tables.versions
      (v.tables.client (owner_of m)) m) is-first (fits caps v inv (placed v i) here)

  pub reply : Reply caps v inv d i u
  reply =
      record {
        here = here;
        owner = ap owner_of is-first;
        item = ap item_of is-first;
        stamp = ap (λ (m : Message). (parts_of m).stamp) is-first;
        bears = ap (λ (m : Message). (parts_of m).value) is-first;
        got = ap is_any_got is-first;
        good = fit.version.good;
        value = fit.value;
      }

  is-client : IsClient v.tables.sizes d
  is-client = subst (λ (m : Message). IsClient v.tables.sizes (owner_of m)) is-first
      (owner-client caps inv.ledger v.tables inv.sound (placed v i).message
      (in-message caps v inv (placed v i) here))

  member_below : (j : ℕ) → has s j ≡ true → j < n
  member_below j e =
      has-below c.read.set j n (inv.sound.valid.in_range.client d is-client).read.set
      (subst (λ (x : ℕ). has x j ≡ true) (sym r.awaiting.set) e)

  in-part : (j : ℕ) → has s j ≡ true → has kept.set j ≡ true
  in-part j e = subst (λ (x : ℕ). has x j ≡ true) (sym r.awaiting.set) e

  -- each item no longer awaited has its answer
  answered-after : (v' : World) → Brings caps v inv d i u reply v' → (j : ℕ) → has s j ≡ true
      → has kept.awaited j ≡ false → Answer v' d j (kept.firsts j).stamp (kept.values j) more
  answered-after v' b j e f =
      by-test (eqb j k)
      (λ t. subst (λ (x : ℕ). Answer v' d x (kept.firsts x).stamp (kept.values x) more)
      (sym (eqb-true j k t))
      (subst (λ (x : ℕ). Answer v' d k (kept.firsts k).stamp x more)
      (sym (put_same c.read.values k u.value))
      (subst (λ (x : Entry). Answer v' d k x.stamp u.value more)
      (sym (put_same c.read.firsts k (entry_of u)))
      (brought caps v inv d i u reply v' b left))))
      (λ t. let other : j ≡ k → ⊥ = eqb-false j k t in
      subst (λ (x : ℕ). Answer v' d j (kept.firsts j).stamp x more)
      (sym (put_other c.read.values k u.value j other))
      (subst (λ (x : Entry). Answer v' d j x.stamp (c.read.values j) more)
      (sym (put_other c.read.firsts k (entry_of u) j other))
      (answer-grows v v' d j (c.read.firsts j).stamp (c.read.values j) left (placed v i ∷ [])
      b.grows (not-for caps v inv d i u reply j other)
      (r.answered j e (sym (has-remove-other c.read.awaited k j other) ∙ f)))))

  all_first : AllFirst d more
  all_first =
      each_append (λ l. is_reply d l ≡ true → is_first_reply l.message ≡ true) left
      (placed v i ∷ []) r.firsts
      (each-one (λ l. is_reply d l ≡ true → is_first_reply l.message ≡ true) (placed v i)
      (λ e. ap is_first_reply is-first))

  -- no write part is beside it
  beside-after : (v' : World) → (v'.tables.client d).write ≡ c.write → Beside d 0 v' more
  beside-after v' same = still-beside d 0 v v' left (placed v i ∷ []) same
      (no-prepared caps v inv d i u reply) r.beside

  -- not the last: the first part goes on
  pub fetches-on : (v' : World) → Brings caps v inv d i u reply v'
      → v'.tables.client d ≡ with_read c kept → eqb kept.awaited 0 ≡ false
      → Fetching d s v' more
  fetches-on v' b same f =
      record {
        awaiting = still-awaited caps v inv d i u reply s 0 left r.awaiting v'
            (ap (λ (x : Client). x.read.set) same) (ap (λ (x : Client). x.read.awaited) same);
        beside = beside-after v' (ap (λ (x : Client). x.write) same);
        busy = ap is_idle same ∙ rw f refl;
        is_stage = ap (λ (x : Client). x.read.stage) same ∙ r.is_stage;
        firsts = all_first;
        answered =
            λ j e q. subst
            (λ (x : Client). Answer v' d j (x.read.firsts j).stamp (x.read.values j) more)
            (sym same)
            (answered-after v' b j e
            (sym (ap (λ (x : Client). has x.read.awaited j) same) ∙ q));
      }

  -- ---- the last
  module _ (over : eqb kept.awaited 0 ≡ true) where
    none_left : (j : ℕ) → has kept.awaited j ≡ false
    none_left j = subst (λ (x : ℕ). has x j ≡ false) (sym (eqb-true kept.awaited 0 over))
        (has-empty j)

    -- what the first replies show is chosen as a read chooses from a view
    chosen : Picked v.writes s asked
    chosen =
        picked caps v inv (replies_of kept)
        (replies-good caps inv.ledger v.tables inv.sound d is-client u fit.version
        r.is_stage over)
        s asked member_below (λ j e. rw (in-part j e) refl)

    pub chosen-after : (v' : World) → Brings caps v inv d i u reply v'
        → Picked v'.writes s asked
    chosen-after v' b = picked-grows v v' b.grows s asked chosen

    -- an item that isn't fetched again has its answer, of the stamp asked for
    pub answered-first : (v' : World) → Brings caps v inv d i u reply v' → (j : ℕ) → has s j ≡ true
        → has again j ≡ false → Answer v' d j (asked j) (kept.values j) more
    answered-first v' b j e f =
        subst (λ (x : ℕ). Answer v' d j x (kept.values j) more)
        (sym (freshest-first n kept j (member_below j e) (in-part j e) f))
        (answered-after v' b j e (none_left j))

    -- by then each item has had its one first reply, no later than the stamp asked for
    pub firsts-come : (v' : World) → Brings caps v inv d i u reply v' → Firsts d s asked more
    firsts-come v' b =
        record {
          once = λ j. first_counted d j more all_first
              ∙ once-each caps v inv d i u reply s 0 left r.awaiting over j
              ∙ rw (has-empty j) (omega arith);
          came = λ j m.
              let y = answered-after v' b j m (none_left j) in
              let x = y.last in
              let here : In y.reply more = subst (In y.reply) (sym x.2)
              (in_right y.reply x.0 (y.reply ∷ x.1) (inl refl)) in
              record {
                reply = y.reply;
                is_left = here;
                is_for = rw x.3 (all_first y.reply here
                    (and_left (is_reply d y.reply) (eqb (item_of y.reply.message) j) x.3));
                not_later = omega (arith, y.holds, freshest-own n kept j (in-part j m));
              };
        }

    -- the second part begins
    pub turns : (v' : World) → Brings caps v inv d i u reply v'
        → v'.tables.client d ≡ with_read c (second_part n kept) → eqb again 0 ≡ false
        → Reading d s 2 again 0 asked v' more
    turns v' b same some =
        let awaited : (v'.tables.client d).read.awaited ≡ again =
        ap (λ (x : Client). x.read.awaited) same in
        let set : (v'.tables.client d).read.set ≡ c.read.set =
        ap (λ (x : Client). x.read.set) same in
        record {
          awaiting = record {
            mode = λ z. r.awaiting.mode (sym set ∙ z);
            set = set ∙ r.awaiting.set;
            once = λ j. ap (λ (x : ℕ). counted (is_reply_for d j) more + cond (has x j) 1 0) awaited
                ∙ ap (λ (m : ℕ). m + cond (has again j) 1 0)
                (once-each caps v inv d i u reply s 0 left r.awaiting over j
                ∙ rw (has-empty j) (omega arith));
            replied = omega (
              arith,
              ap count awaited,
              all-replied caps v inv d i u reply s 0 left r.awaiting over,
              count-empty,
            );
          };
          beside = beside-after v' (ap (λ (x : Client). x.write) same);
          busy = ap is_idle same ∙ rw some refl;
          is_stage = ap (λ (x : Client). x.read.stage) same;
          by_stamp = λ z. absurd (omega (arith, ap (λ (x : Client). x.read.stage) same));
          asks = ap (λ (x : Client). x.read.asked) same;
          picked = chosen-after v' b;
          answered =
              λ j e f. subst (λ (x : Client). Answer v' d j (asked j) (x.read.values j) more)
              (sym same)
              (answered-first v' b j e
              (sym (ap (λ (x : Client). has x.read.awaited j) same) ∙ f));
        }

  -- its requests: one for each item fetched again
  abbrev gets : List Labelled
  gets = map (labelled (placed v i).label.client (placed v i).label.start v.time)
      (map (λ j. Get d j (asked j)) (members n again))

  label-client : (placed v i).label.client ≡ d
  label-client = inv.owners (placed v i) here ∙ ap owner_of is-first

  pub gets-all : counted (is_request d) gets ≡ count again
  gets-all =
      counted-map (labelled (placed v i).label.client (placed v i).label.start v.time)
      (is_request d) (map (λ j. Get d j (asked j)) (members n again))
      ∙ counted-map (λ j. Get d j (asked j)) (λ m. is_request d
      (labelled (placed v i).label.client (placed v i).label.start v.time m))
      (members n again)
      ∙ counted-all (λ j. is_request d (labelled (placed v i).label.client
      (placed v i).label.start v.time (Get d j (asked j)))) (members n again)
      (λ j p. rw (label-client, eqb_same d) refl)
      ∙ length-members again n (stale-below n kept)

  pub gets-each : (j : ℕ) → counted (is_request_for d j) gets ≡ cond (has again j) 1 0
  gets-each j =
      counted-map (labelled (placed v i).label.client (placed v i).label.start v.time)
      (is_request_for d j) (map (λ j. Get d j (asked j)) (members n again))
      ∙ counted-map (λ j. Get d j (asked j)) (λ m. is_request_for d j
      (labelled (placed v i).label.client (placed v i).label.start v.time m))
      (members n again)
      ∙ counted-ext (λ x. is_request_for d j (labelled (placed v i).label.client
      (placed v i).label.start v.time (Get d x (asked x)))) (λ x. eqb x j) (members n again)
      (λ x p. rw (label-client, eqb_same d) refl)
      ∙ members-once n again j (stale-below n kept)
