-- A call while a fast read is under way: its first part goes on, the second begins or goes on, or
-- the delivery of the last reply ends it.
use mathlib.Core.Bool.{Bool, true, false, cond, ◌&&◌, and-false}
use mathlib.Core.List.{List, [], ◌++◌, map}
use mathlib.Core.Path.{◌≡◌, refl, sym, ap, ◌∙◌, subst}
use Prim.Native.Nat.{ℕ, ◌+◌, ◌≤◌}
use native.Mathlib.Omega.{arith}
use lib.Dec.{eqb}
use borrow.Author.Tests.{eqb-true}
use Rattle.basics.proofs.Cases.{by-test, not-both}
use Rattle.basics.specs.Lists.{In, counted}
use Rattle.basics.proofs.Lists.{counted-append, counted_none, none-counted}
use Rattle.itemset.specs.Set.{has, count}
use Rattle.itemset.proofs.Laws.{has-empty}
use Rattle.itemset.proofs.Counts.{count-empty}
use Rattle.protocol.specs.declared.Version.{Version}
use Rattle.protocol.specs.declared.Entry.{Entry}
use Rattle.protocol.specs.declared.Message.{Message}
use Rattle.protocol.specs.declared.Message.TheVariants.{FirstReply}
use Rattle.protocol.specs.Tables.{Tables, Client, ReadPart, rested, with_read}
use Rattle.protocol.specs.Message.{owner_of}
use Rattle.protocol.specs.Range.{Capacities}
use Rattle.protocol.specs.FastRead.{freshest, stale, first_kept, second_part, first_replied}
use Rattle.protocol.specs.FastRead.{second_gets}
use Rattle.protocol.specs.Steps.{delivered, joined, got_first, ended, message_at}
use Rattle.protocol.specs.Calls.{Call, deliver, refusal, effect, step, outcome_of}
use Rattle.condition3.specs.World.{World, Labelled, labelled, placed, joining, leaving}
use Rattle.condition3.specs.World.{accepts, moved, passed, next, is_request, is_request_for}
use Rattle.condition3.specs.World.{is_reply_for, is_first_reply_for, outcome_in, ends_for}
use Rattle.protocol.proofs.Each.{Each, each_none, each-one}
use Rattle.protocol.proofs.Put.{put_same}
use Rattle.protocol.proofs.FastRead.{stale-in-set}
use Rattle.protocol.proofs.Behaviour.{first-view}
use Rattle.condition3.proofs.Link.{Inv}
use Rattle.condition3.proofs.Link.Messages.{placed-message, fits}
use Rattle.condition3.proofs.Link.Grows.{moved-grows, grows_self}
use Rattle.condition3.proofs.Runs.Touch.{delivered-outcome, Way, quiet, starts, answers, way}
use Rattle.condition3.proofs.Runs.Touch.{answers-owner, first_of}
use Rattle.condition3.proofs.Runs.Replies.{none_beside, Brings, all-prepared, each-prepared}
use Rattle.condition3.proofs.Runs.Replies.{all-replied, once-each}
use Rattle.condition3.proofs.Runs.FastKinds.{Firsts, firsts-stay}
use Rattle.condition3.proofs.Runs.ReadSpan.{Reading}
use Rattle.condition3.proofs.Runs.ReadStep.{Finished, not-started, delivers-reply, ends_by}
use Rattle.condition3.proofs.Runs.ReadStep.{silent, refused-ends, not_first, read-goes-on}
use Rattle.condition3.proofs.Runs.ReadStep.{read-ends}
use Rattle.condition3.proofs.Runs.FastSpan.{Fetching, still-fetching, reply, fetches-on}
use Rattle.condition3.proofs.Runs.FastSpan.{chosen-after, answered-first, turns, gets-all}
use Rattle.condition3.proofs.Runs.FastSpan.{gets-each, firsts-come}

-- the requests of a fast read of s by client d among `sent`: one for each item, and one more for
-- each of `again`
pub record Requests (d s again : ℕ) (sent : List Labelled) : Type 0 where
  pub all : counted (is_request d) sent ≡ count s + count again
  pub each : (k : ℕ) → counted (is_request_for d k) sent
      ≡ cond (has s k) 1 0 + cond (has again k) 1 0

-- messages without a request of the client, or with those of the items fetched again
pub no-more-requests : (d s again : ℕ) (sent more : List Labelled)
    → counted (is_request d) more ≡ 0 → Requests d s again sent → Requests d s again (sent ++ more)
no-more-requests d s again sent more none q =
    record {
      all = omega (arith, counted-append (is_request d) sent more, none, q.all);
      each = λ k. counted-append (is_request_for d k) sent more
          ∙ omega (
            arith,
            none-counted (is_request_for d k) more
                (λ l i. rw (counted_none (is_request d) more none l i) refl),
            q.each k,
          );
    }

again-requested : (d s again : ℕ) (sent more : List Labelled) → Requests d s 0 sent
    → counted (is_request d) more ≡ count again
    → ((k : ℕ) → counted (is_request_for d k) more ≡ cond (has again k) 1 0)
    → Requests d s again (sent ++ more)
again-requested d s again sent more q all each =
    record {
      all = omega (arith, counted-append (is_request d) sent more, all, q.all, count-empty);
      each = λ k. counted-append (is_request_for d k) sent more
          ∙ rw (each k, q.each k, has-empty k) (omega arith);
    }

-- a fast read under way, in its first or in its second part
pub data Fast (d s : ℕ) (v : World) (left sent : List Labelled) : Type 0 where
  first : Fetching d s v left → Requests d s 0 sent → Fast d s v left sent
  second : (again : ℕ) (asked : ℕ → ℕ) → ((k : ℕ) → has again k ≡ true → has s k ≡ true)
      → Reading d s 2 again 0 asked v left → Firsts d s asked left → Requests d s again sent
      → Fast d s v left sent

-- and once it has ended
pub record FastEnded (caps : Capacities) (d s : ℕ) (v : World) (c : Call)
    (left sent : List Labelled) : Type 0 where
  pub again : ℕ
  pub asked : ℕ → ℕ
  pub within : (k : ℕ) → has again k ≡ true → has s k ≡ true
  pub done : Finished caps d s 3 again 0 asked v c left
  pub firsts : Firsts d s asked (left ++ leaving v c)
  pub requests : Requests d s again (sent ++ joining v c)

-- ---- the record of the client that a first reply is for

-- with the part q after it: the read goes on, or ends
module _ (c : Client) (p q : ReadPart) (is : p ≡ q) where
  abbrev after-part : ReadPart → Client
  after-part x = cond (eqb x.awaited 0) (rested c (ended (with_read c x))) (with_read c x)

  goes_with : eqb q.awaited 0 ≡ false → after-part p ≡ with_read c q
  goes_with f = ap after-part is ∙ rw f refl

  ends_with : eqb q.awaited 0 ≡ true → after-part p ≡ rested c (ended (with_read c q))
  ends_with e = ap after-part is ∙ rw e refl

module _ (t : Tables) (i d : ℕ) (u : Version) (latest : Entry)
    (is-first : message_at t i ≡ FirstReply d u latest) where
  abbrev part : ReadPart
  part = first_replied t.sizes.items (t.client d).read u

  first-client : (effect t (deliver i)).client d ≡ got_first t.sizes.items (t.client d) u
  unfolding effect delivered
  first-client =
      ap (λ (m : Message). (delivered t m).client d) is-first
      ∙ put_same t.client d (got_first t.sizes.items (t.client d) u)

  first-seen : u.stamp ≤ ((effect t (deliver i)).view d u.item).stamp
  unfolding effect
  first-seen = subst (λ (m : Message). u.stamp ≤ ((delivered t m).view d u.item).stamp)
      (sym is-first) (first-view t d u latest)

  first-outcome : outcome_of t (message_at t i) ≡ cond (eqb part.awaited 0) 1 0
  unfolding outcome_of
  first-outcome = ap (outcome_of t) is-first

  first-joins : joined t (message_at t i) ≡ second_gets t.sizes.items d part
  unfolding joined
  first-joins = ap (joined t) is-first

module _ (caps : Capacities) (v : World) (inv : Inv caps v) (d s : ℕ) (left sent : List Labelled)
  where
    -- what an accepted call does to the read
    data Ways (c : Call) : Type 0 where
      goes : Fast d s (moved v c) (left ++ leaving v c) (sent ++ joining v c)
          → ends_for caps v d c ≡ false → Ways c
      ends : ends_for caps v d c ≡ true → FastEnded caps d s v c left sent → Ways c

    module _ (r : Fetching d s v left) (q : Requests d s 0 sent) where
      -- the delivery of a first reply of the client
      module _ (i : ℕ) (a : refusal caps v.tables (deliver i) ≡ 0)
          (here : In (placed v i) v.in_flight) (u : Version) (latest : Entry)
          (is-first : (placed v i).message ≡ FirstReply d u latest) where
        abbrev c : Client
        c = v.tables.client d

        abbrev n : ℕ
        n = v.tables.sizes.items

        abbrev kept : ReadPart
        kept = first_kept c.read u

        abbrev again : ℕ
        again = stale n kept

        abbrev p : ReadPart
        p = first_replied n c.read u

        same : message_at v.tables i ≡ FirstReply d u latest
        same = sym (placed-message caps v inv i) ∙ is-first

        abbrev v' : World
        v' = moved v (deliver i)

        brings : Brings caps v inv d i u (reply caps v inv d s left r i here u latest is-first) v'
        brings =
            record {
              grows = moved-grows caps v (deliver i) a;
              seen = first-seen v.tables i d u latest same;
            }

        record-after : v'.tables.client d ≡ got_first n c u
        record-after = first-client v.tables i d u latest same

        outcome : outcome_in (step caps v.tables (deliver i)).answer
            ≡ cond (eqb p.awaited 0) 1 0
        outcome = delivered-outcome caps v i a ∙ first-outcome v.tables i d u latest same

        -- with the part q after it
        outcome-with : (q : ReadPart) → p ≡ q → (b : Bool) → eqb q.awaited 0 ≡ b
            → outcome_in (step caps v.tables (deliver i)).answer ≡ cond b 1 0
        outcome-with q is b e =
            outcome ∙ ap (λ (x : ReadPart). cond (eqb x.awaited 0) 1 0) is
            ∙ ap (λ (x : Bool). cond x 1 0) e

        joins : joining v (deliver i) ≡ map (labelled (placed v i).label.client
            (placed v i).label.start v.time) (second_gets n d p)
        unfolding joining
        joins = ap (map (labelled (placed v i).label.client (placed v i).label.start
            v.time)) (first-joins v.tables i d u latest same)

        -- the first part goes on
        goes_on : eqb kept.awaited 0 ≡ false → Ways (deliver i)
        unfolding leaving counted
        goes_on f =
            let is : p ≡ kept = rw f refl in
            let empty : joining v (deliver i) ≡ [] =
            joins ∙ ap (λ (x : ReadPart). map (labelled (placed v i).label.client
            (placed v i).label.start v.time) (second_gets n d x)) is ∙ rw r.is_stage refl in
            let none : counted (is_request d) (joining v (deliver i)) ≡ 0 =
            ap (counted (is_request d)) empty in
            goes
            (first
            (fetches-on caps v inv d s left r i here u latest is-first v' brings
            (record-after ∙ goes_with c p kept is f) f)
            (no-more-requests d s 0 sent (joining v (deliver i)) none q))
            (silent caps v inv d i (outcome-with kept is false f))

        -- the second part begins, or the read ends
        module _ (over : eqb kept.awaited 0 ≡ true) where
          is-second : p ≡ second_part n kept
          is-second = rw over refl

          requested : Requests d s again (sent ++ joining v (deliver i))
          requested =
              subst (λ (ls : List Labelled). Requests d s again (sent ++ ls))
              (sym (joins ∙ ap (λ (x : ReadPart). map (labelled (placed v i).label.client
              (placed v i).label.start v.time) (second_gets n d x)) is-second))
              (again-requested d s again sent _ q
              (gets-all caps v inv d s left r i here u latest is-first)
              (gets-each caps v inv d s left r i here u latest is-first))

          within : (k : ℕ) → has again k ≡ true → has s k ≡ true
          within k e = subst (λ (x : ℕ). has x k ≡ true) r.awaiting.set
              (stale-in-set n kept k e)

          turned : eqb again 0 ≡ false → Ways (deliver i)
          unfolding leaving
          turned f =
              goes
              (second again (freshest n kept) within
              (turns caps v inv d s left r i here u latest is-first over v' brings
              (record-after ∙ goes_with c p (second_part n kept) is-second f) f)
              (firsts-come caps v inv d s left r i here u latest is-first over v' brings)
              requested)
              (silent caps v inv d i (outcome-with (second_part n kept) is-second false f))

          finished : eqb again 0 ≡ true → Ways (deliver i)
          unfolding leaving
          finished e =
              let none : again ≡ 0 = eqb-true again 0 e in
              let ended_by : outcome_in (step caps v.tables (deliver i)).answer ≡ 1 =
              outcome-with (second_part n kept) is-second true e in
              let one = reply caps v inv d s left r i here u latest is-first in
              let unwritten = none_beside d v left r.beside in
              let requests : Requests d s 0 (sent ++ joining v (deliver i)) =
              subst (λ (x : ℕ). Requests d s x (sent ++ joining v (deliver i))) none requested in
              ends
              (ends_by caps v inv d i 1 refl ended_by
              (delivers-reply caps v inv d i here (ap owner_of is-first)))
              (record {
                again = 0;
                asked = freshest n kept;
                within = λ k h. not-both h (has-empty k);
                done = record {
                  accepted = a;
                  outcome = ended_by;
                  beside = r.beside.set;
                  prepared = all-prepared caps v inv d i u one 0 left r.beside unwritten;
                  prepared_each = each-prepared caps v inv d i u one 0 left r.beside unwritten;
                  replied = all-replied caps v inv d i u one s 0 left r.awaiting over;
                  once_each = once-each caps v inv d i u one s 0 left r.awaiting over;
                  requests = omega (
                    arith,
                    requests.all,
                    q.all,
                    counted-append (is_request d) sent (joining v (deliver i)),
                  );
                  values = kept.values;
                  client = record-after ∙ ends_with c p (second_part n kept) is-second e
                      ∙ rw (r.beside.set, r.awaiting.set) refl;
                  picked = chosen-after caps v inv d s left r i here u latest is-first over v'
                      brings;
                  answered = λ j m. answered-first caps v inv d s left r i here u latest is-first
                      over v' brings j m (subst (λ (x : ℕ). has x j ≡ false) (sym none)
                      (has-empty j));
                };
                firsts = firsts-come caps v inv d s left r i here u latest is-first over v' brings;
                requests = requests;
              })

        by_first : Ways (deliver i)
        by_first =
            by-test (eqb kept.awaited 0)
            (λ o. by-test (eqb again 0) (finished o) (turned o)) goes_on

      first_way : (c : Call) → refusal caps v.tables c ≡ 0 → Way caps v inv d c → Ways c
      first_way c a (quiet c' x) =
          goes
          (first
          (still-fetching d s v (moved v c') left (leaving v c') (moved-grows caps v c' a)
          x.client x.replies x.prepareds r)
          (no-more-requests d s 0 sent (joining v c') x.requests q))
          x.ends
      first_way c a (starts c' t) = absurd (not-started caps v inv d r.busy c' a t)
      first_way c a (answers i here t) =
          let m = (placed v i).message in
          let owner = answers-owner m d t in
          let g = first_of inv.ledger v.tables.versions (v.tables.client (owner_of m)) m d t
          (fits caps v inv (placed v i) here)
          (subst (λ (x : ℕ). (v.tables.client x).write.set ≡ 0) (sym owner)
          r.beside.set)
          (subst (λ (x : ℕ). (v.tables.client x).read.stage ≡ 1) (sym owner) r.is_stage) in
          by_first i a here g.0 g.1.0 g.1.1

    -- ---- in the second part no first reply comes

    module _ (again : ℕ) (asked : ℕ → ℕ) (r : Reading d s 2 again 0 asked v left) where
      no-first-by : (c : Call) → refusal caps v.tables c ≡ 0 → Way caps v inv d c → (k : ℕ)
          → Each (λ l. is_first_reply_for d k l ≡ false) (leaving v c)
      unfolding leaving
      no-first-by c a (quiet c' x) k = λ l p. rw (x.replies l p) refl
      no-first-by c a (starts c' t) k =
          absurd (not-started caps v inv d r.busy c' a t)
      no-first-by c a (answers i here t) k =
          each-one (λ l. is_first_reply_for d k l ≡ false) (placed v i)
          (ap (λ (b : Bool). is_reply_for d k (placed v i) && b)
          (not_first caps v inv d s 2 again 0 asked left r i here t)
          ∙ and-false (is_reply_for d k (placed v i)))

      no-firsts : (c : Call) (k : ℕ)
          → Each (λ l. is_first_reply_for d k l ≡ false) (cond (accepts caps v c) (leaving v c) [])
      no-firsts c k =
          by-test (accepts caps v c)
          (λ a. rw a (no-first-by c (eqb-true (refusal caps v.tables c) 0 a)
          (way caps v inv d c (eqb-true (refusal caps v.tables c) 0 a)) k))
          (λ a. rw a (each_none (λ l. is_first_reply_for d k l ≡ false)))

    -- ---- in either part

    pub fast-goes-on : Fast d s v left sent → (c : Call) → ends_for caps v d c ≡ false
        → Fast d s (next caps v c) (left ++ cond (accepts caps v c) (leaving v c) [])
        (sent ++ cond (accepts caps v c) (joining v c) [])
    unfolding next counted
    fast-goes-on (first r q) c f =
        by-test (accepts caps v c)
        (λ a. rw a (go (first_way r q c (eqb-true (refusal caps v.tables c) 0 a)
        (way caps v inv d c (eqb-true (refusal caps v.tables c) 0 a)))))
        (λ a. rw a (first
        (still-fetching d s v (passed v) left [] (grows_self v) refl (λ l p. absurd p)
        (λ l p. absurd p) r)
        (no-more-requests d s 0 sent [] refl q)))
      where
        go : Ways c → Fast d s (moved v c) (left ++ leaving v c) (sent ++ joining v c)
        go (goes x y) = x
        go (ends x y) = not-both x f
    fast-goes-on (second again asked within r firsts q) c f =
        let x = read-goes-on caps v inv d s 2 again 0 asked left r c f in
        second again asked within x.0
        (firsts-stay d s asked left (cond (accepts caps v c) (leaving v c) [])
        (no-firsts again asked r c) firsts)
        (no-more-requests d s again sent (cond (accepts caps v c) (joining v c) []) x.1 q)

    pub fast-ends : Fast d s v left sent → (c : Call) → ends_for caps v d c ≡ true
        → FastEnded caps d s v c left sent
    fast-ends (first r q) c e =
        by-test (accepts caps v c)
        (λ a. go (first_way r q c (eqb-true (refusal caps v.tables c) 0 a)
        (way caps v inv d c (eqb-true (refusal caps v.tables c) 0 a))))
        (λ a. not-both e (refused-ends caps v inv d c a))
      where
        go : Ways c → FastEnded caps d s v c left sent
        go (goes x y) = not-both e y
        go (ends x y) = y
    fast-ends (second again asked within r firsts q) c e =
        let f = read-ends caps v inv d s 2 again 0 asked left r c e in
        record {
          again = again;
          asked = asked;
          within = within;
          done = f;
          firsts = firsts-stay d s asked left (leaving v c)
              (no-first-by again asked r c f.accepted (way caps v inv d c f.accepted)) firsts;
          requests = no-more-requests d s again sent (joining v c) f.requests q;
        }
