-- A fast read in a list of calls: its requests, its replies and its end, counted.
use mathlib.Core.Bool.{Bool, true, false, cond, not}
use mathlib.Core.List.{List, [], ◌∷◌, ◌++◌, append_assoc, append-nil}
use mathlib.Core.Logic.{◌⊎◌, inl, inr, ◌↔◌}
use mathlib.Core.Path.{◌≡◌, refl, sym, ap, ◌∙◌, subst}
use Prim.Native.Nat.{ℕ, suc, ◌+◌, ◌^◌, ◌≤◌, ◌<◌}
use native.Mathlib.Omega.{arith}
use lib.Dec.{eqb}
use borrow.Author.Tests.{eq-eqb, eqb-false}
use Rattle.basics.proofs.Cases.{by-test, not-both, and_left, and_right, not-true, eqb_same}
use Rattle.basics.specs.Lists.{counted}
use Rattle.basics.proofs.Lists.{counted-append, counted-map, counted-all, counted-ext}
use Rattle.itemset.specs.Set.{has, count, members}
use Rattle.itemset.proofs.Laws.{has-empty}
use Rattle.itemset.proofs.Counts.{count-empty, count-zero, count-within}
use Rattle.itemset.proofs.Members.{length-members}
use Rattle.protocol.specs.declared.Message.TheVariants.{FirstGet}
use Rattle.protocol.specs.Tables.{Client}
use Rattle.protocol.specs.Range.{Capacities}
use Rattle.protocol.specs.FastRead.{fast_reader, first_gets}
use Rattle.protocol.specs.Calls.{Call, start_fast_read, refusal, effect, step}
use Rattle.condition3.specs.World.{World, Labelled, labelled, joining, leaving, accepts}
use Rattle.condition3.specs.World.{moved, next, after, joining_over, leaving_over, is_reply}
use Rattle.condition3.specs.World.{is_reply_for, is_first_reply_for, is_got_for, is_request}
use Rattle.condition3.specs.World.{is_request_for, outcome_in, ends_for, stays}
use Rattle.condition3.specs.Condition3.{UnderWay, sent, came}
use Rattle.condition3.specs.Condition3.Manner.{fast}
use Rattle.protocol.proofs.Put.{put_same}
use Rattle.protocol.proofs.Refusals.{AcceptedStart, accepted-fast-read}
use Rattle.condition3.proofs.Link.{Inv}
use Rattle.condition3.proofs.Link.Step.{next-inv}
use Rattle.condition3.proofs.Runs.Run.{after-append, leaving-append, joining-append}
use Rattle.condition3.proofs.Runs.Run.{next-accepted, after-inv, still-client}
use Rattle.condition3.proofs.Runs.Replies.{Awaiting, reads_on}
use Rattle.condition3.proofs.Runs.Spans.{starts-awaiting, starts-beside, starts-busy}
use Rattle.condition3.proofs.Runs.Ended.{EndedRead}
use Rattle.condition3.proofs.Runs.ReadCounts.{after-start, after-span}
use Rattle.condition3.proofs.Runs.FastKinds.{counted-kinds, first_counted, Firsts}
use Rattle.condition3.proofs.Runs.FastSpan.{Fetching}
use Rattle.condition3.proofs.Runs.ReadStep.{read-goes-on, read-ends}
use Rattle.condition3.proofs.Runs.FastStep.{Requests, Fast, first, second, FastEnded}
use Rattle.condition3.proofs.Runs.FastStep.{fast-goes-on, fast-ends}
use Rattle.condition3.proofs.Common.{members-once}

-- ---- what either part awaits, against its requests

pub record Open (d s : ℕ) (v : World) (left sent : List Labelled) : Type 0 where
  pub again : ℕ
  pub awaiting : Awaiting d s again v left
  pub busy : eqb (v.tables.client d).read.awaited 0 ≡ false
  pub requests : Requests d s again sent

pub open-part : (d s : ℕ) (v : World) (left sent : List Labelled) → Fast d s v left sent
    → Open d s v left sent
open-part d s v left sent (first r q) =
    record {
      again = 0;
      awaiting = r.awaiting;
      busy = reads_on d v left r.beside r.busy;
      requests = q;
    }
open-part d s v left sent (second again asked within r firsts q) =
    record {
      again = again;
      awaiting = r.awaiting;
      busy = reads_on d v left r.beside r.busy;
      requests = q;
    }

-- of each item of s at most two requests, of any other none, and one first reply and one got
abbrev AtMostTwice : ℕ → ℕ → ℕ → List Labelled → List Labelled → Type 0
AtMostTwice d s k sent left = (counted (is_request_for d k) sent ≤ cond (has s k) 2 0)
    × (counted (is_first_reply_for d k) left ≤ 1) × (counted (is_got_for d k) left ≤ 1)

bit-most : (b : Bool) → cond b 1 0 ≤ 1
bit-most b = by-test b (λ e. rw e (omega arith)) (λ e. rw e (omega arith))

-- what is fetched again is of the set
bits_most : (s again k : ℕ) → (has again k ≡ true → has s k ≡ true)
    → cond (has s k) 1 0 + cond (has again k) 1 0 ≤ cond (has s k) 2 0
bits_most s again k within =
    by-test (has s k) (λ e. rw e (omega (arith, bit-most (has again k))))
    (λ e. by-test (has again k) (λ f. not-both (within f) e) (λ f. rw (e, f) (omega arith)))

at-most-twice : (d s again k : ℕ) (sent left : List Labelled)
    → (has again k ≡ true → has s k ≡ true) → Requests d s again sent
    → counted (is_reply_for d k) left ≤ cond (has s k) 1 0 + cond (has again k) 1 0
    → counted (is_first_reply_for d k) left ≡ cond (has s k) 1 0 → AtMostTwice d s k sent left
at-most-twice d s again k sent left within q all firsts = (
  omega (arith, q.each k, bits_most s again k within),
  omega (arith, firsts, bit-most (has s k)),
  omega (arith, firsts, all, counted-kinds d k left, bit-most (has again k)),
)

once-of-each : (d s : ℕ) (v : World) (left sent : List Labelled) → Fast d s v left sent → (k : ℕ)
    → AtMostTwice d s k sent left
once-of-each d s v left sent (first r q) k =
    let all = first_counted d k left r.firsts in
    let none : ◌≡◌ {A = ℕ} (cond (has 0 k) 1 0) 0 = rw (has-empty k) refl in (
      omega (arith, q.each k, bits_most s 0 k (λ e. not-both e (has-empty k))),
      omega (arith, all, r.awaiting.once k, bit-most (has s k), none),
      omega (arith, all, counted-kinds d k left),
    )
once-of-each d s v left sent (second again asked within r firsts q) k =
    at-most-twice d s again k sent left (within k) q (omega (arith, r.awaiting.once k))
    (firsts.once k)

-- ---- its two sets of requests

-- in the first part fewer replies than items have come
fewer-firsts : (d s : ℕ) (v : World) (left : List Labelled) → Fetching d s v left
    → counted (is_reply d) left < count s
fewer-firsts d s v left r =
    let a = (v.tables.client d).read.awaited in
    let some : count a ≡ 0 → ⊥ =
    λ z. eqb-false a 0 (reads_on d v left r.beside r.busy) (count-zero a z) in
    omega (arith, some, r.awaiting.replied, count-empty)

-- and one request an item was sent; in the second as many replies have come
sent-first : (n d s : ℕ) (v : World) (left sent : List Labelled) → Fast d s v left sent
    → (v.tables.client d).read.awaited < 2 ^ n → counted (is_reply d) left < count s
    → counted (is_request d) sent ≡ count s
sent-first n d s v left sent (first r q) below less = omega (arith, q.all, count-empty)
sent-first n d s v left sent (second again asked within r firsts q) below less =
    let a = (v.tables.client d).read.awaited in
    let few : count a ≤ count again = count-within a again fetched n below in
    absurd (omega (arith, few, less, r.awaiting.replied))
  where
    fetched : (k : ℕ) → has (v.tables.client d).read.awaited k ≡ true → has again k ≡ true
    fetched k e =
        by-test (has again k) (λ f. f)
        (λ f.
        let is : ◌≡◌ {A = ℕ} (cond (has (v.tables.client d).read.awaited k) 1 0) 1 =
        rw e refl in
        let none : ◌≡◌ {A = ℕ} (cond (has again k) 1 0) 0 = rw f refl in
        absurd (omega (
          arith,
          is,
          none,
          r.awaiting.once k,
          firsts.once k,
          counted-kinds d k left,
        )))

-- which sends nothing more
sends_none : (caps : Capacities) (v : World) (inv : Inv caps v) (d s : ℕ)
    (left sent : List Labelled)
    → Fast d s v left sent → count s ≤ counted (is_reply d) left → (c : Call)
    → counted (is_request d) (cond (accepts caps v c) (joining v c) []) ≡ 0
sends_none caps v inv d s left sent (first r q) all c =
    absurd (omega (arith, all, fewer-firsts d s v left r))
sends_none caps v inv d s left sent (second again asked within r firsts q) all c =
    by-test (ends_for caps v d c)
    (λ e. let f = read-ends caps v inv d s 2 again 0 asked left r c e in
    rw (eq-eqb (refusal caps v.tables c) 0 f.accepted) f.requests)
    (λ e. (read-goes-on caps v inv d s 2 again 0 asked left r c e).1)

-- it awaits some item, so its replies are fewer than its requests
fewer : (d s : ℕ) (v : World) (left sent : List Labelled) → Fast d s v left sent
    → counted (is_reply d) left < counted (is_request d) sent
fewer d s v left sent f =
    let o = open-part d s v left sent f in
    let a = (v.tables.client d).read.awaited in
    let some : count a ≡ 0 → ⊥ =
    λ z. eqb-false a 0 o.busy (count-zero a z) in
    omega (arith, some, o.awaiting.replied, o.requests.all)

-- an item of the set that has had no reply, or fewer replies than requests, is awaited
pub is-awaited : (d s : ℕ) (v : World) (left sent : List Labelled) → Fast d s v left sent → (k : ℕ)
    → has s k ≡ true
    → (counted (is_reply_for d k) left ≡ 0)
    ⊎ (counted (is_reply_for d k) left < counted (is_request_for d k) sent)
    → has (v.tables.client d).read.awaited k ≡ true
is-awaited d s v left sent f k m open' =
    by-test (has (v.tables.client d).read.awaited k) (λ e. e)
    (λ e. absurd (all_come (rw e refl) open'))
  where
    o : Open d s v left sent
    o = open-part d s v left sent f

    all_come : ◌≡◌ {A = ℕ} (cond (has (v.tables.client d).read.awaited k) 1 0) 0
        → (counted (is_reply_for d k) left ≡ 0)
        ⊎ (counted (is_reply_for d k) left < counted (is_request_for d k) sent) → ⊥
    all_come none (inl zero') =
        let member : ◌≡◌ {A = ℕ} (cond (has s k) 1 0) 1 = rw m refl in
        omega (arith, none, zero', member, o.awaiting.once k)
    all_come none (inr less) = omega (arith, none, less, o.awaiting.once k, o.requests.each k)

-- ---- from its start

module _ (caps : Capacities) (w : World) (inv : Inv caps w) (d s : ℕ)
    (accepted : refusal caps w.tables (start_fast_read d s) ≡ 0) where
  start : AcceptedStart caps w.tables d s
  start = (accepted-fast-read caps w.tables d s).0 accepted

  client-is : (moved w (start_fast_read d s)).tables.client d ≡ fast_reader w.tables d s
  unfolding effect
  client-is = put_same w.tables.client d (fast_reader w.tables d s)

  -- one request for each item of its set
  abbrev label : ℕ → Labelled
  label k = labelled d w.time w.time (FirstGet d k)

  start-requests : Requests d s 0 (joining w (start_fast_read d s))
  unfolding joining
  start-requests =
      let n = w.tables.sizes.items in
      record {
        all = counted-map (labelled d w.time w.time) (is_request d) (first_gets w.tables d s)
            ∙ counted-map (FirstGet d) (λ m. is_request d (labelled d w.time w.time m))
            (members n s)
            ∙ counted-all (λ k. is_request d (label k)) (members n s)
            (λ k i. rw (eqb_same d) refl)
            ∙ omega (arith, length-members s n start.set, count-empty);
        each = λ k. counted-map (labelled d w.time w.time) (is_request_for d k)
            (first_gets w.tables d s)
            ∙ counted-map (FirstGet d) (λ m. is_request_for d k
            (labelled d w.time w.time m)) (members n s)
            ∙ counted-ext (λ j. is_request_for d k (label j)) (λ j. eqb j k) (members n s)
            (λ j i. rw (eqb_same d) refl)
            ∙ members-once n s k start.set ∙ rw (has-empty k) (omega arith);
      }

  fast-started : Fast d s (moved w (start_fast_read d s)) [] (joining w (start_fast_read d s))
  fast-started =
      first
      (record {
        awaiting = starts-awaiting d s (moved w (start_fast_read d s)) (fast_reader w.tables d s)
            client-is refl refl start.some;
        beside = starts-beside d 0 (moved w (start_fast_read d s)) (fast_reader w.tables d s)
            client-is refl refl;
        busy = starts-busy s ((moved w (start_fast_read d s)).tables.client d)
            (fast_reader w.tables d s) client-is refl start.some;
        is_stage = ap (λ (c : Client). c.read.stage) client-is;
        firsts = λ l p. absurd p;
        answered =
            λ k e f. not-both e (sym (ap (λ (c : Client). has c.read.awaited k) client-is) ∙ f);
      })
      start-requests

-- ---- while no call ends it

fast-during : (caps : Capacities) (v : World) → Inv caps v → (d s : ℕ) (left sent : List Labelled)
    → Fast d s v left sent → (cs : List Call) → stays caps v d cs ≡ true
    → Fast d s (after caps v cs) (left ++ leaving_over caps v cs) (sent ++ joining_over caps v cs)
unfolding after leaving_over joining_over stays
fast-during caps v inv d s left sent f [] e =
    subst (λ (l : List Labelled). Fast d s v l (sent ++ [])) (sym (append-nil left))
    (subst (λ (l : List Labelled). Fast d s v left l) (sym (append-nil sent)) f)
fast-during caps v inv d s left sent f (c ∷ cs) e =
    let open' : ends_for caps v d c ≡ false =
    not-true (ends_for caps v d c)
    (and_left (not (ends_for caps v d c)) (stays caps (next caps v c) d cs) e) in
    let gone = cond (accepts caps v c) (leaving v c) [] in
    let come = cond (accepts caps v c) (joining v c) [] in
    let rest = fast-during caps (next caps v c) (next-inv caps v inv c) d s (left ++ gone)
    (sent ++ come) (fast-goes-on caps v inv d s left sent f c open') cs
    (and_right (not (ends_for caps v d c)) (stays caps (next caps v c) d cs) e) in
    subst (λ (l : List Labelled). Fast d s (after caps (next caps v c) cs) l
    (sent ++ (come ++ joining_over caps (next caps v c) cs)))
    (append_assoc left gone (leaving_over caps (next caps v c) cs))
    (subst (λ (l : List Labelled). Fast d s (after caps (next caps v c) cs)
    ((left ++ gone) ++ leaving_over caps (next caps v c) cs) l)
    (append_assoc sent come (joining_over caps (next caps v c) cs)) rest)

-- ---- in a list of calls

module _ (caps : Capacities) (w : World) (inv : Inv caps w) (d s : ℕ) (before during : List Call)
    (u : UnderWay caps w d (start_fast_read d s) before during) where
  abbrev begins : Call
  begins = start_fast_read d s

  abbrev w₁ : World
  w₁ = after caps w before

  abbrev v : World
  v = after caps w (before ++ begins ∷ during)

  abbrev left : List Labelled
  left = came caps w begins before during

  abbrev asked : List Labelled
  asked = sent caps w begins before during

  inv₁ : Inv caps w₁
  inv₁ = after-inv caps w inv before

  pub inv_at : Inv caps v
  inv_at = after-inv caps w inv (before ++ begins ∷ during)

  inv-moved : Inv caps (moved w₁ begins)
  inv-moved = subst (λ (x : World). Inv caps x) (after-start caps w before begins u.accepted)
      (after-inv caps w inv (before ++ begins ∷ []))

  going : stays caps (moved w₁ begins) d during ≡ true
  going = subst (λ (x : World). stays caps x d during ≡ true)
      (after-start caps w before begins u.accepted) u.unended

  over : Fast d s (after caps (moved w₁ begins) during)
      ([] ++ leaving_over caps (moved w₁ begins) during)
      (joining w₁ begins ++ joining_over caps (moved w₁ begins) during)
  over = fast-during caps (moved w₁ begins) inv-moved d s [] (joining w₁ begins)
      (fast-started caps w₁ inv₁ d s u.accepted) during going

  left_is : left ≡ leaving_over caps (moved w₁ begins) during
  unfolding leaving_over leaving
  left_is =
      rw (eq-eqb (refusal caps w₁.tables begins) 0 u.accepted)
      (ap (λ (x : World). leaving_over caps x during)
      (next-accepted caps w₁ begins u.accepted))

  asked_is : asked ≡ joining w₁ begins ++ joining_over caps (moved w₁ begins) during
  unfolding joining_over
  asked_is =
      rw (eq-eqb (refusal caps w₁.tables begins) 0 u.accepted)
      (ap (λ (x : World). joining w₁ begins ++ joining_over caps x during)
      (next-accepted caps w₁ begins u.accepted))

  pub is-fast : Fast d s v left asked
  is-fast =
      subst (λ (x : World). Fast d s x left asked)
      (sym (after-span caps w before during begins u.accepted))
      (subst (λ (l : List Labelled). Fast d s (after caps (moved w₁ begins) during) l asked)
      (sym left_is)
      (subst (λ (l : List Labelled). Fast d s (after caps (moved w₁ begins) during)
      (leaving_over caps (moved w₁ begins) during) l) (sym asked_is) over))

  -- ---- with one call more
  module _ (c : Call) where
    left-more : came caps w begins before (during ++ c ∷ [])
        ≡ left ++ cond (accepts caps v c) (leaving v c) []
    unfolding leaving_over
    left-more =
        leaving-append caps w₁ (begins ∷ during) (c ∷ [])
        ∙ ap (λ (x : World). left ++ (cond (accepts caps x c) (leaving x c) [] ++ []))
        (sym (after-append caps w before (begins ∷ during)))
        ∙ ap (λ (l : List Labelled). left ++ l)
        (append-nil (cond (accepts caps v c) (leaving v c) []))

    asked-more : sent caps w begins before (during ++ c ∷ [])
        ≡ asked ++ cond (accepts caps v c) (joining v c) []
    unfolding joining_over
    asked-more =
        joining-append caps w₁ (begins ∷ during) (c ∷ [])
        ∙ ap (λ (x : World). asked ++ (cond (accepts caps x c) (joining x c) [] ++ []))
        (sym (after-append caps w before (begins ∷ during)))
        ∙ ap (λ (l : List Labelled). asked ++ l)
        (append-nil (cond (accepts caps v c) (joining v c) []))

    finished : ends_for caps v d c ≡ true → FastEnded caps d s v c left asked
    finished e = fast-ends caps v inv_at d s left asked is-fast c e

    module _ (f : FastEnded caps d s v c left asked) where
      is-accepted : accepts caps v c ≡ true
      is-accepted = eq-eqb (refusal caps v.tables c) 0 f.done.accepted

      left-all : came caps w begins before (during ++ c ∷ []) ≡ left ++ leaving v c
      left-all = left-more ∙ rw is-accepted refl

      asked-all : Requests d s f.again (sent caps w begins before (during ++ c ∷ []))
      asked-all = subst (Requests d s f.again) (sym (asked-more ∙ rw is-accepted refl))
          f.requests

      all-replied : counted (is_reply d) (came caps w begins before (during ++ c ∷ []))
          ≡ count s + count f.again
      all-replied = ap (counted (is_reply d)) left-all ∙ f.done.replied

    pub ends-iff : (ends_for caps v d c ≡ true)
        ↔ ((counted (is_reply d) left < counted (is_request d) asked)
        × (counted (is_reply d) (came caps w begins before (during ++ c ∷ []))
        ≡ counted (is_request d) (sent caps w begins before (during ++ c ∷ []))))
    ends-iff = (
      λ e. let f = finished e in
          (fewer d s v left asked is-fast, all-replied f ∙ sym (asked-all f).all),
      λ p. by-test (ends_for caps v d c) (λ e. e)
          (λ f.
          let less : counted (is_reply d) (left ++ cond (accepts caps v c) (leaving v c) [])
          < counted (is_request d) (asked ++ cond (accepts caps v c) (joining v c) []) =
          fewer d s (next caps v c) _ _ (fast-goes-on caps v inv_at d s left asked is-fast c f) in
          absurd (omega (
            arith,
            less,
            p.1,
            ap (counted (is_reply d)) left-more,
            ap (counted (is_request d)) asked-more,
          ))),
    )

    pub two-rounds : (counted (is_reply d) left < count s
        → counted (is_request d) asked ≡ count s)
        × (count s ≤ counted (is_reply d) left
        → counted (is_request d) (sent caps w begins before (during ++ c ∷ []))
        ≡ counted (is_request d) asked)
    two-rounds = (
      sent-first v.tables.sizes.items d s v left asked is-fast
          (inv_at.sound.valid.in_range.client d (still-client caps w d before (begins ∷ during)
          ((accepted-fast-read caps w₁.tables d s).0 u.accepted).client)).read.awaited,
      λ all. ap (counted (is_request d)) asked-more
          ∙ counted-append (is_request d) asked (cond (accepts caps v c) (joining v c) [])
          ∙ omega (arith, sends_none caps v inv_at d s left asked is-fast all c),
    )

    -- one more call, and each item has had two requests, a first reply and a got at most
    pub bounded : (k : ℕ)
        → AtMostTwice d s k (sent caps w begins before (during ++ c ∷ []))
        (came caps w begins before (during ++ c ∷ []))
    bounded k =
        by-test (ends_for caps v d c)
        (λ e. let f = finished e in
        at-most-twice d s f.again k _ _ (f.within k) (asked-all f)
        (omega (arith, ap (counted (is_reply_for d k)) (left-all f), f.done.once_each k))
        (ap (counted (is_first_reply_for d k)) (left-all f) ∙ f.firsts.once k))
        (λ e. subst (λ (ls : List Labelled). AtMostTwice d s k ls
        (came caps w begins before (during ++ c ∷ []))) (sym asked-more)
        (subst (λ (ls : List Labelled). AtMostTwice d s k
        (asked ++ cond (accepts caps v c) (joining v c) []) ls) (sym left-more)
        (once-of-each d s (next caps v c) _ _
        (fast-goes-on caps v inv_at d s left asked is-fast c e) k)))

    pub counts-exact : ends_for caps v d c ≡ true
        → (again : ℕ) × ((k : ℕ) → has again k ≡ true → has s k ≡ true)
        × (counted (is_request d) (sent caps w begins before (during ++ c ∷ []))
        ≡ count s + count again)
        × (counted (is_reply d) (came caps w begins before (during ++ c ∷ []))
        ≡ count s + count again)
        × ((k : ℕ) → has s k ≡ true
        → (counted (is_request_for d k) (sent caps w begins before (during ++ c ∷ []))
        ≡ suc (cond (has again k) 1 0))
        × (counted (is_reply_for d k) (came caps w begins before (during ++ c ∷ []))
        ≡ suc (cond (has again k) 1 0)))
        × (outcome_in (step caps v.tables c).answer ≡ 1)
    counts-exact e =
        let f = finished e in (
          f.again,
          f.within,
          (asked-all f).all,
          all-replied f,
          (λ k m. (
            (asked-all f).each k ∙ rw m (omega arith),
            ap (counted (is_reply_for d k)) (left-all f) ∙ f.done.once_each k ∙ rw m (omega arith),
          )),
          f.done.outcome,
        )

    pub ended-fast : ends_for caps v d c ≡ true → EndedRead caps w fast d s before during c
    ended-fast e =
        let f = finished e in
        record {
          start = (accepted-fast-read caps w₁.tables d s).0 u.accepted;
          again = f.again;
          stamps = f.asked;
          left = left;
          done = f.done;
          left_all = left-all f;
          late = λ o k m. not-both o refl;
          firsts = λ o. subst (Firsts d s f.asked) (sym (left-all f)) f.firsts;
        }
