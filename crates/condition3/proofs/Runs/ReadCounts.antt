-- A read by its client's view, alone or in a mixed transaction, in a list of calls: its requests,
-- its replies of either kind and its end, counted.
use mathlib.Core.Bool.{true, false, cond}
use mathlib.Core.List.{List, [], ◌∷◌, ◌++◌, append-nil}
use mathlib.Core.Logic.{◌↔◌}
use mathlib.Core.Path.{◌≡◌, refl, sym, ap, ◌∙◌, subst}
use Prim.Native.Nat.{ℕ, ◌+◌, ◌<◌}
use native.Mathlib.Omega.{arith}
use lib.Dec.{eqb}
use borrow.Author.Tests.{eqb-true, eq-eqb, eqb-false}
use Rattle.basics.proofs.Cases.{by-test, not-both}
use Rattle.basics.specs.Lists.{counted}
use Rattle.basics.proofs.Lists.{counted-append}
use Rattle.itemset.specs.Set.{has, count}
use Rattle.itemset.proofs.Laws.{has-empty}
use Rattle.itemset.proofs.Counts.{count-empty, count-zero}
use Rattle.protocol.specs.Range.{Capacities}
use Rattle.protocol.specs.Steps.{reader}
use Rattle.protocol.specs.Calls.{Call, start_read, refusal, step}
use Rattle.condition3.specs.World.{World, Labelled, joining, leaving, accepts, moved, next}
use Rattle.condition3.specs.World.{after, joining_over, leaving_over, is_reply, is_reply_for}
use Rattle.condition3.specs.World.{is_prepared_reply, is_prepared_reply_for, is_request, outcome_in}
use Rattle.condition3.specs.World.{ends_for, stays}
use Rattle.condition3.specs.Condition3.{Manner, start_of, by_view, UnderWay, EndedBy, sent}
use Rattle.condition3.specs.Condition3.{came}
use Rattle.condition3.specs.Condition3.Manner.{ordinary, fast, writing}
use Rattle.protocol.proofs.Stored.{choice-own}
use Rattle.condition3.proofs.Link.{Inv}
use Rattle.condition3.proofs.Runs.Run.{after-append, leaving-append, joining-append}
use Rattle.condition3.proofs.Runs.Run.{next-accepted, after-inv}
use Rattle.condition3.proofs.Runs.ReadSpan.{Reading}
use Rattle.condition3.proofs.Runs.ReadStep.{Finished, read-goes-on, read-ends}
use Rattle.condition3.proofs.Runs.Ended.{EndedRead, kind_of, beside_of, outcome_with}
use Rattle.condition3.proofs.Runs.Spans.{Begun, begun, read-started, read-during}

-- the world after a list and one accepted call
pub after-start : (caps : Capacities) (w : World) (before : List Call) (c : Call)
    → refusal caps (after caps w before).tables c ≡ 0
    → after caps w (before ++ c ∷ []) ≡ moved (after caps w before) c
unfolding after
after-start caps w before c e = after-append caps w before (c ∷ [])
    ∙ next-accepted caps (after caps w before) c e

pub after-span : (caps : Capacities) (w : World) (before during : List Call) (c : Call)
    → refusal caps (after caps w before).tables c ≡ 0
    → after caps w (before ++ c ∷ during) ≡ after caps (moved (after caps w before) c) during
unfolding after
after-span caps w before during c e =
    after-append caps w before (c ∷ during)
    ∙ ap (λ (v : World). after caps v during) (next-accepted caps (after caps w before) c e)

-- a start makes nothing leave
none-leave : (caps : Capacities) (w : World) (μ : Manner) (d s : ℕ)
    → leaving w (start_of μ d s) ≡ []
unfolding leaving
none-leave caps w ordinary d s = refl
none-leave caps w fast d s = refl
none-leave caps w (writing z bytes) d s = refl

module _ (caps : Capacities) (w : World) (inv : Inv caps w) (μ : Manner) (viewed : by_view μ ≡ true)
    (d s : ℕ) (before during : List Call) (u : UnderWay caps w d (start_of μ d s) before during)
  where
    abbrev start : Call
    start = start_of μ d s

    abbrev w₁ : World
    w₁ = after caps w before

    abbrev v : World
    v = after caps w (before ++ start ∷ during)

    -- the items written beside it, and the stamps it asks for
    abbrev z : ℕ
    z = beside_of μ

    abbrev pub asked : ℕ → ℕ
    asked = (reader w₁.tables d s).read.asked

    abbrev pub left : List Labelled
    left = leaving_over caps w₁ (start ∷ during)

    pub begins : Begun caps w₁ μ d s
    begins = begun caps w₁ μ d s viewed u.accepted

    inv₁ : Inv caps w₁
    inv₁ = after-inv caps w inv before

    pub inv_at : Inv caps v
    inv_at = after-inv caps w inv (before ++ start ∷ during)

    pub inv-moved : Inv caps (moved w₁ start)
    inv-moved = subst (λ (x : World). Inv caps x) (after-start caps w before start u.accepted)
        (after-inv caps w inv (before ++ start ∷ []))

    going : stays caps (moved w₁ start) d during ≡ true
    going = subst (λ (x : World). stays caps x d during ≡ true)
        (after-start caps w before start u.accepted) u.unended

    over : Reading d s 0 0 z asked (after caps (moved w₁ start) during)
        ([] ++ leaving_over caps (moved w₁ start) during)
        × (counted (is_request d) (joining_over caps (moved w₁ start) during) ≡ 0)
    over = read-during caps (moved w₁ start) inv-moved d s 0 0 z asked []
        (read-started caps w₁ inv₁ μ d s u.accepted begins) during going

    left_is : left ≡ leaving_over caps (moved w₁ start) during
    unfolding leaving_over
    left_is =
        rw (eq-eqb (refusal caps w₁.tables start) 0 u.accepted)
        (ap (λ (l : List Labelled). l ++ leaving_over caps (next caps w₁ start) during)
        (none-leave caps w₁ μ d s)
        ∙ ap (λ (x : World). leaving_over caps x during)
        (next-accepted caps w₁ start u.accepted))

    pub is-reading : Reading d s 0 0 z asked v left
    is-reading =
        subst (λ (x : World). Reading d s 0 0 z asked x left)
        (sym (after-span caps w before during start u.accepted))
        (subst (λ (l : List Labelled). Reading d s 0 0 z asked
        (after caps (moved w₁ start) during) l) (sym left_is) over.0)

    pub requested : counted (is_request d) (sent caps w start before during) ≡ count s
    unfolding joining_over
    requested =
        rw (eq-eqb (refusal caps w₁.tables start) 0 u.accepted)
        (counted-append (is_request d) (joining w₁ start)
        (joining_over caps (next caps w₁ start) during)
        ∙ omega (
          arith,
          begins.requests,
          ap (λ (x : World). counted (is_request d) (joining_over caps x during))
              (next-accepted caps w₁ start u.accepted),
          over.1,
        ))

    -- it awaits some item of either part, so its replies are fewer than its items
    fewer : (x : World) (l : List Labelled) → Reading d s 0 0 z asked x l
        → counted (is_reply d) l + counted (is_prepared_reply d) l < count s + count z
    fewer x l r =
        let c = x.tables.client d in
        let some : count c.read.awaited ≡ 0 → count c.write.awaited ≡ 0 → ⊥ =
        λ e f. not-both (rw (count-zero c.read.awaited e, count-zero c.write.awaited f)
        refl) r.busy in
        by-test (eqb (count c.read.awaited) 0)
        (λ e. omega (
          arith,
          some (eqb-true (count c.read.awaited) 0 e),
          r.awaiting.replied,
          r.beside.prepared,
          count-empty,
        ))
        (λ e. omega (
          arith,
          eqb-false (count c.read.awaited) 0 e,
          r.awaiting.replied,
          r.beside.prepared,
          count-empty,
        ))

    pub fewer-now : counted (is_reply d) (came caps w start before during)
        + counted (is_prepared_reply d) (came caps w start before during) < count s + count z
    fewer-now = fewer v left is-reading

    -- ---- with one call more
    module _ (c : Call) where
      left-more : leaving_over caps w₁ (start ∷ during ++ c ∷ []) ≡ left ++ cond (accepts caps v c)
          (leaving v c) []
      unfolding leaving_over
      left-more =
          leaving-append caps w₁ (start ∷ during) (c ∷ [])
          ∙ ap (λ (x : World). left ++ (cond (accepts caps x c) (leaving x c) [] ++ []))
          (sym (after-append caps w before (start ∷ during)))
          ∙ ap (λ (l : List Labelled). left ++ l)
          (append-nil (cond (accepts caps v c) (leaving v c) []))

      -- it doesn't end, and its replies are still fewer
      pub fewer-then : ends_for caps v d c ≡ false
          → counted (is_reply d) (came caps w start before (during ++ c ∷ []))
          + counted (is_prepared_reply d) (came caps w start before (during ++ c ∷ []))
          < count s + count z
      fewer-then f =
          subst (λ (l : List Labelled). counted (is_reply d) l + counted (is_prepared_reply d) l
          < count s + count z) (sym left-more)
          (fewer (next caps v c) (left ++ cond (accepts caps v c) (leaving v c) [])
          (read-goes-on caps v inv_at d s 0 0 z asked left is-reading c f).0)

      -- it ends
      module _ (e : ends_for caps v d c ≡ true) where
        pub finished : Finished caps d s (kind_of μ) 0 z asked v c left
        finished =
            subst (λ (kind : ℕ). Finished caps d s kind 0 z asked v c left) begins.kind
            (read-ends caps v inv_at d s 0 0 z asked left is-reading c e)

        pub left-all : leaving_over caps w₁ (start ∷ during ++ c ∷ []) ≡ left ++ leaving v c
        left-all = left-more
            ∙ rw (eq-eqb (refusal caps v.tables c) 0 finished.accepted) refl

        pub all-replied : counted (is_reply d) (came caps w start before (during ++ c ∷ []))
            ≡ count s
        all-replied = ap (counted (is_reply d)) left-all
            ∙ omega (arith, finished.replied, count-empty)

        pub all-prepared : counted (is_prepared_reply d)
            (came caps w start before (during ++ c ∷ [])) ≡ count z
        all-prepared = ap (counted (is_prepared_reply d)) left-all ∙ finished.prepared

        pub prepared-each : (k : ℕ) → has z k ≡ true → counted (is_prepared_reply_for d k)
            (came caps w start before (during ++ c ∷ [])) ≡ 1
        prepared-each k m = ap (counted (is_prepared_reply_for d k)) left-all
            ∙ finished.prepared_each k ∙ rw m refl

        last-requests : counted (is_request d)
            (joining_over caps (after caps w₁ (start ∷ during)) (c ∷ [])) ≡ 0
        unfolding joining_over
        last-requests =
            ap (λ (x : World). counted (is_request d)
            (cond (accepts caps x c) (joining x c) [] ++ []))
            (sym (after-append caps w before (start ∷ during)))
            ∙ ap (counted (is_request d)) (append-nil (cond (accepts caps v c) (joining v c) []))
            ∙ rw (eq-eqb (refusal caps v.tables c) 0 finished.accepted) finished.requests

        pub all-requested : counted (is_request d) (sent caps w start before (during ++ c ∷ []))
            ≡ count s
        all-requested =
            ap (counted (is_request d)) (joining-append caps w₁ (start ∷ during) (c ∷ []))
            ∙ counted-append (is_request d) (joining_over caps w₁ (start ∷ during))
            (joining_over caps (after caps w₁ (start ∷ during)) (c ∷ []))
            ∙ omega (arith, requested, last-requests)

        pub once : (k : ℕ) → has s k ≡ true
            → counted (is_reply_for d k) (came caps w start before (during ++ c ∷ [])) ≡ 1
        once k m = ap (counted (is_reply_for d k)) left-all
            ∙ (finished.once_each k ∙ rw (m, has-empty k) refl)

        pub ended_by : outcome_in (step caps v.tables c).answer ≡ outcome_with μ
        ended_by = finished.outcome ∙ begins.outcome

      -- it ends exactly where all replies have come
      pub ends-iff : (ends_for caps v d c ≡ true)
          ↔ ((counted (is_reply d) (came caps w start before during)
          + counted (is_prepared_reply d) (came caps w start before during) < count s + count z)
          × (counted (is_reply d) (came caps w start before (during ++ c ∷ [])) ≡ count s)
          × (counted (is_prepared_reply d) (came caps w start before (during ++ c ∷ []))
          ≡ count z))
      ends-iff = (
        λ e. (fewer-now, all-replied e, all-prepared e),
        λ p. by-test (ends_for caps v d c) (λ e. e)
            (λ f. absurd (omega (arith, fewer-then f, p.1, p.2))),
      )

unfoldable pub ended-read : (caps : Capacities) (w : World) → Inv caps w → (μ : Manner)
    → by_view μ ≡ true → (d s : ℕ) (before during : List Call) (end : Call)
    → EndedBy caps w d (start_of μ d s) before during end
    → EndedRead caps w μ d s before during end
ended-read caps w inv μ viewed d s before during end e =
    let u = e.under_way in
    let t = (after caps w before).tables in
    record {
      start = (begins caps w inv μ viewed d s before during u).start;
      again = 0;
      stamps = asked caps w inv μ viewed d s before during u;
      left = left caps w inv μ viewed d s before during u;
      done = finished caps w inv μ viewed d s before during u end e.ended;
      left_all = left-all caps w inv μ viewed d s before during u end e.ended;
      late = λ o k m. rw m (choice-own (t.view d) k t.sizes.items);
      firsts = λ o. not-both viewed (ap by_view o);
    }

-- ---- of an ordinary read: its replies are gots alone

module _ (caps : Capacities) (w : World) (inv : Inv caps w) (d s : ℕ) (before during : List Call)
    (u : UnderWay caps w d (start_read d s) before during) (c : Call) where
  pub ends-by-gots : (ends_for caps (after caps w (before ++ start_read d s ∷ during)) d c ≡ true)
      ↔ ((counted (is_reply d) (came caps w (start_read d s) before during) < count s)
      × (counted (is_reply d) (came caps w (start_read d s) before (during ++ c ∷ [])) ≡ count s))
  ends-by-gots = (
    λ e. (
      omega (arith, fewer-now caps w inv ordinary refl d s before during u, count-empty),
      all-replied caps w inv ordinary refl d s before during u c e,
    ),
    λ p. by-test (ends_for caps (after caps w (before ++ start_read d s ∷ during)) d c) (λ e. e)
        (λ f. absurd (omega (
          arith,
          fewer-then caps w inv ordinary refl d s before during u c f,
          p.1,
          count-empty,
        ))),
  )
