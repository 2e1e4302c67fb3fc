-- The choice of a stamp depends on the own entry and the first n alone. And the choice of all
-- stamps as one pass over the entries, in item order: after the first k it is what the step chooses
-- from a view whose later entries are initial, for every k (document 02, P3).
use mathlib.Core.Bool.{true, cond, ◌||◌}
use mathlib.Core.List.{List}
use mathlib.Core.Path.{◌≡◌, refl, sym, ap, ap₂, ◌∙◌}
use Prim.Native.Nat.{ℕ, zero, suc, ◌+◌, ◌-◌, ◌*◌, ◌≤◌, ◌<◌, max}
use native.Mathlib.Nat.{le_refl}
use native.Mathlib.Omega.{arith}
use lib.Bits.{bit_and}
use lib.Dec.{eqb, ltb}
use lib.ListN.{get_or, replicate, length-replicate, get_or-replicate}
use borrow.Author.Tests.{eqb-true, eqb-false, ltb-true, ltb-false, lt-ltb, le-ltb}
use Rattle.basics.proofs.Cases.{by-test}
use Rattle.basics.proofs.Fold.{up_to-all}
use Rattle.itemset.specs.Set.{has, insert}
use Rattle.itemset.proofs.Laws.{has-empty, has-insert}
use Rattle.itemset.proofs.Bits.{has-and}
use Rattle.protocol.specs.declared.Entry.{Entry}
use Rattle.protocol.specs.Tables.{initial}
use Rattle.protocol.specs.Steps.{choice}
use Rattle.layout.specs.Layout.{most_items, entry_words, views, base, view_at}
use Rattle.layout.specs.Decode.{view_in}
use Rattle.start.specs.Choice.{entries_from, cut, ChosenAfter, raised_by, passed}
use Rattle.start.proofs.Raised.{length-raised, raised_at}

-- what entry e counts at item k
abbrev counts : ℕ → Entry → ℕ
counts k e = cond (has e.set k) e.stamp 0

pub choice-ext : (view other : ℕ → Entry) (k n : ℕ) → view k ≡ other k
    → ((i : ℕ) → i < n → view i ≡ other i) → choice view k n ≡ choice other k n
unfolding choice
choice-ext view other k zero own h = ap (λ (e : Entry). e.stamp) own
choice-ext view other k (suc n) own h =
    ap₂ max (choice-ext view other k n own (λ i l. h i (omega arith)))
    (ap (counts k) (h n (omega arith)))

-- ---- a view whose entries from k on are initial

pub cut-before : (view : ℕ → Entry) (k i : ℕ) → i < k → cut view k i ≡ view i
cut-before view k i l = rw (lt-ltb i k l)

cut-from : (view : ℕ → Entry) (k i : ℕ) → k ≤ i → cut view k i ≡ initial
cut-from view k i l = rw (le-ltb i k l)

-- one entry more adds what it is worth, where an initial entry is worth nothing
cut-more : (g : Entry → ℕ) → g initial ≡ 0 → (view : ℕ → Entry) (k i : ℕ)
    → g (cut view (suc k) i) ≡ max (g (cut view k i)) (cond (eqb i k) (g (view k)) 0)
cut-more g none view k i =
    by-test (eqb i k)
    (λ e.
    let here : g (view i) ≡ g (view k) = ap (λ (n : ℕ). g (view n)) (eqb-true i k e) in
    let before : g (cut view (suc k) i) ≡ g (view i) =
    ap g (cut-before view (suc k) i (omega (arith, eqb-true i k e))) in
    let after : g (cut view k i) ≡ g initial =
    ap g (cut-from view k i (omega (arith, eqb-true i k e))) in
    rw e (omega arith))
    (λ e. rw e (by-test (ltb i k)
    (λ f.
    let more : g (cut view (suc k) i) ≡ g (view i) =
    ap g (cut-before view (suc k) i (omega (arith, ltb-true i k f))) in
    let less : g (cut view k i) ≡ g (view i) = ap g (cut-before view k i (ltb-true i k f)) in
    omega arith)
    (λ f.
    let more : g (cut view (suc k) i) ≡ g initial =
    ap g (cut-from view (suc k) i (omega (arith, ltb-false i k f, eqb-false i k e))) in
    let less : g (cut view k i) ≡ g initial = ap g (cut-from view k i (ltb-false i k f)) in
    omega arith)))

counts-initial : (j : ℕ) → counts j initial ≡ 0
counts-initial j = rw (has-empty j)

-- what counts of the entries below n, where entry k alone counts
below_more : (k n c : ℕ) → cond (ltb k (suc n)) c 0 ≡ max (cond (ltb k n) c 0) (cond (eqb n k) c 0)
below_more k n c =
    by-test (eqb n k)
    (λ e. rw (
      e,
      lt-ltb k (suc n) (omega (arith, eqb-true n k e)),
      le-ltb k n (omega (arith, eqb-true n k e)),
    ) (omega arith))
    (λ e. rw e (by-test (ltb k n)
    (λ f. rw (f, lt-ltb k (suc n) (omega (arith, ltb-true k n f))) (omega arith))
    (λ f. rw (f, le-ltb k (suc n) (omega (arith, ltb-false k n f, eqb-false n k e)))
    (omega arith))))

max_assoc : (a b c : ℕ) → max (max a b) c ≡ max a (max b c)
max_assoc a b c = omega arith

max-across : (a b c d : ℕ) → max (max a b) (max c d) ≡ max (max a c) (max b d)
max-across a b c d = omega arith

choice-none : (view : ℕ → Entry) (j n : ℕ) → choice (cut view 0) j n ≡ 0
unfolding choice
choice-none view j zero = ap (λ (e : Entry). e.stamp) (cut-from view 0 j (omega arith))
choice-none view j (suc n) =
    ap₂ max (choice-none view j n)
    (ap (counts j) (cut-from view 0 n (omega arith)) ∙ counts-initial j)

choice-more : (view : ℕ → Entry) (k j n : ℕ) → choice (cut view (suc k)) j n
    ≡ max (choice (cut view k) j n)
    (max (cond (eqb j k) (view k).stamp 0) (cond (ltb k n) (counts j (view k)) 0))
unfolding choice
choice-more view k j zero =
    cut-more (λ e. e.stamp) refl view k j ∙ rw (le-ltb k 0 (omega arith)) (omega arith)
choice-more view k j (suc n) =
    ap₂ max (choice-more view k j n) (cut-more (counts j) (counts-initial j) view k n)
    ∙ max-across (choice (cut view k) j n) _ (counts j (cut view k n)) _
    ∙ ap (max (choice (cut view k) j (suc n)))
    (max_assoc (cond (eqb j k) (view k).stamp 0) _ _
    ∙ ap (max (cond (eqb j k) (view k).stamp 0)) (sym (below_more k n (counts j (view k)))))

-- ---- the pass

chosen_none : (view : ℕ → Entry) (s : ℕ) → ChosenAfter view s 0 (replicate most_items 0)
chosen_none view s =
    record {
      long = length-replicate {A = ℕ} most_items 0;
      chosen = λ j items l e g.
          get_or-replicate {A = ℕ} most_items j 0 0 l ∙ sym (choice-none view j items);
    }

-- the items of s that an entry at k with this set raises
reached : (set s k j : ℕ) → has s j ≡ true
    → has (bit_and (insert set k) s) j ≡ (eqb j k || has set j)
reached set s k j e =
    rw (has-and (insert set k) s j, has-insert set k j, e)
    (by-test (eqb j k) (λ t. rw t) (λ f. rw f (by-test (has set j) (λ t. rw t) (λ f. rw f))))

chosen-next : (view : ℕ → Entry) (s k : ℕ) (xs : List ℕ) → ChosenAfter view s k xs
    → ChosenAfter view s (suc k) (raised_by view s xs k)
chosen-next view s k xs h =
    record {
      long = length-raised _ _ xs ∙ h.long;
      chosen = λ j items l e g.
          let own = cond (eqb j k) (view k).stamp 0 in
          let now : choice (cut view (suc k)) j items
          ≡ max (choice (cut view k) j items) (max own (counts j (view k))) =
          rw (lt-ltb k items g) at (choice-more view k j items) in
          raised_at _ (view k).stamp xs j (omega (arith, h.long))
          ∙ rw (reached (view k).set s k j e, now, h.chosen j items l e (omega arith))
          (by-test (eqb j k)
          (λ t. rw t (by-test (has (view k).set j) (λ u. rw u (omega arith))
          (λ u. rw u (omega arith))))
          (λ f. rw f (by-test (has (view k).set j) (λ u. rw u (omega arith))
          (λ u. rw u (omega arith)))));
    }

-- the ticket's sentence, for every k
pub chosen-after : (view : ℕ → Entry) (s k : ℕ) → ChosenAfter view s k (passed view s k)
chosen-after view s k =
    up_to-all (ChosenAfter view s) (raised_by view s) (replicate most_items 0) k
    (chosen_none view s)
    (λ i xs l h. chosen-next view s i xs h)

-- of all entries
pub chosen-all : (view : ℕ → Entry) (s items : ℕ) (stamps : List ℕ)
    → ChosenAfter view s items stamps → items ≤ most_items
    → (j : ℕ) → j < items → has s j ≡ true → get_or stamps j 0 ≡ choice view j items
chosen-all view s items stamps h narrow j l e =
    h.chosen j items (omega arith) e (le_refl items)
    ∙ choice-ext (cut view items) view j items (cut-before view items j l)
    (λ i g. cut-before view items i g)

-- ---- of a view, whose entries all count

-- where the row of client d starts
abbrev pub view_from : ℕ → ℕ
view_from d = base views + entry_words * most_items * (d - 1)

entries-view : (b : List ℕ) (d s i : ℕ) → entries_from b (view_from d) true s i ≡ view_in b d i
entries-view b d s i =
    let stamp : view_from d + (entry_words * i + 0) ≡ base views + view_at d i = omega arith in
    let set : view_from d + (entry_words * i + 1) ≡ base views + (view_at d i + 1) = omega arith in
    λ x. record { stamp = get_or b (stamp x) 0; set = get_or b (set x) 0 }

pub chosen-view : (b : List ℕ) (d s items : ℕ) (stamps : List ℕ)
    → ChosenAfter (entries_from b (view_from d) true s) s items stamps → items ≤ most_items
    → (j : ℕ) → j < items → has s j ≡ true → get_or stamps j 0 ≡ choice (view_in b d) j items
chosen-view b d s items stamps h narrow j l e =
    chosen-all _ s items stamps h narrow j l e
    ∙ choice-ext _ (view_in b d) j items (entries-view b d s j) (λ i g. entries-view b d s i)
