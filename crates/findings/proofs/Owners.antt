-- The clients as whose own a line's write counts: those that the judge computes are those of the
-- statement, and without hand-overs a write is its client's own and nobody else's.
use mathlib.Core.Bool.{Bool, true, false, ◌&&◌, ◌||◌, or-false}
use mathlib.Core.List.{List, []}
use mathlib.Core.Logic.{◌⊎◌, inl, inr, ⊎_elim}
use mathlib.Core.Path.{◌≡◌, refl, sym, ap, ◌∙◌, subst}
use Prim.Native.Nat.{ℕ, zero, suc, ◌≤◌, ◌<◌}
use native.Mathlib.Nat.{le_refl, le_step, lt-suc_self}
use native.Mathlib.Omega.{arith}
use lib.Dec.{eqb}
use lib.ListN.{get_or}
use borrow.Author.Tests.{eqb-true, eqb-false, ne_eqb}
use Rattle.basics.proofs.Cases.{by-test, not-both, and_left, and_right, or_cases, or_right}
use Rattle.basics.proofs.Cases.{eqb_same}
use Rattle.itemset.specs.Set.{has, insert}
use Rattle.itemset.proofs.Laws.{has-empty, has-insert, has-insert-same}
use Rattle.log_format.specs.Log.{kind_of, client_of, hands_over, reads_own, receiver_of, shown_stamp}
use Rattle.log_format.specs.Some.{some_from}
use Rattle.log_format.proofs.Some.{some_from-ext}
use Rattle.findings.specs.Findings.{with_heir, owners, outdates, misses_at}
use Rattle.findings.specs.Findings.{own_write_missed}
use Rattle.findings.specs.Published.{Own}
use Rattle.findings.specs.Published.Own.{own, inherited}

-- ---- one line

module _ (clients : ℕ) (f : List ℕ) where
  heir-kept : (c : ℕ) → has clients c ≡ true → has (with_heir clients f) c ≡ true
  unfolding with_heir
  heir-kept c e =
      by-test (hands_over (kind_of f) && has clients (client_of f))
      (λ t. rw (t, has-insert clients (receiver_of f) c)
      (or_right (eqb c (receiver_of f)) (has clients c) e))
      (λ t. rw t e)

  heir-joins : hands_over (kind_of f) ≡ true → has clients (client_of f) ≡ true
      → has (with_heir clients f) (receiver_of f) ≡ true
  unfolding with_heir
  heir-joins h g = rw (h, g) (has-insert-same clients (receiver_of f))

  heir-cases : (c : ℕ) → has (with_heir clients f) c ≡ true → (has clients c ≡ true)
      ⊎ ((hands_over (kind_of f) ≡ true) × (has clients (client_of f) ≡ true) × (receiver_of f ≡ c))
  unfolding with_heir
  heir-cases c e =
      by-test (hands_over (kind_of f) && has clients (client_of f))
      (λ t.
      ⊎_elim
      (λ same. inr (
        and_left (hands_over (kind_of f)) (has clients (client_of f)) t,
        and_right (hands_over (kind_of f)) (has clients (client_of f)) t,
        sym (eqb-true c (receiver_of f) same),
      ))
      (λ old. inl old)
      (or_cases (eqb c (receiver_of f)) (has clients c) (rw (t, has-insert clients _ c) at e)))
      (λ t. inl (rw t at e))

  -- a line that hands nothing over
  pub heir-none : hands_over (kind_of f) ≡ false → with_heir clients f ≡ clients
  unfolding with_heir
  heir-none e = rw e

heir-of-none : (f : List ℕ) → with_heir 0 f ≡ 0
unfolding with_heir
heir-of-none f = by-test (hands_over (kind_of f)) (λ t. rw (t, has-empty (client_of f))) (λ t. rw t)

-- ---- line by line

module _ (frames : List (List ℕ)) where
  abbrev line : ℕ → List ℕ
  line i = get_or frames i []

  module _ (j : ℕ) where
    pub owners-none : (i : ℕ) → i ≤ j → owners frames j i ≡ 0
    unfolding owners
    owners-none zero l = refl
    owners-none (suc i) l =
        rw (ne_eqb i j (λ e. omega arith), owners-none i (omega arith)) (heir-of-none (line i))

    pub owners-first : owners frames j (suc j) ≡ insert 0 (client_of (line j))
    unfolding owners
    owners-first = rw (eqb_same j)

    pub owners-next : (i : ℕ) → j < i
        → owners frames j (suc i) ≡ with_heir (owners frames j i) (line i)
    unfolding owners
    owners-next i l = rw (ne_eqb i j (λ e. omega arith))

    -- ---- computed: so the statement says

    own-later : {c i : ℕ} → Own frames c i j → Own frames c (suc i) j
    own-later (own l e) = own (le_step l) e
    own-later (inherited l h o) = inherited (le_step l) h o

    pub owners-own : (i c : ℕ) → has (owners frames j i) c ≡ true → Own frames c i j
    unfolding owners
    owners-own zero c e = not-both e (has-empty c)
    owners-own (suc i) c e =
        by-test (eqb i j)
        (λ t.
        let at : (eqb c (client_of (line j)) ≡ true) ⊎ (has 0 c ≡ true) =
        or_cases (eqb c (client_of (line j))) (has 0 c)
        (rw (t, has-insert 0 (client_of (line j)) c) at e) in
        ⊎_elim
        (λ same. own (omega (arith, eqb-true i j t)) (sym (eqb-true c (client_of (line j)) same)))
        (λ empty. not-both empty (has-empty c))
        at)
        (λ t.
        ⊎_elim
        (λ old. own-later (owners-own i c old))
        (λ new. inherited (lt-suc_self i) (new.0, refl, new.2)
        (owners-own i (client_of (line i)) new.1))
        (heir-cases (owners frames j i) (line i) c (rw t at e)))

    -- ---- stated: so it is computed

    pub own-above : {c i : ℕ} → Own frames c i j → j < i
    own-above (own l e) = l
    own-above (inherited l h o) = let rest = own-above o in omega arith

    later : (i c : ℕ) → has (owners frames j i) c ≡ true
        → has (owners frames j (suc i)) c ≡ true
    later i c e =
        rw (owners-next i (own-above (owners-own i c e)))
        (heir-kept (owners frames j i) (line i) c e)

    still : (k i c : ℕ) → k ≤ i → has (owners frames j k) c ≡ true
        → has (owners frames j i) c ≡ true
    still k zero c l e = subst (λ (n : ℕ). has (owners frames j n) c ≡ true) (omega arith) e
    still k (suc i) c l e =
        by-test (eqb k (suc i))
        (λ t. subst (λ (n : ℕ). has (owners frames j n) c ≡ true) (eqb-true k (suc i) t) e)
        (λ t. later i c (still k i c (omega (arith, eqb-false k (suc i) t)) e))

    pub own-owners : {c i : ℕ} → Own frames c i j → has (owners frames j i) c ≡ true
    own-owners {c} {i} (own l e) =
        still (suc j) i c l
        (rw owners-first (ap (has (insert 0 (client_of (line j)))) (sym e)
        ∙ has-insert-same 0 (client_of (line j))))
    own-owners {c} {i} (inherited {giver} {h = h} l (hands, from, to) o) =
        still (suc h) i c l
        (rw (owners-next h (own-above o))
        (ap (has (with_heir (owners frames j h) (line h))) (sym to)
        ∙ heir-joins (owners frames j h) (line h) hands
        (ap (has (owners frames j h)) from ∙ own-owners o)))

  -- ---- no line above hands over: a write is its client's own, as document 01 has it

  module _ (i : ℕ) (none : (h : ℕ) → h < i → hands_over (kind_of (line h)) ≡ false) where
    owners-plain : (j k : ℕ) → j < k → k ≤ i → owners frames j k ≡ insert 0 (client_of (line j))
    owners-plain j zero l m = absurd (omega arith)
    owners-plain j (suc k) l m =
        by-test (eqb j k)
        (λ t. ap (λ (n : ℕ). owners frames j (suc n)) (sym (eqb-true j k t)) ∙ owners-first j)
        (λ t.
        let above : j < k = omega (arith, eqb-false j k t) in
        owners-next j k above
        ∙ heir-none (owners frames j k) (line k) (none k m)
        ∙ owners-plain j k above (omega arith))

    pub missed-plain : (item : ℕ) → own_write_missed frames i item
        ≡ (reads_own (kind_of (line i)) && some_from i 0
        (λ j. eqb (client_of (line i)) (client_of (line j))
        && outdates item (shown_stamp (line i) item) (line j)))
    unfolding misses_at
    missed-plain item =
        ap (λ (b : Bool). reads_own (kind_of (line i)) && b)
        (some_from-ext i 0
        (λ j. misses_at (owners frames j i) (client_of (line i)) item (shown_stamp (line i) item)
        (line j))
        (λ j. eqb (client_of (line i)) (client_of (line j))
        && outdates item (shown_stamp (line i) item) (line j))
        (λ j _ l.
        ap (λ (b : Bool). b && outdates item (shown_stamp (line i) item) (line j))
        (ap (λ (s : ℕ). has s (client_of (line i)))
        (owners-plain j i (omega arith) (le_refl i))
        ∙ has-insert 0 (client_of (line j)) (client_of (line i))
        ∙ ap (λ (b : Bool). eqb (client_of (line i)) (client_of (line j)) || b)
        (has-empty (client_of (line i)))
        ∙ or-false (eqb (client_of (line i)) (client_of (line j))))))
