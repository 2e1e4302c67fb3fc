-- The table of owners from line to line: what a loop over the lines above makes of it, and that it
-- then holds the owners at the next line.
use mathlib.Core.Bool.{true, cond}
use mathlib.Core.List.{List, [], ◌++◌}
use mathlib.Core.Path.{◌≡◌, refl, sym, ap, ap₂, ◌∙◌, subst}
use Prim.Native.Nat.{ℕ, suc, ◌+◌, ◌-◌, ◌≤◌, ◌<◌}
use native.Mathlib.Nat.{not-suc-le-zero}
use native.Mathlib.Numerals.{add-one}
use native.Mathlib.Omega.{arith}
use lib.Dec.{eqb, ltb}
use lib.ListN.{length, get_or, set, take, drop, replicate, get_or-append}
use lib.ListN.{length-set, length-replicate, get_or-replicate}
use lib.Seq.{get_or-set_same, get_or-set_other, get_or-take, get_or-drop}
use lib.Seq.{get_or-append-add}
use borrow.Author.Tests.{eqb-true, eqb-false, eq-eqb, ltb-true, ltb-false, lt-ltb, le-ltb}
use Rattle.basics.proofs.Cases.{by-test}
use Rattle.itemset.specs.Set.{has, insert}
use Rattle.judge_frames.specs.Cut.{frame_in, frames_in}
use Rattle.judge_frames.proofs.Cuts.{frames_in-at}
use Rattle.log_format.specs.Log.{kind_of, client_of, hands_over, receiver_of}
use Rattle.findings.specs.Findings.{with_heir, owners}
use Rattle.findings.proofs.Owners.{heir-none, owners-none, owners-first, owners-next}
use Rattle.judge_findings.specs.Owned.{Passed, Owned}

-- ---- the loop

-- the first j words have been handed over
abbrev pub Handed : List ℕ → List ℕ → ℕ → List ℕ → Type 0
Handed table f j now =
    (k : ℕ) → get_or now k 0 ≡ cond (ltb k j) (with_heir (get_or table k 0) f) (get_or table k 0)

-- a line below which a word is handed over hands over
pub hands : (f : List ℕ) (line above j : ℕ) → above ≡ cond (hands_over (kind_of f)) line 0
    → j < above → hands_over (kind_of f) ≡ true
hands f line above j e l =
    by-test (hands_over (kind_of f)) (λ t. t)
    (λ t. absurd (not-suc-le-zero (subst (λ (n : ℕ). j < n) (e ∙ rw t) l)))

pub heir-over : (f : List ℕ) (clients giver to : ℕ) → hands_over (kind_of f) ≡ true
    → giver ≡ client_of f → to ≡ receiver_of f
    → cond (has clients giver) (insert clients to) clients ≡ with_heir clients f
unfolding with_heir
heir-over f clients giver to h g t = rw (h, g, t)

module _ (table f : List ℕ) where
  pub handed-first : Handed table f 0 table
  handed-first k = rw (le-ltb k 0 (omega arith))

  pub handed-next : (now : List ℕ) (j m : ℕ) → Handed table f j now → j < length now
      → m ≡ with_heir (get_or now j 0) f → Handed table f (j + 1) (set now j m)
  handed-next now j m old h e k =
      by-test (eqb k j)
      (λ t.
      let same = eqb-true k j t in
      let before : get_or now j 0 ≡ get_or table j 0 =
      old j ∙ rw (le-ltb j j (omega arith)) in
      rw (same, lt-ltb j (j + 1) (omega arith))
      (get_or-set_same now j m 0 h ∙ e ∙ ap (λ (s : ℕ). with_heir s f) before))
      (λ t.
      let other = eqb-false k j t in
      get_or-set_other now j k m 0 other
      ∙ by-test (ltb k j)
      (λ l. old k ∙ rw (l, lt-ltb k (j + 1) (omega (arith, ltb-true k j l))))
      (λ l. old k ∙ rw (l, le-ltb k (j + 1) (omega (arith, ltb-false k j l)))))

  -- the words handed over are the front of the table
  pub handed-front : (front : List ℕ) (above : ℕ) → above ≤ length table → length front ≡ above
      → Handed (take above table) f above front → Handed table f above (front ++ drop above table)
  handed-front front above h e done k =
      by-test (ltb k above)
      (λ t.
      let below = ltb-true k above t in
      let same : get_or (take above table) k 0 ≡ get_or table k 0 =
      get_or-take above table k 0 below in
      get_or-append front (drop above table) 0 k (omega arith) ∙ done k ∙ rw (t, same))
      (λ t.
      let past = ltb-false k above t in
      let place : k ≡ length front + (k - above) = omega arith in
      let back : above + (k - above) ≡ k = omega arith in
      rw t
      (ap (λ (i : ℕ). get_or (front ++ drop above table) i 0) place
      ∙ get_or-append-add front (drop above table) (k - above) 0
      ∙ get_or-drop above table (k - above) 0
      ∙ ap (λ (i : ℕ). get_or table i 0) back))

  -- all lines above have been, where the line hands over; then the line's own word
  pub passed : (now : List ℕ) (line above own : ℕ) → Handed table f above now
      → above ≡ cond (hands_over (kind_of f)) line 0 → length now ≡ length table
      → line < length now → own ≡ insert 0 (client_of f)
      → Passed table line f (set now line own)
  passed now line above own done e size h o =
      record {
        long = length-set now line own ∙ size;
        words =
            λ j.
            by-test (eqb j line)
            (λ t.
            rw (eqb-true j line t, eq-eqb line line refl) (get_or-set_same now line own 0 h ∙ o))
            (λ t. rw t (get_or-set_other now line j own 0 (eqb-false j line t) ∙ above-it j));
      }
    where
      above-it : (j : ℕ) → get_or now j 0
          ≡ cond (ltb j line) (with_heir (get_or table j 0) f) (get_or table j 0)
      above-it j =
          by-test (hands_over (kind_of f))
          (λ t. done j ∙ rw (e, t))
          (λ t.
          let none : get_or now j 0 ≡ get_or table j 0 =
          done j ∙ rw (e, t, le-ltb j 0 (omega arith)) in
          let still : with_heir (get_or table j 0) f ≡ get_or table j 0 =
          heir-none (get_or table j 0) f t in
          by-test (ltb j line) (λ l. rw (l, still) none) (λ l. rw l none))

-- ---- line by line

pub owned-first : (bytes starts : List ℕ) (n size : ℕ) → n ≤ size
    → Owned bytes starts n 0 (replicate size 0)
unfolding owners
owned-first bytes starts n size h =
    record {
      long = omega (arith, length-replicate {A = ℕ} size 0);
      held = λ j l. get_or-replicate {A = ℕ} size j 0 0 (omega arith);
    }

module _ (bytes starts : List ℕ) (n i : ℕ) (f : List ℕ) (l : i < n)
    (here : f ≡ frame_in bytes starts i) where
  abbrev frames : List (List ℕ)
  frames = frames_in bytes starts n

  at-line : get_or frames i [] ≡ f
  at-line = frames_in-at bytes starts n i l ∙ sym here

  module _ (table after : List ℕ) (old : Owned bytes starts n i table)
      (to : Passed table i f after) where
    word_next : (j : ℕ) → j < n → get_or after j 0 ≡ owners frames j (suc i)
    word_next j h =
        by-test (eqb j i)
        (λ t.
        to.words j
        ∙ rw (eqb-true j i t, eq-eqb i i refl)
        (sym (owners-first frames i ∙ ap (λ (g : List ℕ). insert 0 (client_of g)) at-line)))
        (λ t.
        to.words j
        ∙ by-test (ltb j i)
        (λ b.
        rw (t, b)
        (ap₂ with_heir (old.held j h) (sym at-line)
        ∙ sym (owners-next frames j i (ltb-true j i b))))
        (λ b.
        let below : suc i ≤ j = omega (arith, eqb-false j i t, ltb-false j i b) in
        rw (t, b) (old.held j h ∙ owners-none frames j i (omega arith)
        ∙ sym (owners-none frames j (suc i) below))))

    pub owned-next : Owned bytes starts n (i + 1) after
    owned-next =
        record {
          long = omega (arith, old.long, to.long);
          held = λ j h. rw add-one (word_next j h);
        }
