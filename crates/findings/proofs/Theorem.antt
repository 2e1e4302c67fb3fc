-- What the verdict says of a log, in the words of the published definitions: each case of the
-- verdict, field by field.
use mathlib.Core.Bool.{true, false}
use mathlib.Core.List.{List}
use mathlib.Core.Logic.{inl, inr}
use mathlib.Core.Path.{◌≡◌, refl, subst}
use Prim.Native.Nat.{ℕ, ◌+◌, ◌≤◌, ◌<◌}
use native.Mathlib.Omega.{arith}
use lib.Dec.{eqb, ltb}
use lib.ListN.{length}
use borrow.Author.Tests.{ltb-true, ltb-false, le-ltb}
use Rattle.basics.proofs.Cases.{by-test, not-both, or_left, or_right, or-neither}
use Rattle.basics.specs.Lists.{counted}
use Rattle.log_format.specs.Log.{too_long, first_line, frames_of, malformed_at}
use Rattle.log_format.specs.Some.{some}
use Rattle.log_format.proofs.Some.{first_from-holds, first_from-none}
use Rattle.findings.proofs.Faults.{unwritten-says, says-unwritten, fractured-says}
use Rattle.findings.proofs.Faults.{says-fractured, missed-says, says-missed}
use Rattle.findings.specs.Findings.{unwritten, fractured, own_write_missed, findings, holds_at}
use Rattle.findings.specs.Findings.{lowest, fault_at, judged, checked, verdict}
use Rattle.findings.specs.Published.{Within, AllWellFormed, FirstMalformed, Unwritten}
use Rattle.findings.specs.Published.{Fractured}
use Rattle.findings.specs.Published.{Fault, Lowest, FirstFault, Says}
use Rattle.log_format.proofs.Lines.{length-frames}
use Rattle.findings.proofs.WellFormed.{well-formed, not-malformed}
use Rattle.findings.specs.declared.Verdict.{Verdict}
use Rattle.findings.specs.declared.Verdict.TheVariants.{TooLong, Malformed, Judged}

within : (log : List ℕ) → too_long log ≡ false → Within log
unfolding too_long
within log e =
    let f = or-neither (ltb 32768 (length log)) (ltb 256 (counted (λ c. eqb c 0x0a) log)) e in
    (ltb-false 32768 (length log) f.0, ltb-false 256 (counted (λ c. eqb c 0x0a) log) f.1)

not-long : (log : List ℕ) → Within log → too_long log ≡ false
unfolding too_long
not-long log w = rw (
  le-ltb 32768 (length log) w.0,
  le-ltb 256 (counted (λ c. eqb c 0x0a) log)
      w.1,
)

module _ (log : List ℕ) where
  abbrev frames : List (List ℕ)
  frames = frames_of log

  abbrev bad : ℕ
  bad = first_line malformed_at frames

  abbrev first : ℕ
  first = first_line fault_at frames

  -- the cases of the verdict
  by-verdict : (P : Verdict → Type 0)
      → (too_long log ≡ true → P TooLong)
      → (too_long log ≡ false → bad < length frames → P (Malformed (bad + 1)))
      → (too_long log ≡ false → length frames ≤ bad → first < length frames
      → P (Judged (lowest findings frames first) (first + 1)))
      → (too_long log ≡ false → length frames ≤ bad → length frames ≤ first → P (Judged 0 0))
      → P (verdict log)
  unfolding verdict checked judged
  by-verdict P long malformed fault clean =
      by-test (too_long log)
      (λ e. rw e (long e))
      (λ e.
      by-test (ltb bad (length frames))
      (λ f. rw (e, f) (malformed e (ltb-true bad (length frames) f)))
      (λ f.
      by-test (ltb first (length frames))
      (λ g. rw (e, f, g) (fault e (ltb-false bad (length frames) f)
      (ltb-true first (length frames) g)))
      (λ g. rw (e, f, g) (clean e (ltb-false bad (length frames) f)
      (ltb-false first (length frames) g)))))

  -- ---- malformed lines

  well-before : (i : ℕ) → i < bad → malformed_at frames i ≡ false
  well-before i h = first_from-none (length frames) 0 (malformed_at frames) i (omega arith) h

  first-malformed : bad < length frames → FirstMalformed log bad
  first-malformed h = (
    omega (arith, length-frames log),
    (λ w. not-both (first_from-holds (length frames) 0 (malformed_at frames) (omega arith))
        (not-malformed log bad w)),
    (λ j l. well-formed log j (omega (arith, length-frames log)) (well-before j l)),
  )

  all-well : length frames ≤ bad → AllWellFormed log
  all-well h i l = well-formed log i l (well-before i (omega (arith, length-frames log)))

  -- ---- faults

  module _ (h : length frames ≤ bad) where
    well : (i : ℕ) → i < length frames → malformed_at frames i ≡ false
    well i l = well-before i (omega arith)

    fault-at : (i : ℕ) → Fault frames i → fault_at frames i ≡ true
    unfolding some
    fault-at i (inl u) = or_left (holds_at unwritten frames i) _ (says-unwritten log well i u)
    fault-at i (inr (inl u)) = or_right (holds_at unwritten frames i) _
        (or_left (holds_at fractured frames i) _ (says-fractured log i u))
    fault-at i (inr (inr u)) =
        or_right (holds_at unwritten frames i) _
        (or_right (holds_at fractured frames i) _
        (or_left (holds_at own_write_missed frames i) _ (says-missed log i u)))

    lowest-says : (i : ℕ) → i < length frames → fault_at frames i ≡ true
        → Lowest frames i (lowest findings frames i)
    unfolding some lowest
    lowest-says i l e =
        by-test (holds_at unwritten frames i)
        (λ a. rw a (inl (refl, unwritten-says log well i l a)))
        (λ a.
        let no-unwritten : Unwritten frames i → ⊥ = λ u. not-both (says-unwritten log well i u) a in
        by-test (holds_at fractured frames i)
        (λ b. rw (a, b) (inr (inl (refl, no-unwritten, fractured-says log i l b))))
        (λ b.
        let no-fractured : Fractured frames i → ⊥ = λ u. not-both (says-fractured log i u) b in
        by-test (holds_at own_write_missed frames i)
        (λ d. rw (a, b, d) (inr (inr (refl, no-unwritten, no-fractured, missed-says log i l d))))
        (λ d. not-both e (rw (a, b, d)))))

    in-log : (i : ℕ) → Fault frames i → i < length frames
    in-log i (inl u) = u.2.0
    in-log i (inr (inl u)) = u.7.0
    in-log i (inr (inr u)) = u.7.0

    not-before : (j : ℕ) → j < first → Fault frames j → ⊥
    not-before j l f = not-both (fault-at j f)
        (first_from-none (length frames) 0 (fault_at frames) j (omega arith) l)

    first-fault : first < length frames → FirstFault frames first (lowest findings frames first)
    first-fault l = (
      l,
      lowest-says first l (first_from-holds (length frames) 0 (fault_at frames)
          (omega arith)),
      not-before,
    )

    lowest-fault : (i f : ℕ) → Lowest frames i f → Fault frames i
    lowest-fault i f (inl a) = inl a.1
    lowest-fault i f (inr (inl a)) = inr (inl a.2)
    lowest-fault i f (inr (inr a)) = inr (inr a.3)

    lowest-some : (i f : ℕ) → Lowest frames i f → f ≡ 0 → ⊥
    lowest-some i f (inl a) z = omega (arith, a.0)
    lowest-some i f (inr (inl a)) z = omega (arith, a.0)
    lowest-some i f (inr (inr a)) z = omega (arith, a.0)

  -- ---- the theorem

  long-says : too_long log ≡ true → Says log TooLong
  long-says e =
      let over : Within log → ⊥ = λ w. not-both e (not-long log w) in
      record {
        refused = λ _ w. over w;
        over = λ _. refl;
        malformed = λ line t. (let z : ◌≡◌ {A = ℕ} 0 1 = cc in absurd (omega arith));
        spoiled = λ w _. absurd (over w);
        fault = λ finding line t _. (let z : ◌≡◌ {A = ℕ} 0 1 = cc in absurd (omega arith));
        found = λ w _ i _. absurd (over w);
        quiet = λ t. (let z : ◌≡◌ {A = ℕ} 0 1 = cc in absurd (omega arith));
        clean = λ w _ _. absurd (over w);
      }

  malformed-says : too_long log ≡ false → bad < length frames → Says log (Malformed (bad + 1))
  malformed-says e h =
      let here = first-malformed h in
      record {
        refused = λ t _. (let z : ◌≡◌ {A = ℕ} 0 1 = cc in absurd (omega arith));
        over = λ n. absurd (n (within log e));
        malformed = λ line t. (let same : line ≡ bad + 1 = cc in (within log e, (bad, same, here)));
        spoiled = λ _ _. (bad + 1, refl);
        fault = λ finding line t _. (let z : ◌≡◌ {A = ℕ} 0 1 = cc in absurd (omega arith));
        found = λ _ all i _. absurd (here.1 (all bad here.0));
        quiet = λ t. (let z : ◌≡◌ {A = ℕ} 0 1 = cc in absurd (omega arith));
        clean = λ _ all _. absurd (here.1 (all bad here.0));
      }

  fault-says : too_long log ≡ false → length frames ≤ bad → first < length frames
      → Says log (Judged (lowest findings frames first) (first + 1))
  fault-says e h l =
      let here = first-fault h l in
      record {
        refused = λ t _. (let z : ◌≡◌ {A = ℕ} 0 1 = cc in absurd (omega arith));
        over = λ n. absurd (n (within log e));
        malformed = λ line t. (let z : ◌≡◌ {A = ℕ} 0 1 = cc in absurd (omega arith));
        spoiled = λ _ n. absurd (n (all-well h));
        fault =
            λ finding line t _.
            (let number : lowest findings frames first ≡ finding = cc in
            let same : line ≡ first + 1 = cc in (
              within log e,
              all-well h,
              (first, same, subst (λ (f : ℕ). FirstFault frames first f) number here),
            ));
        found =
            λ _ _ i _. (
              lowest findings frames first,
              first + 1,
              refl,
              lowest-some h first (lowest findings frames first) here.1,
            );
        quiet = λ t. (let z : first + 1 ≡ 0 = cc in absurd (omega arith));
        clean = λ _ _ none. absurd (none first (lowest-fault h first (lowest findings frames first)
            here.1));
      }

  clean-says : too_long log ≡ false → length frames ≤ bad → length frames ≤ first
      → Says log (Judged 0 0)
  clean-says e h l =
      let none : (i : ℕ) → Fault frames i → ⊥ =
      λ i f. not-before h i (omega (arith, in-log h i f)) f in
      record {
        refused = λ t _. (let z : ◌≡◌ {A = ℕ} 0 1 = cc in absurd (omega arith));
        over = λ n. absurd (n (within log e));
        malformed = λ line t. (let z : ◌≡◌ {A = ℕ} 0 1 = cc in absurd (omega arith));
        spoiled = λ _ n. absurd (n (all-well h));
        fault = λ finding line t some. (let none : finding ≡ 0 = cc in absurd (some none));
        found = λ _ _ i f. absurd (none i f);
        quiet = λ _. (within log e, all-well h, none);
        clean = λ _ _ _. refl;
      }

  -- the verdict says of the log what the published definitions say
  pub says : Says log (verdict log)
  says = by-verdict (Says log) long-says malformed-says fault-says clean-says
