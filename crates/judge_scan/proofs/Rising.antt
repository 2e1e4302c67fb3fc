-- A client's numbers rise from line to line, so that its last write has the greatest.
use mathlib.Core.Bool.{Bool, true, false, not}
use mathlib.Core.List.{List, []}
use mathlib.Core.Path.{◌≡◌, sym, ◌∙◌, subst, subst₂}
use Prim.Native.Nat.{ℕ, ◌+◌, ◌≤◌, ◌<◌}
use native.Mathlib.Omega.{arith}
use lib.Dec.{eqb, leb}
use lib.ListN.{length, get_or, take}
use lib.Seq.{get_or-take, length-take-le}
use borrow.Author.Tests.{eqb-true, eqb-false, eq-eqb, leb-true, leb-false, le-leb, lt-leb}
use Rattle.basics.proofs.Cases.{by-test, not-both, test-ext, and_left, and_right, and_both}
use Rattle.basics.proofs.Cases.{or_right}
use Rattle.judge_frames.specs.Cut.{frame_in, frames_in}
use Rattle.judge_frames.proofs.Cuts.{length-frames_in, frames_in-at}
use Rattle.log_format.specs.Log.{client_of, number_of, shaped, reaches, malformed}
use Rattle.log_format.specs.Some.{some_from}
use Rattle.log_format.proofs.Some.{at_some, some_from-at, at-some_from, some_from-above}
use Rattle.judge_form.specs.Parsed.{is_write_of}
use Rattle.judge_scan.specs.Scan.{Well}

rises : (frames : List (List ℕ)) → Well frames → (j k : ℕ) → j < k → k < length frames
    → client_of (get_or frames j []) ≡ client_of (get_or frames k []) → 1 ≤ number_of (get_or frames k [])
    → number_of (get_or frames j []) < number_of (get_or frames k [])
unfolding malformed reaches
rises frames well j k l h e one =
    let f = get_or frames k [] in
    let g = get_or frames j [] in
    let here : get_or (take k frames) j [] ≡ g = get_or-take k frames j [] l in
    by-test (leb (number_of f) (number_of g))
    (λ t.
    let reached : reaches (client_of f) (number_of f) (get_or (take k frames) j []) ≡ true =
    rw here (and_both (eqb (client_of g) (client_of f)) (leb (number_of f) (number_of g))
    (eq-eqb (client_of g) (client_of f) e) t) in
    let bad : malformed (take k frames) f ≡ true =
    or_right (not (shaped f)) _
    (and_both (leb 1 (number_of f)) _ (le-leb 1 (number_of f) one)
    (at_some (reaches (client_of f) (number_of f)) (take k frames) [] j
    (omega (arith, length-take-le k frames (omega arith))) reached)) in
    not-both bad (well k h))
    (λ t. leb-false (number_of f) (number_of g) t)

module _ (bytes starts : List ℕ) (n : ℕ) (well : Well (frames_in bytes starts n))
    (of number j : ℕ) (l : j < n) where
  abbrev at : ℕ → List ℕ
  at k = frame_in bytes starts k

  abbrev reach : ℕ → Bool
  reach k = reaches of number (at k)

  -- a line that isn't a write of the client's reaches no number
  pub other-line : 1 ≤ number → is_write_of of (at j) ≡ false
      → some_from (j + 1) 0 reach ≡ some_from j 0 reach
  unfolding is_write_of reaches
  other-line one e =
      some_from-above reach (j + 1) j (omega arith)
      (λ k a b. (let same : k ≡ j = omega arith in
      rw same
      (by-test (eqb (client_of (at j)) of)
      (λ t. rw t (lt-leb number (number_of (at j))
      (omega (arith, leb-false 1 (number_of (at j)) (rw t at e)))))
      (λ t. rw t))))

  -- the client's last write decides
  pub last-write : is_write_of of (at j) ≡ true
      → leb number (number_of (at j)) ≡ some_from (j + 1) 0 reach
  unfolding is_write_of reaches
  last-write e =
      let mine = eqb-true (client_of (at j)) of (and_left (eqb (client_of (at j)) of) _ e) in
      let one = leb-true 1 (number_of (at j)) (and_right (eqb (client_of (at j)) of) _ e) in
      test-ext (leb number (number_of (at j))) (some_from (j + 1) 0 reach)
      (λ t. at-some_from (j + 1) 0 reach j (omega arith) (omega arith)
      (and_both (eqb (client_of (at j)) of) _ (and_left (eqb (client_of (at j)) of) _ e) t))
      (λ t.
      let f = some_from-at (j + 1) 0 reach t in
      let k = f.0 in
      let theirs : client_of (at k) ≡ of =
      eqb-true (client_of (at k)) of (and_left (eqb (client_of (at k)) of) _ f.3) in
      let far : leb number (number_of (at k)) ≡ true =
      and_right (eqb (client_of (at k)) of) _ f.3 in
      by-test (eqb k j)
      (λ s. subst (λ (i : ℕ). leb number (number_of (at i)) ≡ true) (eqb-true k j s) far)
      (λ s.
      let below : k < j = omega (arith, f.2, eqb-false k j s) in
      le-leb number (number_of (at j))
      (omega (
        arith,
        leb-true number (number_of (at k)) far,
        rises-at k below (theirs ∙ sym mine) one,
      ))))
    where
      rises-at : (k : ℕ) → k < j → client_of (at k) ≡ client_of (at j) → 1 ≤ number_of (at j)
          → number_of (at k) < number_of (at j)
      rises-at k below same one =
          let here = frames_in-at bytes starts n j l in
          let there = frames_in-at bytes starts n k (omega arith) in
          subst₂ (λ (g f : List ℕ). client_of g ≡ client_of f → 1 ≤ number_of f
          → number_of g < number_of f) there here
          (rises (frames_in bytes starts n) well k j below
          (omega (arith, length-frames_in bytes starts n)))
          same one
