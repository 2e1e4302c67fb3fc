-- A finding holds at a line of a well-formed log as the judge computes it if and only if the
-- published definition does.
use mathlib.Core.Bool.{Bool, true, false, not, ◌&&◌}
use mathlib.Core.List.{List, []}
use mathlib.Core.Path.{◌≡◌, refl, sym, ◌∙◌}
use Prim.Native.Nat.{ℕ, ◌<◌}
use native.Mathlib.Omega.{arith}
use lib.Dec.{eqb, leb, ltb}
use lib.ListN.{length, get_or, take}
use borrow.Author.Tests.{eqb-true, eqb-false, eq-eqb, ne_eqb, ltb-true, lt-ltb}
use Rattle.basics.proofs.Cases.{by-test, not-both, and_left, and_right, and_both, or-neither}
use Rattle.basics.proofs.Cases.{not-true, not-false}
use Rattle.itemset.specs.Set.{has}
use Rattle.log_format.specs.Some.{some, some_from}
use Rattle.log_format.proofs.Some.{some_at, at_some, some_from-at, at-some_from}
use Rattle.log_format.specs.Log.{frames_of, kind_of, client_of, reads_own, number_of, written, written_stamp}
use Rattle.log_format.specs.Log.{written_value, shown}
use Rattle.log_format.specs.Log.{shown_stamp, shown_value, shaped, reaches, malformed, malformed_at}
use Rattle.log_format.proofs.Lines.{frame-bytes}
use Rattle.log_format.proofs.Parts.{shown-below, written-part, shaped-number}
use Rattle.findings.specs.Findings.{wrote, is_unwritten, unwritten, behind, fractures}
use Rattle.findings.specs.Findings.{fractured, owners, outdates, misses_at, own_write_missed}
use Rattle.findings.specs.Findings.{holds_at}
use Rattle.findings.specs.Published.{Unwritten, Fractured, OwnWriteMissed}
use Rattle.findings.proofs.Owners.{owners-own, own-owners, own-above}

module _ (log : List ℕ) where
  abbrev frames : List (List ℕ)
  frames = frames_of log

  abbrev line : ℕ → List ℕ
  line i = get_or frames i []

  below : (i item : ℕ) → has (shown (line i)) item ≡ true → item < 64
  below i item e = shown-below (line i) (frame-bytes log i) item e

  -- what a search over the items of line i finds
  item-at : (i : ℕ) (p : ℕ → Bool)
      → some_from 64 0 (λ item. has (shown (line i)) item && p item) ≡ true → (item : ℕ)
      × (has (shown (line i)) item ≡ true) × (p item ≡ true)
  item-at i p e =
      let f = some_from-at 64 0 (λ item. has (shown (line i)) item && p item) e in (
        f.0,
        and_left (has (shown (line i)) f.0) (p f.0) f.3,
        and_right
            (has (shown (line i)) f.0) (p f.0) f.3,
      )

  at_item : (i : ℕ) (p : ℕ → Bool) (item : ℕ) → has (shown (line i)) item ≡ true → p item ≡ true
      → some_from 64 0 (λ item. has (shown (line i)) item && p item) ≡ true
  at_item i p item e h =
      at-some_from 64 0 (λ item. has (shown (line i)) item && p item) item (omega arith)
      (omega (arith, below i item e)) (and_both (has (shown (line i)) item) (p item) e h)

  -- ---- 1 unwritten

  -- a well-formed write's stamp isn't initial
  positive : (j item : ℕ) → malformed_at frames j ≡ false → has (written (line j)) item ≡ true
      → written_stamp (line j) ≡ 0 → ⊥
  unfolding malformed written_stamp
  positive j item well e z =
      let parts = or-neither (not (shaped (line j)))
      (leb 1 (number_of (line j)) && some (reaches (client_of (line j)) (number_of (line j)))
      (take j frames)) well in
      omega (
        arith,
        shaped-number (line j) (not-false (shaped (line j)) parts.0)
            (written-part (line j) item e),
      )

  module _ (well : (i : ℕ) → i < length frames → malformed_at frames i ≡ false) where
    pub unwritten-says : (i : ℕ) → i < length frames → holds_at unwritten frames i ≡ true
        → Unwritten frames i
    unfolding holds_at is_unwritten wrote
    unwritten-says i l e =
        let f = item-at i (λ item. is_unwritten frames item (shown_stamp (line i) item)
        (shown_value (line i) item)) e in
        let item = f.0 in
        let stamp = shown_stamp (line i) item in
        let value = shown_value (line i) item in
        by-test (eqb stamp 0)
        (λ t.
        let initial = eqb-true stamp 0 t in
        let other : not (eqb value 0) ≡ true = rw t at f.2 in (
          item,
          stamp,
          (l, f.1, refl),
          (λ z. eqb-false value 0 (not-true (eqb value 0) other) z.1),
          (λ j w v. positive j item (well j w.0) w.1 (w.2 ∙ initial)),
        ))
        (λ t.
        let none : some (wrote item stamp value) frames ≡ false =
        not-true (some (wrote item stamp value) frames) (rw t at f.2) in (
          item,
          stamp,
          (l, f.1, refl),
          (λ z. eqb-false stamp 0 t z.0),
          (λ j w v.
              not-both
              (at_some (wrote item stamp value) frames [] j w.0
              (and_both (eqb (written_stamp (line j)) stamp) _
              (eq-eqb (written_stamp (line j)) stamp w.2)
              (and_both (has (written (line j)) item) _ w.1
              (eq-eqb (written_value (line j) item) value v))))
              none),
        ))

    pub says-unwritten : (i : ℕ) → Unwritten frames i → holds_at unwritten frames i ≡ true
    unfolding holds_at is_unwritten wrote
    says-unwritten i u =
        let item = u.0 in
        let stamp = shown_stamp (line i) item in
        let value = shown_value (line i) item in
        let same = u.2.2 in
        at_item i (λ item. is_unwritten frames item (shown_stamp (line i) item)
        (shown_value (line i) item)) item u.2.1
        (by-test (eqb stamp 0)
        (λ t. rw (t, ne_eqb value 0 (λ z. u.3 (sym same ∙ eqb-true stamp 0 t, z))))
        (λ t.
        by-test (some (wrote item stamp value) frames)
        (λ s.
        let a = some_at (wrote item stamp value) frames [] s in
        let rest = and_right (eqb (written_stamp (line a.0)) stamp) _ a.2 in
        absurd
        (u.4 a.0 (
          a.1,
          and_left (has (written (line a.0)) item) _ rest,
          eqb-true
              (written_stamp (line a.0)) stamp
              (and_left (eqb (written_stamp (line a.0)) stamp) _ a.2) ∙ same,
        )
        (eqb-true (written_value (line a.0) item) value
        (and_right (has (written (line a.0)) item) _ rest))))
        (λ s. rw (t, s))))

  -- ---- 2 fractured

  pub fractured-says : (i : ℕ) → i < length frames → holds_at fractured frames i ≡ true
      → Fractured frames i
  unfolding holds_at fractures behind
  fractured-says i l e =
      let f = item-at i (λ item. some (fractures (line i) item (shown_stamp (line i) item)) frames)
      e in
      let x = f.0 in
      let a = some_at (fractures (line i) x (shown_stamp (line i) x)) frames [] f.2 in
      let j = a.0 in
      let n = written_stamp (line j) in
      let same = eqb-true n (shown_stamp (line i) x)
      (and_left (eqb n (shown_stamp (line i) x)) _ a.2) in
      let rest = and_right (eqb n (shown_stamp (line i) x)) _ a.2 in
      let g = item-at i (λ other. has (written (line j)) other && ltb (shown_stamp (line i) other) n)
      (and_right (has (written (line j)) x) _ rest) in
      let y = g.0 in (
        j,
        x,
        y,
        n,
        shown_stamp (line i) y,
        (a.1, and_left (has (written (line j)) x) _ rest, refl),
        (a.1, and_left (has (written (line j)) y) _ g.2, refl),
        (l, f.1, sym same),
        (l, g.1, refl),
        ltb-true (shown_stamp (line i) y) n
            (and_right (has (written (line j)) y) _ g.2),
      )

  pub says-fractured : (i : ℕ) → Fractured frames i → holds_at fractured frames i ≡ true
  unfolding holds_at fractures behind
  says-fractured i u =
      let j = u.0 in
      let x = u.1 in
      let y = u.2 in
      let n = written_stamp (line j) in
      at_item i (λ item. some (fractures (line i) item (shown_stamp (line i) item)) frames) x
      u.7.1
      (at_some (fractures (line i) x (shown_stamp (line i) x)) frames [] j u.5.0
      (and_both (eqb n (shown_stamp (line i) x)) _
      (eq-eqb n (shown_stamp (line i) x) (u.5.2 ∙ sym u.7.2))
      (and_both (has (written (line j)) x) _ u.5.1
      (at_item i (λ other. has (written (line j)) other && ltb (shown_stamp (line i) other) n) y
      u.8.1
      (and_both (has (written (line j)) y) _ u.6.1
      (lt-ltb (shown_stamp (line i) y) n (omega (arith, u.8.2, u.6.2, u.9))))))))

  -- ---- 3 own write missed

  abbrev misses : ℕ → ℕ → ℕ → Bool
  misses i item j =
      misses_at (owners frames j i) (client_of (line i)) item (shown_stamp (line i) item) (line j)

  abbrev misses-any : ℕ → ℕ → Bool
  misses-any i item = reads_own (kind_of (line i)) && some_from i 0 (misses i item)

  pub missed-says : (i : ℕ) → i < length frames → holds_at own_write_missed frames i ≡ true
      → OwnWriteMissed frames i
  unfolding holds_at misses_at outdates
  missed-says i l e =
      let f = item-at i (misses-any i) e in
      let item = f.0 in
      let k = shown_stamp (line i) item in
      let sees = reads_own (kind_of (line i)) in
      let a = some_from-at i 0 (misses i item) (and_right sees _ f.2) in
      let j = a.0 in
      let mine = has (owners frames j i) (client_of (line i)) in
      let rest = and_right mine _ a.3 in (
        j,
        item,
        written_stamp (line j),
        k,
        and_left sees _ f.2,
        owners-own frames j i (client_of (line i)) (and_left mine _ a.3),
        (omega (arith, a.2), and_left (has (written (line j)) item) _ rest, refl),
        (l, f.1, refl),
        ltb-true k (written_stamp (line j))
            (and_right (has (written (line j)) item) _ rest),
      )

  pub says-missed : (i : ℕ) → OwnWriteMissed frames i → holds_at own_write_missed frames i ≡ true
  unfolding holds_at misses_at outdates
  says-missed i u =
      let j = u.0 in
      let item = u.1 in
      let k = shown_stamp (line i) item in
      at_item i (misses-any i) item u.7.1
      (and_both (reads_own (kind_of (line i))) _ u.4
      (at-some_from i 0 (misses i item) j (omega arith) (omega (arith, own-above frames j u.5))
      (and_both (has (owners frames j i) (client_of (line i))) _ (own-owners frames j u.5)
      (and_both (has (written (line j)) item) _ u.6.1
      (lt-ltb k (written_stamp (line j)) (omega (arith, u.6.2, u.7.2, u.8)))))))
