-- The table of the lines that write: one more line, and that a search over it is one over all
-- lines.
use mathlib.Core.Bool.{Bool, false, cond}
use mathlib.Core.List.{List}
use mathlib.Core.Path.{◌≡◌, sym, ap, ◌∙◌, subst}
use Prim.Native.Nat.{ℕ, ◌+◌, ◌*◌, ◌≤◌, ◌<◌}
use native.Mathlib.Nat.{not-suc-le-zero}
use native.Mathlib.Omega.{arith}
use lib.Dec.{eqb}
use lib.ListN.{length, get_or, set, length-set}
use lib.Seq.{get_or-set_same, get_or-set_other}
use borrow.Author.Tests.{eqb-true, eqb-false}
use Rattle.basics.proofs.Cases.{by-test, not-both, test-ext}
use Rattle.judge_frames.specs.Cut.{frame_in}
use Rattle.log_format.specs.Log.{written, written_stamp}
use Rattle.log_format.specs.Some.{some_from}
use Rattle.log_format.proofs.Some.{some_from-at, at-some_from}
use Rattle.judge_findings.specs.Writes.{line_of, stamp_of, items_of, Entry, Listed, Gathered}

-- ---- one more line

module _ (table : List ℕ) (m line stamp items : ℕ) (room : 3 * m + 2 < length table) where
  abbrev stamped : List ℕ
  stamped = set (set table (3 * m) line) (3 * m + 1) stamp

  abbrev after : List ℕ
  after = set stamped (3 * m + 2) items

  pub kept : (k : ℕ) → k < 3 * m → get_or after k 0 ≡ get_or table k 0
  kept k l =
      get_or-set_other stamped (3 * m + 2) k items 0 (omega arith)
      ∙ get_or-set_other (set table (3 * m) line) (3 * m + 1) k stamp 0 (omega arith)
      ∙ get_or-set_other table (3 * m) k line 0 (omega arith)

  put-line : line_of after m ≡ line
  put-line =
      get_or-set_other stamped (3 * m + 2) (3 * m) items 0 (omega arith)
      ∙ get_or-set_other (set table (3 * m) line) (3 * m + 1) (3 * m) stamp 0 (omega arith)
      ∙ get_or-set_same table (3 * m) line 0 (omega arith)

  put-stamp : stamp_of after m ≡ stamp
  put-stamp =
      get_or-set_other stamped (3 * m + 2) (3 * m + 1) items 0 (omega arith)
      ∙ get_or-set_same (set table (3 * m) line) (3 * m + 1) stamp 0
      (omega (arith, length-set table (3 * m) line))

  put-items : items_of after m ≡ items
  put-items =
      get_or-set_same stamped (3 * m + 2) items 0
      (omega (
        arith,
        length-set table (3 * m) line,
        length-set (set table (3 * m) line) (3 * m + 1) stamp,
      ))

  pub put-length : length after ≡ length table
  put-length = simp length-set

  module _ (bytes starts : List ℕ) where
    abbrev at : ℕ → List ℕ
    at j = frame_in bytes starts j

    entry_kept : (w : ℕ) → w < m → Entry bytes starts table w → Entry bytes starts after w
    entry_kept w l old =
        let same = kept (3 * w) (omega arith) in
        record {
          low = omega (arith, same, old.low);
          stamp = kept (3 * w + 1) (omega arith) ∙ old.stamp
              ∙ ap (λ (j : ℕ). written_stamp (at j)) (sym same);
          items = kept (3 * w + 2) (omega arith) ∙ old.items
              ∙ ap (λ (j : ℕ). written (at j)) (sym same);
        }

    entry-put : line < 256 → stamp ≡ written_stamp (at line) → items ≡ written (at line)
        → Entry bytes starts after m
    entry-put low s i =
        record {
          low = omega (arith, put-line);
          stamp = put-stamp ∙ s ∙ ap (λ (j : ℕ). written_stamp (at j)) (sym put-line);
          items = put-items ∙ i ∙ ap (λ (j : ℕ). written (at j)) (sym put-line);
        }

    listed_kept : (m' j : ℕ) → m ≤ m' → Listed table m j → Listed after m' j
    listed_kept m' j l old =
        record {
          place = old.place;
          inside = omega (arith, old.inside);
          line = kept (3 * old.place) (omega (arith, old.inside)) ∙ old.line;
        }

    module _ (old : Gathered bytes starts line table m) (low : line < 256)
        (s : stamp ≡ written_stamp (at line)) (i : items ≡ written (at line)) where
      -- the line doesn't write: its place is free
      passed_over : items ≡ 0 → Gathered bytes starts (line + 1) after m
      passed_over none =
          record {
            entries =
                record {
                  long = omega (arith, put-length);
                  entry = λ w l. entry_kept w l (old.entries.entry w l);
                };
            few = omega (arith, old.few);
            within = λ w l. omega (arith, kept (3 * w) (omega arith), old.within w l);
            all =
                λ j l h.
                by-test (eqb j line)
                (λ t. absurd (h (ap (λ (k : ℕ). written (at k)) (eqb-true j line t)
                ∙ sym i ∙ none)))
                (λ t. listed_kept m j (omega arith)
                (old.all j (omega (arith, eqb-false j line t)) h));
          }

      joined : Gathered bytes starts (line + 1) after (m + 1)
      joined =
          record {
            entries =
                record {
                  long = omega (arith, put-length);
                  entry =
                      λ w l.
                      by-test (eqb w m)
                      (λ t. subst (Entry bytes starts after) (sym (eqb-true w m t))
                      (entry-put low s i))
                      (λ t.
                      let below : w < m = omega (arith, eqb-false w m t) in
                      entry_kept w below (old.entries.entry w below));
                };
            few = omega (arith, old.few);
            within =
                λ w l.
                by-test (eqb w m)
                (λ t. rw (eqb-true w m t) (omega (arith, put-line)))
                (λ t.
                let below : w < m = omega (arith, eqb-false w m t) in
                omega (arith, kept (3 * w) (omega arith), old.within w below));
            all =
                λ j l h.
                by-test (eqb j line)
                (λ t. record {
                  place = m;
                  inside = omega arith;
                  line = put-line ∙ sym (eqb-true j line t);
                })
                (λ t. listed_kept (m + 1) j (omega arith)
                (old.all j (omega (arith, eqb-false j line t)) h));
          }

      pub gathered_next : Gathered bytes starts (line + 1) after (cond (eqb items 0) m (m + 1))
      gathered_next =
          by-test (eqb items 0)
          (λ t. rw t (passed_over (eqb-true items 0 t)))
          (λ t. rw t joined)

pub gathered-first : (bytes starts table : List ℕ) → Gathered bytes starts 0 table 0
gathered-first bytes starts table =
    record {
      entries =
          record {
            long = omega arith;
            entry = λ w l. absurd (not-suc-le-zero l);
          };
      few = omega arith;
      within = λ w l. absurd (not-suc-le-zero l);
      all = λ j l h. absurd (not-suc-le-zero l);
    }

-- ---- a search

-- by a test that a line passes only if it writes
pub gathered-some : (bytes starts : List ℕ) (n : ℕ) (table : List ℕ) (m : ℕ)
    → Gathered bytes starts n table m → (q : ℕ → Bool)
    → ((j : ℕ) → written (frame_in bytes starts j) ≡ 0 → q j ≡ false)
    → some_from m 0 (λ w. q (line_of table w)) ≡ some_from n 0 q
gathered-some bytes starts n table m g q none =
    test-ext (some_from m 0 (λ w. q (line_of table w))) (some_from n 0 q)
    (λ e.
    let f = some_from-at m 0 (λ w. q (line_of table w)) e in
    at-some_from n 0 q (line_of table f.0) (omega arith)
    (omega (arith, g.within f.0 (omega (arith, f.2)))) f.3)
    (λ e.
    let f = some_from-at n 0 q e in
    let l = g.all f.0 (omega (arith, f.2)) (λ z. not-both f.3 (none f.0 z)) in
    at-some_from m 0 (λ w. q (line_of table w)) l.place (omega arith)
    (omega (arith, l.inside))
    (ap q l.line ∙ f.3))
