-- The words of a client, its view apart: a row in each section that has one for each client, and
-- what they are after a store.
use mathlib.Core.Bool.{false, cond}
use mathlib.Core.List.{List}
use mathlib.Core.Logic.{◌≢◌}
use mathlib.Core.Path.{◌≡◌, refl, sym, ap, ◌∙◌, subst}
use Prim.Native.Nat.{ℕ, ◌+◌, ◌≤◌, ◌<◌}
use native.Mathlib.Omega.{arith}
use lib.Dec.{eqb}
use lib.ListN.{length}
use borrow.Author.Tests.{eqb-true, eqb-false}
use Rattle.basics.proofs.Cases.{by-test, not-both}
use Rattle.protocol.specs.Tables.{put}
use Rattle.protocol.proofs.Put.{by_cond}
use Rattle.layout.specs.Layout.{Section, base, size, at, store, needed}
use Rattle.layout.proofs.At.{at_store, at-store-other}
use Rattle.layout.proofs.Sections.{is_section, section-true, same-section, section-end}
use Rattle.layout.proofs.Sections.{row_width, row_at, row_in, same_row}

-- word n of the row in a section
abbrev pub Words : Type 0
Words = Section → ℕ → ℕ

abbrev pub words_of : List ℕ → ℕ → Words
words_of b d s n = at b s (row_at s d n)

-- the words of client d in b are w
pub record HasWords (d : ℕ) (b : List ℕ) (w : Words) : Type 0 where
  pub row : (s : Section) (n : ℕ) → n < row_width s → at b s (row_at s d n) ≡ w s n

pub has_words : (d : ℕ) (b : List ℕ) → HasWords d b (words_of b d)
has_words d b = record { row = λ s n l. refl }

-- c's words are those of b
pub has-words-trans : {d : ℕ} {b c : List ℕ} {w : Words} → HasWords d b w
    → HasWords d c (words_of b d) → HasWords d c w
has-words-trans p q = record { row = λ s n l. q.row s n l ∙ p.row s n l }

-- ---- a store elsewhere

-- the place p of the block is none of client d's words
pub record Beside (d p : ℕ) : Type 0 where
  pub row : (s : Section) (n : ℕ) → n < row_width s → base s + row_at s d n ≢ p

pub has-words-beside : {d : ℕ} {b : List ℕ} {w : Words} (s : Section) (i v : ℕ)
    → Beside d (base s + i) → HasWords d b w → HasWords d (store b s i v) w
has-words-beside {d} {b} s i v a h = record {
  row = λ r n l. at-store-other b s i v r (row_at r d n) (a.row r n l) ∙ h.row r n l;
}

-- a place in a section that has no rows
pub beside-rows : (d : ℕ) (s : Section) (i : ℕ) → 1 ≤ d → d ≤ 8 → row_width s ≡ 0 → i < size s
    → Beside d (base s + i)
beside-rows d s i first last none l = record {
  row = λ r n g e.
      let same : r ≡ s = same-section r s (row_at r d n) i (row_in r d n first last g) l e in
      let some : n < row_width s = subst (λ (q : Section). n < row_width q) same g in
      omega arith;
}

-- a word of another client
pub beside-row : (d e : ℕ) (s : Section) (k : ℕ) → 1 ≤ d → d ≤ 8 → 1 ≤ e → e ≤ 8 → e ≢ d
    → k < row_width s → Beside e (base s + row_at s d k)
beside-row d e s k first last first' last' other l = record {
  row = λ r n g same.
      let q : r ≡ s = same-section r s (row_at r e n) (row_at s d k) (row_in r e n first' last' g)
      (row_in s d k first last l) same in
      other (same_row s e d n k first' first (subst (λ (x : Section). n < row_width x) q g) l
      (omega (arith, subst (λ (x : Section). base x + row_at x e n ≡ base s + row_at s d k) q same)));
}

-- ---- a store to one of them

abbrev pub put_word : Words → Section → ℕ → ℕ → Words
put_word w s k v r = cond (is_section r s) (put (w r) k v) (w r)

pub has-words-put : {d : ℕ} {b : List ℕ} {w : Words} → 1 ≤ d → d ≤ 8 → needed ≤ length b
    → HasWords d b w → (s : Section) (k v : ℕ) → k < row_width s
    → HasWords d (store b s (row_at s d k) v) (put_word w s k v)
has-words-put {d} {b} {w} first last long h s k v g =
    record {
      row = λ r n l. by-test (is_section r s)
          (λ e. rw e (subst
          (λ (q : Section). n < row_width q → at (store b s (row_at s d k) v) q (row_at q d n)
          ≡ put (w q) k v n) (sym (section-true r s e)) (here n) l))
          (λ e. rw e (at-store-other b s (row_at s d k) v r (row_at r d n) (other r n l e)
          ∙ h.row r n l));
    }
  where
    here : (n : ℕ) → n < row_width s → at (store b s (row_at s d k) v) s (row_at s d n)
        ≡ put (w s) k v n
    here n l =
        by_cond (λ (x : ℕ). at (store b s (row_at s d k) v) s (row_at s d n) ≡ x) (eqb n k) v (w s n)
        (λ e. rw (eqb-true n k e) (at_store b s (row_at s d k) v
        (omega (arith, row_in s d k first last g, section-end s))))
        (λ e. at-store-other b s (row_at s d k) v s (row_at s d n)
        (omega (arith, eqb-false n k e)) ∙ h.row s n l)

    other : (r : Section) (n : ℕ) → n < row_width r → is_section r s ≡ false
        → base r + row_at r d n ≢ base s + row_at s d k
    other r n l e same =
        eqb-false (base r) (base s) e
        (ap base (same-section r s (row_at r d n) (row_at s d k) (row_in r d n first last l)
        (row_in s d k first last g) same))

-- ---- a row of them

-- w with f for its row in s
abbrev pub with_row : Words → Section → (ℕ → ℕ) → Words
with_row w s f r = cond (is_section r s) f (w r)

pub row_same : (w : Words) (s : Section) → with_row w s (w s) ≡ w
row_same w s = λ i r. by-test {P = with_row w s (w s) r ≡ w r} (is_section r s)
    (λ e. rw (e, section-true r s e) refl) (λ e. rw e refl) i

pub rows_same : (w : Words) (s r : Section) → with_row (with_row w s (w s)) r (w r) ≡ w
rows_same w s r = ap (λ (x : Words). with_row x r (w r)) (row_same w s) ∙ row_same w r

pub put-row : (w : Words) (s : Section) (f : ℕ → ℕ) (k v : ℕ)
    → put_word (with_row w s f) s k v ≡ with_row w s (put f k v)
put-row w s f k v = λ i r.
    by-test {P = put_word (with_row w s f) s k v r ≡ with_row w s (put f k v) r} (is_section r s)
    (λ e. rw e refl) (λ e. rw e refl) i

-- a word of another row
pub put-row-other : (w : Words) (s : Section) (f : ℕ → ℕ) (r : Section) (k v : ℕ)
    → is_section r s ≡ false → put_word (with_row w s f) r k v ≡ with_row (put_word w r k v) s f
put-row-other w s f r k v n = λ i q.
    by-test {P = put_word (with_row w s f) r k v q ≡ with_row (put_word w r k v) s f q} (is_section q s)
    (λ e. by-test (is_section q r)
    (λ x. not-both (rw (section-true q r x) at e) n)
    (λ x. rw (e, x) refl))
    (λ e. rw e refl) i

-- ---- the same words in two blocks

abbrev pub KeptClient : ℕ → List ℕ → List ℕ → Type 0
KeptClient d b b' = HasWords d b' (words_of b d)
