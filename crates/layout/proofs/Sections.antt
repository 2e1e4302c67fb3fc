-- The sections lie one behind another, so words of two sections are two words; and some sections
-- have a row of words for each client, whose words are two words where the clients are two.
use mathlib.Core.Bool.{Bool, true, cond, ◌&&◌, ◌||◌}
use mathlib.Core.List.{List, [], ◌∷◌}
use mathlib.Core.Path.{◌≡◌, refl, sym, ap, ◌∙◌, subst}
use Prim.Native.Nat.{ℕ, suc, ◌+◌, ◌-◌, ◌*◌, ◌≤◌, ◌<◌}
use native.Mathlib.Nat.{mul-suc, mul-le-mul_left}
use native.Mathlib.Omega.{arith}
use lib.Dec.{eqb, ltb, leb}
use borrow.Author.Tests.{eqb-true, ne_eqb, ltb-true, ltb-false, leb-true}
use Rattle.basics.specs.Lists.{all}
use Rattle.basics.proofs.Cases.{by-test, and_left, and_right}
use Rattle.layout.specs.Layout.{most_clients, most_items, client_words, entry_words, Section}
use Rattle.layout.specs.Layout.{header, scalars, latest, views, asked, values, last_stamps}
use Rattle.layout.specs.Layout.{last_values, firsts, versions, messages, size, base, needed}

-- ---- each section, known by its base

abbrev sections : List Section
sections = header ∷ scalars ∷ latest ∷ views ∷ asked ∷ values ∷ last_stamps ∷ last_values ∷ firsts
    ∷ versions ∷ messages ∷ []

-- the one of them that starts at place p
unfoldable starting : ℕ → List Section → Section
starting p [] = header
starting p (s ∷ rest) = cond (eqb p (base s)) s (starting p rest)

starts : (s : Section) → starting (base s) sections ≡ s
unfolding starting
starts header = refl
starts scalars = refl
starts latest = refl
starts views = refl
starts asked = refl
starts values = refl
starts last_stamps = refl
starts last_values = refl
starts firsts = refl
starts versions = refl
starts messages = refl

starting-all : (test : Section → Bool) (p : ℕ) (l : List Section) → test header ≡ true
    → all test l ≡ true → test (starting p l) ≡ true
unfolding starting all
starting-all test p [] first e = first
starting-all test p (s ∷ rest) first e =
    by-test (eqb p (base s))
    (λ x. rw x (and_left (test s) (all test rest) e))
    (λ x. rw x (starting-all test p rest first (and_right (test s) (all test rest) e)))

-- a test of the sections, by trying each
every-section : (test : Section → Bool) → all test sections ≡ true → (s : Section)
    → test s ≡ true
unfolding all
every-section test e s =
    subst (λ (r : Section). test r ≡ true) (starts s)
    (starting-all test (base s) sections (and_left (test header) _ e) e)

abbrev pub is_section : Section → Section → Bool
is_section r s = eqb (base r) (base s)

pub section-true : (r s : Section) → is_section r s ≡ true → r ≡ s
section-true r s e =
    sym (starts r) ∙ ap (λ (p : ℕ). starting p sections) (eqb-true (base r) (base s) e) ∙ starts s

-- ---- words of two sections

-- of two sections one ends before the other starts
abbrev behind : Section → Section → Bool
behind r s = is_section r s || leb (base r + size r) (base s) || leb (base s + size s) (base r)

all-behind : (r s : Section) → behind r s ≡ true
unfolding all
all-behind r s =
    every-section (behind r) (every-section (λ q. all (behind q) sections) refl r) s

pub same-section : (r s : Section) (i j : ℕ) → i < size r → j < size s → base r + i ≡ base s + j
    → r ≡ s
same-section r s i j l h e =
    section-true r s (by-test (is_section r s) (λ x. x) (λ x.
    by-test (leb (base r + size r) (base s))
    (λ y. absurd (omega (arith, leb-true (base r + size r) (base s) y)))
    (λ y. absurd (omega (
      arith,
      leb-true (base s + size s) (base r) (rw (x, y) at (all-behind r s)),
    )))))

pub section-end : (s : Section) → base s + size s ≤ needed
unfolding all
section-end s =
    leb-true (base s + size s) needed (every-section (λ r. leb (base r + size r) needed) refl s)

-- ---- a client's rows

-- how many words each client has in a section: none where a section has no row for each
abbrev pub row_width : Section → ℕ
row_width header = 0
row_width scalars = client_words
row_width latest = 0
row_width views = 0
row_width asked = most_items
row_width values = most_items
row_width last_stamps = most_items
row_width last_values = most_items
row_width firsts = entry_words * most_items
row_width versions = 0
row_width messages = 0

-- word n of client d's row: that of `scalar_at d n`, `item_at d n`, or `first_at d k f` with n the
-- number of word f of entry k
abbrev pub row_at : Section → ℕ → ℕ → ℕ
row_at s d n = row_width s * (d - 1) + n

row_step : (w a b : ℕ) → a < b → w * a + w ≤ w * b
row_step w a b l = omega (arith, mul-suc w a, mul-le-mul_left {m = suc a} {n = b} w l)

rows_fit : (s : Section) → row_width s * most_clients ≤ size s
unfolding all
rows_fit s =
    leb-true (row_width s * most_clients) (size s)
    (every-section (λ r. leb (row_width r * most_clients) (size r)) refl s)

-- the rows lie from the scalars to the versions
pub rows-fixed : (s : Section) (n : ℕ) → n < row_width s
    → (base scalars ≤ base s) × (base s + size s ≤ base versions)
unfolding all
rows-fixed s n l =
    let found : (leb (base scalars) (base s) && leb (base s + size s) (base versions)) ≡ true =
    rw (ne_eqb (row_width s) 0 (omega arith)) at
    (every-section (λ r. eqb (row_width r) 0
    || (leb (base scalars) (base r) && leb (base r + size r) (base versions))) refl s) in (
      leb-true (base scalars) (base s) (and_left (leb (base scalars) (base s)) _ found),
      leb-true (base s + size s) (base versions) (and_right (leb (base scalars) (base s)) _ found),
    )

pub row_in : (s : Section) (d n : ℕ) → 1 ≤ d → d ≤ 8 → n < row_width s → row_at s d n < size s
row_in s d n l h g =
    omega (arith, row_step (row_width s) (d - 1) most_clients (omega arith), rows_fit s)

pub same_row : (s : Section) (d e n k : ℕ) → 1 ≤ d → 1 ≤ e → n < row_width s → k < row_width s
    → row_at s d n ≡ row_at s e k → d ≡ e
same_row s d e n k first other l h same =
    by-test (ltb d e)
    (λ x. let y : d < e = ltb-true d e x in
    absurd (omega (arith, row_step (row_width s) (d - 1) (e - 1) (omega arith))))
    (λ x. by-test (ltb e d)
    (λ z. let y : e < d = ltb-true e d z in
    absurd (omega (arith, row_step (row_width s) (e - 1) (d - 1) (omega arith))))
    (λ z. omega (arith, ltb-false d e x, ltb-false e d z)))
