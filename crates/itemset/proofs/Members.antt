-- The laws of the ascending list `upto` of the numbers below a bound that pass a test, and of the
-- members of a set as such a list: the list's length is `count`, and the place of a member is
-- `rank`. By induction on the bound, whose last number stands last.
use mathlib.Core.Bool.{Bool, true, false, cond}
use mathlib.Core.List.{List, [], ◌++◌, append-nil}
use mathlib.Core.Path.{◌≡◌, refl, sym, ap, ap₂, ◌∙◌}
use mathlib.Core.Logic.{⊎_elim}
use Prim.Native.Nat.{ℕ, zero, suc, ◌+◌, ◌^◌, ◌≤◌, ◌<◌}
use native.Mathlib.Nat.{add-zero, add-suc, le_refl, lt-suc_self, le_of_suc-le-suc, not-suc-le-zero}
use native.Mathlib.Nat.{eq-or-lt_of_le}
use native.Mathlib.Decide.{le_ind}
use native.Mathlib.Omega.{arith}
use lib.ListN.{length, get_or, length-append, get_or-append}
use lib.Seq.{get_or_at}
use Rattle.itemset.specs.Set.{has, count, rank, only, upto, members}
use Rattle.itemset.proofs.Laws.{has_above}
use Rattle.basics.proofs.Cases.{by-test}
use Rattle.itemset.proofs.Counts.{rank-zero, rank-suc, rank-all}

-- ---- upto

length-upto-zero : (p : ℕ → Bool) → length (upto 0 p) ≡ 0
unfolding upto
length-upto-zero p = refl

length-only : (b : Bool) (k : ℕ) → length (only b k) ≡ cond b 1 0
length-only true k = refl
length-only false k = refl

pub upto-suc : (n : ℕ) (p : ℕ → Bool) → upto (suc n) p ≡ upto n p ++ only (p n) n
unfolding upto
upto-suc n p = refl

pub length-upto-suc : (n : ℕ) (p : ℕ → Bool)
    → length (upto (suc n) p) ≡ length (upto n p) + cond (p n) 1 0
unfolding upto
length-upto-suc n p = length-append (upto n p) (only (p n) n)
    ∙ ap (λ (x : ℕ). length (upto n p) + x) (length-only (p n) n)

pub length-upto-le : (p : ℕ → Bool) (j k : ℕ) → j ≤ k → length (upto j p) ≤ length (upto k p)
length-upto-le p j k l =
    le_ind (λ (m : ℕ). length (upto j p) ≤ length (upto m p)) (le_refl (length (upto j p)))
    (λ m g e. omega (arith, length-upto-suc m p)) k l

-- a number that passes takes a place of its own
pub length-upto-lt : (p : ℕ → Bool) (k n : ℕ) → k < n → p k ≡ true
    → length (upto k p) < length (upto n p)
length-upto-lt p k n l e =
    let here : length (upto (suc k) p) ≡ length (upto k p) + 1 = rw e at (length-upto-suc k p) in
    omega (arith, length-upto-le p (suc k) n l)

pub upto-ext : (n : ℕ) (p q : ℕ → Bool) → ((k : ℕ) → k < n → p k ≡ q k) → upto n p ≡ upto n q
unfolding upto
upto-ext zero p q h = refl
upto-ext (suc n) p q h = ap₂ (λ (l : List ℕ) (b : Bool). l ++ only b n)
    (upto-ext n p q (λ k l. h k (omega arith))) (h n (lt-suc_self n))

pub upto-more : (n d : ℕ) (p : ℕ → Bool) → ((k : ℕ) → n ≤ k → p k ≡ false)
    → upto (n + d) p ≡ upto n p
unfolding upto
upto-more n zero p h = rw (add-zero n)
upto-more n (suc d) p h = rw (add-suc n d, h (n + d) (omega arith))
    (append-nil (upto (n + d) p) ∙ upto-more n d p h)

-- the places of one more number: those before, and the last, where it passes
at_suc : (n : ℕ) (p : ℕ → Bool) (i : ℕ) → i < length (upto n p)
    → get_or (upto (suc n) p) i 0 ≡ get_or (upto n p) i 0
unfolding upto
at_suc n p i l = get_or-append (upto n p) (only (p n) n) 0 i l

at_last : (n : ℕ) (p : ℕ → Bool) → p n ≡ true → get_or (upto (suc n) p) (length (upto n p)) 0 ≡ n
unfolding upto
at_last n p e = rw e (get_or_at (upto n p) n [] 0 (length (upto n p)) refl)

-- by cases on a place of one more number
by_place : {P : Type 0} (n : ℕ) (p : ℕ → Bool) (i : ℕ) → i < length (upto (suc n) p)
    → (i < length (upto n p) → P) → (p n ≡ true → i ≡ length (upto n p) → P) → P
by_place n p i l before last =
    by-test (p n)
    (λ e.
    let more : length (upto (suc n) p) ≡ length (upto n p) + 1 = rw e at (length-upto-suc n p) in
    ⊎_elim (λ z. last e z) before (eq-or-lt_of_le (omega arith)))
    (λ e.
    let same : length (upto (suc n) p) ≡ length (upto n p) + 0 = rw e at (length-upto-suc n p) in
    before (omega arith))

-- what holds of every number below n that passes holds at every place
pub upto_all : (P : ℕ → Type 0) (n : ℕ) (p : ℕ → Bool) → ((k : ℕ) → k < n → p k ≡ true → P k)
    → (i : ℕ) → i < length (upto n p) → P (get_or (upto n p) i 0)
upto_all P zero p h i l = absurd (omega (arith, length-upto-zero p))
upto_all P (suc n) p h i l =
    by_place n p i l
    (λ g. rw (at_suc n p i g) (upto_all P n p (λ k b. h k (omega arith)) i g))
    (λ e z. rw (z, at_last n p e) (h n (lt-suc_self n) e))

pub upto-below : (n : ℕ) (p : ℕ → Bool) (i : ℕ) → i < length (upto n p) → get_or (upto n p) i 0 < n
upto-below n p i l = upto_all (λ (k : ℕ). k < n) n p (λ k b e. b) i l

pub upto-passes : (n : ℕ) (p : ℕ → Bool) (i : ℕ) → i < length (upto n p)
    → p (get_or (upto n p) i 0) ≡ true
upto-passes n p i l = upto_all (λ (k : ℕ). p k ≡ true) n p (λ k b e. e) i l

-- the place of a number that passes is how many before it pass
pub upto-at : (n : ℕ) (p : ℕ → Bool) (k : ℕ) → k < n → p k ≡ true
    → get_or (upto n p) (length (upto k p)) 0 ≡ k
upto-at zero p k l e = absurd (not-suc-le-zero l)
upto-at (suc n) p k l e =
    ⊎_elim
    (λ z. rw z (at_last n p (rw z at e)))
    (λ g. at_suc n p (length (upto k p)) (length-upto-lt p k n g e) ∙ upto-at n p k g e)
    (eq-or-lt_of_le (le_of_suc-le-suc l))

-- and the other way round
pub upto-place : (n : ℕ) (p : ℕ → Bool) (i : ℕ) → i < length (upto n p)
    → length (upto (get_or (upto n p) i 0) p) ≡ i
upto-place zero p i l = absurd (omega (arith, length-upto-zero p))
upto-place (suc n) p i l =
    by_place n p i l
    (λ g. rw (at_suc n p i g) (upto-place n p i g))
    (λ e z. rw (z, at_last n p e))

pub upto-ascending : (n : ℕ) (p : ℕ → Bool) (i j : ℕ) → i < j → j < length (upto n p)
    → get_or (upto n p) i 0 < get_or (upto n p) j 0
upto-ascending zero p i j l h = absurd (omega (arith, length-upto-zero p))
upto-ascending (suc n) p i j l h =
    by_place n p j h
    (λ g. rw (at_suc n p i (omega arith), at_suc n p j g) (upto-ascending n p i j l g))
    (λ e z. rw (at_suc n p i (omega arith), z, at_last n p e) (upto-below n p i (omega arith)))

-- ---- members

pub length-members-rank : (s n : ℕ) → length (members n s) ≡ rank s n
length-members-rank s zero = length-upto-zero (has s) ∙ sym (rank-zero s)
length-members-rank s (suc n) = omega
    (arith, length-upto-suc n (has s), length-members-rank s n, rank-suc s n)

pub length-members : (s n : ℕ) → s < 2 ^ n → length (members n s) ≡ count s
length-members s n h = length-members-rank s n ∙ rank-all s n h

pub members-at : (s k n : ℕ) → k < n → has s k ≡ true → get_or (members n s) (rank s k) 0 ≡ k
members-at s k n l e = rw (length-members-rank s k) at (upto-at n (has s) k l e)

pub members-rank : (s n i : ℕ) → i < length (members n s) → rank s (get_or (members n s) i 0) ≡ i
members-rank s n i l = sym (length-members-rank s (get_or (members n s) i 0))
    ∙ upto-place n (has s) i l

pub members-below : (s n i : ℕ) → i < length (members n s) → get_or (members n s) i 0 < n
members-below s n i l = upto-below n (has s) i l

pub members-has : (s n i : ℕ) → i < length (members n s) → has s (get_or (members n s) i 0) ≡ true
members-has s n i l = upto-passes n (has s) i l

pub members-more : (s n d : ℕ) → s < 2 ^ n → members (n + d) s ≡ members n s
members-more s n d h = upto-more n d (has s) (λ k l. has_above s k n h l)

pub members-ascending : (s n i j : ℕ) → i < j → j < length (members n s)
    → get_or (members n s) i 0 < get_or (members n s) j 0
members-ascending s n i j l h = upto-ascending n (has s) i j l h
