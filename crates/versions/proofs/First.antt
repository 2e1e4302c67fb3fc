-- Laws of the search for the first that passes, and what it says of a list of versions.
use mathlib.Core.Bool.{Bool, true, false, cond, ◌||◌, and-true, and-false, or-false}
use mathlib.Core.List.{List, [], ◌∷◌, ◌++◌}
use mathlib.Core.Path.{◌≡◌, refl, ◌∙◌, subst}
use Prim.Native.Nat.{ℕ, zero, suc, ◌<◌}
use native.Mathlib.Nat.{not-suc-le-zero}
use native.Mathlib.Omega.{arith}
use lib.Dec.{eqb}
use borrow.Author.Tests.{eqb-true, eqb-false, eq-eqb, ne_eqb}
use Rattle.basics.proofs.Cases.{by-test}
use Rattle.basics.specs.Lists.{table}
use Rattle.protocol.specs.declared.Version.{Version}
use Rattle.protocol.specs.Steps.{version, alike, stored, found}
use Rattle.protocol.proofs.Stored.{stored-append}
use Rattle.std.specs.Prelude.{Option, Some, None, is_some}
use Rattle.std.specs.Option.{option_or}
use Rattle.versions.specs.Found.{first}

-- ---- the first that passes

pub first_next : (p : ℕ → Bool) (i : ℕ) → first p i ≡ None → p i ≡ false
    → first p (suc i) ≡ None
unfolding first
first_next p i none e = rw (none, e) refl

pub first-here : (p : ℕ → Bool) (i n : ℕ) → first p i ≡ None → p i ≡ true → i < n
    → first p n ≡ Some i
unfolding first
first-here p i zero none e h = absurd (not-suc-le-zero h)
first-here p i (suc n) none e h =
    by-test (eqb i n)
    (λ t. subst (λ (m : ℕ). first p (suc m) ≡ Some i) (eqb-true i n t) (rw (none, e) refl))
    (λ t. rw (first-here p i n none e (omega (arith, eqb-false i n t))) refl)

abbrev Below : ℕ → Option ℕ → Type 0
Below n (Some i) = i < n
Below n None = Unit

below : (p : ℕ → Bool) (n : ℕ) → Below n (first p n)
unfolding first
below p zero = tt
below p (suc n) = next (first p n) (below p n) (p n)
  where
    next : (r : Option ℕ) → Below n r → (t : Bool)
        → Below (suc n) (option_or r (cond t (Some n) None))
    next (Some i) h t = omega arith
    next None h true = omega arith
    next None h false = tt

pub first_below : (p : ℕ → Bool) (n i : ℕ) → first p n ≡ Some i → i < n
first_below p n i e = subst (Below n) e (below p n)

-- ---- what it says of the versions of a table

-- the version there, else the initial one
abbrev pub found_at : (ℕ → Version) → ℕ → ℕ → Option ℕ → Version
found_at f k stamp (Some i) = f i
found_at f k stamp None = version k 0 stamp 0

-- ---- alike, the stamp first

pub alike-stamp : (v : Version) (k stamp : ℕ) → v.stamp ≡ stamp → alike k stamp v ≡ eqb v.item k
alike-stamp v k stamp e = rw (eq-eqb v.stamp stamp e) (and-true (eqb v.item k))

pub alike-other : (v : Version) (k stamp : ℕ) → (v.stamp ≡ stamp → ⊥) → alike k stamp v ≡ false
alike-other v k stamp n = rw (ne_eqb v.stamp stamp n) (and-false (eqb v.item k))

-- ---- a list of versions

found-append : (vs us : List Version) (k stamp : ℕ)
    → found (vs ++ us) k stamp ≡ cond (stored vs k stamp) (found vs k stamp) (found us k stamp)
unfolding found stored
found-append [] us k stamp = refl
found-append (v ∷ vs) us k stamp =
    by-test (alike k stamp v) (λ e. rw e refl) (λ e. rw e (found-append vs us k stamp))

pub stored-first : (n : ℕ) (f : ℕ → Version) (k stamp : ℕ)
    → stored (table n f) k stamp ≡ is_some (first (λ i. alike k stamp (f i)) n)
unfolding stored table first
stored-first zero f k stamp = refl
stored-first (suc n) f k stamp =
    stored-append (table n f) (f n ∷ []) k stamp
    ∙ rw (stored-first n f k stamp, or-false)
    (next (first (λ i. alike k stamp (f i)) n) (alike k stamp (f n)))
  where
    next : (r : Option ℕ) (t : Bool)
        → (is_some r || t) ≡ is_some (option_or r (cond t (Some n) None))
    next (Some i) t = refl
    next None true = refl
    next None false = refl

pub found_first : (n : ℕ) (f : ℕ → Version) (k stamp : ℕ)
    → found (table n f) k stamp ≡ found_at f k stamp (first (λ i. alike k stamp (f i)) n)
unfolding found table first
found_first zero f k stamp = refl
found_first (suc n) f k stamp =
    found-append (table n f) (f n ∷ []) k stamp
    ∙ rw (stored-first n f k stamp, found_first n f k stamp)
    (next (first (λ i. alike k stamp (f i)) n) (alike k stamp (f n)))
  where
    next : (r : Option ℕ) (t : Bool)
        → cond (is_some r) (found_at f k stamp r)
        (cond t (f n) (version k 0 stamp 0)) ≡ found_at f k stamp
        (option_or r (cond t (Some n) None))
    next (Some i) t = refl
    next None true = refl
    next None false = refl
