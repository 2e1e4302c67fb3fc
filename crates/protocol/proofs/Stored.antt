-- Laws of stored versions and of the choice of stamps.
use mathlib.Core.Bool.{true, false, ◌&&◌, ◌||◌, cond}
use mathlib.Core.List.{List, [], ◌∷◌, ◌++◌, Sublistᴰ}
use mathlib.Core.Logic.{◌⊎◌, inl, inr, ⊎_elim}
use mathlib.Core.Path.{◌≡◌, refl, sym, ◌∙◌, subst}
use Prim.Native.Nat.{ℕ, zero, suc, ◌≤◌, ◌<◌, max}
use native.Mathlib.Nat.{le_refl}
use native.Mathlib.Omega.{arith}
use lib.Dec.{eqb, leb}
use borrow.Author.Tests.{eqb-true, eqb-false, leb-true, leb-false}
use Rattle.basics.proofs.Cases.{by-test, not-both, and_left, and_right, or_cases, or_left, or_right}
use Rattle.basics.proofs.Cases.{eqb_same}
use Rattle.basics.specs.Lists.{In}
use Rattle.basics.proofs.Lists.{sublist-in}
use Rattle.itemset.specs.Set.{has}
use Rattle.protocol.specs.declared.Version.{Version}
use Rattle.protocol.specs.declared.Entry.{Entry}
use Rattle.protocol.specs.Steps.{choice, version, alike, stored, found}

-- ---- stored, found

pub in-stored : (v : Version) (vs : List Version) → In v vs → stored vs v.item v.stamp ≡ true
unfolding stored
in-stored v [] i = absurd i
in-stored v (u ∷ us) (inl e) =
    or_left (alike v.item v.stamp u) (stored us v.item v.stamp)
    (subst (λ (x : Version). (eqb x.item v.item && eqb x.stamp v.stamp) ≡ true) e
    (rw (eqb_same v.item) (eqb_same v.stamp)))
in-stored v (u ∷ us) (inr i) =
    or_right (alike v.item v.stamp u) (stored us v.item v.stamp) (in-stored v us i)

-- a stored version, by its item and stamp
pub record Held (vs : List Version) (k s : ℕ) (v : Version) : Type 0 where
  pub is_in : In v vs
  pub item : v.item ≡ k
  pub stamp : v.stamp ≡ s

held-here : (u : Version) (us : List Version) (k s : ℕ) → alike k s u ≡ true → Held (u ∷ us) k s u
held-here u us k s a =
    record {
      is_in = inl refl;
      item = eqb-true u.item k (and_left (eqb u.item k) (eqb u.stamp s) a);
      stamp = eqb-true u.stamp s (and_right (eqb u.item k) (eqb u.stamp s) a);
    }

held-later : (u : Version) (us : List Version) (k s : ℕ) (v : Version) → Held us k s v
    → Held (u ∷ us) k s v
held-later u us k s v h = record { is_in = inr h.is_in; item = h.item; stamp = h.stamp }

pub found-held : (vs : List Version) (k s : ℕ) → stored vs k s ≡ true → Held vs k s (found vs k s)
unfolding stored found
found-held [] k s e = not-both e refl
found-held (u ∷ us) k s e =
    by-test (alike k s u)
    (λ a. rw a (held-here u us k s a))
    (λ a. rw a (held-later u us k s (found us k s) (found-held us k s
    (⊎_elim (λ x. not-both x a) (λ x. x) (or_cases (alike k s u) (stored us k s) e)))))

-- and is stored, there and in every list that has it
pub held-stored : (vs : List Version) (k s : ℕ) (v : Version) → Held vs k s v
    → stored vs k s ≡ true
held-stored vs k s v h = rw (h.item, h.stamp) at (in-stored v vs h.is_in)

pub stored-sublist : (us vs : List Version) → Sublistᴰ us vs → (k s : ℕ) → stored us k s ≡ true
    → stored vs k s ≡ true
stored-sublist us vs fewer k s e =
    let h = found-held us k s e in
    held-stored vs k s (found us k s) (record {
      is_in = sublist-in fewer (found us k s) h.is_in;
      item = h.item;
      stamp = h.stamp;
    })

pub unstored-sublist : (us vs : List Version) → Sublistᴰ us vs → (k s : ℕ)
    → stored vs k s ≡ false → stored us k s ≡ false
unstored-sublist us vs fewer k s e =
    by-test (stored us k s) (λ f. not-both (stored-sublist us vs fewer k s f) e) (λ f. f)

pub stored-append : (vs us : List Version) (k stamp : ℕ)
    → stored (vs ++ us) k stamp ≡ (stored vs k stamp || stored us k stamp)
unfolding stored
stored-append [] us k stamp = refl
stored-append (v ∷ vs) us k stamp =
    by-test (alike k stamp v) (λ e. rw e refl) (λ e. rw e (stored-append vs us k stamp))

pub stored_more : (vs us : List Version) (k stamp : ℕ) → stored vs k stamp ≡ true
    → stored (vs ++ us) k stamp ≡ true
stored_more vs us k stamp e = stored-append vs us k stamp
    ∙ or_left (stored vs k stamp) (stored us k stamp) e

pub not_found : (vs : List Version) (k stamp : ℕ) → stored vs k stamp ≡ false
    → found vs k stamp ≡ version k 0 stamp 0
unfolding stored found
not_found [] k stamp e = refl
not_found (u ∷ us) k stamp e =
    by-test (alike k stamp u) (λ a. not-both (or_left (alike k stamp u) (stored us k stamp) a) e)
    (λ a. rw a (not_found us k stamp (rw a at e)))

-- ---- choice

pub choice-own : (view : ℕ → Entry) (k n : ℕ) → (view k).stamp ≤ choice view k n
unfolding choice
choice-own view k zero = le_refl (view k).stamp
choice-own view k (suc n) = omega (arith, choice-own view k n)

pub choice-ge : (view : ℕ → Entry) (k n j : ℕ) → j < n → has (view j).set k ≡ true
    → (view j).stamp ≤ choice view k n
unfolding choice
choice-ge view k zero j h e = elim h [ ]
choice-ge view k (suc n) j h e =
    by-test (eqb j n)
    (λ t. subst (λ (i : ℕ). (view i).stamp ≤ choice view k (suc n)) (sym (eqb-true j n t))
    (here (subst (λ (i : ℕ). has (view i).set k ≡ true) (eqb-true j n t) e)))
    (λ f. let r = choice-ge view k n j (omega (arith, eqb-false j n f)) e in omega arith)
  where
    here : has (view n).set k ≡ true → (view n).stamp ≤ choice view k (suc n)
    here t =
        let mine : cond (has (view n).set k) (view n).stamp 0 ≡ (view n).stamp = rw t refl in
        omega arith

-- the choice is the stamp of some entry: the item's own, or one whose set holds the item
pub record Chosen (view : ℕ → Entry) (k n : ℕ) : Type 0 where
  pub place : ℕ
  pub stamp : choice view k n ≡ (view place).stamp
  pub why : (place ≡ k) ⊎ ((place < n) × (has (view place).set k ≡ true))

-- the choice of the first n entries stays the choice, or entry n is later and has the item in its
-- set
chosen-stays : (view : ℕ → Entry) (k n m : ℕ) → m ≤ choice view k n → Chosen view k n
    → (x : ℕ) → x ≡ max (choice view k n) m → (p : ℕ) × (x ≡ (view p).stamp)
    × ((p ≡ k) ⊎ ((p < suc n) × (has (view p).set k ≡ true)))
chosen-stays view k n m h r x e = (
  r.place,
  omega (arith, r.stamp),
  ⊎_elim (λ q. inl q) (λ q. inr (omega (arith, q.0), q.1))
      r.why,
)

pub choice-chosen : (view : ℕ → Entry) (k n : ℕ) → Chosen view k n
unfolding choice
choice-chosen view k zero = record { place = k; stamp = refl; why = inl refl }
choice-chosen view k (suc n) = go (choice-chosen view k n)
  where
    made : (p : ℕ) × (choice view k (suc n) ≡ (view p).stamp)
        × ((p ≡ k) ⊎ ((p < suc n) × (has (view p).set k ≡ true))) → Chosen view k (suc n)
    made q = record { place = q.0; stamp = q.1; why = q.2 }

    go : Chosen view k n → Chosen view k (suc n)
    go r =
        by-test (has (view n).set k)
        (λ e. by-test (leb (view n).stamp (choice view k n))
        (λ l. made (chosen-stays view k n (view n).stamp
        (leb-true (view n).stamp (choice view k n) l) r (choice view k (suc n)) (rw e refl)))
        (λ l. record {
          place = n;
          stamp = rw e (omega
              (arith, leb-false (view n).stamp (choice view k n) l));
          why = inr (omega arith, e);
        }))
        (λ e. made (chosen-stays view k n 0 (omega arith) r (choice view k (suc n)) (rw e refl)))
