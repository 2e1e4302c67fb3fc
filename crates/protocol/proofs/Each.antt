-- What holds of each element of a list holds of lists put together, with one taken out, of one
-- element, or made from numbers that pass a test.
use mathlib.Core.Bool.{Bool, true, false}
use mathlib.Core.List.{List, [], ◌∷◌, ◌++◌, map}
use mathlib.Core.Logic.{inl, inr, ⊎_elim}
use mathlib.Core.Path.{◌≡◌, refl, sym, subst}
use Prim.Native.Nat.{ℕ, zero, suc, ◌<◌}
use native.Mathlib.Omega.{arith}
use Rattle.basics.specs.Lists.{In, without}
use Rattle.basics.proofs.Lists.{in-append, in_map, in_without}
use Rattle.itemset.specs.Set.{only, upto}

module _ {A : Type 0} where
  abbrev pub Each : (A → Type 0) → List A → Type 0
  Each P xs = (x : A) → In x xs → P x

  pub each_none : (P : A → Type 0) → Each P []
  each_none P x i = absurd i

  pub each-one : (P : A → Type 0) (y : A) → P y → Each P (y ∷ [])
  each-one P y p x (inl e) = subst P (sym e) p
  each-one P y p x (inr e) = absurd e

  pub each_append : (P : A → Type 0) (xs ys : List A) → Each P xs → Each P ys → Each P (xs ++ ys)
  each_append P xs ys p q x i = ⊎_elim (p x) (q x) (in-append x xs ys i)

  pub each-without : (P : A → Type 0) (i : ℕ) (xs : List A) → Each P xs → Each P (without i xs)
  each-without P i xs p x j = p x (in_without x i xs j)

-- ---- Numbers below a bound that pass a test

only-in : (b : Bool) (n k : ℕ) → In k (only b n) → (k ≡ n) × (b ≡ true)
only-in true n k (inl e) = (e, refl)
only-in true n k (inr e) = absurd e
only-in false n k e = absurd e

pub upto-in : (n : ℕ) (p : ℕ → Bool) (k : ℕ) → In k (upto n p) → (k < n) × (p k ≡ true)
unfolding upto
upto-in zero p k i = absurd i
upto-in (suc n) p k i =
    ⊎_elim
    (λ j. let (l, g) = upto-in n p k j in (omega arith, g))
    (λ j. let (e, g) = only-in (p n) n k j in (omega arith, rw e g))
    (in-append k (upto n p) (only (p n) n) i)

pub each-upto : {A : Type 0} (P : A → Type 0) (f : ℕ → A) (n : ℕ) (p : ℕ → Bool)
    → ((k : ℕ) → k < n → p k ≡ true → P (f k)) → Each P (map f (upto n p))
each-upto P f n p h x i =
    let (k, j, e) = in_map f x (upto n p) i in
    let (l, g) = upto-in n p k j in
    subst P (sym e) (h k l g)
