-- The numbers below a bound, tested one after another: what a loop over them keeps.
use Rattle.std.proofs.Common.{◌≡◌, ℕ, zero, suc, ◌+◌, ◌<◌, ◌≤◌, Bool, true, ◌&&◌, refl, ap, ◌∙◌, zero-le, add-one, arith}
use Rattle.basics.proofs.Cases.{test-ext, and_left, and_right, and_both}
use Rattle.basics.specs.Lists.{every}
use Rattle.basics.proofs.Lists.{every-at, at_every}

-- `ok` is the outcome of the tests of the first k numbers of n
pub record SoFar (n : ℕ) (p : ℕ → Bool) (k : ℕ) (ok : Bool) : Type 0 where
  pub within : k ≤ n
  pub tested : ok ≡ every k p

module _ {n : ℕ} {p : ℕ → Bool} where
  pub tested-none : SoFar n p 0 true
  unfolding every
  tested-none = record { within = zero-le; tested = refl }

  pub tested-next : {k : ℕ} {ok here : Bool} → SoFar n p k ok → k < n → here ≡ p k
      → SoFar n p (k + 1) (ok && here)
  unfolding every
  tested-next {k = k} s l h = record { within = omega arith; tested = rw (add-one k, s.tested, h) }

  pub tested-all : {k : ℕ} {ok : Bool} → SoFar n p k ok → n ≤ k → ok ≡ every n p
  tested-all {k = k} s l = let whole : k ≡ n = omega arith in
      s.tested ∙ ap (λ (m : ℕ). every m p) whole

pub every-same : (n : ℕ) (p q : ℕ → Bool) → ((k : ℕ) → k < n → p k ≡ q k) → every n p ≡ every n q
unfolding every
every-same zero p q h = refl
every-same (suc n) p q h = rw (every-same n p q (λ k l. h k (omega arith)), h n (omega arith))

pub every-both : (n : ℕ) (p q : ℕ → Bool) → (every n p && every n q) ≡ every n (λ k. p k && q k)
every-both n p q =
    test-ext _ _
    (λ e. at_every n _ (λ k l. and_both (p k) (q k) (every-at n p (and_left _ _ e) k l)
    (every-at n q (and_right (every n p) _ e) k l)))
    (λ e. and_both _ _ (at_every n p (λ k l. and_left (p k) (q k) (every-at n _ e k l)))
    (at_every n q (λ k l. and_right (p k) (q k) (every-at n _ e k l))))

-- the first of them apart
from_first : (n : ℕ) (p : ℕ → Bool) → p 0 ≡ true → every n (λ k. p (suc k)) ≡ true → (k : ℕ)
    → k < suc n → p k ≡ true
from_first n p first rest zero l = first
from_first n p first rest (suc k) l = every-at n (λ k. p (suc k)) rest k (omega arith)

pub every_first : (n : ℕ) (p : ℕ → Bool) → every (suc n) p ≡ (p 0 && every n (λ k. p (suc k)))
every_first n p =
    test-ext _ _
    (λ e. and_both (p 0) _ (every-at (suc n) p e 0 (omega arith))
    (at_every n _ (λ k l. every-at (suc n) p e (suc k) (omega arith))))
    (λ e. at_every (suc n) p
    (from_first n p (and_left (p 0) _ e) (and_right (p 0) (every n (λ k. p (suc k))) e)))
