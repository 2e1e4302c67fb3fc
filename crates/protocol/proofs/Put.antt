-- The laws of a choice, of a function with another value at one place, and of a sum over the
-- clients when one client changes.
use mathlib.Core.Bool.{Bool, true, false, cond}
use mathlib.Core.Path.{◌≡◌, refl, sym, ap, subst}
use mathlib.Core.Logic.{◌≢◌}
use Prim.Native.Nat.{ℕ, zero, suc, ◌+◌, ◌≤◌, ◌<◌}
use native.Mathlib.Omega.{arith}
use lib.Dec.{eqb}
use borrow.Author.Tests.{eqb-true, eqb-false, ne_eqb}
use Rattle.basics.proofs.Cases.{by-test, eqb_same}
use Rattle.protocol.specs.Tables.{put}
use Rattle.protocol.specs.Range.{total}

module _ {A : Type 0} where
  -- what holds of each arm, given what the test says, holds of the choice
  pub by_cond : (P : A → Type 0) (b : Bool) (x y : A) → (b ≡ true → P x) → (b ≡ false → P y)
      → P (cond b x y)
  by_cond P true x y p q = p refl
  by_cond P false x y p q = q refl

  pub put_same : (f : ℕ → A) (k : ℕ) (v : A) → put f k v k ≡ v
  put_same f k v = rw (eqb_same k)

  pub put_other : (f : ℕ → A) (k : ℕ) (v : A) (j : ℕ) → j ≢ k → put f k v j ≡ f j
  put_other f k v j n = rw (ne_eqb j k n)

  -- what holds of the value and of the function holds of the new function
  pub put_all : (P : A → Type 0) (f : ℕ → A) (k : ℕ) (v : A) (j : ℕ) → P v → P (f j)
      → P (put f k v j)
  put_all P f k v j p q = by_cond P (eqb j k) v (f j) (λ e. p) (λ e. q)

  -- what holds of the new value at k, and of the others elsewhere, holds everywhere
  pub put-every : (P : ℕ → A → Type 0) (f : ℕ → A) (k : ℕ) (v : A)
      → P k v → ((j : ℕ) → (j ≡ k → ⊥) → P j (f j)) → (j : ℕ) → P j (put f k v j)
  put-every P f k v here there j =
      by-test (eqb j k)
      (λ e. rw e (subst (λ (i : ℕ). P i v) (sym (eqb-true j k e)) here))
      (λ e. rw e (there j (eqb-false j k e)))

  -- ---- total

  total-past : (g : A → ℕ) (f : ℕ → A) (d : ℕ) (c : A) (n : ℕ) → n < d
      → total n (λ e. g (put f d c e)) ≡ total n (λ e. g (f e))
  unfolding total
  total-past g f d c zero l = refl
  total-past g f d c (suc n) l = rw
      (put_other f d c (suc n) (omega arith), total-past g f d c n (omega arith))

  pub total-put : (g : A → ℕ) (f : ℕ → A) (d : ℕ) (c : A) (n : ℕ) → 1 ≤ d → d ≤ n
      → total n (λ e. g (put f d c e)) + g (f d) ≡ total n (λ e. g (f e)) + g c
  unfolding total
  total-put g f d c zero l h = absurd (omega arith)
  total-put g f d c (suc n) l h =
      by-test (eqb (suc n) d)
      (λ e.
      let last : suc n ≡ d = eqb-true (suc n) d e in
      rw e (omega (arith, total-past g f d c n (omega arith), ap (λ (j : ℕ). g (f j)) last)))
      (λ e. rw e (omega (arith, total-put g f d c n l (omega (arith, eqb-false (suc n) d e)))))

pub total-none : (n : ℕ) (f : ℕ → ℕ) → ((d : ℕ) → f d ≡ 0) → total n f ≡ 0
unfolding total
total-none zero f h = refl
total-none (suc n) f h = omega (arith, total-none n f h, h (suc n))
