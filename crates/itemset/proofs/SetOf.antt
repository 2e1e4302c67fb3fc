-- The set of the numbers below a bound that pass a test holds just those.
use mathlib.Core.Bool.{Bool, ◌&&◌}
use mathlib.Core.Path.{◌≡◌, refl, sym, ap, ◌∙◌, subst}
use Prim.Native.Nat.{ℕ, zero, suc, ◌^◌, ◌<◌}
use native.Mathlib.Omega.{arith}
use lib.Dec.{eqb, ltb}
use borrow.Author.Tests.{eqb-true, eqb-false, ltb-true, ltb-false, lt-ltb, le-ltb}
use Rattle.basics.proofs.Cases.{by-test}
use Rattle.itemset.specs.Set.{has, set_of}
use Rattle.itemset.proofs.Laws.{has-empty, has_above, has-insert-same, has-insert-other}
use Rattle.itemset.proofs.Laws.{insert-below, below-le}

pub set_of-below : (n : ℕ) (p : ℕ → Bool) → set_of n p < 2 ^ n
unfolding set_of
set_of-below zero p = omega arith
set_of-below (suc n) p =
    let rest = set_of n p in
    let more : rest < 2 ^ suc n = below-le rest n (suc n) (set_of-below n p) (omega arith) in
    by-test (p n) (λ e. rw e (insert-below rest n (suc n) more (omega arith))) (λ e. rw e more)

pub has-set_of : (n : ℕ) (p : ℕ → Bool) (j : ℕ) → has (set_of n p) j ≡ (ltb j n && p j)
unfolding set_of
has-set_of zero p j = has-empty j ∙ sym (rw (le-ltb j 0 (omega arith)) refl)
has-set_of (suc n) p j =
    by-test (eqb j n)
    (λ e. subst (λ (i : ℕ). has (set_of (suc n) p) i ≡ (ltb i (suc n) && p i))
    (sym (eqb-true j n e)) here)
    (λ e. there (eqb-false j n e) ∙ has-set_of n p j
    ∙ ap (λ (b : Bool). b && p j) (bound (eqb-false j n e)))
  where
    here : has (set_of (suc n) p) n ≡ (ltb n (suc n) && p n)
    here = by-test (p n)
        (λ e. rw (e, lt-ltb n (suc n) (omega arith)) (has-insert-same (set_of n p) n))
        (λ e. rw (e, lt-ltb n (suc n) (omega arith))
        (has_above (set_of n p) n n (set_of-below n p) (omega arith)))

    there : (j ≡ n → ⊥) → has (set_of (suc n) p) j ≡ has (set_of n p) j
    there other = by-test (p n) (λ e. rw e (has-insert-other (set_of n p) n j other))
        (λ e. rw e refl)

    bound : (j ≡ n → ⊥) → ltb j n ≡ ltb j (suc n)
    bound other = by-test (ltb j n)
        (λ e. e ∙ sym (lt-ltb j (suc n) (omega (arith, ltb-true j n e))))
        (λ e. e ∙ sym (le-ltb j (suc n) (omega (arith, ltb-false j n e, other))))
