-- The set of partitions that a set's items lie in is what `touches` says, partition by partition.
use mathlib.Core.Bool.{Bool, ◌&&◌, ◌||◌, or-true, or-false}
use mathlib.Core.Path.{◌≡◌, sym}
use Prim.Native.Nat.{ℕ, zero, suc, ◌%◌, ◌≤◌}
use native.Mathlib.Nat.{mod-lt}
use native.Mathlib.Omega.{arith}
use lib.Dec.{eqb}
use borrow.Author.Tests.{eqb-true, eqb-false, eq-eqb, ne_eqb}
use Rattle.basics.proofs.Cases.{by-test}
use Rattle.basics.specs.Fold.{up_to}
use Rattle.itemset.specs.Set.{has}
use Rattle.itemset.proofs.Laws.{has-empty, has-insert, insert64-lt}
use Rattle.protocol.specs.Tables.{Tables}
use Rattle.protocol.specs.Steps.{touches}
use Rattle.ends.specs.Ends.{touch_item, touched}

either_order : (a : Bool) (x y : ℕ) → (eqb y x || a) ≡ (a || eqb x y)
either_order a x y =
    by-test (eqb x y)
    (λ e. rw (e, eq-eqb y x (sym (eqb-true x y e))) (sym (or-true a)))
    (λ e. rw (e, ne_eqb y x (λ z. eqb-false x y e (sym z))) (sym (or-false a)))

module _ (t : Tables) (some : 1 ≤ t.sizes.partitions) (few : t.sizes.partitions ≤ 8)
    (s : ℕ) where
  -- one item more
  one : (ps n p : ℕ) (a : Bool) → has ps p ≡ a
      → has (touch_item t.sizes.partitions s ps n) p
      ≡ (a || (has s n && eqb (n % t.sizes.partitions) p))
  one ps n p a e =
      by-test (has s n)
      (λ h.
      rw (
        h,
        insert64-lt ps (n % t.sizes.partitions) (omega (arith, mod-lt n some)),
        has-insert ps
            (n % t.sizes.partitions) p,
        e,
      )
      (either_order a (n % t.sizes.partitions) p))
      (λ h. rw (h, e) (sym (or-false a)))

  pub has-touched : (n p : ℕ) → has (touched t.sizes.partitions s n) p ≡ touches t s p n
  unfolding touched up_to touches
  has-touched zero p = has-empty p
  has-touched (suc n) p = one (up_to (touch_item t.sizes.partitions s) 0 n) n p (touches t s p n)
      (has-touched n p)
