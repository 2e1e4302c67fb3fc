-- A write of no items sends no commit.
use mathlib.Core.Bool.{Bool, false}
use mathlib.Core.List.{[], map}
use mathlib.Core.Path.{◌≡◌, refl, ap}
use Prim.Native.Nat.{ℕ, zero, suc}
use Rattle.itemset.specs.Set.{upto}
use Rattle.itemset.proofs.Laws.{has-empty}
use Rattle.protocol.specs.declared.Message.TheVariants.{Commit}
use Rattle.protocol.specs.Tables.{Tables}
use Rattle.protocol.specs.Steps.{commits, touches}

-- no item touches no partition
touches_none : (t : Tables) (p n : ℕ) → touches t 0 p n ≡ false
unfolding touches
touches_none t p zero = refl
touches_none t p (suc n) = rw (touches_none t p n, has-empty n) refl

upto-empty : (n : ℕ) (p : ℕ → Bool) → ((k : ℕ) → p k ≡ false) → upto n p ≡ []
unfolding upto
upto-empty zero p h = refl
upto-empty (suc n) p h = rw (upto-empty n p h, h n) refl

pub no-commits : (t : Tables) (stamp : ℕ) → commits t 0 stamp ≡ []
no-commits t stamp =
    ap (map (λ p. Commit p stamp))
    (upto-empty t.sizes.partitions (λ p. touches t 0 p t.sizes.items)
    (λ p. touches_none t p t.sizes.items))
