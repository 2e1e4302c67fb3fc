-- A loop that runs a fold on a block and goes from member to member of a set: the fold does nothing
-- at the items between.
use mathlib.Core.Bool.{false}
use mathlib.Core.List.{List}
use mathlib.Core.Path.{◌≡◌, refl, sym, ap, ◌∙◌}
use mathlib.Core.Logic.{⊎_elim}
use Prim.Native.Nat.{ℕ, zero, suc, ◌+◌, ◌-◌, ◌≤◌, ◌<◌, min}
use native.Mathlib.Nat.{eq-or-lt_of_le}
use native.Mathlib.Omega.{arith}
use lib.ListN.{length}
use Rattle.basics.specs.Fold.{up_to}
use Rattle.basics.proofs.Fold.{up_to-suc, turn-first, turn-next}
use Rattle.itemset.specs.Set.{has, least_from}
use Rattle.itemset.proofs.Least.{least-ge, least-none}

-- f does nothing at an item that is no member
abbrev pub Quiet : ℕ → (List ℕ → ℕ → List ℕ) → Type 0
Quiet s f = (x : List ℕ) (k : ℕ) → has s k ≡ false → f x k ≡ x

module _ (s : ℕ) (f : List ℕ → ℕ → List ℕ) (quiet : Quiet s f) where
  -- turns at items that are no members
  between : (a : List ℕ) (j m : ℕ) → j ≤ m → ((i : ℕ) → j ≤ i → i < m → has s i ≡ false)
      → up_to f a j ≡ up_to f a m
  between a j zero l none = ap (up_to f a) (omega arith)
  between a j (suc m) l none =
      ⊎_elim
      (λ e. ap (up_to f a) e)
      (λ g. between a j m (omega arith) (λ i h t. none i h (omega arith))
      ∙ sym (up_to-suc f a m ∙ quiet (up_to f a m) m (none m (omega arith) (omega arith))))
      (eq-or-lt_of_le l)

  -- up to the least member from k on
  leap : (a : List ℕ) (n d k : ℕ) → k ≤ n → up_to f a k ≡ up_to f a (min (least_from d s k) n)
  leap a n d k l =
      between a k (min (least_from d s k) n) (omega (arith, least-ge d s k))
      (λ i g h. least-none d s k i g (omega arith))

-- of n turns those below k, the next member, take a to b
pub record Visits (s : ℕ) (f : List ℕ → ℕ → List ℕ) (n : ℕ) (a b : List ℕ) (k : ℕ) : Type 0 where
  pub done : b ≡ up_to f a (min k n)
  pub long : length b ≡ length a

module _ (s : ℕ) {f : List ℕ → ℕ → List ℕ} (quiet : Quiet s f) {n : ℕ} {a : List ℕ} where
  pub visits-first : {k : ℕ} → k ≡ least_from 64 s 0 → Visits s f n a a k
  visits-first {k} e =
      record { done = turn-first f a ∙ leap s f quiet a n 64 0 (omega arith) ∙ rw e refl; long = refl }

  pub visits-next : {b c : List ℕ} {k next : ℕ} → Visits s f n a b k → k < n → c ≡ f b k
      → length c ≡ length b → next ≡ least_from (64 - (k + 1)) s (k + 1) → Visits s f n a c next
  visits-next {b} {c} {k} {next} v l e long least =
      record {
        done = turn-next f a b c k (v.done ∙ ap (up_to f a) (omega arith)) e
            ∙ leap s f quiet a n (64 - (k + 1)) (k + 1) (omega arith) ∙ rw least refl;
        long = long ∙ v.long;
      }

pub visits-last : {s : ℕ} {f : List ℕ → ℕ → List ℕ} {n : ℕ} {a b : List ℕ} {k : ℕ}
    → Visits s f n a b k → n ≤ k → b ≡ up_to f a n
visits-last {s} {f} {n} {a} {b} {k} v h = v.done ∙ ap (up_to f a) (omega arith)

-- the next member lies above
pub visits-on : (s : ℕ) {k next : ℕ} → next ≡ least_from (64 - (k + 1)) s (k + 1) → k < next
visits-on s {k} {next} e = omega (arith, e, least-ge (64 - (k + 1)) s (k + 1))
