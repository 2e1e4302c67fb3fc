-- Stamps that are raised: item by item, as a loop through a set's members does it; and that items
-- which have the stamp or a later one already needn't be.
use mathlib.Core.Bool.{true, cond}
use mathlib.Core.List.{List}
use mathlib.Core.Path.{◌≡◌, refl, sym, ◌∙◌}
use Prim.Native.Nat.{ℕ, ◌-◌, ◌^◌, ◌≤◌, ◌<◌, max}
use native.Mathlib.Nat.{max-eq_left}
use native.Mathlib.Omega.{arith}
use lib.Bits.{bit_and, and_le_l}
use lib.Count.{count_trailing_zeros}
use lib.Dec.{eqb}
use lib.ListN.{length, get_or, set, length-set}
use lib.Seq.{ext_get_or, get_or-set_same, get_or-set_other}
use borrow.Author.Tests.{eqb-true, eqb-false}
use Rattle.basics.proofs.Cases.{by-test, not-both}
use Rattle.basics.proofs.Lists.{length-table, table_at}
use Rattle.itemset.specs.Set.{has, remove}
use Rattle.itemset.proofs.Laws.{has-empty, has-remove-same, has-remove-other}
use Rattle.itemset.proofs.Bits.{least-below, least-member, without-least}
use Rattle.layout.specs.Layout.{most_items}
use Rattle.start.specs.Choice.{raised}

pub length-raised : (s stamp : ℕ) (xs : List ℕ) → length (raised s stamp xs) ≡ length xs
unfolding raised
length-raised s stamp xs = length-table (length xs) _

pub raised_at : (s stamp : ℕ) (xs : List ℕ) (j : ℕ) → j < length xs
    → get_or (raised s stamp xs) j 0 ≡ cond (has s j) (max (get_or xs j 0) stamp) (get_or xs j 0)
unfolding raised
raised_at s stamp xs j l = table_at (length xs) _ j 0 l

-- items that have the stamp or a later one already needn't be
pub raised-already : (s stamp : ℕ) (xs : List ℕ)
    → ((j : ℕ) → j < length xs → has s j ≡ true → stamp ≤ get_or xs j 0) → raised s stamp xs ≡ xs
raised-already s stamp xs h =
    ext_get_or 0 _ _ (length-raised s stamp xs)
    (λ j l.
    let g : j < length xs = omega (arith, length-raised s stamp xs) in
    raised_at s stamp xs j g
    ∙ by-test (has s j) (λ e. rw e (max-eq_left (h j g e))) (λ e. rw e))

raised-none : (stamp : ℕ) (xs : List ℕ) → raised 0 stamp xs ≡ xs
raised-none stamp xs = raised-already 0 stamp xs (λ j l e. not-both e (has-empty j))

-- one member's stamp, and then the others'
raised-one : (s stamp : ℕ) (xs : List ℕ) (k : ℕ) → k < length xs → has s k ≡ true
    → raised (remove s k) stamp (set xs k (max (get_or xs k 0) stamp)) ≡ raised s stamp xs
raised-one s stamp xs k l e =
    ext_get_or 0 _ _ (length-raised (remove s k) stamp ys ∙ same ∙ sym (length-raised s stamp xs))
    (λ j h. at_each j (omega (arith, length-raised (remove s k) stamp ys, same)))
  where
    ys : List ℕ
    ys = set xs k (max (get_or xs k 0) stamp)

    same : length ys ≡ length xs
    same = length-set xs k _

    at_each : (j : ℕ) → j < length xs
        → get_or (raised (remove s k) stamp ys) j 0 ≡ get_or (raised s stamp xs) j 0
    at_each j g =
        raised_at (remove s k) stamp ys j (omega (arith, same))
        ∙ by-test (eqb j k)
        (λ t. rw (eqb-true j k t, has-remove-same s k, e) (get_or-set_same xs k _ 0 l))
        (λ f. rw (
          has-remove-other s k j (eqb-false j k f),
          get_or-set_other xs k j (max (get_or xs k 0) stamp) 0 (eqb-false j k f),
        ) refl)
        ∙ sym (raised_at s stamp xs j g)

-- ---- a loop that raises the least member's each time

-- what is left of s, raised in ys, gives what all of s gives in xs
pub record Raising (s stamp : ℕ) (xs : List ℕ) (left : ℕ) (ys : List ℕ) : Type 0 where
  pub fits : left < 2 ^ 64
  pub long : length ys ≡ most_items
  pub same : raised left stamp ys ≡ raised s stamp xs

pub raising-least : {s stamp : ℕ} {xs : List ℕ} {left : ℕ} {ys : List ℕ}
    → Raising s stamp xs left ys → 1 ≤ left → count_trailing_zeros 64 left < most_items
raising-least {left = left} h l = least-below 64 left h.fits l

pub raising-next : {s stamp : ℕ} {xs : List ℕ} {left : ℕ} {ys : List ℕ} (r : ℕ)
    → Raising s stamp xs left ys → 1 ≤ left → r ≡ max (get_or ys (count_trailing_zeros 64 left) 0) stamp
    → Raising s stamp xs (bit_and left (left - 1)) (set ys (count_trailing_zeros 64 left) r)
raising-next {stamp = stamp} {left = left} {ys} r h l e =
    record {
      fits = omega (arith, h.fits, and_le_l left (left - 1));
      long = length-set ys _ r ∙ h.long;
      same =
          rw (without-least 64 left h.fits l, e)
          (raised-one left stamp ys (count_trailing_zeros 64 left)
          (omega (arith, h.long, raising-least h l)) (least-member 64 left h.fits l))
          ∙ h.same;
    }

pub raising-last : {s stamp : ℕ} {xs : List ℕ} {left : ℕ} {ys : List ℕ}
    → Raising s stamp xs left ys → left ≡ 0 → ys ≡ raised s stamp xs
raising-last {stamp = stamp} {ys = ys} h e =
    sym (raised-none stamp ys) ∙ rw e at h.same
