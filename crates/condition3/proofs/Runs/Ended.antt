-- A read that has ended, in any manner, with the stamps that it shows and the calls that it was
-- made among.
use mathlib.Core.Bool.{true}
use mathlib.Core.List.{List, [], ◌∷◌, ◌++◌}
use mathlib.Core.Path.{◌≡◌}
use Prim.Native.Nat.{ℕ, ◌≤◌}
use Rattle.itemset.specs.Set.{has}
use Rattle.protocol.specs.Range.{Capacities}
use Rattle.protocol.specs.Calls.{Call}
use Rattle.protocol.proofs.Refusals.{AcceptedStart}
use Rattle.condition3.specs.World.{World, Labelled, leaving, after}
use Rattle.condition3.specs.Condition3.{Manner, start_of, by_view, came}
use Rattle.condition3.specs.Condition3.Manner.{ordinary, fast, writing}
use Rattle.condition3.proofs.Runs.FastKinds.{Firsts}
use Rattle.condition3.proofs.Runs.ReadStep.{Finished}

-- what holds of all manners
pub by-manner : (P : Manner → Type 0) → P ordinary → P fast
    → ((z : ℕ) (bytes : List ℕ) → P (writing z bytes)) → (μ : Manner) → P μ
by-manner P p q r ordinary = p
by-manner P p q r fast = q
by-manner P p q r (writing z bytes) = r z bytes

-- the kind of the last ended transaction that it leaves, the items written beside it, and its
-- outcome
abbrev pub kind_of : Manner → ℕ
kind_of ordinary = 1
kind_of fast = 3
kind_of (writing z bytes) = 4

abbrev pub beside_of : Manner → ℕ
beside_of ordinary = 0
beside_of fast = 0
beside_of (writing z bytes) = z

abbrev pub outcome_with : Manner → ℕ
outcome_with ordinary = 1
outcome_with fast = 1
outcome_with (writing z bytes) = 2

pub record EndedRead (caps : Capacities) (w : World) (μ : Manner) (d s : ℕ)
    (before during : List Call) (end : Call) : Type 0 where
  pub start : AcceptedStart caps (after caps w before).tables d s
  pub again : ℕ
  pub stamps : ℕ → ℕ
  pub left : List Labelled
  pub done : Finished caps d s (kind_of μ) again (beside_of μ) stamps
      (after caps w (before ++ start_of μ d s ∷ during)) end left
  pub left_all : came caps w (start_of μ d s) before (during ++ end ∷ [])
      ≡ left ++ leaving (after caps w (before ++ start_of μ d s ∷ during)) end
  -- a read by the view shows nothing earlier than the view had it at the start
  pub late : by_view μ ≡ true → (k : ℕ) → has s k ≡ true
      → ((after caps w before).tables.view d k).stamp ≤ stamps k
  -- a fast one has had its first replies, none later than what it shows
  pub firsts : μ ≡ fast
      → Firsts d s stamps (came caps w (start_of μ d s) before (during ++ end ∷ []))
