-- A write that counts as a client's own is in its view, or a later one of its items: its end puts
-- it there, a hand-over passes it on, and views only grow.
use mathlib.Core.Bool.{true}
use mathlib.Core.List.{List, ◌∷◌, ◌++◌}
use mathlib.Core.Path.{◌≡◌, sym, subst}
use Prim.Native.Nat.{ℕ, ◌≤◌}
use native.Mathlib.Nat.{le_trans}
use Rattle.itemset.specs.Set.{has}
use Rattle.protocol.specs.Range.{Capacities}
use Rattle.protocol.specs.Steps.{next_stamp}
use Rattle.protocol.specs.Calls.{Call, hand_over, refusal, effect}
use Rattle.condition3.specs.World.{World, next, after}
use Rattle.condition3.specs.Condition3.{start_with, Own}
use Rattle.condition3.specs.Condition3.Own.{own, inherited}
use Rattle.protocol.proofs.HandOver.{handed-given}
use Rattle.condition3.proofs.Link.{Inv}
use Rattle.condition3.proofs.Runs.Run.{since-view, next-accepted}
use Rattle.condition3.proofs.Runs.WriteShows.{ended-write}

module _ (caps : Capacities) (w : World) where
  -- what a call leaves in a view is there after a longer list
  since : (before earlier : List Call) (c : Call) (later : List Call)
      → before ≡ earlier ++ c ∷ later → (d k n : ℕ)
      → n ≤ ((next caps (after caps w earlier) c).tables.view d k).stamp
      → n ≤ ((after caps w before).tables.view d k).stamp
  since before earlier c later split d k n h =
      subst (λ (cs : List Call). n ≤ ((after caps w cs).tables.view d k).stamp) (sym split)
      (le_trans h (since-view caps w earlier c later d k))

  -- an accepted hand-over gives the receiver what the giver has seen
  given : (v : World) (giver receiver : ℕ) → refusal caps v.tables (hand_over giver receiver) ≡ 0
      → (k : ℕ)
      → (v.tables.view giver k).stamp
      ≤ ((next caps v (hand_over giver receiver)).tables.view receiver k).stamp
  unfolding effect
  given v giver receiver a k =
      subst (λ (u : World). (v.tables.view giver k).stamp ≤ (u.tables.view receiver k).stamp)
      (sym (next-accepted caps v (hand_over giver receiver) a))
      (handed-given v.tables giver receiver k)

  module _ (inv : Inv caps w) (e v : ℕ) (bytes : List ℕ) (earlier : List Call) where
    pub own-seen : {d : ℕ} {before : List Call} → Own caps w e v bytes earlier d before
        → (k : ℕ) → has v k ≡ true
        → next_stamp (after caps w earlier).tables e ≤ ((after caps w before).tables.view d k).stamp
    own-seen (own κ before meanwhile finish later split ended) k h =
        since before (earlier ++ start_with κ e v bytes ∷ meanwhile) finish later split e k _
        ((ended-write caps w inv κ e v bytes earlier meanwhile finish ended).seen k h)
    own-seen (inherited giver d before above below split accepted o) k h =
        since before above (hand_over giver d) below split d k _
        (le_trans (own-seen o k h) (given (after caps w above) giver d accepted k))
