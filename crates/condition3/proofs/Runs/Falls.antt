-- Two reads of one item by one client, the second, by its view, started after the first was shown:
-- what the first showed has been in the view since its end, the view only grows, and the second
-- asks for no earlier stamp than the view has.
use mathlib.Core.Bool.{true}
use mathlib.Core.List.{List, [], ◌∷◌, ◌++◌}
use mathlib.Core.Path.{◌≡◌, sym, subst}
use Prim.Native.Nat.{ℕ, ◌≤◌, ◌<◌}
use native.Mathlib.Nat.{le_trans}
use native.Mathlib.Omega.{arith}
use lib.ListN.{length}
use Rattle.itemset.specs.Set.{has}
use Rattle.protocol.specs.Range.{Capacities}
use Rattle.protocol.specs.Calls.{Call, show}
use Rattle.condition3.specs.World.{World, after, rests}
use Rattle.condition3.specs.Condition3.{Manner, start_of, length_of, by_view, Falls}
use Rattle.condition3.specs.Condition3.{output_of_read}
use Rattle.condition3.proofs.Link.{Inv}
use Rattle.condition3.proofs.Runs.Run.{longer-view}
use Rattle.condition3.proofs.Runs.Ended.{EndedRead}
use Rattle.condition3.proofs.Runs.ReadShows.{parts-less, number-shown, writer-shown}
use Rattle.condition3.proofs.Runs.ReadShows.{shown-seen}

-- the first read, by client d of s, and the second, of s'
module _ (caps : Capacities) (w : World) (inv : Inv caps w) (μ : Manner) (d s : ℕ)
    (before during : List Call) (end : Call) (r : EndedRead caps w μ d s before during end)
    (until : List Call) (room : List ℕ)
    (quietly : rests caps (after caps w (before ++ start_of μ d s ∷ during ++ end ∷ [])) d until
    ≡ true)
    (enough : length_of μ s ≤ length room)
    (μ' : Manner) (viewed : by_view μ' ≡ true) (s' : ℕ) (between before' during' : List Call)
    (end' : Call)
    (r' : EndedRead caps w μ' d s' before' during' end')
    (until' : List Call) (room' : List ℕ)
    (split : before' ≡ before ++ start_of μ d s ∷ during ++ end ∷ until ++ show d room ∷ between)
    (quietly' : rests caps (after caps w (before' ++ start_of μ' d s' ∷ during' ++ end' ∷ [])) d
    until' ≡ true)
    (enough' : length_of μ' s' ≤ length room') where
  abbrev stamps : ℕ → ℕ
  stamps = r.stamps

  abbrev stamps' : ℕ → ℕ
  stamps' = r'.stamps

  not_earlier : (k : ℕ) → has s k ≡ true → has s' k ≡ true → stamps k ≤ stamps' k
  not_earlier k m m' =
      le_trans (subst (λ (cs : List Call). stamps k ≤ ((after caps w cs).tables.view d k).stamp)
      (sym split)
      (le_trans (shown-seen caps w inv μ d s before during end r until [] room quietly enough k m)
      (longer-view caps w (before ++ start_of μ d s ∷ during ++ end ∷ until) (show d room ∷ between)
      d k)))
      (r'.late viewed k m')

  pub never-falls : (k : ℕ) → has s k ≡ true → has s' k ≡ true
      → Falls s (output_of_read caps w μ d s before during end until room) s'
      (output_of_read caps w μ' d s' before' during' end' until' room') k → ⊥
  never-falls k m m' falls =
      let less : stamps' k < stamps k = parts-less (stamps' k) (stamps k)
      (rw (
        ← number-shown caps w inv μ d s before during end r until [] room quietly enough k m,
        ← writer-shown caps w inv μ d s before during end r until [] room quietly enough k m,
        ← number-shown caps w inv μ' d s' before' during' end' r' until' [] room' quietly'
            enough' k m',
        ← writer-shown caps w inv μ' d s' before' during' end' r' until' [] room' quietly'
            enough' k m',
      ) falls) in
      omega (arith, not_earlier k m m')
