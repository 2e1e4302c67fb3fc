-- The places that a clearing frees serve the next writes: calls occupy no more than the prepares
-- that join.
use mathlib.Core.Bool.{Bool, cond, ◌||◌}
use mathlib.Core.List.{List, [], ◌∷◌, ◌++◌}
use mathlib.Core.Path.{◌≡◌, refl, sym, ap, ◌∙◌}
use Prim.Native.Nat.{ℕ, ◌+◌, ◌≤◌, ◌<◌}
use native.Mathlib.Omega.{arith}
use lib.ListN.{length}
use borrow.Author.Tests.{eqb-true}
use Rattle.basics.proofs.Cases.{by-test}
use Rattle.basics.specs.Lists.{counted}
use Rattle.basics.proofs.Lists.{counted-append, counted-map}
use Rattle.itemset.specs.Set.{count}
use Rattle.protocol.specs.declared.Answer.TheVariants.{Cleared}
use Rattle.protocol.specs.Tables.{Tables}
use Rattle.protocol.specs.Message.{is_prepare}
use Rattle.protocol.specs.Range.{Capacities, occupied}
use Rattle.protocol.specs.Clear.{cleared, gone}
use Rattle.protocol.specs.Calls.{Call, clear, bad_set, refusal, effect, reply, step}
use Rattle.condition3.specs.World.{World, Labelled, accepts, label_for, labelled, does}
use Rattle.condition3.specs.World.{joining, next, after, joining_over}
use Rattle.condition3.specs.Condition3.{Company, start_with}
use Rattle.condition3.specs.Condition3.Company.{alone, reading}
use Rattle.protocol.proofs.Cleared.{length-cleared}
use Rattle.protocol.proofs.Keeps.{keeps}
use Rattle.protocol.proofs.Refusals.{accepted-clear, refused_full}
use Rattle.condition3.proofs.Link.{Inv}
use Rattle.condition3.proofs.Runs.Run.{after-append, after-inv, next-accepted}

abbrev is_preparing : Labelled → Bool
is_preparing l = is_prepare l.message

-- ---- what calls occupy

module _ (caps : Capacities) where
  prepares-join : (w : World) (c : Call)
      → counted is_preparing (joining w c) ≡ counted is_prepare (does w c).joins
  unfolding joining
  prepares-join w c =
      let l = label_for w (does w c).origin in
      counted-map (labelled l.client l.start l.since) is_preparing (does w c).joins

  occupied-next : (w : World) (c : Call)
      → occupied (next caps w c).tables
      ≤ occupied w.tables + counted is_preparing (cond (accepts caps w c) (joining w c) [])
  unfolding next effect
  occupied-next w c =
      by-test (accepts caps w c)
      (λ e. rw e (omega (
        arith,
        (keeps caps w.tables c (eqb-true (refusal caps w.tables c) 0 e)).occupies,
        prepares-join w c,
      )))
      (λ e. rw e (omega arith))

  occupied-after : (w : World) (cs : List Call)
      → occupied (after caps w cs).tables
      ≤ occupied w.tables + counted is_preparing (joining_over caps w cs)
  unfolding after joining_over
  occupied-after w [] = omega arith
  occupied-after w (c ∷ cs) =
      omega (
        arith,
        occupied-next w c,
        occupied-after (next caps w c) cs,
        counted-append is_preparing (cond (accepts caps w c) (joining w c) [])
            (joining_over caps (next caps w c) cs),
      )

-- ---- a clearing

-- a write, alone or in a mixed transaction, is refused by 9 for want of versions alone
full-with : (caps : Capacities) (t : Tables) (κ : Company) (d s : ℕ) (bytes : List ℕ)
    → refusal caps t (start_with κ d s bytes) ≡ 9 → caps.versions < occupied t + count s
unfolding refusal
full-with caps t alone d s bytes e = refused_full caps t d (bad_set t s) s bytes (count s) e
full-with caps t (reading r) d s bytes e =
    refused_full caps t d (bad_set t r || bad_set t s) s bytes (count r + count s) e

-- as many places are free as went
occupied-cleared : (t : Tables) → occupied (cleared t) + gone t ≡ occupied t
unfolding occupied
occupied-cleared t = omega (arith, length-cleared t)

module _ (caps : Capacities) (w : World) (inv : Inv caps w) (before : List Call) where
  abbrev here : Tables
  here = (after caps w before).tables

  accepted : refusal caps here clear ≡ 0
  accepted = (accepted-clear caps here).1 (after-inv caps w inv before).sound.valid

  answers : (step caps here clear).answer ≡ Cleared (gone here)
  unfolding step reply
  answers = rw accepted refl

  leaves : (after caps w (before ++ clear ∷ [])).tables ≡ cleared here
  unfolding after effect
  leaves =
      ap (λ (v : World). v.tables) (after-append caps w before (clear ∷ [])
      ∙ next-accepted caps (after caps w before) clear accepted)

  pub clears : (n : ℕ) × ((step caps here clear).answer ≡ Cleared n)
      × (length (after caps w (before ++ clear ∷ [])).tables.versions + n
      ≡ length here.versions)
  clears = (gone here, answers, rw leaves (length-cleared here))

  -- further calls are made from the cleared tables
  later : (between : List Call)
      → after caps w (before ++ clear ∷ between)
      ≡ after caps (after caps w (before ++ clear ∷ [])) between
  unfolding after
  later between =
      after-append caps w before (clear ∷ between)
      ∙ ap (λ (v : World). after caps v between) (sym (after-append caps w before (clear ∷ [])))

  pub serves : (κ : Company) (between : List Call) (n d s : ℕ) (bytes : List ℕ)
      → (step caps here clear).answer ≡ Cleared n
      → counted is_preparing (joining_over caps (after caps w (before ++ clear ∷ [])) between)
      + count s ≤ n
      → refusal caps (after caps w (before ++ clear ∷ between)).tables (start_with κ d s bytes) ≡ 9
      → ⊥
  serves κ between n d s bytes e enough full =
      let same : Cleared (gone here) ≡ Cleared n = sym answers ∙ e in
      let went : gone here ≡ n = cc in
      let there = (after caps w (before ++ clear ∷ between)).tables in
      omega (
        arith,
        full-with caps there κ d s bytes full,
        ap (λ (v : World). occupied v.tables) (later between),
        occupied-after caps (after caps w (before ++ clear ∷ [])) between,
        ap occupied leaves,
        occupied-cleared here,
        (after-inv caps w inv before).sound.valid.occupied,
      )
