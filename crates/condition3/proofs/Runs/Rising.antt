-- The numbers of a client's writes rise strictly, in every list of calls: a write raises its
-- client's count to its own number, counts only rise, and each number is above the count.
use mathlib.Core.List.{List, ◌∷◌, ◌++◌}
use mathlib.Core.Path.{◌≡◌, ap, ◌∙◌}
use Prim.Native.Nat.{ℕ, suc, ◌<◌}
use native.Mathlib.Omega.{arith}
use Rattle.protocol.specs.Tables.{Client, number_of}
use Rattle.protocol.specs.Range.{Capacities}
use Rattle.protocol.specs.Steps.{greatest_of, next_stamp}
use Rattle.protocol.specs.Calls.{Call, refusal}
use Rattle.condition3.specs.World.{World, moved, after}
use Rattle.condition3.specs.Condition3.{Company, start_with}
use Rattle.protocol.proofs.Refusals.{AcceptedStart}
use Rattle.condition3.proofs.Runs.Run.{after-count}
use Rattle.condition3.proofs.Runs.ReadCounts.{after-span}
use Rattle.condition3.proofs.Runs.WriteSpan.{WriteBegun, write-begun}

module _ (caps : Capacities) (w : World) (κ : Company) (d s : ℕ) (bytes : List ℕ)
    (before : List Call)
    (a : refusal caps (after caps w before).tables (start_with κ d s bytes) ≡ 0) where
  abbrev at-start : World
  at-start = after caps w before

  begun : WriteBegun caps at-start κ d s bytes
  begun = write-begun caps at-start κ d s bytes a

  -- the count becomes the number
  counted : ((moved at-start (start_with κ d s bytes)).tables.client d).count
      ≡ suc (greatest_of at-start.tables d)
  counted = ap (λ (c : Client). c.count) begun.is_client ∙ begun.count

  -- an accepted write's number is below that of each write that its client starts later
  pub rising : (between : List Call) → number_of (next_stamp at-start.tables d)
      < number_of (next_stamp (after caps w (before ++ start_with κ d s bytes ∷ between)).tables d)
  rising between =
      let start : AcceptedStart caps at-start.tables d s =
      begun.write.start in
      let later : World = after caps w (before ++ start_with κ d s bytes ∷ between) in
      let moves : later ≡ after caps (moved at-start (start_with κ d s bytes)) between =
      after-span caps w before between (start_with κ d s bytes) a in
      let same = ap (λ (v : World). (v.tables.client d).count) moves in
      let rises = after-count caps (moved at-start (start_with κ d s bytes)) between d in
      omega (
        arith,
        counted,
        same,
        rises,
        start.client.1,
        start.valid.in_range.sizes.clients,
      )
