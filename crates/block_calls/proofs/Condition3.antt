-- Condition 3 about blocks, proved: of every list of calls, each handed the block whole as the last
-- one left it, from any block long enough on which a fresh start was accepted, and from any that a
-- check accepted.
use mathlib.Core.List.{List, [], ◌∷◌, ◌++◌, append_assoc, append-nil}
use mathlib.Core.Path.{◌≡◌, refl, sym, ap, ◌∙◌}
use Prim.Native.Nat.{ℕ}
use Rattle.protocol.specs.Tables.{Sizes, Tables}
use Rattle.protocol.specs.Range.{capacities}
use Rattle.protocol.specs.Calls.{Call, check, refusal, step}
use Rattle.protocol.proofs.Ranges.Tables.{Stamps}
use Rattle.protocol.proofs.Valid.{valid-next, stamps-fresh}
use Rattle.condition3.specs.World.{World, begin, after}
use Rattle.condition3.specs.Condition3.{Condition3}
use Rattle.condition3.specs.Held.{held}
use Rattle.condition3.proofs.Condition3.{condition-3, condition-3-accepted}
use Rattle.condition3.proofs.Sound.Check.{ledger_of}
use Rattle.condition3.proofs.Sound.Checked.{check_sound}
use Rattle.condition3.proofs.Sound.Step.{sound-stamps}
use Rattle.layout.specs.Decode.{tables_of}
use Rattle.block_calls.specs.Calls.{fresh_refusal_on, fresh_after, refusal_on, block_after}
use Rattle.block_calls.specs.Condition3.{blocks_after, ran, BlockCondition3, BlockPromised}
use Rattle.block_calls.proofs.Fresh.{fresh-accepted, fresh_holds}
use Rattle.block_calls.proofs.Holds.{Holds, tables-are, refusal_is, answer-is, output-is}
use Rattle.block_calls.proofs.Holds.{holds_after}
use Rattle.block_calls.proofs.Accepted.{accepted-holds, accepted-tables}

-- ---- from a block that holds tables

pub holds-run : (b : List ℕ) (t : Tables) → Holds b t → Stamps t → (calls : List Call)
    → Holds (blocks_after b calls) (ran t calls)
unfolding blocks_after ran
holds-run b t h stamps [] = h
holds-run b t h stamps (c ∷ cs) =
    holds-run (block_after b c) (step capacities t c).tables (holds_after b t h stamps c)
    (valid-next capacities t c h.is_valid stamps).1 cs

module _ (w : World) (clauses : (calls : List Call) → Condition3 capacities w calls) where
  -- ---- the protocol's run on the calls alone is its world's

  one_more : (before : List Call) (c : Call)
      → (after capacities w (before ++ c ∷ [])).tables ≡ (step capacities
      (after capacities w before).tables c).tables
  one_more before c = (clauses (before ++ c ∷ [])).steps before [] c refl

  run_on : (before cs : List Call)
      → (after capacities w (before ++ cs)).tables ≡ ran (after capacities w before).tables cs
  unfolding ran
  run_on before [] = ap (λ (l : List Call). (after capacities w l).tables) (append-nil before)
  run_on before (c ∷ cs) =
      ap (λ (l : List Call). (after capacities w l).tables) (sym (append_assoc before (c ∷ []) cs))
      ∙ run_on (before ++ c ∷ []) cs ∙ ap (λ (t : Tables). ran t cs) (one_more before c)

  same-run : (cs : List Call) → (after capacities w cs).tables ≡ ran w.tables cs
  unfolding after
  same-run cs = run_on [] cs

  -- ---- and the block's

  block_run : (b : List ℕ) → Holds b w.tables → Stamps w.tables → (calls : List Call)
      → BlockCondition3 b w calls
  block_run b h stamps calls =
      let holds : (before : List Call) → Holds (blocks_after b before) (ran w.tables before) =
      holds-run b w.tables h stamps in
      record {
        answers = λ before rest c s.
            answer-is (blocks_after b before) (ran w.tables before) (holds before) c;
        outputs = λ before rest c s.
            output-is (blocks_after b before) (ran w.tables before) (holds before) c;
        tables = λ before rest s.
            tables-are (blocks_after b before) (ran w.tables before) (holds before);
        holds = λ before rest s. (holds before).encodes;
        accepted = λ before rest s.
            refusal_is (blocks_after b before) (ran w.tables before) (holds before) check
            ∙ ap (λ (t : Tables). refusal capacities t check) (sym (same-run before))
            ∙ (clauses calls).checks before rest s;
        clauses = clauses calls;
        same_run = λ before rest s. same-run before;
      }

-- ---- the theorems

pub block-condition-3 : (b : List ℕ) (z : Sizes) → fresh_refusal_on b z ≡ 0 → (calls : List Call)
    → BlockCondition3 (fresh_after b z) (begin z) calls
block-condition-3 b z e =
    block_run (begin z) (condition-3 capacities z (fresh-accepted b z e).0) (fresh_after b z)
    (fresh_holds b z e) (stamps-fresh z)

pub block-condition-3-accepted : (b : List ℕ) → refusal_on b check ≡ 0 → (calls : List Call)
    → BlockPromised b calls
block-condition-3-accepted b e calls =
    let t = tables_of b in
    let ok = accepted-tables b check e in
    record {
      run = block_run (held t) (λ cs. (condition-3-accepted capacities t ok cs).condition3) b
          (accepted-holds b check e)
          (sound-stamps capacities (ledger_of t) t (check_sound capacities t ok)) calls;
      promised = condition-3-accepted capacities t ok calls;
    }
