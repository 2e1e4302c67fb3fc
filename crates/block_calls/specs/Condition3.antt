-- Condition 3 about blocks: a list of calls, each handed the block whole as the last one left it,
-- refused or not, from a block long enough on which a fresh start was accepted, or from one that a
-- check accepted. It iterates `answer_on`, `output_on` and `block_after`, the very definitions of the
-- calls' promises.
use Rattle.std.specs.Prelude.{List, [], ◌∷◌, ◌++◌, ◌≡◌, ℕ}
use Rattle.protocol.specs.Tables.{Tables}
use Rattle.protocol.specs.Calls.{Call, check, step}
use Rattle.condition3.specs.World.{World, after}
use Rattle.condition3.specs.Condition3.{Condition3}
use Rattle.condition3.specs.Held.{held, Promised}
use Rattle.protocol.specs.Range.{capacities}
use Rattle.layout.specs.Decode.{tables_of}
use Rattle.layout.specs.Encodes.{Encodes}
use Rattle.block_calls.specs.Calls.{refusal_on, answer_on, output_on, block_after}

-- the block after a list of calls
unfoldable pub blocks_after : List ℕ → List Call → List ℕ
blocks_after b [] = b
blocks_after b (c ∷ cs) = blocks_after (block_after b c) cs

-- the tables of document 01's steps and refusal table, run from the same tables on the calls alone
unfoldable pub ran : Tables → List Call → Tables
ran t [] = t
ran t (c ∷ cs) = ran (step capacities t c).tables cs

-- of a block that holds the tables of world w: freshly made ones and no history (`begin`), or those
-- that a check accepted and what they hold (`held`)
pub record BlockCondition3 (b : List ℕ) (w : World) (calls : List Call) : Type 0 where
  -- 'each call gives the answer, output and tables that document 01's steps and refusal table give'
  pub answers : (before rest : List Call) (c : Call) → calls ≡ before ++ c ∷ rest
      → answer_on (blocks_after b before) c ≡ (step capacities (ran w.tables before) c).answer
  pub outputs : (before rest : List Call) (c : Call) → calls ≡ before ++ c ∷ rest
      → output_on (blocks_after b before) c ≡ (step capacities (ran w.tables before) c).output
  pub tables : (before rest : List Call) → calls ≡ before ++ rest
      → tables_of (blocks_after b before) ≡ ran w.tables before
  -- word by word, with no mention of the decoder
  pub holds : (before rest : List Call) → calls ≡ before ++ rest
      → Encodes (blocks_after b before) (ran w.tables before)
  -- 'every block our own calls make from a fresh start or an accepted block is accepted' (document
  -- 02, P9)
  pub accepted : (before rest : List Call) → calls ≡ before ++ rest
      → refusal_on (blocks_after b before) check ≡ 0
  -- every other clause, of those calls, answers, outputs and tables: those of the protocol's world,
  -- whose tables are the run's
  pub clauses : Condition3 capacities w calls
  pub same_run : (before rest : List Call) → calls ≡ before ++ rest
      → (after capacities w before).tables ≡ ran w.tables before

-- 'If it accepts, all promises from a fresh start hold of reads and writes begun from then on'
-- (document 02, P9), with the block's own writes in the history and what it holds stored delivered
pub record BlockPromised (b : List ℕ) (calls : List Call) : Type 0 where
  pub run : BlockCondition3 b (held (tables_of b)) calls
  pub promised : Promised capacities (tables_of b) calls
