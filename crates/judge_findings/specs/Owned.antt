-- A table with the clients as whose own each line's write counts: as it stands at a line, and from
-- line to line.
use Rattle.std.specs.Prelude.{true, cond, List, ◌≡◌, ℕ, ◌≤◌, ◌<◌, eqb, ltb, length, get_or}
use Rattle.itemset.specs.Set.{insert}
use Rattle.judge_frames.specs.Cut.{frame_in, frames_in}
use Rattle.log_format.specs.Log.{kind_of, client_of, hands_over, receiver_of}
use Rattle.findings.specs.Findings.{with_heir, owners}

-- a frame's client, and the receiver of a hand-over, fit a set of 64 bits
pub record SmallClients (f : List ℕ) : Type 0 where
  pub client : client_of f < 64
  pub receiver : hands_over (kind_of f) ≡ true → receiver_of f < 64

-- those of the first n frames
abbrev pub AllSmall : List ℕ → List ℕ → ℕ → Type 0
AllSmall bytes starts n = (j : ℕ) → j < n → SmallClients (frame_in bytes starts j)

-- the table from line `line`, which is frame f, to the next
pub record Passed (table : List ℕ) (line : ℕ) (f after : List ℕ) : Type 0 where
  pub long : length after ≡ length table
  pub words : (j : ℕ) → get_or after j 0
      ≡ cond (eqb j line) (insert 0 (client_of f))
      (cond (ltb j line) (with_heir (get_or table j 0) f) (get_or table j 0))

-- the table at line i
pub record Owned (bytes starts : List ℕ) (n i : ℕ) (table : List ℕ) : Type 0 where
  pub long : n ≤ length table
  pub held : (j : ℕ) → j < n → get_or table j 0 ≡ owners (frames_in bytes starts n) j i
