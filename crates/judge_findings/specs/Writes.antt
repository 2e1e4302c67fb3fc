-- A table of the lines that write: of each three words, its place in the log, its stamp and its
-- items.
use Rattle.std.specs.Prelude.{List, ◌≡◌, ℕ, ◌+◌, ◌*◌, ◌≤◌, ◌<◌, length, get_or}
use Rattle.judge_frames.specs.Cut.{frame_in}
use Rattle.log_format.specs.Log.{written, written_stamp}

-- ---- write w

abbrev pub line_of : List ℕ → ℕ → ℕ
line_of table w = get_or table (3 * w) 0

abbrev pub stamp_of : List ℕ → ℕ → ℕ
stamp_of table w = get_or table (3 * w + 1) 0

abbrev pub items_of : List ℕ → ℕ → ℕ
items_of table w = get_or table (3 * w + 2) 0

-- it is as its line has it
pub record Entry (bytes starts table : List ℕ) (w : ℕ) : Type 0 where
  pub low : line_of table w < 256
  pub stamp : stamp_of table w ≡ written_stamp (frame_in bytes starts (line_of table w))
  pub items : items_of table w ≡ written (frame_in bytes starts (line_of table w))

-- ---- the first m

pub record Entries (bytes starts table : List ℕ) (m : ℕ) : Type 0 where
  pub long : 3 * m ≤ length table
  pub entry : (w : ℕ) → w < m → Entry bytes starts table w

-- they lie within the first n lines
abbrev pub Within : List ℕ → ℕ → ℕ → Type 0
Within table m n = (w : ℕ) → w < m → line_of table w < n

-- line j is one of them
pub record Listed (table : List ℕ) (m j : ℕ) : Type 0 where
  pub place : ℕ
  pub inside : place < m
  pub line : line_of table place ≡ j

-- they are those of the first n lines that write
pub record Gathered (bytes starts : List ℕ) (n : ℕ) (table : List ℕ) (m : ℕ) : Type 0 where
  pub entries : Entries bytes starts table m
  pub few : m ≤ n
  pub within : Within table m n
  pub all : (j : ℕ) → j < n → (written (frame_in bytes starts j) ≡ 0 → ⊥) → Listed table m j
