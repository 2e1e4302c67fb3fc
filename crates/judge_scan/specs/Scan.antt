-- What scanning a log line by line keeps: the lines taken lie in the bytes, cut at the starts.
use Rattle.std.specs.Prelude.{true, false, List, [], ◌∷◌, ◌++◌, ◌≡◌, ℕ, suc, ◌+◌, ◌-◌, ◌*◌, ◌≤◌, ◌<◌, eqb, length, get_or, take, drop}
use Rattle.std.specs.Prelude.{Option, Some, None, Result, Ok, Err}
use Rattle.basics.specs.Lists.{counted}
use Rattle.hexadecimal.specs.Line.{line_length, line_end}
use Rattle.judge_frames.specs.Cut.{frames_in}
use Rattle.log_format.specs.Log.{first_line, frames_of, malformed_at, frame_of, malformed}
use Rattle.log_format.specs.Some.{first_from}
use Rattle.judge_scan.specs.declared.BadLine.{BadLine}

-- the line of the log that begins at `at`, with its 0a
abbrev pub line_at : List ℕ → ℕ → List ℕ
line_at log at = take (suc (line_length (drop at log))) (drop at log)

-- the first i starts ascend to the i-th
abbrev pub Ascending : List ℕ → ℕ → Type 0
Ascending starts i = (j : ℕ) → j ≤ i → get_or starts j 0 ≤ get_or starts i 0

-- none of the frames is malformed
abbrev pub Well : List (List ℕ) → Type 0
Well frames = (k : ℕ) → k < length frames → malformed_at frames k ≡ false

-- there is room for line i, which begins at `at`
pub record Room (log : List ℕ) (at : ℕ) (bytes starts : List ℕ) (i : ℕ) : Type 0 where
  pub short : length log ≤ 32768
  pub here : at < length log
  pub bytes-long : length bytes ≡ 16384
  pub starts-long : length starts ≡ 258
  pub few : i ≤ 256
  pub behind : 2 * get_or starts i 0 ≤ at
  pub ascending : Ascending starts i
  pub well : Well (frames_in bytes starts i)

-- line i was taken: its frame joins those before
pub record Step (log : List ℕ) (at i : ℕ) (bytes starts bytes' starts' : List ℕ)
    (next : ℕ) : Type 0 where
  pub well : malformed (frames_in bytes starts i) (frame_of (line_at log at)) ≡ false
  pub ended : line_end log at < length log
  pub after : next ≡ line_end log at + 1
  pub joins : frames_in bytes' starts' (i + 1) ≡ frames_in bytes starts i ++ frame_of (line_at log at)
      ∷ []
  pub bytes-long : length bytes' ≡ 16384
  pub starts-long : length starts' ≡ 258
  pub behind : 2 * get_or starts' (i + 1) 0 ≤ next
  pub ascending : Ascending starts' (i + 1)

-- what taking line i tells
abbrev pub TakenOf : List ℕ → ℕ → ℕ → List ℕ → List ℕ → List ℕ → List ℕ → Option ℕ → Type 0
TakenOf log at i bytes starts bytes' starts' (Some next) =
    Step log at i bytes starts bytes' starts' next
TakenOf log at i bytes starts bytes' starts' None =
    malformed (frames_in bytes starts i) (frame_of (line_at log at)) ≡ true

-- the first i lines were taken, and the next begins at `at`
pub record Scanning (log : List ℕ) (at : ℕ) (bytes starts : List ℕ) (i : ℕ) : Type 0 where
  pub short : length log ≤ 32768
  pub inside : at ≤ length log
  pub bytes-long : length bytes ≡ 16384
  pub starts-long : length starts ≡ 258
  pub ends : i + counted (λ c. eqb c 0x0a) (drop at log) ≤ 256
  pub behind : 2 * get_or starts i 0 ≤ at
  pub ascending : Ascending starts i
  pub count : i ≤ length (frames_of log)
  pub rest : frames_of (drop at log) ≡ drop i (frames_of log)
  pub taken : frames_in bytes starts i ≡ take i (frames_of log)
  pub first : first_from (length (frames_of log) - i) i
      (malformed_at (frames_of log)) ≡ first_line malformed_at (frames_of log)

-- what scanning answers: how many lines there are, all of them well-formed; or the first malformed
-- line, counted from 0
abbrev pub ScannedOf : List ℕ → List ℕ → List ℕ → Result ℕ BadLine → Type 0
ScannedOf log bytes starts (Ok n) =
    (frames_in bytes starts n ≡ frames_of log) × (first_line malformed_at (frames_of log) ≡ n)
    × (n ≡ length (frames_of log)) × (n ≤ 256)
ScannedOf log bytes starts (Err bad) =
    (first_line malformed_at (frames_of log) ≡ bad.line) × (bad.line < length (frames_of log))
    × (bad.line ≤ 256)
