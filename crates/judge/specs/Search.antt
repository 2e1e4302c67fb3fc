-- What the search is given, and what it asks of a read: at an item by the gathered writes, and a
-- finding as the search for the lowest one asks for it.
use Rattle.std.specs.Prelude.{Bool, cond, not, ◌&&◌, ◌||◌, List, ℕ, ◌≤◌, eqb, get_or, Option, Some, None}
use Rattle.itemset.specs.Set.{has}
use Rattle.findings.specs.Findings.{unwritten, fractured, own_write_missed, wrote}
use Rattle.judge_frames.specs.Cut.{frame_in}
use Rattle.judge_findings.specs.Owned.{AllSmall}
use Rattle.judge_findings.specs.Tests.{faults_by}
use Rattle.judge_findings.specs.Writes.{line_of, stamp_of, items_of, Gathered}
use Rattle.log_format.specs.Log.{client_of, shown, shown_stamp, shown_value}
use Rattle.log_format.specs.Some.{some_from}
use Rattle.judge.specs.declared.search.Finding.{Finding}
use Rattle.judge.specs.declared.search.Finding.TheVariants.{Unwritten, Fractured, Missed}

-- n lines, of which m write
pub record Table (bytes starts : List ℕ) (n : ℕ) (writes : List ℕ) (m : ℕ) : Type 0 where
  pub few : n ≤ 256
  pub small : AllSmall bytes starts n
  pub gathered : Gathered bytes starts n writes m

-- ---- a read, by the first m writes of a table and the owners of their lines

-- some write has the client's read r at fault at the item
abbrev pub faulted : List ℕ → ℕ → List ℕ → List ℕ → ℕ → ℕ → ℕ → Bool
faulted writes m owners r of item seen =
    some_from m 0 (λ w. faults_by r (get_or owners (line_of writes w) 0) (items_of writes w)
    (stamp_of writes w) of item seen)

-- r shows the item and is at fault there
unfoldable pub item_faulted : List ℕ → List ℕ → List ℕ → ℕ → List ℕ → List ℕ → ℕ → Bool
item_faulted bytes starts writes m owners r item =
    let stamp = shown_stamp r item in
    has (shown r) item && (cond (eqb stamp 0) (not (eqb (shown_value r item) 0))
    (not (some_from m 0 (λ w. wrote item stamp (shown_value r item)
    (frame_in bytes starts (line_of writes w)))))
    || faulted writes m owners r (client_of r) item stamp)

-- ---- the findings

abbrev pub finding_of : Finding → List (List ℕ) → ℕ → ℕ → Bool
finding_of Unwritten = unwritten
finding_of Fractured = fractured
finding_of Missed = own_write_missed

-- a finding's number; 0 where there is none
abbrev pub numbered : Option Finding → ℕ
numbered None = 0
numbered (Some Unwritten) = 1
numbered (Some Fractured) = 2
numbered (Some Missed) = 3
