-- What the findings ask of one write, of which the items and the stamp are given.
use Rattle.std.specs.Prelude.{Bool, ◌&&◌, ◌||◌, List, ℕ, eqb, ltb}
use Rattle.itemset.specs.Set.{has}
use Rattle.log_format.specs.Log.{kind_of, reads_own, shown, shown_stamp}
use Rattle.log_format.specs.Some.{some_from}

-- r shows the item, one of those written, with an earlier stamp
unfoldable pub behind_at : List ℕ → ℕ → ℕ → ℕ → ℕ → Bool
behind_at r items wrote stamp item =
    has items item && (has wrote item && ltb (shown_stamp r item) stamp)

-- r shows one of the items written with an earlier stamp
abbrev pub behind_by : List ℕ → ℕ → ℕ → Bool
behind_by r wrote stamp = some_from 64 0 (behind_at r (shown r) wrote stamp)

-- the write is of the item and has the stamp shown, and r shows another of its items with an
-- earlier one
unfoldable pub fractures_by : List ℕ → ℕ → ℕ → ℕ → ℕ → Bool
fractures_by r wrote stamp item seen = eqb stamp seen && (has wrote item && behind_by r wrote stamp)

-- the write counts as the client's own, is of the item and is later than what is shown
unfoldable pub misses_by : ℕ → ℕ → ℕ → ℕ → ℕ → ℕ → Bool
misses_by owners wrote stamp of item seen = has owners of && (has wrote item && ltb seen stamp)

-- the write has the client's read r at fault at the item
unfoldable pub faults_by : List ℕ → ℕ → ℕ → ℕ → ℕ → ℕ → ℕ → Bool
faults_by r owners wrote stamp of item seen =
    fractures_by r wrote stamp item seen
    || (reads_own (kind_of r) && misses_by owners wrote stamp of item seen)
