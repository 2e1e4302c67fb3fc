-- What is told of a message from the words of the block: before it is delivered the refusal, or
-- the stored version that answers a get, and after it the outcome.
use Rattle.std.specs.Prelude.{Option, Some, None, Result, Ok, Err, Bool, cond, not, ◌&&◌, ◌||◌}
use Rattle.std.specs.Prelude.{List, ℕ, ◌≤◌, ◌<◌, eqb, unwrap_or}
use Rattle.basics.specs.Lists.{table}
use Rattle.itemset.specs.Set.{has}
use Rattle.protocol.specs.declared.Version.{Version}
use Rattle.protocol.specs.declared.Message.{Message}
use Rattle.protocol.specs.declared.Message.TheVariants.{Prepare, Prepared, Commit, Get, Got}
use Rattle.protocol.specs.declared.Message.TheVariants.{FirstGet, FirstReply}
use Rattle.protocol.specs.Tables.{writer_of}
use Rattle.protocol.specs.Message.{item_of, owner_of}
use Rattle.protocol.specs.Steps.{version, stored, found}
use Rattle.layout.specs.Layout.{scalars, asked, at, mode_at, awaited_at, stamp_at, last_kind_at}
use Rattle.layout.specs.Layout.{write_awaited_at, item_at, idle, reading, writing, in_first_part}
use Rattle.layout.specs.Layout.{in_second_part, mixing, is_mixed_mode, is_mixed_kind}
use Rattle.layout.specs.Decode.{latest_in, version_in}
use Rattle.protocol.specs.declared.refusal.Refusal.{Refusal}
use Rattle.protocol.specs.declared.refusal.Refusal.TheVariants.{Unexpected, Missing}

-- the stored version that answers a get; of the initial one, and of any other message, none
abbrev pub Tested : Type 0
Tested = Result (Option Version) Refusal

-- of a message that is no get
abbrev pub none : Version
none = version 0 0 0 0

-- the version that answers a message where no stored one is told: of a get the initial one
abbrev pub unstored : List ℕ → Message → Version
unstored b (Prepare v) = none
unstored b (Prepared k stamp) = none
unstored b (Commit p stamp) = none
unstored b (Get d k stamp) = version k 0 stamp 0
unstored b (Got d v latest) = none
unstored b (FirstGet d k) = version k 0 (latest_in b k).stamp 0
unstored b (FirstReply d v latest) = none

-- the version that answers a message, by what is told of it
abbrev pub answer_in : Version → Tested → Version
answer_in v (Ok found) = unwrap_or found v
answer_in v (Err r) = v

-- 11 unless it is awaited
abbrev pub told : Bool → Tested
told awaited = cond awaited (Ok None) (Err Unexpected)

-- a message's client and item have words in a block
abbrev pub Bounded : Message → Type 0
Bounded m = (1 ≤ owner_of m) × (owner_of m ≤ 8) × (item_of m < 64)

-- a reply for item k to client d, right in mode and stamp or not
abbrev pub reply_tested : List ℕ → ℕ → ℕ → Bool → Tested
reply_tested b d k right = told (has (at b scalars (awaited_at d)) k && right)

-- a get of item k with this stamp, of the first n stored versions: 12 unless it is stored, or the
-- initial one
abbrev pub get_tested : List ℕ → ℕ → ℕ → ℕ → Tested
get_tested b n k stamp =
    let vs = table n (version_in b) in
    cond (stored vs k stamp) (Ok (Some (found vs k stamp)))
    (cond (eqb stamp 0) (Ok None) (Err Missing))

-- the items whose prepared reply client d awaits: a mixed transaction has a word of its own for
-- them
abbrev pub prepared_awaited : List ℕ → ℕ → ℕ
prepared_awaited b d =
    cond (is_mixed_mode (at b scalars (mode_at d))) (at b scalars (write_awaited_at d))
    (at b scalars (awaited_at d))

-- a prepared reply of this stamp, to its client, which writes, or is in a mixed transaction
abbrev pub right_prepared : List ℕ → ℕ → Bool
right_prepared b stamp =
    let d = writer_of stamp in
    let mode = at b scalars (mode_at d) in
    (eqb mode writing || eqb mode mixing) && eqb (at b scalars (stamp_at d)) stamp

abbrev pub prepared_tested : List ℕ → ℕ → ℕ → Tested
prepared_tested b k stamp =
    told (has (prepared_awaited b (writer_of stamp)) k && right_prepared b stamp)

-- a got of this stamp, to client d, which reads, is in the second part of a fast read or in a mixed
-- transaction
abbrev pub right_got : List ℕ → ℕ → ℕ → ℕ → Bool
right_got b d k stamp =
    let mode = at b scalars (mode_at d) in
    (eqb mode reading || eqb mode in_second_part || eqb mode mixing)
    && eqb (at b asked (item_at d k)) stamp

-- a first reply is awaited in the first part of a fast read
unfoldable pub tested_in : List ℕ → ℕ → Message → Tested
tested_in b n (Prepare v) = told (not (stored (table n (version_in b)) v.item v.stamp))
tested_in b n (Prepared k stamp) = prepared_tested b k stamp
tested_in b n (Commit p stamp) = Ok None
tested_in b n (Get d k stamp) = get_tested b n k stamp
tested_in b n (Got d v latest) = reply_tested b d v.item (right_got b d v.item v.stamp)
tested_in b n (FirstGet d k) = get_tested b n k (latest_in b k).stamp
tested_in b n (FirstReply d v latest) =
    reply_tested b d v.item (eqb (at b scalars (mode_at d)) in_first_part)

-- ---- the outcome, from the block after the delivery: the client of a reply is idle with the last
-- one

abbrev pub over : List ℕ → ℕ → ℕ → ℕ
over b d outcome = cond (eqb (at b scalars (mode_at d)) idle) outcome 0

-- with a got, of a read or of a mixed transaction
abbrev pub got_outcome : List ℕ → ℕ → ℕ
got_outcome b d = cond (is_mixed_kind (at b scalars (last_kind_at d))) 2 1

unfoldable pub outcome_in : List ℕ → Message → ℕ
outcome_in b (Prepare v) = 0
outcome_in b (Prepared k stamp) = over b (writer_of stamp) 2
outcome_in b (Commit p stamp) = 0
outcome_in b (Get d k stamp) = 0
outcome_in b (Got d v latest) = over b d (got_outcome b d)
outcome_in b (FirstGet d k) = 0
outcome_in b (FirstReply d v latest) = over b d 1
