-- The second part of a fast read as a change of the block (document 02, P7): when the last first
-- reply has come.
use Rattle.std.specs.Prelude.{false, cond, ◌&&◌, List, ℕ, eqb, ltb}
use Rattle.basics.specs.Fold.{up_to}
use Rattle.itemset.specs.Set.{has, set_of}
use Rattle.protocol.specs.declared.Entry.{Entry}
use Rattle.protocol.specs.Tables.{initial}
use Rattle.protocol.specs.Steps.{choice}
use Rattle.layout.specs.Layout.{scalars, asked, at, store, mode_at, set_at, awaited_at, item_at}
use Rattle.layout.specs.Layout.{in_second_part}
use Rattle.layout.specs.Decode.{first_in}
use Rattle.start.specs.Start.{send_get}
use Rattle.ends.specs.Ends.{read_ended}

-- the first replies of the items in s, as a view
abbrev pub replies_in : List ℕ → ℕ → ℕ → ℕ → Entry
replies_in b d s k = cond (has s k) (first_in b d k) initial

-- the latest stamp of item k that one of them shows, of n items
abbrev pub shown : List ℕ → ℕ → ℕ → ℕ → ℕ → ℕ
shown b d s n k = choice (replies_in b d s) k n

-- 'lines found older than a sibling shows': those whose first reply is older than these stamps
unfoldable pub older_than : List ℕ → ℕ → ℕ → (ℕ → ℕ) → ℕ → ℕ
older_than b d s stamps n = set_of n (λ k. has s k && ltb (first_in b d k).stamp (stamps k))

-- item k: the stamp asked for
abbrev pub ask_again : ℕ → ℕ → (ℕ → ℕ) → List ℕ → ℕ → List ℕ
ask_again d s stamps b k = cond (has s k) (store b asked (item_at d k) (stamps k)) b

-- they 'are fetched by stamp in a second set of gets, ascending'
unfoldable pub fetched : List ℕ → ℕ → ℕ → ℕ → List ℕ
fetched b items d stale =
    up_to (send_get false d stale)
    (store (store b scalars (mode_at d) in_second_part) scalars (awaited_at d) stale) items

-- with none of them the read ends
unfoldable pub second_begun : List ℕ → ℕ → ℕ → List ℕ
second_begun b items d =
    let s = at b scalars (set_at d) in
    let stamps = shown b d s items in
    let stale = older_than b d s stamps items in
    let asks = up_to (ask_again d s stamps) b items in
    cond (eqb stale 0) (read_ended asks items d) (fetched asks items d stale)
