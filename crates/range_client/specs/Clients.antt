-- The test of a client, part by part, as `range_client` goes through it.
use Rattle.std.specs.Prelude.{Bool, cond, not, ◌&&◌, ◌||◌, List, ℕ, eqb, ltb}
use Rattle.std.specs.Bool.{beq}
use Rattle.std.specs.Int.Bits.{bit_and}
use Rattle.basics.specs.Lists.{every}
use Rattle.itemset.specs.Set.{all_below}
use Rattle.protocol.specs.Tables.{is_kind, shows_read, shows_write}
use Rattle.protocol.specs.Range.{fits, each, stamp_in_range, entry_in_range, has_first}
use Rattle.protocol.specs.Range.{read_part_in_range, write_part_in_range, ended_in_range, client_in_range}
use Rattle.layout.specs.Layout.{at, scalars, asked, values, mode_at, count_at, set_at, stamp_at}
use Rattle.layout.specs.Layout.{awaited_at, last_kind_at, write_set_at, write_awaited_at, item_at, modes}
use Rattle.layout.specs.Layout.{idle, is_write_mode, is_mixed_mode}
use Rattle.layout.specs.Decode.{first_in, read_in, last_read_in, last_write_in, client_in, awaits_none}
use Rattle.layout.specs.Decode.{mode_fits}
use Rattle.gather.specs.Sized.{sized}

-- idle exactly when nothing is awaited
abbrev pub rest_test : List ℕ → ℕ → Bool
rest_test b d = beq (eqb (at b scalars (mode_at d)) idle) (awaits_none b d)

-- mode, count, set and awaited items; one mask tests that these lie in the set
abbrev pub state_test : List ℕ → ℕ → ℕ → Bool
state_test b d items =
    let mode = at b scalars (mode_at d) in
    let s = at b scalars (set_at d) in
    let awaited = at b scalars (awaited_at d) in
    ltb mode modes && fits (at b scalars (count_at d)) && all_below s items && all_below awaited items
    && eqb (bit_and awaited s) awaited && rest_test b d

-- the values of the items under way
abbrev pub values_test : List ℕ → ℕ → ℕ → Bool
values_test b d items = each (sized 0 items) (at b scalars (set_at d))
    (λ k. fits (at b values (item_at d k)))

-- a stamp asked for each item read
abbrev pub stamps_test : List ℕ → ℕ → ℕ → ℕ → Bool
stamps_test b d clients items = each (sized clients items) (at b scalars (set_at d))
    (λ k. stamp_in_range (sized clients items) (at b asked (item_at d k)))

-- the first replies that have come, of the words as a read part's
unfoldable pub firsts_test : List ℕ → ℕ → ℕ → ℕ → Bool
firsts_test b d clients items =
    every items (λ k. not (has_first (read_in b d) k)
    || entry_in_range (sized clients items) (first_in b d k))

-- of a transaction under way that only reads: a stamp for each item, the values and the first
-- replies
unfoldable pub asked_test : List ℕ → ℕ → ℕ → ℕ → Bool
asked_test b d clients items =
    stamps_test b d clients items && values_test b d items && firsts_test b d clients items

-- of a mixed one: both parts, a stamp for each item read, and the sets and the one stamp of its
-- write part; its values, the halves of words, are in range whatever the words
unfoldable pub mixed_test : List ℕ → ℕ → ℕ → ℕ → Bool
mixed_test b d clients items =
    let s = at b scalars (write_set_at d) in
    let awaited = at b scalars (write_awaited_at d) in
    not (eqb (at b scalars (set_at d)) 0) && not (eqb s 0) && stamps_test b d clients items
    && all_below s items && all_below awaited items && eqb (bit_and awaited s) awaited
    && stamp_in_range (sized clients items) (at b scalars (stamp_at d))

-- the transaction under way: of a write its one stamp and the values, of any other as above
unfoldable pub running_test : List ℕ → ℕ → ℕ → ℕ → Bool
running_test b d clients items =
    let mode = at b scalars (mode_at d) in
    cond (is_write_mode mode)
    (stamp_in_range (sized clients items) (at b scalars (stamp_at d)) && values_test b d items)
    (cond (is_mixed_mode mode) (mixed_test b d clients items) (asked_test b d clients items))

-- the parts of the last ended transaction, each tested where its kind shows it; and the whole of it
abbrev pub last_read_test : List ℕ → ℕ → ℕ → ℕ → ℕ → Bool
last_read_test b d kind clients items =
    not (shows_read kind) || read_part_in_range (sized clients items) (last_read_in b d)

abbrev pub last_write_test : List ℕ → ℕ → ℕ → ℕ → ℕ → Bool
last_write_test b d kind clients items =
    not (shows_write kind) || write_part_in_range (sized clients items) (last_write_in b d)

abbrev pub last_test : List ℕ → ℕ → ℕ → ℕ → Bool
last_test b d clients items = is_kind (at b scalars (last_kind_at d))
    && ended_in_range (sized clients items) (client_in b d).last

-- the whole: numbers of some mode and of some ended transaction, and in range
abbrev pub client_test : List ℕ → ℕ → ℕ → ℕ → Bool
client_test b d clients items =
    mode_fits b d && is_kind (at b scalars (last_kind_at d))
    && client_in_range (sized clients items) (client_in b d)
