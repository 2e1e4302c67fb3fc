-- The choice of stamps as one pass over entries, in item order (document 02, P3): a view's, or the
-- first replies of a fast read (P7).
use Rattle.std.specs.Prelude.{Bool, true, cond, ◌&&◌, ◌||◌, List, ◌≡◌, ℕ, ◌+◌, ◌*◌, ◌≤◌, ◌<◌, max, eqb, ltb, length, get_or, replicate}
use Rattle.std.specs.Int.Bits.{bit_and}
use Rattle.basics.specs.Lists.{table}
use Rattle.basics.specs.Fold.{up_to}
use Rattle.itemset.specs.Set.{has, insert}
use Rattle.protocol.specs.declared.Entry.{Entry}
use Rattle.protocol.specs.Tables.{initial}
use Rattle.protocol.specs.Steps.{choice}
use Rattle.layout.specs.Layout.{most_items, entry_words}

-- word f of entry i in the row that starts at a place of the block; of all entries, or of those of
-- the items in s alone
abbrev pub entry_word : List ℕ → ℕ → Bool → ℕ → ℕ → ℕ → ℕ
entry_word b from all s i f = cond (all || has s i) (get_or b (from + (entry_words * i + f)) 0) 0

abbrev pub entries_from : List ℕ → ℕ → Bool → ℕ → ℕ → Entry
entries_from b from all s i =
    record { stamp = entry_word b from all s i 0; set = entry_word b from all s i 1 }

-- the view with its entries from k on initial
abbrev pub cut : (ℕ → Entry) → ℕ → ℕ → Entry
cut view k i = cond (ltb i k) (view i) initial

-- 'after the first k entries it is what the step chooses from a view whose later entries are
-- initial': at every item of s, for every number of entries from k on that the step looks at
pub record ChosenAfter (view : ℕ → Entry) (s k : ℕ) (stamps : List ℕ) : Type 0 where
  pub long : length stamps ≡ most_items
  pub chosen : (j items : ℕ) → j < most_items → has s j ≡ true → k ≤ items
      → get_or stamps j 0 ≡ choice (cut view k) j items

-- the stamps of the items in s become the later of themselves and this one
unfoldable pub raised : ℕ → ℕ → List ℕ → List ℕ
raised s stamp stamps =
    table (length stamps)
    (λ j. cond (has s j) (max (get_or stamps j 0) stamp) (get_or stamps j 0))

-- an entry's turn: of the items in s, its own and those in its write set
abbrev pub raised_by : (ℕ → Entry) → ℕ → List ℕ → ℕ → List ℕ
raised_by view s stamps i = raised (bit_and (insert (view i).set i) s) (view i).stamp stamps

-- the pass: the first k entries have had their turns, in item order, from initial stamps on
abbrev pub passed : (ℕ → Entry) → ℕ → ℕ → List ℕ
passed view s = up_to (raised_by view s) (replicate most_items 0)

-- what an entry has left to raise, where one before it with the last stamp reached the items kept
abbrev pub unraised : ℕ → ℕ → ℕ → ℕ → ℕ
unraised stamp reached last kept = cond (eqb last stamp && eqb kept reached) 0 reached
