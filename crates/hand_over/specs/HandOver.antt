-- A hand-over (document 02, P6) as a change of the block, item by item.
use Rattle.std.specs.Prelude.{List, ℕ}
use Rattle.basics.specs.Fold.{up_to}
use Rattle.protocol.specs.Tables.{later_of}
use Rattle.layout.specs.Decode.{view_in}
use Rattle.layout.specs.Store.{store_view}

-- item k: the receiver's entry becomes the later of its own and the giver's
abbrev pub take_item : ℕ → ℕ → List ℕ → ℕ → List ℕ
take_item giver receiver b k =
    store_view b receiver k (later_of (view_in b receiver k) (view_in b giver k))

-- every word after a hand-over, with so many items
unfoldable pub handed_over_block : List ℕ → ℕ → ℕ → ℕ → List ℕ
handed_over_block b giver receiver items = up_to (take_item giver receiver) b items
