-- `layout::make_fresh` meets its contract: the words are blanked, and then the sizes stored.
use mathlib.Core.List.{List}
use mathlib.Core.Path.{◌∙◌, ap}
use Prim.Native.Nat.{ℕ}
use Rattle.layout.specs.Store.{store_sizes, fresh_block}
use Rattle.layout.proofs.make_fresh.Goals as goal

pub returns : goal.returns
unfolding fresh_block
returns c = let a = c.args in
    c.put_sizes.ensures
    ∙ ap (λ (b : List ℕ). store_sizes b a.clients a.partitions a.items)
    c.clear.ensures
