-- The greatest number that a client knows, from the words of a block, is the tables' where the block
-- holds them.
use mathlib.Core.List.{List}
use mathlib.Core.Path.{◌≡◌, refl, ap, ap₂}
use Prim.Native.Nat.{ℕ, zero, suc, ◌≤◌, ◌<◌, max}
use native.Mathlib.Omega.{arith}
use Rattle.protocol.specs.declared.Entry.{Entry}
use Rattle.protocol.specs.Tables.{Tables, number_of}
use Rattle.protocol.specs.Steps.{greatest_in, greatest_of}
use Rattle.layout.specs.Decode.{view_in}
use Rattle.layout.specs.Encodes.{Encodes}
use Rattle.start.specs.Start.{greatest_on}

-- equal stamps have an equal greatest number
greatest-same : (view other : ℕ → Entry) (n : ℕ)
    → ((k : ℕ) → k < n → (view k).stamp ≡ (other k).stamp) → greatest_in view n ≡ greatest_in other n
unfolding greatest_in
greatest-same view other zero h = refl
greatest-same view other (suc n) h =
    ap₂ max (greatest-same view other n (λ k l. h k (omega arith)))
    (ap number_of (h n (omega arith)))

pub greatest-held : (b : List ℕ) (t : Tables) (d : ℕ) → Encodes b t → 1 ≤ d
    → d ≤ t.sizes.clients → greatest_on b d t.sizes.items ≡ greatest_of t d
unfolding greatest_on
greatest-held b t d n first last =
    ap₂ max (n.client d first last).count
    (greatest-same (view_in b d) (t.view d) t.sizes.items
    (λ k l. (n.view d first last k l).stamp))
