-- The choice of stamps (document 01, 'Steps'): by a read from its client's view, and by the second
-- part of a fast read from its first replies.
use Rattle.std.specs.Prelude.{cond, ℕ, zero, suc, max}
use Rattle.itemset.specs.Set.{has}
use Rattle.protocol.specs.declared.Entry.{Entry}

-- the latest stamp among the view's own entry for item k and those of its first n entries whose
-- write set contains k
unfoldable pub choice : (ℕ → Entry) → ℕ → ℕ → ℕ
choice view k zero = (view k).stamp
choice view k (suc n) = max (choice view k n) (cond (has (view n).set k) (view n).stamp 0)
