-- A word of the block after a store: the stored one at that place, the same one at any other.
use mathlib.Core.List.{List}
use mathlib.Core.Logic.{◌≢◌}
use mathlib.Core.Path.{◌≡◌}
use Prim.Native.Nat.{ℕ, ◌+◌, ◌<◌}
use lib.ListN.{length, length-set}
use lib.Seq.{get_or-set_same, get_or-set_other}
use Rattle.layout.specs.Layout.{Section, base, at, store}

pub length-store : (b : List ℕ) (s : Section) (i v : ℕ) → length (store b s i v) ≡ length b
length-store b s i v = length-set b (base s + i) v

pub at_store : (b : List ℕ) (s : Section) (i v : ℕ) → base s + i < length b
    → at (store b s i v) s i ≡ v
at_store b s i v l = get_or-set_same b (base s + i) v 0 l

-- place j of r is another word than place i of s; `omega arith` shows it, since the bases are
-- numbers
pub at-store-other : (b : List ℕ) (s : Section) (i v : ℕ) (r : Section) (j : ℕ)
    → base r + j ≢ base s + i → at (store b s i v) r j ≡ at b r j
at-store-other b s i v r j n = get_or-set_other b (base s + i) (base r + j) v 0 n
