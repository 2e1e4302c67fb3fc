-- A version by its words: equal words make equal versions.
use mathlib.Core.Path.{◌≡◌, refl}
use Prim.Native.Nat.{ℕ}
use Rattle.protocol.specs.Steps.{version}

pub same_version : {k value stamp set item v s t : ℕ} → k ≡ item → value ≡ v → stamp ≡ s → set ≡ t
    → version k value stamp set ≡ version item v s t
same_version i v s t = rw (i, v, s, t) refl
