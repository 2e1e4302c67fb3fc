-- A choice by a test that is known; a later entry that is stored.
use mathlib.Core.Bool.{Bool, true, false, cond}
use mathlib.Core.List.{List}
use mathlib.Core.Path.{◌≡◌, ap, ◌∙◌}
use Prim.Native.Nat.{ℕ}
use Rattle.protocol.specs.declared.Entry.{Entry}
use Rattle.protocol.specs.Tables.{later_of}

module _ {A : Type 0} where
  pub when : (t : Bool) (x y z : A) → t ≡ true → z ≡ x → z ≡ cond t x y
  when t x y z e h = rw e h

  pub unless : (t : Bool) (x y z : A) → t ≡ false → z ≡ y → z ≡ cond t x y
  unless t x y z e h = rw e h

-- r is f of the later of the entry read, y, and e
pub later-put : (f : Entry → List ℕ) (x y z e : Entry) (r : List ℕ) → r ≡ f z → z ≡ later_of y e
    → y ≡ x → r ≡ f (later_of x e)
later-put f x y z e r stored later same =
    stored ∙ ap f (later ∙ ap (λ (u : Entry). later_of u e) same)
