-- An entry by its words: equal words make equal entries.
use mathlib.Core.Path.{◌≡◌, refl}
use Prim.Native.Nat.{ℕ}
use Rattle.protocol.specs.declared.Entry.{Entry}

abbrev entry_of : ℕ → ℕ → Entry
entry_of stamp s = record { stamp = stamp; set = s }

pub same-entry : {stamp s x y : ℕ} → stamp ≡ x → s ≡ y → entry_of stamp s ≡ entry_of x y
same-entry e f = rw (e, f) refl
