-- A list whose first n words are 0.
use mathlib.Core.List.{List}
use mathlib.Core.Path.{◌≡◌, ◌∙◌}
use Prim.Native.Nat.{ℕ, ◌≤◌, ◌<◌}
use native.Mathlib.Omega.{arith}
use lib.ListN.{length, get_or, drop, replicate, length-append, length-replicate, length-drop}
use lib.ListN.{get_or-replicate, get_or-append}
use Rattle.layout.specs.Store.{blank}

pub length-blank : (n : ℕ) (b : List ℕ) → n ≤ length b → length (blank n b) ≡ length b
unfolding blank
length-blank n b l = simp (length-append, length-replicate, length-drop) (omega arith)

pub blank-zero : (n : ℕ) (b : List ℕ) (i : ℕ) → i < n → get_or (blank n b) i 0 ≡ 0
unfolding blank
blank-zero n b i l =
    let zeros : List ℕ = replicate n 0 in
    get_or-append zeros (drop n b) 0 i (rw (length-replicate n) l) ∙ get_or-replicate n i 0 0 l
