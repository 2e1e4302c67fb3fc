-- The facts that the structs keep, as the lemmas take them.
use mathlib.Core.List.{List}
use mathlib.Core.Path.{◌≡◌}
use Prim.Native.Nat.{ℕ}
use Rattle.basics.specs.Lists.{table}
use Rattle.layout.specs.Layout.{most_versions}
use Rattle.check_stamps.specs.Stamps.{Held}
use Rattle.check_stamps.proofs.Truncated.{held-of}
use Rattle.check_entries.specs.Entries.{whole_mark, Known}

pub known-of : (b stamps links marks : List ℕ) → ∥ Held b stamps links ∥₁
    → marks ≡ table most_versions (whole_mark b) → Known b stamps links marks
known-of b stamps links marks h w = record { held = held-of b stamps links h; whole = w }
