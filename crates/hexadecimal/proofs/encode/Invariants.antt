-- Storing the digits of the bytes from `k` on makes `out` what storing all of them makes it.
use mathlib.Core.Path.{◌≡◌}
use Prim.Native.Nat.{◌+◌, ◌*◌}
use lib.ListN.{drop}
use lib.Seq.{sets}
use Rattle.hexadecimal.specs.Text.{hex_text}
use Rattle.hexadecimal.proofs.encode.Given as goal

abbrev pub invariant-loop-k : goal.invariant-loop-k
invariant-loop-k l =
    sets l.out (l.at + 2 * l.k) (hex_text (drop l.k l.bytes)) ≡ sets l.initial.out l.at (hex_text l.bytes)
