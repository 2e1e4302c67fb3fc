-- From pair `k` on the line is hex where the whole is, and storing what is left of its bytes from `k`
-- on makes `out` what storing all of them makes it.
use mathlib.Core.Path.{◌≡◌}
use Prim.Native.Nat.{◌*◌}
use lib.ListN.{drop}
use lib.Seq.{sets}
use Rattle.hexadecimal.specs.Text.{is_hex, bytes_of}
use Rattle.hexadecimal.proofs.decode.Given as goal

abbrev pub invariant-loop-k : goal.invariant-loop-k
invariant-loop-k l =
    (is_hex (drop (2 * l.k) l.line) ≡ is_hex l.line)
    × (sets l.out l.k (bytes_of (drop (2 * l.k) l.line)) ≡ sets l.initial.out 0 (bytes_of l.line))
