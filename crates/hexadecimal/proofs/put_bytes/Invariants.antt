-- Storing the `k` bytes of `upper` makes `out` what storing all of them makes it.
use mathlib.Core.Path.{◌≡◌}
use lib.Seq.{sets}
use Rattle.hexadecimal.specs.Number.{big_endian}
use Rattle.hexadecimal.proofs.put_bytes.Given as goal

abbrev pub invariant-loop-k : goal.invariant-loop-k
invariant-loop-k l =
    sets l.out l.at (big_endian l.k l.upper) ≡ sets l.initial.out l.at (big_endian l.n l.x)
