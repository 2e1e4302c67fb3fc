-- Storing the digits of the `k` bytes of `rest` makes `out` what storing all of them makes it.
use mathlib.Core.Path.{◌≡◌}
use lib.Seq.{sets}
use Rattle.hexadecimal.specs.Number.{big_endian}
use Rattle.hexadecimal.specs.Text.{hex_text}
use Rattle.hexadecimal.proofs.put_number.Given as goal

abbrev pub invariant-loop-k : goal.invariant-loop-k
invariant-loop-k l =
    sets l.out l.at (hex_text (big_endian l.k l.rest))
    ≡ sets l.initial.out l.at (hex_text (big_endian l.n l.x))
