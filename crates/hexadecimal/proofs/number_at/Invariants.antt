-- `number` is the number of the bytes passed.
use mathlib.Core.Path.{◌≡◌}
use Rattle.hexadecimal.specs.Number.{number_at}
use Rattle.hexadecimal.proofs.number_at.Given as goal

abbrev pub invariant-loop-byte : goal.invariant-loop-byte
invariant-loop-byte l = l.number ≡ number_at l.byte-index l.s l.at
