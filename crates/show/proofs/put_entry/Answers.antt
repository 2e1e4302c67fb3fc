-- `show::put_entry` meets its contract: number, writing client and value are stored one right
-- behind the other.
use mathlib.Core.List.{List, ◌++◌}
use mathlib.Core.Path.{◌≡◌, ap, ◌∙◌}
use Prim.Native.Nat.{ℕ, ◌+◌, ◌/◌, ◌%◌}
use native.Mathlib.Omega.{arith}
use lib.ListN.{length-append}
use lib.Seq.{sets}
use Rattle.hexadecimal.specs.Number.{big_endian}
use Rattle.hexadecimal.proofs.Number.{length-big_endian}
use Rattle.hexadecimal.proofs.Stores.{sets-join}
use Rattle.protocol.specs.LogFrame.{shown_entry}
use Rattle.show.proofs.put_entry.Goals as goal

-- s and v are the words that are shown
joined : (out first second third : List ℕ) (at stamp value s v : ℕ)
    → first ≡ sets out at (big_endian 4 (stamp / 16))
    → second ≡ sets first (at + 4) (big_endian 1 (stamp % 16))
    → third ≡ sets second (at + 5) (big_endian 4 value)
    → stamp ≡ s → value ≡ v → third ≡ sets out at (shown_entry s v)
joined out first second third at stamp value s v p q r e f =
    let number = big_endian 4 (stamp / 16) in
    let writer = big_endian 1 (stamp % 16) in
    rw (r, q, p, ← e, ← f)
    (ap (λ (l : List ℕ). sets l (at + 5) (big_endian 4 value))
    (sets-join out at (at + 4) number writer (omega (arith, length-big_endian 4 (stamp / 16))))
    ∙ sets-join out at (at + 5) (number ++ writer) (big_endian 4 value)
    (omega (
      arith,
      length-append number writer,
      length-big_endian 4 (stamp / 16),
      length-big_endian 1
          (stamp % 16),
    )))

pub returns : goal.returns
returns c = joined _ _ _ _ _ _ _ _ _ c.put_bytes.ensures c.put_bytes-2.ensures
    c.put_bytes-3.ensures c.last_read_stamp-stamp.ensures
    c.last_answer-value.ensures
