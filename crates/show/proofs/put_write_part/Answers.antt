-- `show::put_write_part` meets its contract: the number is stored right behind the set, and the
-- loop stores the values right behind the number.
use Rattle.std.proofs.Common.{◌≡◌, ℕ, ◌+◌, List, ◌++◌, ap, ◌∙◌, arith, length-append}
use Rattle.std.proofs.lemmas.List.Edits.{sets}
use Rattle.hexadecimal.specs.Number.{big_endian}
use Rattle.hexadecimal.proofs.Number.{length-big_endian}
use Rattle.hexadecimal.proofs.Stores.{sets-join}
use Rattle.show.specs.Show.{written_item}
use Rattle.show.proofs.LogFrames.{length-written_item}
use Rattle.show.proofs.Listed.{listed-behind}
use Rattle.show.proofs.put_write_part.Goals as goal

-- set and number
joined : (out first second : List ℕ) (at s number : ℕ) → first ≡ sets out at (big_endian 8 s)
    → second ≡ sets first (at + 8) (big_endian 4 number)
    → second ≡ sets out at (big_endian 8 s ++ big_endian 4 number)
joined out first second at s number p q =
    q
    ∙ ap (λ (l : List ℕ). sets l (at + 8) (big_endian 4 number)) p
    ∙ sets-join out at (at + 8) (big_endian 8 s) (big_endian 4 number)
    (omega (arith, length-big_endian 8 s))

pub returns : goal.returns
returns c =
    let given = c.args in
    let written = big_endian 4 c.last_number-number.result in
    let all : c.loop-k.k ≡ 64 = omega arith in
    rw (← c.last_number-number.ensures)
    (listed-behind (written_item given.b.now given.d) 4
    (length-written_item given.b.now given.d) given.s given.at _ 64
    (big_endian 8 given.s ++ written) given.out.now _ _
    (omega (
      arith,
      length-append (big_endian 8 given.s) written,
      length-big_endian 8 given.s,
      length-big_endian 4 c.last_number-number.result,
    ))
    (joined given.out.now _ _ given.at given.s _ c.put_bytes.ensures c.put_bytes-2.ensures)
    (rw all at c.loop-k.invariant))
