-- `show::put_read_part` meets its contract: its loop stores the entries right behind the set.
use Rattle.std.proofs.Common.{◌≡◌, ℕ, ◌+◌, sym, ap, arith}
use Rattle.hexadecimal.specs.Number.{big_endian}
use Rattle.hexadecimal.proofs.Number.{length-big_endian}
use Rattle.show.specs.Show.{read_item}
use Rattle.show.proofs.LogFrames.{length-read_item}
use Rattle.show.proofs.Listed.{listed-behind}
use Rattle.show.proofs.put_read_part.Goals as goal

pub returns : goal.returns
returns c =
    let given = c.args in
    let all : c.loop-k.k ≡ 64 = omega arith in
    listed-behind (read_item given.b.now given.d) 9 (length-read_item given.b.now given.d) given.s
    given.at _ 64 (big_endian 8 given.s) given.out.now _ _
    (ap (λ (n : ℕ). given.at + n) (sym (length-big_endian 8 given.s)))
    c.put_bytes.ensures (rw all at c.loop-k.invariant)
