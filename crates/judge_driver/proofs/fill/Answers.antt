-- A turn's bytes are those of one more chunk.
use Rattle.std.proofs.Common.{◌++◌, ◌∷◌, [], take, arith}
use Rattle.judge_driver.proofs.Reading.{keep-next}
use Rattle.judge_driver.proofs.fill.Goals as goal

pub loop-done-preserved : goal.loop-done-preserved
loop-done-preserved c =
    let (fits, within, same) = c.in_ok-n.ensures in
    let (_, (chunks, kept)) = c.loop-done.invariant in (
      omega arith,
      (
        chunks ++ take c.in_ok-n.n c.turn.new.chunk ∷ [],
        keep-next c.loop-done.buf c.turn.new.buf c.turn.new.chunk c.loop-done.done c.in_ok-n.n _
            chunks kept within same,
      ),
    )
