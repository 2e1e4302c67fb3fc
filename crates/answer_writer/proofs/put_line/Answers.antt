-- The digits and the 0a behind them are one run of stores.
use Rattle.std.proofs.Common.{◌∷◌, arith}
use Rattle.store_frames.proofs.Writing.{length-line_of, line-stored}
use Rattle.answer_writer.proofs.put_line.Goals as goal

pub returns-clause-value : goal.returns-clause-value
returns-clause-value c = omega (arith, length-line_of (c.args.status ∷ c.args.bytes.now))

pub returns-clause-out_after : goal.returns-clause-out_after
returns-clause-out_after c =
    let stored = line-stored c.args.status c.args.bytes.now c.args.out.now in
    cc
