-- Behind fewer than `most_kept` bytes one more is kept, behind as many none.
use Rattle.std.proofs.Common.{arith}
use Rattle.lines.proofs.Kept.{joined-short, joined-full, length-short, length-full}
use Rattle.lines.proofs.input.keep.Goals as goal

pub returns-then-at-lt-MOST_KEPT-clause-value : goal.returns-then-at-lt-MOST_KEPT-clause-value
returns-then-at-lt-MOST_KEPT-clause-value c =
    length-short c.args.line.now c.args.at c.args.c (omega arith) (omega arith)

pub returns-then-at-lt-MOST_KEPT-clause-line_after : goal.returns-then-at-lt-MOST_KEPT-clause-line_after
returns-then-at-lt-MOST_KEPT-clause-line_after c =
    joined-short c.args.line.now c.args.at c.args.c (omega arith) (omega arith)

pub returns-else-at-lt-MOST_KEPT-clause-value : goal.returns-else-at-lt-MOST_KEPT-clause-value
returns-else-at-lt-MOST_KEPT-clause-value c =
    length-full c.args.line.now c.args.at c.args.c (omega arith) (omega arith)

pub returns-else-at-lt-MOST_KEPT-clause-line_after : goal.returns-else-at-lt-MOST_KEPT-clause-line_after
returns-else-at-lt-MOST_KEPT-clause-line_after c =
    joined-full c.args.line.now c.args.at c.args.c (omega arith) (omega arith)
