-- `clear::none_fast` meets its contract: client after client, neither part of a fast read.
use Rattle.std.proofs.Common.{arith}
use Rattle.clear.proofs.Cleared.{clients-few}
use Rattle.clear.proofs.Read.{one-fast}
use Rattle.clear.proofs.none_fast.Goals as goal

pub mode-requires : goal.mode-requires
mode-requires c = (
  omega arith,
  omega (arith, c.clients-i-end.ensures, clients-few c.args.b.now c.requires),
)

pub returns-then-matches : goal.returns-then-matches
returns-then-matches c =
    one-fast c.args.b.now c.clients-i-end.result c.loop-i.i c.mode.result c.clients-i-end.ensures
    c.loop-i-test.true c.mode.ensures
    (grind arith)
