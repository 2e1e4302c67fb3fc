-- Before each read, the bytes of those before it were fed in order.
use Rattle.lines.specs.Input.{lent}
use Rattle.store_driver.proofs.Turning.{TakenBy}
use Rattle.store_driver.proofs.serve.Given as goal

abbrev pub invariant-loop : goal.invariant-loop
invariant-loop l =
    TakenBy (lent l.fn.b l.fn.line 0 l.fn.reply) (lent l.b l.line l.at l.reply)
