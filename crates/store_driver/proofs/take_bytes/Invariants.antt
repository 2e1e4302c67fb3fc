-- Before each byte, those before it were fed.
use Rattle.std.proofs.Common.{◌≡◌, take}
use Rattle.lines.specs.Input.{lent, fed_all}
use Rattle.store_driver.proofs.take_bytes.Given as goal

abbrev pub invariant-loop-c : goal.invariant-loop-c
invariant-loop-c l =
    lent l.b l.line l.at l.reply
    ≡ fed_all (lent l.fn.b l.fn.line l.fn.at l.fn.reply) (take l.c-index l.input)
