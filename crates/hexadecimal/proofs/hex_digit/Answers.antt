-- `hexadecimal::hex_digit` meets its contract: its test is that of `hex_digit`.
use borrow.Author.Tests.{lt-ltb, le-ltb}
use Rattle.hexadecimal.specs.Digit.{hex_digit}
use Rattle.hexadecimal.proofs.hex_digit.Goals as goal

pub returns-then-v-lt10 : goal.returns-then-v-lt10
unfolding hex_digit
returns-then-v-lt10 c = rw (lt-ltb _ _ c.if-v-lt10.true)

pub returns-else-v-lt10 : goal.returns-else-v-lt10
unfolding hex_digit
returns-else-v-lt10 c = rw (le-ltb _ _ c.if-v-lt10.false)
