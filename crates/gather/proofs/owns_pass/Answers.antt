-- `gather::owns_pass` meets its contract: it is the definition, test by test.
use Rattle.std.proofs.Common.{◌^◌, Bool, ◌&&◌, ltb, ap}
use Rattle.gather.specs.Words.{stamp_bits, owns_test}
use Rattle.gather.proofs.owns_pass.Goals as goal

pub returns : goal.returns
unfolding owns_test
returns c = ap (λ (t : Bool). ltb c.args.owns (2 ^ stamp_bits) && t) c.lacks.ensures
