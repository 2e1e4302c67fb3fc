-- `gather::stamps_pass` meets its contract: it is the definition, test by test.
use Rattle.std.proofs.Common.{◌^◌, Bool, ◌&&◌, ◌||◌, ltb, leb, ap₂}
use Rattle.gather.specs.Words.{stamp_bits, stamps_test}
use Rattle.gather.proofs.stamps_pass.Goals as goal

pub returns : goal.returns
unfolding stamps_test
returns c = let a = c.args in
    ap₂ (λ (t u : Bool). ltb a.stamps (2 ^ stamp_bits) && t && (leb 8 a.clients || u))
    c.lacks.ensures c.lacks-2.ensures
