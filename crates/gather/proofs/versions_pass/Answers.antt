-- `gather::versions_pass` meets its contract: it is the definition, test by test.
use Rattle.std.proofs.Common.{◌^◌, Bool, ◌&&◌, ltb, ap, ap₂}
use Rattle.gather.specs.Words.{versions_test}
use Rattle.gather.proofs.versions_pass.Goals as goal

pub returns : goal.returns
unfolding versions_test
returns c = let a = c.args in
    ap₂ ◌&&◌
    (ap₂ ◌&&◌ (ap (λ (t : Bool). ltb a.ks (2 ^ 6) && ltb a.values (2 ^ 32) && t)
    c.owns_pass.ensures) c.all_below.ensures)
    c.has.ensures
