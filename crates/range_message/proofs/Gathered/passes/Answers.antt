-- `Gathered::passes` meets its contract: it is the definition, test by test.
use Rattle.std.proofs.Common.{◌^◌, Bool, ◌&&◌, ltb, ap, ap₂}
use Rattle.range_message.specs.Messages.{gathered_test}
use Rattle.range_message.proofs.Gathered.passes.Goals as goal

pub returns : goal.returns
unfolding gathered_test
returns c =
    let g = c.args.self in
    ap₂ ◌&&◌ (ap (λ (x : Bool). g.ok && ltb g.values (2 ^ 32) && x) c.owns_pass.ensures)
    c.all_below.ensures
