-- `gather::stamp_in_range` meets its contract: it is 0, or the word of both sums passes.
use Rattle.std.proofs.Common.{Bool, ◌||◌, eqb, ap, ◌∙◌, arith}
use Rattle.gather.specs.Words.{owns_test}
use Rattle.gather.proofs.OwnedStamps.{stamp-word}
use Rattle.gather.proofs.stamp_in_range.Goals as goal

pub returns : goal.returns
returns c = let a = c.args in
    ap (λ (x : Bool). eqb a.stamp 0 || x)
    (c.owns_pass.ensures ∙ ap owns_test c.owned.ensures)
    ∙ stamp-word a.clients 0 a.stamp (omega arith) (omega arith)
