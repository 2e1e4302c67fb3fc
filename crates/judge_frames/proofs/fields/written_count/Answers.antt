-- `judge_frames::fields::written_count` meets its contract: a set of 64 bits has at most 64
-- members.
use mathlib.Core.Path.{ap, ◌∙◌}
use Prim.Native.Nat.{ℕ}
use Rattle.itemset.specs.Set.{count}
use Rattle.log_format.proofs.Parts.{written_count}
use Rattle.judge_frames.proofs.fields.written_count.Goals as goal

pub returns-clause-value : goal.returns-clause-value
returns-clause-value c = let f = c.args.f.now in
    let e = c.count.ensures ∙ ap (λ (s : ℕ). count s) c.written.ensures
    ∙ written_count f (λ i. (c.type_inv.f i).fits) in e
