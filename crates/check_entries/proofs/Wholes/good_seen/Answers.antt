use mathlib.Core.Bool.{Bool}
use mathlib.Core.Path.{◌∙◌}
use Prim.Native.Nat.{ℕ, suc}
use borrow.Author.Rules.{rules}
use Rattle.layout.specs.Decode.{tables_of}
use Rattle.check_stamps.specs.Parts.{good_entry}
use Rattle.check_entries.proofs.Every.{every-of_all}
use Rattle.check_entries.proofs.Good.{every-to}
use Rattle.check_entries.proofs.Wholes.good_seen.Goals as goal

pub returns : goal.returns
returns c =
    let b = c.args.self.now.stamps.b.now in
    let n = c.clients.result in
    let k = c.args.k in
    let good : ℕ → Bool = λ i. good_entry (tables_of b) k ((tables_of b).view (suc i) k) in
    every-of_all n good c.all.ensures.ran (λ x q k. search rules) (λ x q k. search rules)
    ∙ every-to _ c.clients.ensures
