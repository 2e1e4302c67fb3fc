use mathlib.Core.Bool.{Bool}
use mathlib.Core.Path.{◌∙◌}
use Prim.Native.Nat.{ℕ, suc}
use borrow.Author.Rules.{rules}
use Rattle.layout.specs.Decode.{tables_of}
use Rattle.check_stamps.specs.Parts.{good_client}
use Rattle.check_entries.proofs.Every.{every-of_all}
use Rattle.check_entries.proofs.Good.{every-to}
use Rattle.check_block.proofs.good_clients.Goals as goal

pub returns : goal.returns
returns c =
    let n = c.clients.result in
    let good : ℕ → Bool = λ i. good_client (tables_of c.args.looks.now.wholes.stamps.b.now) (suc i) in
    every-of_all n good c.all.ensures.ran (λ x q k. search rules) (λ x q k. search rules)
    ∙ every-to _ c.clients.ensures
