use mathlib.Core.Path.{◌∙◌}
use borrow.Author.Rules.{rules}
use Rattle.layout.specs.Decode.{tables_of}
use Rattle.check_stamps.specs.Parts.{good_first}
use Rattle.check_entries.proofs.Every.{every-of_all}
use Rattle.check_entries.proofs.Good.{every-to}
use Rattle.check_clients.proofs.good_firsts.Goals as goal

pub returns : goal.returns
returns c =
    let n = c.items.result in
    let good = good_first (tables_of c.args.looks.now.wholes.stamps.b.now) c.args.d in
    every-of_all n good c.all.ensures.ran (λ x q k. search rules) (λ x q k. search rules)
    ∙ every-to _ c.items.ensures
