use mathlib.Core.Bool.{Bool, ◌&&◌}
use mathlib.Core.Path.{◌∙◌}
use Prim.Native.Nat.{ℕ, suc}
use borrow.Author.Rules.{rules}
use Rattle.basics.specs.Lists.{every}
use Rattle.layout.specs.Layout.{header, at, clients_at}
use Rattle.layout.specs.Decode.{tables_of}
use Rattle.check_stamps.specs.Parts.{good_entry}
use Rattle.check_entries.proofs.Every.{every-of_all}
use Rattle.check_entries.proofs.Good.{every-to, entries-are}
use Rattle.check_entries.proofs.Wholes.good_entries.Goals as goal

pub returns : goal.returns
returns c =
    let b = c.args.self.now.stamps.b.now in
    let n = c.items.result in
    let good : ℕ → Bool = λ j. good_entry (tables_of b) j ((tables_of b).latest j)
    && every (at b header clients_at) (λ i. good_entry (tables_of b) j ((tables_of b).view (suc i) j)) in
    every-of_all n good c.all.ensures.ran (λ x q k. search rules) (λ x q k. search rules)
    ∙ every-to _ c.items.ensures ∙ entries-are _
