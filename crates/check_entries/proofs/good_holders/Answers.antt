use mathlib.Core.Bool.{Bool, ◌&&◌}
use mathlib.Core.Path.{◌∙◌}
use Prim.Native.Nat.{ℕ}
use borrow.Author.Rules.{rules}
use Rattle.protocol.specs.Check.{agrees, is_counted}
use Rattle.layout.specs.Decode.{tables_of}
use Rattle.check_stamps.specs.Stamps.{most_held, held_in}
use Rattle.check_stamps.proofs.Truncated.{held-of}
use Rattle.check_entries.proofs.Every.{every-of_all}
use Rattle.check_entries.proofs.Ranged.{holders-all}
use Rattle.check_entries.proofs.good_holders.Goals as goal

pub returns : goal.returns
returns c =
    let b = c.args.stamps.now.b.now in
    let good : ℕ → Bool = λ p. agrees (tables_of b) (held_in b p)
    && is_counted (tables_of b) (held_in b p).stamp in
    every-of_all most_held good c.all.ensures.ran (λ x q k. search rules) (λ x q k. search rules)
    ∙ holders-all _ (held-of _ _ _ c.args.stamps.now.held).valid
