use mathlib.Core.Bool.{Bool}
use mathlib.Core.Path.{◌∙◌}
use Prim.Native.Nat.{ℕ}
use lib.Dec.{eqb}
use borrow.Author.Rules.{rules}
use Rattle.index.specs.Index.{place}
use Rattle.check_stamps.specs.Stamps.{key_in}
use Rattle.check_stamps.proofs.Truncated.{keyed-of}
use Rattle.check_entries.proofs.Every.{every-of_all}
use Rattle.check_entries.proofs.Good.{every-to}
use Rattle.check_entries.proofs.Ranged.{distinct-keys}
use Rattle.check_entries.proofs.all_first.Goals as goal

pub returns : goal.returns
returns c =
    let versions = c.args.versions.now in
    let n = c.version_count.result in
    let good : ℕ → Bool = λ i. eqb (place versions.keys.now (key_in versions.b.now i)) i in
    every-of_all n good c.all.ensures.ran (λ x q k. search rules) (λ x q k. search rules)
    ∙ every-to _ c.version_count.ensures ∙ distinct-keys _ _ _ (keyed-of _ _ _ versions.keyed)
