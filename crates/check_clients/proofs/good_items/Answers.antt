use mathlib.Core.Bool.{Bool, not, ◌||◌}
use mathlib.Core.Path.{◌∙◌}
use Prim.Native.Nat.{ℕ}
use native.Mathlib.Omega.{arith}
use borrow.Author.Rules.{rules}
use Rattle.itemset.specs.Set.{has}
use Rattle.layout.specs.Decode.{tables_of}
use Rattle.check_stamps.specs.Parts.{good_item}
use Rattle.check_stamps.proofs.Block.{few-clients}
use Rattle.check_stamps.proofs.Truncated.{keyed-of}
use Rattle.check_entries.proofs.Every.{every-of_all}
use Rattle.check_clients.proofs.Clients.{items-each}
use Rattle.check_clients.proofs.good_items.Goals as goal

pub write_set-set-requires : goal.write_set-set-requires
write_set-set-requires c =
    let valid = (keyed-of _ _ _ c.args.versions.now.keyed).valid in
    (c.requires.0, omega (arith, c.requires.1, few-clients _ valid))

pub write_stamp-stamp-requires : goal.write_stamp-stamp-requires
write_stamp-stamp-requires c =
    let valid = (keyed-of _ _ _ c.args.versions.now.keyed).valid in
    (c.requires.0, omega (arith, c.requires.1, few-clients _ valid))

pub returns : goal.returns
returns c =
    let n = c.items.result in
    let good : ℕ → Bool = λ k. not (has c.write_set-set.result k)
    || good_item (tables_of c.args.versions.now.b.now) c.args.d k in
    every-of_all n good c.all.ensures.ran (λ x q k. search rules) (λ x q k. search rules)
    ∙ items-each _ _ c.items.ensures c.write_set-set.ensures
