use mathlib.Core.Bool.{Bool, ◌&&◌}
use mathlib.Core.List.{List}
use mathlib.Core.Path.{ap, ap₂, ◌∙◌}
use Prim.Native.Nat.{ℕ}
use Rattle.protocol.specs.Check.{distinct}
use Rattle.layout.specs.Decode.{tables_of}
use Rattle.check_stamps.specs.Parts.{good_holders}
use Rattle.check_entries.proofs.Tables.holders.Goals as goal

pub returns : goal.returns
unfolding good_holders
returns c =
    ap₂ (λ (x y : Bool). x && y) c.good_holders.ensures
    (c.all_first.ensures
    ∙ ap (λ (b : List ℕ). distinct (tables_of b).versions) c.args.self.now.same)
