use mathlib.Core.List.{List}
use mathlib.Core.Path.{ap, ◌∙◌}
use Prim.Native.Nat.{ℕ}
use Rattle.protocol.specs.Check.{stored_value}
use Rattle.layout.specs.Decode.{tables_of}
use Rattle.check_entries.proofs.Good.{stamp-small}
use Rattle.check_messages.proofs.Told.{brought-is}
use Rattle.check_messages.proofs.kinds.brought.Goals as goal

pub stored_value-requires : goal.stored_value-requires
stored_value-requires c = (c.requires.0, stamp-small _ c.args.v.stamp c.requires.1)

pub returns : goal.returns
returns c =
    brought-is _ c.args.v c.args.latest c.good_entry.ensures c.good_entry-2.ensures
    (c.stored_value.ensures
    ∙ ap (λ (b : List ℕ). stored_value (tables_of b) c.args.v.item c.args.v.stamp)
    c.args.looks.now.same)
