use mathlib.Core.Path.{refl, ◌∙◌, ap}
use native.Mathlib.Omega.{arith}
use Rattle.layout.specs.Decode.{tables_of}
use Rattle.check_stamps.specs.Parts.{good_entry}
use Rattle.check_stamps.proofs.Block.{few-clients}
use Rattle.check_stamps.proofs.Truncated.{held-of}
use Rattle.check_entries.proofs.Good.{few-items, view-read, read-ranged}
use Rattle.check_entries.proofs.Wholes.good_view.Goals as goal

pub view-e-requires : goal.view-e-requires
view-e-requires c =
    let valid = (held-of _ _ _ c.args.self.now.stamps.held).valid in (
      c.requires.0,
      omega (arith, c.requires.1, few-clients _ valid),
      omega (arith, c.requires.2, few-items _ valid),
    )

pub good_like-requires : goal.good_like-requires
good_like-requires c =
    let valid = (held-of _ _ _ c.args.self.now.stamps.held).valid in (
      read-ranged _ valid _ refl c.requires.2 _ c.requires.0 c.requires.1 c.view-e.ensures,
      c.requires.3,
    )

pub returns : goal.returns
returns c =
    let valid = (held-of _ _ _ c.args.self.now.stamps.held).valid in
    c.good_like.ensures
    ∙ ap (good_entry (tables_of _) _)
    (view-read _ valid _ refl c.requires.2 _ c.requires.0 c.requires.1 c.view-e.ensures)
