use mathlib.Core.Bool.{◌&&◌}
use mathlib.Core.Path.{refl, ap, ap₂, ◌∙◌}
use native.Mathlib.Omega.{arith}
use Rattle.layout.specs.Decode.{tables_of}
use Rattle.check_stamps.specs.Parts.{good_entry}
use Rattle.check_stamps.proofs.Truncated.{held-of}
use Rattle.check_entries.proofs.Good.{few-items, latest-read, latest-read-ranged}
use Rattle.check_entries.proofs.Wholes.good_item.Goals as goal

pub latest-latest-requires : goal.latest-latest-requires
latest-latest-requires c =
    omega (arith, c.requires, few-items _ (held-of _ _ _ c.args.self.now.stamps.held).valid)

pub good_entry-good-requires : goal.good_entry-good-requires
good_entry-good-requires c =
    latest-read-ranged _ (held-of _ _ _ c.args.self.now.stamps.held).valid _ refl c.requires
    c.latest-latest.ensures

pub returns : goal.returns
returns c =
    let e = latest-read _ (held-of _ _ _ c.args.self.now.stamps.held).valid _ refl c.requires
    c.latest-latest.ensures in
    ap₂ ◌&&◌ (c.good_entry-good.ensures ∙ ap (good_entry (tables_of _) _) e) c.good_seen.ensures
