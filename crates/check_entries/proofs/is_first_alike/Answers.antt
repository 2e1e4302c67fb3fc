use mathlib.Core.Path.{ap, ◌∙◌}
use Prim.Native.Nat.{ℕ}
use lib.Dec.{eqb}
use native.Mathlib.Omega.{arith}
use Rattle.index.specs.Index.{place}
use Rattle.check_stamps.proofs.Block.{few}
use Rattle.check_stamps.proofs.Truncated.{keyed-of}
use Rattle.check_entries.proofs.Ranged.{long-keys, own_key}
use Rattle.check_entries.proofs.is_first_alike.Goals as goal

pub bounds-versions-i : goal.bounds-versions-i
bounds-versions-i c =
    let keyed = keyed-of _ _ _ c.args.versions.now.keyed in
    omega (arith, c.requires, few _ keyed.valid, long-keys _ _ _ keyed)

pub offset_bounds-versions-i : goal.offset_bounds-versions-i
offset_bounds-versions-i c =
    let keyed = keyed-of _ _ _ c.args.versions.now.keyed in
    omega (arith, c.requires, few _ keyed.valid)

pub find-requires : goal.find-requires
find-requires c = (keyed-of _ _ _ c.args.versions.now.keyed).index

pub returns : goal.returns
returns c =
    let keyed = keyed-of _ _ _ c.args.versions.now.keyed in
    ap (λ (p : ℕ). eqb p c.args.i)
    (c.find.ensures
    ∙ ap (place _) (own_key _ _ _ keyed _ (omega (arith, c.requires, few _ keyed.valid))))
