use mathlib.Core.Bool.{Bool, true, false, cond}
use mathlib.Core.List.{List}
use mathlib.Core.Path.{◌≡◌, refl, ◌∙◌, ap}
use Prim.Native.Nat.{ℕ}
use mir.Val.{bool_byte}
use Rattle.protocol.specs.Range.{each}
use Rattle.protocol.specs.Steps.{stored}
use Rattle.layout.specs.Decode.{tables_of}
use Rattle.check_stamps.proofs.Truncated.{held-of}
use Rattle.check_entries.proofs.Good.{held_small, mark-none, mark-later, first-mark}
use Rattle.check_entries.proofs.Tables.whole_mark.Goals as goal

byte-is : (x : Bool) → bool_byte x ≡ cond x 1 0
byte-is true = refl
byte-is false = refl

pub returns-then-e-eq0 : goal.returns-then-e-eq0
returns-then-e-eq0 c =
    mark-none _ _ _ (held-of _ _ _ c.args.self.now.stamps.held) _ c.held-e.ensures c.if-e-eq0.true

pub find-first-requires : goal.find-first-requires
find-first-requires c = (held-of _ _ _ c.args.self.now.stamps.held).index

pub returns-then-first-p : goal.returns-then-first-p
returns-then-first-p c =
    mark-later _ _ _ (held-of _ _ _ c.args.self.now.stamps.held) _ c.held-e.ensures
    c.if-e-eq0.false c.find-first.ensures c.if-first-p.true

pub all_stored-requires : goal.all_stored-requires
all_stored-requires c =
    held_small _ (held-of _ _ _ c.args.self.now.stamps.held).valid _ c.requires c.held-e.ensures

pub returns : goal.returns
returns c =
    let stored = λ (b : List ℕ). each (tables_of b).sizes c.held-e.result.set
    (λ k. stored (tables_of b).versions k c.held-e.result.stamp) in
    byte-is c.all_stored.result
    ∙ first-mark _ _ _ (held-of _ _ _ c.args.self.now.stamps.held) _ c.held-e.ensures
    c.if-e-eq0.false c.find-first.ensures c.if-first-p.false c.requires
    (c.all_stored.ensures ∙ ap stored c.args.self.now.same)
