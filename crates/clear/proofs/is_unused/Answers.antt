-- `clear::is_unused` meets its contract: an empty slot, the stamp itself, or another stamp there.
use Rattle.std.proofs.Common.{ℕ, get_or, sym, ap, ◌∙◌}
use Rattle.clear.proofs.Slots.{slot-empty, slot_same}
use Rattle.clear.proofs.is_unused.Goals as goal

pub returns-in-0 : goal.returns-in-0
returns-in-0 c =
    let slots = c.args.slots.now in
    slot-empty c.args.stamps.now slots c.args.stamp c.requires.0 c.requires.1
    (ap (λ (k : ℕ). get_or slots k 0) (sym c.slot_of.ensures) ∙ c.in-0.is)

pub returns-in_default : goal.returns-in_default
returns-in_default c =
    let slots = c.args.slots.now in
    slot_same c.args.stamps.now slots c.args.stamp c.requires.0 c.requires.1
    (ap (λ (k : ℕ). get_or slots k 0) (sym c.slot_of.ensures) ∙ c.if-found-stamp.true)
