-- The check tells sound tables from others; freshly made tables pass it, and every call, accepted
-- or refused, keeps tables passing.
use mathlib.Core.Bool.{true}
use mathlib.Core.Logic.{◌↔◌}
use mathlib.Core.Path.{◌≡◌}
use Rattle.protocol.specs.Tables.{Sizes, Tables, fresh}
use Rattle.protocol.specs.Range.{Capacities, sizes_in_range}
use Rattle.protocol.specs.Check.{sound}
use Rattle.protocol.specs.Calls.{Call, check, refusal, step}
use Rattle.protocol.proofs.Checks.{tells-checks}
use Rattle.protocol.proofs.Refusals.{accepted-check}
use Rattle.protocol.proofs.Ranges.Tables.{Valid}
use Rattle.condition3.proofs.Sound.{Sound, SoundBy}
use Rattle.condition3.proofs.Sound.Step.{blank, sound-fresh, sound-step}
use Rattle.condition3.proofs.Sound.Check.{ledger_of, checks-sound}
use Rattle.condition3.proofs.Sound.Passes.{sound-checks}

-- ---- what the check tells

pub tells-sound : (caps : Capacities) (t : Tables) → Valid caps t
    → (sound t ≡ true) ↔ Sound caps t
tells-sound caps t valid = (
  λ e. (ledger_of t, checks-sound caps t valid ((tells-checks t).0 e)),
  λ x. (tells-checks t).1 (sound-checks caps x.0 t x.1),
)

-- an accepted check's own ledger
pub check_sound : (caps : Capacities) (t : Tables) → refusal caps t check ≡ 0
    → SoundBy caps (ledger_of t) t
check_sound caps t e =
    let a = (accepted-check caps t).0 e in
    checks-sound caps t a.valid ((tells-checks t).0 a.passes)

-- it is accepted exactly on sound tables
pub tells-check : (caps : Capacities) (t : Tables) → (refusal caps t check ≡ 0) ↔ Sound caps t
tells-check caps t = (
  λ e. (ledger_of t, check_sound caps t e),
  λ x. let valid = x.1.valid in
      (accepted-check caps t).1
      (record { valid = valid; passes = (tells-sound caps t valid).1 x }),
)

-- ---- 'every block our own calls make from a fresh start or an accepted block is accepted'

pub check-fresh : (caps : Capacities) (z : Sizes) → sizes_in_range z ≡ true
    → refusal caps (fresh z) check ≡ 0
check-fresh caps z ok = (tells-check caps (fresh z)).1 (blank, sound-fresh caps z ok)

pub check-kept : (caps : Capacities) (t : Tables) (c : Call) → refusal caps t check ≡ 0
    → refusal caps (step caps t c).tables check ≡ 0
check-kept caps t c e =
    let x = (tells-check caps t).0 e in
    (tells-check caps (step caps t c).tables).1 (sound-step caps x.0 t x.1 c)
