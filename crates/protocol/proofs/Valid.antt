-- An accepted call leaves valid tables: in range, with a load and stored versions within the
-- bounds; where each transaction that reads and writes has a stamp, as after a fresh start and
-- every call from there. So does a fresh start.
use mathlib.Core.Bool.{true}
use mathlib.Core.Path.{◌≡◌, refl}
use Prim.Native.Nat.{ℕ, zero, suc}
use native.Mathlib.Omega.{arith}
use Rattle.basics.specs.Lists.{counted}
use Rattle.protocol.specs.Tables.{Sizes, Tables, nothing, resting, fresh}
use Rattle.protocol.specs.Range.{Capacities, sizes_in_range, arrived, load, occupied, valid}
use Rattle.protocol.specs.Calls.{Call, effect, refusal, pick, step}
use Rattle.protocol.proofs.Ranges.Values.{SizesInRange, entry-initial, tells-sizes}
use Rattle.protocol.proofs.Ranges.Tables.{InRange, Valid, Within, Stamps, facts-valid}
use Rattle.protocol.proofs.Keeps.{keeps}
use Rattle.protocol.proofs.Put.{total-none}
use Rattle.protocol.proofs.Load.{arrived-none}
use Rattle.protocol.proofs.Kept.Values.{range-nothing, range-resting}

pub valid-kept : (caps : Capacities) (t : Tables) (c : Call) → refusal caps t c ≡ 0 → Stamps t
    → Valid caps (effect t c)
unfolding effect
valid-kept caps t c e = (keeps caps t c e).valid

-- and with no premise
pub within-kept : (caps : Capacities) (t : Tables) (c : Call) → refusal caps t c ≡ 0
    → Within caps (effect t c)
unfolding effect
within-kept caps t c e = (keeps caps t c e).within

pub valid-step : (caps : Capacities) (t : Tables) (c : Call) → refusal caps t c ≡ 0 → Stamps t
    → valid caps (effect t c) ≡ true
valid-step caps t c e stamps = facts-valid caps (effect t c) (valid-kept caps t c e stamps)

-- and the premise stays
pub stamps-kept : (caps : Capacities) (t : Tables) (c : Call) → refusal caps t c ≡ 0 → Stamps t
    → Stamps (effect t c)
unfolding effect
stamps-kept caps t c e = (keeps caps t c e).stamps

-- accepted or refused
pub valid-next : (caps : Capacities) (t : Tables) (c : Call) → valid caps t ≡ true → Stamps t
    → (valid caps (step caps t c).tables ≡ true) × Stamps (step caps t c).tables
unfolding step
valid-next caps t c v stamps = at (refusal caps t c) refl
  where
    at : (n : ℕ) → refusal caps t c ≡ n
        → (valid caps (pick n (effect t c) t) ≡ true) × Stamps (pick n (effect t c) t)
    at zero e = (valid-step caps t c e stamps, stamps-kept caps t c e stamps)
    at (suc n) e = (v, stamps)

-- ---- A fresh start

pub range-fresh : (z : Sizes) → SizesInRange z → InRange (fresh z)
range-fresh z h =
    record {
      sizes = h;
      latest = λ k l. entry-initial z;
      view = λ d i k l. entry-initial z;
      client = λ d i. range-resting z 0 nothing (omega arith) (range-nothing z);
      versions = λ v i. absurd i;
      messages = λ m i. absurd i;
    }

pub load_fresh : (z : Sizes) → load (fresh z) ≡ 0
unfolding load
load_fresh z = omega (
  arith,
  total-none z.clients (λ d. arrived (resting 0 nothing))
      (λ d. arrived-none (resting 0 nothing) refl refl),
)

pub occupied-fresh : (z : Sizes) → occupied (fresh z) ≡ 0
unfolding occupied counted
occupied-fresh z = refl

pub valid-fresh : (caps : Capacities) (z : Sizes) → sizes_in_range z ≡ true
    → valid caps (fresh z) ≡ true
valid-fresh caps z e =
    facts-valid caps (fresh z)
    (record {
      in_range = range-fresh z ((tells-sizes z).0 e);
      load = omega (arith, load_fresh z);
      occupied = omega (arith, occupied-fresh z);
    })

pub stamps-fresh : (z : Sizes) → Stamps (fresh z)
stamps-fresh z d is r w = absurd (r refl)
