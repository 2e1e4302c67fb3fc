-- What the tests of the whole tables tell, as records of plain facts, both ways: what is in range,
-- and what is valid.
use mathlib.Core.Bool.{true}
use mathlib.Core.Logic.{◌↔◌, ◌≢◌}
use mathlib.Core.Path.{◌≡◌}
use Prim.Native.Nat.{ℕ, zero, suc, ◌≤◌, ◌<◌}
use native.Mathlib.Omega.{arith}
use Rattle.protocol.specs.Tables.{Sizes, Tables}
use Rattle.protocol.specs.Range.{in_range, load, occupied, Capacities, valid}
use Rattle.protocol.proofs.Each.{Each}
use Rattle.protocol.proofs.Tells.{tells}
use Rattle.protocol.proofs.Ranges.Values.{SizesInRange, IsClient, EntriesInRange}
use Rattle.protocol.proofs.Ranges.Values.{VersionInRange, MessageInRange, parts, tells-sizes}
use Rattle.protocol.proofs.Ranges.Values.{tells-version, tells-message}
use Rattle.protocol.proofs.Ranges.Clients.{ClientInRange, tells-client}

-- ---- Tables

pub record InRange (t : Tables) : Type 0 where
  pub sizes : SizesInRange t.sizes
  pub latest : EntriesInRange t.sizes t.latest
  pub view : (d : ℕ) → IsClient t.sizes d → EntriesInRange t.sizes (t.view d)
  pub client : (d : ℕ) → IsClient t.sizes d → ClientInRange t.sizes (t.client d)
  pub versions : Each (VersionInRange t.sizes) t.versions
  pub messages : Each (MessageInRange t.sizes) t.messages

-- clients count from 1
pub is-client : (z : Sizes) (i : ℕ) → i < z.clients → IsClient z (suc i)
is-client z i l = omega arith

pub each-client : (z : Sizes) (P : ℕ → Type 0) → ((i : ℕ) → i < z.clients → P (suc i)) → (d : ℕ)
    → IsClient z d → P d
each-client z P h zero c = absurd (omega arith)
each-client z P h (suc i) c = h i c.1

ruleset whole = (parts, tells-sizes, tells-version, tells-message, tells-client)

pub tells-tables : (t : Tables) → (in_range t ≡ true) ↔ InRange t
unfolding in_range
tells-tables t = (
  λ h.
      let z = t.sizes in
      let f = simp whole at h in
      let view = each-client z (λ d. EntriesInRange z (t.view d)) f.0.0.0.1 in
      let client = each-client z (λ d. ClientInRange z (t.client d)) f.0.0.1 in
      search,
  λ r. simp whole (search (r.view, r.client, is-client)),
)

pub in_range-facts : (t : Tables) → in_range t ≡ true → InRange t
in_range-facts t = (tells-tables t).0

pub facts-in_range : (t : Tables) → InRange t → in_range t ≡ true
facts-in_range t = (tells-tables t).1

-- ---- Valid

pub record Valid (caps : Capacities) (t : Tables) : Type 0 where
  pub in_range : InRange t
  pub load : load t ≤ caps.load
  pub occupied : occupied t ≤ caps.versions

-- of which this is left after every accepted call, also where a transaction that reads and writes
-- has the initial stamp
pub record Within (caps : Capacities) (t : Tables) : Type 0 where
  pub client : (d : ℕ) → IsClient t.sizes d → ClientInRange t.sizes (t.client d)
  pub load : load t ≤ caps.load
  pub occupied : occupied t ≤ caps.versions

pub valid-within : (caps : Capacities) (t : Tables) → Valid caps t → Within caps t
valid-within caps t v =
    record { client = v.in_range.client; load = v.load; occupied = v.occupied }

pub tells-valid : (caps : Capacities) (t : Tables) → (valid caps t ≡ true) ↔ Valid caps t
unfolding valid
tells-valid caps t = (
  λ h. let f = simp (tells, tells-tables) at h in
      search,
  λ r. simp (tells, tells-tables) search,
)

pub valid-facts : (caps : Capacities) (t : Tables) → valid caps t ≡ true → Valid caps t
valid-facts caps t = (tells-valid caps t).0

pub facts-valid : (caps : Capacities) (t : Tables) → Valid caps t → valid caps t ≡ true
facts-valid caps t = (tells-valid caps t).1

-- ---- Transactions that read and write have a stamp

-- Range doesn't ask for it (document 01's list has no such rule), so tables that no call of ours
-- made may lack it; then a got may end such a transaction, whose commits are out of range.
abbrev pub Stamps : Tables → Type 0
Stamps t = (d : ℕ) → IsClient t.sizes d → (t.client d).read.set ≢ 0
    → (t.client d).write.set ≢ 0 → (t.client d).write.stamp ≢ 0
