-- The invariant: sound tables, and a thin link to the history of calls, which says of each stamp's
-- write its set, its values and where its items were stored.
pub mod Grows
pub mod Apart
pub mod Messages
pub mod Owes
pub mod Starts
pub mod Delivery
pub mod Step
pub mod Asks
pub mod Held
pub mod Dated
use mathlib.Core.Bool.{true}
use mathlib.Core.List.{List, map}
use mathlib.Core.Path.{◌≡◌}
use Prim.Native.Nat.{ℕ, ◌<◌}
use Rattle.basics.specs.Lists.{In}
use Rattle.itemset.specs.Set.{has}
use Rattle.protocol.specs.declared.Version.{Version}
use Rattle.protocol.specs.declared.Message.{Message}
use Rattle.protocol.specs.Tables.{Client}
use Rattle.protocol.specs.Message.{parts_of, is_prepare, is_any_got, owner_of}
use Rattle.protocol.specs.Range.{Capacities}
use Rattle.condition3.specs.World.{World, Label, Labelled, Write, Store}
use Rattle.condition3.proofs.Sound.{Ledger, Counted, SoundBy}
use Rattle.condition3.proofs.Common.{known}

-- its own prepare of item j was delivered before time n
abbrev pub LandedBefore : List Store → Write → ℕ → ℕ → Type 0
LandedBefore stores a j n = (σ : Store) × In σ stores × (σ.start ≡ a.start) × (σ.item ≡ j)
    × (σ.time < n)

-- a write of the history is in the ledger
pub record Entered (L : Ledger) (client : ℕ → Client) (a : Write) : Type 0 where
  pub set : a.set ≡ L.set a.stamp
  pub values : (k : ℕ) → has a.set k ≡ true → a.values k ≡ L.value a.stamp k
  pub number : Counted client a.stamp

-- item k of this stamp was stored by a write of the history
pub record Landed (writes : List Write) (stores : List Store) (time s k : ℕ) : Type 0 where
  pub write : Write
  pub is_in : In write writes
  pub same : write.stamp ≡ s
  pub before : LandedBefore stores write k time

-- where a message comes from: a prepare from its write's own start, a got, of either kind, from a
-- write that had landed when the get was answered
pub record FromStart (writes : List Write) (l : Label) (s : ℕ) : Type 0 where
  pub write : Write
  pub is_in : In write writes
  pub same : write.stamp ≡ s
  pub started : write.start ≡ l.start

pub record FromAnswer (writes : List Write) (stores : List Store) (l : Label) (s : ℕ) : Type 0 where
  pub write : Write
  pub is_known : In write (known writes)
  pub same : write.stamp ≡ s
  pub landed : (j : ℕ) → has write.set j ≡ true → LandedBefore stores write j l.since

pub record Comes (writes : List Write) (stores : List Store) (l : Label)
    (m : Message) : Type 0 where
  pub prepare : is_prepare m ≡ true → FromStart writes l (parts_of m).stamp
  pub got : is_any_got m ≡ true → FromAnswer writes stores l (parts_of m).stamp

pub record Inv (caps : Capacities) (w : World) : Type 0 where
  pub ledger : Ledger
  pub sound : SoundBy caps ledger w.tables
  pub in_flight : map (λ l. l.message) w.in_flight ≡ w.tables.messages
  pub owners : (l : Labelled) → In l w.in_flight → l.label.client ≡ owner_of l.message
  pub unique : (a b : Write) → In a (known w.writes) → In b (known w.writes)
      → a.stamp ≡ b.stamp → a ≡ b
  pub entered : (a : Write) → In a (known w.writes) → Entered ledger w.tables.client a
  pub stored : (v : Version) → In v w.tables.versions
      → Landed w.writes w.stores w.time v.stamp v.item
  pub comes : (l : Labelled) → In l w.in_flight
      → Comes w.writes w.stores l.label l.message
