-- What holds of the tables alone after every call: document 02's rules for a kept block. There is a
-- ledger, of each stamp its set and values, with which every copy agrees, so that each rule is
-- about one place of the tables.
pub mod Apart
pub mod Carry
pub mod Delivery
pub mod Distinct
pub mod Staying
pub mod Counts
pub mod End
pub mod Start
pub mod StartRead
pub mod StartFast
pub mod StartWrite
pub mod StartMixed
pub mod Step
pub mod DeliverPrepare
pub mod DeliverPrepared
pub mod DeliverCommit
pub mod DeliverGet
pub mod DeliverGot
pub mod DeliverFirst
pub mod Check
pub mod Passes
pub mod Checked
use mathlib.Core.Bool.{true, false, cond, ◌||◌}
use mathlib.Core.List.{List}
use mathlib.Core.Logic.{◌≢◌}
use mathlib.Core.Path.{◌≡◌}
use Prim.Native.Nat.{ℕ, ◌≤◌, ◌<◌}
use lib.Dec.{eqb}
use Rattle.basics.specs.Lists.{In, counted}
use Rattle.itemset.specs.Set.{has}
use Rattle.protocol.specs.declared.Version.{Version}
use Rattle.protocol.specs.declared.Entry.{Entry}
use Rattle.protocol.specs.declared.Message.{Message}
use Rattle.protocol.specs.declared.Message.TheVariants.{Prepare, Prepared, Commit, Get, Got}
use Rattle.protocol.specs.declared.Message.TheVariants.{FirstGet, FirstReply}
use Rattle.protocol.specs.Tables.{Tables, Client, ReadPart, Side, awaited_of, Ended, shows_write}
use Rattle.protocol.specs.Tables.{stamp_of, entry_of, number_of, writer_of}
use Rattle.protocol.specs.Message.{owner_of}
use Rattle.protocol.specs.Range.{Capacities, has_first}
use Rattle.protocol.specs.Steps.{stored}
use Rattle.protocol.specs.Check.{answered_again}
unfoldable pub use Rattle.protocol.specs.Check.{distinct}
use Rattle.protocol.proofs.Ranges.Values.{IsClient}
use Rattle.protocol.proofs.Ranges.Tables.{Valid}
use Rattle.condition3.proofs.Common.{is_for}

-- what each stamp stands for: the set that was written, and the value of each of its items
pub record Ledger : Type 0 where
  pub set : ℕ → ℕ
  pub value : ℕ → ℕ → ℕ

-- a stamp that is initial, or is whole (all its items are stored) and has the item in its set
pub record Good (L : Ledger) (vs : List Version) (k s : ℕ) : Type 0 where
  pub mine : (eqb s 0 || has (L.set s) k) ≡ true
  pub whole : (j : ℕ) → has (L.set s) j ≡ true → stored vs j s ≡ true

-- and whose copy of the set agrees
pub record GoodEntry (L : Ledger) (vs : List Version) (k : ℕ) (e : Entry) : Type 0 where
  pub good : Good L vs k e.stamp
  pub agrees : e.set ≡ L.set e.stamp

-- no stamp's number is above its client's count
abbrev pub Counted : (ℕ → Client) → ℕ → Type 0
Counted client s = number_of s ≤ (client (writer_of s)).count

-- a stored version's set and value agree, and its stamp is counted
pub record Kept (L : Ledger) (client : ℕ → Client) (v : Version) : Type 0 where
  pub agrees : v.set ≡ L.set v.stamp
  pub value : v.value ≡ L.value v.stamp v.item
  pub number : Counted client v.stamp

-- a write part under way is stamped with its own client and count, its set and values agree, and
-- its items no longer awaited are stored
pub record Writes (L : Ledger) (vs : List Version) (d : ℕ) (c : Client) : Type 0 where
  pub newest : c.write.stamp ≡ stamp_of c.count d
  pub agrees : c.write.set ≡ L.set c.write.stamp
  pub values : (k : ℕ) → has c.write.set k ≡ true
      → c.write.values k ≡ L.value c.write.stamp k
  pub arrived : (k : ℕ) → has c.write.set k ≡ true → has c.write.awaited k ≡ false
      → stored vs k c.write.stamp ≡ true

-- the set of a last ended transaction's write part agrees, and its stamp is counted
pub record Past (L : Ledger) (client : ℕ → Client) (set stamp : ℕ) : Type 0 where
  pub agrees : set ≡ L.set stamp
  pub number : Counted client stamp

abbrev pub Last : Ledger → (ℕ → Client) → Ended → Type 0
Last L client e =
    shows_write e.kind ≡ true → Past L client e.write.set e.write.stamp

-- a first reply that a read under way keeps holds its version's value, until its item's second
-- answer has come
abbrev pub FirstValue : Ledger → ReadPart → ℕ → Type 0
FirstValue L p k = has_first p k ≡ true → answered_again p k ≡ false
    → p.values k ≡ L.value (p.firsts k).stamp k

-- a message fits its part of its client's transaction, in stamp, set and value; a commit's write is
-- whole
pub record FitsPrepare (L : Ledger) (vs : List Version) (c : Client) (v : Version) : Type 0 where
  pub mode : c.write.set ≢ 0
  pub stamp : c.write.stamp ≡ v.stamp
  pub agrees : v.set ≡ L.set v.stamp
  pub value : v.value ≡ L.value v.stamp v.item
  pub unstored : stored vs v.item v.stamp ≡ false

pub record FitsPrepared (vs : List Version) (c : Client) (k s : ℕ) : Type 0 where
  pub mode : c.write.set ≢ 0
  pub stamp : c.write.stamp ≡ s
  pub is_stored : stored vs k s ≡ true

pub record FitsCommit (L : Ledger) (vs : List Version) (s : ℕ) : Type 0 where
  pub item : ℕ
  pub some : stored vs item s ≡ true
  pub whole : (j : ℕ) → has (L.set s) j ≡ true → stored vs j s ≡ true

pub record FitsGet (L : Ledger) (vs : List Version) (c : Client) (k s : ℕ) : Type 0 where
  pub mode : c.read.set ≢ 0
  pub by_stamp : c.read.stage ≢ 1
  pub asked : c.read.asked k ≡ s
  pub good : Good L vs k s

pub record FitsGot (L : Ledger) (vs : List Version) (c : Client) (v : Version)
    (e : Entry) : Type 0 where
  pub mode : c.read.set ≢ 0
  pub by_stamp : c.read.stage ≢ 1
  pub asked : c.read.asked v.item ≡ v.stamp
  pub version : GoodEntry L vs v.item (entry_of v)
  pub value : v.value ≡ L.value v.stamp v.item
  pub latest : GoodEntry L vs v.item e

-- a first get and a first reply fit a first part, whatever the stamp
pub record FitsFirstGet (c : Client) : Type 0 where
  pub mode : c.read.set ≢ 0
  pub by_item : c.read.stage ≡ 1

pub record FitsFirstReply (L : Ledger) (vs : List Version) (c : Client) (v : Version)
    (e : Entry) : Type 0 where
  pub mode : c.read.set ≢ 0
  pub by_item : c.read.stage ≡ 1
  pub version : GoodEntry L vs v.item (entry_of v)
  pub value : v.value ≡ L.value v.stamp v.item
  pub latest : GoodEntry L vs v.item e

unfoldable pub Fits : Ledger → List Version → Client → Message → Type 0
Fits L vs c (Prepare v) = FitsPrepare L vs c v
Fits L vs c (Prepared k s) = FitsPrepared vs c k s
Fits L vs c (Commit p s) = FitsCommit L vs s
Fits L vs c (Get d k s) = FitsGet L vs c k s
Fits L vs c (Got d v e) = FitsGot L vs c v e
Fits L vs c (FirstGet d k) = FitsFirstGet c
Fits L vs c (FirstReply d v e) = FitsFirstReply L vs c v e

pub record SoundBy (caps : Capacities) (L : Ledger) (t : Tables) : Type 0 where
  pub valid : Valid caps t
  -- the initial stamp's set is empty, and its values are 0
  pub no_set : L.set 0 ≡ 0
  pub no_value : (k : ℕ) → L.value 0 k ≡ 0
  pub view : (d k : ℕ) → IsClient t.sizes d → k < t.sizes.items
      → GoodEntry L t.versions k (t.view d k)
  pub latest : (k : ℕ) → k < t.sizes.items → GoodEntry L t.versions k (t.latest k)
  pub versions : (v : Version) → In v t.versions → Kept L t.client v
  pub distinct : distinct t.versions ≡ true
  pub writes : (d : ℕ) → IsClient t.sizes d → (t.client d).write.set ≢ 0
      → Writes L t.versions d (t.client d)
  pub last : (d : ℕ) → IsClient t.sizes d → Last L t.client (t.client d).last
  -- first replies that have come, until the read ends
  pub firsts : (d k : ℕ) → IsClient t.sizes d → has_first (t.client d).read k ≡ true
      → GoodEntry L t.versions k ((t.client d).read.firsts k)
  pub first_values : (d k : ℕ) → IsClient t.sizes d → FirstValue L (t.client d).read k
  -- each item awaited, of either part, has exactly one message, and every other message is a commit
  pub one : (σ : Side) (d k : ℕ) → IsClient t.sizes d
      → counted (is_for σ d k) t.messages ≡ cond (has (awaited_of σ (t.client d)) k) 1 0
  pub fits : (m : Message) → In m t.messages → Fits L t.versions (t.client (owner_of m)) m

abbrev pub Sound : Capacities → Tables → Type 0
Sound caps t = (L : Ledger) × SoundBy caps L t
