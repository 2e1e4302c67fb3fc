-- What the tests of sizes, stamps, entries, versions and messages tell, as records of plain facts,
-- both ways: a law `tells-x` reads the facts off the test (`.0`) and proves the test from the facts
-- (`.1`).
use mathlib.Core.Bool.{Bool, true, false, cond}
use mathlib.Core.Logic.{◌↔◌, ◌≢◌}
use mathlib.Core.Path.{◌≡◌, refl}
use Prim.Native.Nat.{ℕ, ◌^◌, ◌≤◌, ◌<◌}
use native.Mathlib.Omega.{arith}
use lib.Pow.{pow_pos}
use borrow.Author.Tests.{leb-true, leb-false}
use Rattle.basics.proofs.Cases.{by-test, not-both}
use Rattle.itemset.specs.Set.{has}
use Rattle.protocol.specs.declared.Version.{Version}
use Rattle.protocol.specs.declared.Entry.{Entry}
use Rattle.protocol.specs.declared.Message.{Message}
use Rattle.protocol.specs.declared.Message.TheVariants.{Prepare, Prepared, Commit, Get}
use Rattle.protocol.specs.declared.Message.TheVariants.{FirstGet}
use Rattle.protocol.specs.Tables.{Sizes, initial, entry_of, number_of, writer_of}
use Rattle.protocol.specs.Range.{sizes_in_range, stamp_in_range, entry_in_range, version_in_range}
use Rattle.protocol.specs.Range.{message_in_range}
use Rattle.protocol.specs.Message.{Parts, parts as parts_with, parts_of, kind_of, names_client}
use Rattle.protocol.specs.Message.{owner_of}
use Rattle.protocol.proofs.Tells.{tells}

-- ---- Sizes and clients

pub record SizesInRange (z : Sizes) : Type 0 where
  pub some_client : 1 ≤ z.clients
  pub clients : z.clients ≤ 8
  pub some_partition : 1 ≤ z.partitions
  pub partitions : z.partitions ≤ 8
  pub some_item : 1 ≤ z.items
  pub items : z.items ≤ 64

pub tells-sizes : (z : Sizes) → (sizes_in_range z ≡ true) ↔ SizesInRange z
unfolding sizes_in_range
tells-sizes z = (λ e. let f = simp tells at e in search, λ r. simp tells search)

abbrev pub IsClient : Sizes → ℕ → Type 0
IsClient z d = (1 ≤ d) × (d ≤ z.clients)

-- ---- Stamps

-- a stamp that isn't initial
pub record Stamped (z : Sizes) (stamp : ℕ) : Type 0 where
  pub number : 1 ≤ number_of stamp
  pub fits : number_of stamp < 2 ^ 32
  pub writer : IsClient z (writer_of stamp)

abbrev pub StampInRange : Sizes → ℕ → Type 0
StampInRange z stamp = stamp ≢ 0 → Stamped z stamp

pub tells-stamp : (z : Sizes) (stamp : ℕ) → (stamp_in_range z stamp ≡ true) ↔ StampInRange z stamp
unfolding stamp_in_range
tells-stamp z stamp = (
  λ e n. let f = simp tells at e in let g = f n in
      search,
  λ r. simp tells λ n. let g = r n in search,
)

-- ---- Entries, versions, messages

pub record EntryInRange (z : Sizes) (e : Entry) : Type 0 where
  pub stamp : StampInRange z e.stamp
  pub set : e.set < 2 ^ z.items

pub tells-entry : (z : Sizes) (e : Entry) → (entry_in_range z e ≡ true) ↔ EntryInRange z e
unfolding entry_in_range
tells-entry z e = (
  λ h. let f = simp (tells, tells-stamp) at h in
      search,
  λ r. simp (tells, tells-stamp) search,
)

-- a view, or the latest entries
abbrev pub EntriesInRange : Sizes → (ℕ → Entry) → Type 0
EntriesInRange z f = (k : ℕ) → k < z.items → EntryInRange z (f k)

pub record VersionInRange (z : Sizes) (v : Version) : Type 0 where
  pub item : v.item < z.items
  pub value : v.value < 2 ^ 32
  pub stamp : Stamped z v.stamp
  pub set : v.set < 2 ^ z.items
  pub own : has v.set v.item ≡ true

pub initial-not : (z : Sizes) (stamp : ℕ) → Stamped z stamp → stamp ≢ 0
initial-not z stamp s e = omega arith

pub stamped : (z : Sizes) (stamp : ℕ) → StampInRange z stamp → stamp ≢ 0 → Stamped z stamp
stamped z stamp h n = h n

pub ruleset parts = (tells, tells-stamp, tells-entry)

pub tells-version : (z : Sizes) (v : Version) → (version_in_range z v ≡ true) ↔ VersionInRange z v
unfolding version_in_range
tells-version z v = (
  λ h. let f = simp parts at h in
      search stamped,
  λ r. simp parts (search initial-not),
)

-- a message, by its parts: the place of a get or got, of either kind, is a client, any other's a
-- partition, and what stands for a part that a kind doesn't have is in range
pub record PartsInRange (z : Sizes) (p : Parts) : Type 0 where
  pub client : 4 ≤ p.kind → IsClient z p.place
  pub partition : p.kind < 4 → p.place < z.partitions
  pub item : p.item < z.items
  pub value : p.value < 2 ^ 32
  pub stamp : StampInRange z p.stamp
  pub set : p.set < 2 ^ z.items
  pub latest : EntryInRange z p.latest
  pub written : p.kind < 4 → Stamped z p.stamp
  pub own : p.kind ≡ 1 → has p.set p.item ≡ true

abbrev pub MessageInRange : Sizes → Message → Type 0
MessageInRange z m = PartsInRange z (parts_of m)

tells-choice : (b x y : Bool) → (cond b x y ≡ true)
    ↔ ((b ≡ true → x ≡ true) × (b ≡ false → y ≡ true))
tells-choice true x y = (λ h. (λ e. h, λ e. not-both refl e), λ p. p.0 refl)
tells-choice false x y = (λ h. (λ e. not-both e refl, λ e. h), λ p. p.1 refl)

pub tells-message : (z : Sizes) (m : Message) → (message_in_range z m ≡ true) ↔ MessageInRange z m
unfolding message_in_range
tells-message z m = (
  λ h.
      let f = simp (parts, tells-choice) at h in
      let written : kind_of m < 4 → Stamped z (parts_of m).stamp =
      λ l. f.0.0.0.0.1 (f.0.1 l) in
      search,
  λ r.
      let later : kind_of m < 4 → (parts_of m).stamp ≢ 0 =
      λ l. initial-not z (parts_of m).stamp (r.written l) in
      simp (parts, tells-choice) search,
)

-- the client of a message exists
pub owner-in-range : (z : Sizes) (m : Message) → MessageInRange z m → IsClient z (owner_of m)
owner-in-range z m r =
    by-test (names_client m) (λ e. rw e (r.client (leb-true 4 (kind_of m) e)))
    (λ e. rw e (r.written (leb-false 4 (kind_of m) e)).writer)

-- ---- messages in range, kind by kind

pub entry-initial : (z : Sizes) → EntryInRange z initial
entry-initial z = record { stamp = λ n. absurd (n refl); set = pow_pos z.items }

module _ (z : Sizes) (sizes : SizesInRange z) where
  pub range-prepare : (v : Version) → VersionInRange z v → MessageInRange z (Prepare v)
  range-prepare v r =
      record {
        client = λ l. absurd (omega arith);
        partition = λ l. sizes.some_partition;
        item = r.item;
        value = r.value;
        stamp = λ n. r.stamp;
        set = r.set;
        latest = entry-initial z;
        written = λ l. r.stamp;
        own = λ e. r.own;
      }

  pub range-reply : (k stamp : ℕ) → k < z.items → Stamped z stamp
      → MessageInRange z (Prepared k stamp)
  range-reply k stamp item r =
      record {
        client = λ l. absurd (omega arith);
        partition = λ l. sizes.some_partition;
        item = item;
        value = omega arith;
        stamp = λ n. r;
        set = pow_pos z.items;
        latest = entry-initial z;
        written = λ l. r;
        own = λ e. absurd (omega arith);
      }

  pub range-commit : (p stamp : ℕ) → p < z.partitions → Stamped z stamp
      → MessageInRange z (Commit p stamp)
  range-commit p stamp partition r =
      record {
        client = λ l. absurd (omega arith);
        partition = λ l. partition;
        item = sizes.some_item;
        value = omega arith;
        stamp = λ n. r;
        set = pow_pos z.items;
        latest = entry-initial z;
        written = λ l. r;
        own = λ e. absurd (omega arith);
      }

  pub range-get : (d k stamp : ℕ) → IsClient z d → k < z.items → StampInRange z stamp
      → MessageInRange z (Get d k stamp)
  range-get d k stamp client item r =
      record {
        client = λ l. client;
        partition = λ l. absurd (omega arith);
        item = item;
        value = omega arith;
        stamp = r;
        set = pow_pos z.items;
        latest = entry-initial z;
        written = λ l. absurd (omega arith);
        own = λ e. absurd (omega arith);
      }

-- a got and a first reply bring the same
pub record ReplyInRange (z : Sizes) (d : ℕ) (v : Version) (e : Entry) : Type 0 where
  pub client : IsClient z d
  pub item : v.item < z.items
  pub value : v.value < 2 ^ 32
  pub entry : EntryInRange z (entry_of v)
  pub latest : EntryInRange z e

module _ (z : Sizes) (d : ℕ) where
  pub range-first-get : (k : ℕ) → IsClient z d → k < z.items → MessageInRange z (FirstGet d k)
  range-first-get k client item =
      record {
        client = λ l. client;
        partition = λ l. absurd (omega arith);
        item = item;
        value = omega arith;
        stamp = λ n. absurd (n refl);
        set = pow_pos z.items;
        latest = entry-initial z;
        written = λ l. absurd (omega arith);
        own = λ e. absurd (omega arith);
      }

  -- by its kind's number
  pub tells-reply : (v : Version) (latest : Entry) (kind : ℕ) → 5 ≤ kind
      → PartsInRange z (parts_with kind d v.item v.value v.stamp v.set latest)
      ↔ ReplyInRange z d v latest
  tells-reply v latest kind l = (
    λ h. record {
      client = h.client (omega arith);
      item = h.item;
      value = h.value;
      entry = record { stamp = h.stamp; set = h.set };
      latest = h.latest;
    },
    λ r. record {
      client = λ m. r.client;
      partition = λ m. absurd (omega arith);
      item = r.item;
      value = r.value;
      stamp = r.entry.stamp;
      set = r.entry.set;
      latest = r.latest;
      written = λ m. absurd (omega arith);
      own = λ e. absurd (omega arith);
    },
  )
