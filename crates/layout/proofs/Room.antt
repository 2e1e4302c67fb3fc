-- The tables that a block has words for: no size, set or list is past its section. Valid tables are
-- such.
use mathlib.Core.Bool.{true}
use mathlib.Core.List.{List}
use mathlib.Core.Path.{◌≡◌}
use Prim.Native.Nat.{ℕ, ◌≤◌, ◌<◌, ◌^◌}
use native.Mathlib.Nat.{lt_of_lt_of_le}
use native.Mathlib.Omega.{arith}
use lib.ListN.{length}
use Rattle.itemset.specs.Set.{has}
use Rattle.itemset.proofs.Laws.{has-below}
use Rattle.protocol.specs.declared.Version.{Version}
use Rattle.protocol.specs.declared.Message.{Message}
use Rattle.protocol.specs.Tables.{Sizes, Tables, Client, Ended, shows_read, shows_write, with_client}
use Rattle.protocol.specs.Tables.{with_versions, with_messages}
use Rattle.protocol.specs.Range.{capacities, load, occupied}
use Rattle.protocol.proofs.Ranges.Tables.{Valid}
use Rattle.protocol.proofs.Ranges.Clients.{EndedInRange, ClientInRange}
use Rattle.protocol.proofs.Put.{put_all}
use Rattle.layout.specs.Layout.{most_clients, most_items, most_versions, most_messages}

-- the items of a set are among the 64 that a block has words for
abbrev pub Narrow : ℕ → Type 0
Narrow s = (k : ℕ) → has s k ≡ true → k < most_items

pub record NarrowEnded (e : Ended) : Type 0 where
  pub read : shows_read e.kind ≡ true → Narrow e.read.set
  pub write : shows_write e.kind ≡ true → Narrow e.write.set

pub record NarrowClient (c : Client) : Type 0 where
  pub read : Narrow c.read.set
  pub write : Narrow c.write.set
  pub last : NarrowEnded c.last

pub record Room (z : Sizes) (each : ℕ → Client) (version_count message_count : ℕ) : Type 0 where
  pub clients : z.clients ≤ most_clients
  pub items : z.items ≤ most_items
  pub versions : version_count ≤ most_versions
  pub messages : message_count ≤ most_messages
  pub client : (d : ℕ) → 1 ≤ d → d ≤ z.clients → NarrowClient (each d)

-- a change of latest or view leaves this fact as it is
abbrev pub HasRoom : Tables → Type 0
HasRoom t = Room t.sizes t.client (length t.versions) (length t.messages)

pub narrow_below : (s n : ℕ) → s < 2 ^ n → n ≤ most_items → Narrow s
narrow_below s n l h k e = lt_of_lt_of_le (has-below s k n l e) h

narrow-ended : (z : Sizes) → z.items ≤ most_items → (e : Ended) → EndedInRange z e → NarrowEnded e
narrow-ended z h e r = record {
  read = λ s. narrow_below e.read.set z.items (r.read s).set h;
  write = λ s. narrow_below e.write.set z.items (r.write s).set h;
}

pub narrow-client : (z : Sizes) → z.items ≤ most_items → (c : Client) → ClientInRange z c
    → NarrowClient c
narrow-client z h c r = record {
  read = narrow_below c.read.set z.items r.read.set h;
  write = narrow_below c.write.set z.items r.write.set h;
  last = narrow-ended z h c.last r.last;
}

pub room-valid : (t : Tables) → Valid capacities t → HasRoom t
unfolding load occupied
room-valid t v =
    let z = v.in_range.sizes in
    record {
      clients = z.clients;
      items = z.items;
      versions = omega (arith, v.occupied);
      messages = omega (arith, v.load);
      client = λ d l h. narrow-client t.sizes z.items (t.client d)
          (v.in_range.client d (l, h));
    }

-- a client with narrow sets in a client's place
pub room-client : (t : Tables) (d : ℕ) (c : Client) → HasRoom t → NarrowClient c
    → HasRoom (with_client t d c)
room-client t d c r n =
    record {
      clients = r.clients;
      items = r.items;
      versions = r.versions;
      messages = r.messages;
      client = λ e l h. put_all NarrowClient t.client d c e n (r.client e l h);
    }

-- lists that fit
pub room-versions : (t : Tables) (vs : List Version) → HasRoom t → length vs ≤ most_versions
    → HasRoom (with_versions t vs)
room-versions t vs r l = record {
  clients = r.clients;
  items = r.items;
  versions = l;
  messages =
      r.messages;
  client = r.client;
}

pub room-messages : (t : Tables) (ms : List Message) → HasRoom t → length ms ≤ most_messages
    → HasRoom (with_messages t ms)
room-messages t ms r l = record {
  clients = r.clients;
  items = r.items;
  versions =
      r.versions;
  messages = l;
  client = r.client;
}
