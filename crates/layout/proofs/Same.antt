-- A block holds tables by their entries and clients within the sizes: functions that agree there
-- are as good.
use mathlib.Core.List.{List}
use mathlib.Core.Path.{◌≡◌, subst}
use Prim.Native.Nat.{ℕ, ◌≤◌, ◌<◌}
use Rattle.protocol.specs.declared.Entry.{Entry}
use Rattle.protocol.specs.Tables.{Tables}
use Rattle.layout.specs.Layout.{latest, views, latest_at, view_at}
use Rattle.layout.specs.Encodes.{Encodes, HoldsEntry}

pub encodes-same-latest : {b : List ℕ} {t : Tables} (entries : ℕ → Entry) → Encodes b t
    → ((k : ℕ) → k < t.sizes.items → t.latest k ≡ entries k)
    → Encodes b (record {
      sizes = t.sizes;
      latest = entries;
      view = t.view;
      client =
          t.client;
      versions = t.versions;
      messages = t.messages;
    })
encodes-same-latest {b} {t} entries n same =
    record {
      long = n.long;
      clients = n.clients;
      partitions = n.partitions;
      items = n.items;
      version_count = n.version_count;
      message_count = n.message_count;
      latest = λ k l. subst (HoldsEntry b latest (latest_at k)) (same k l) (n.latest k l);
      view = n.view;
      client = n.client;
      versions = n.versions;
      messages = n.messages;
    }

pub encodes-same-view : {b : List ℕ} {t : Tables} (view : ℕ → ℕ → Entry) → Encodes b t
    → ((d : ℕ) → 1 ≤ d → d ≤ t.sizes.clients → (k : ℕ) → k < t.sizes.items
    → t.view d k ≡ view d k)
    → Encodes b (record {
      sizes = t.sizes;
      latest = t.latest;
      view = view;
      client =
          t.client;
      versions = t.versions;
      messages = t.messages;
    })
encodes-same-view {b} {t} view n same =
    record {
      long = n.long;
      clients = n.clients;
      partitions = n.partitions;
      items = n.items;
      version_count = n.version_count;
      message_count = n.message_count;
      latest = n.latest;
      view = λ d p q k l. subst (HoldsEntry b views (view_at d k)) (same d p q k l) (n.view d p q k l);
      client = n.client;
      versions = n.versions;
      messages = n.messages;
    }
