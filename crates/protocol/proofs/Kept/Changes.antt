-- Tables in range stay so when a field changes to values in range.
use mathlib.Core.List.{List}
use Prim.Native.Nat.{ℕ}
use Rattle.protocol.specs.declared.Version.{Version}
use Rattle.protocol.specs.declared.Entry.{Entry}
use Rattle.protocol.specs.declared.Message.{Message}
use Rattle.protocol.specs.Tables.{Tables, Client, with_client, with_view, with_latest}
use Rattle.protocol.specs.Tables.{with_versions, with_messages}
use Rattle.protocol.proofs.Each.{Each}
use Rattle.protocol.proofs.Ranges.Values.{EntriesInRange, VersionInRange, MessageInRange}
use Rattle.protocol.proofs.Ranges.Clients.{ClientInRange}
use Rattle.protocol.proofs.Ranges.Tables.{InRange}
use Rattle.protocol.proofs.Put.{put_all}

module _ (t : Tables) (r : InRange t) where
  pub range-client : (d : ℕ) (c : Client) → ClientInRange t.sizes c → InRange (with_client t d c)
  range-client d c h =
      record {
        sizes = r.sizes;
        latest = r.latest;
        view = r.view;
        client = λ e i. put_all (ClientInRange t.sizes) t.client d c e h (r.client e i);
        versions = r.versions;
        messages = r.messages;
      }

  pub range-view : (d : ℕ) (f : ℕ → Entry) → EntriesInRange t.sizes f → InRange (with_view t d f)
  range-view d f h =
      record {
        sizes = r.sizes;
        latest = r.latest;
        view = λ e i. put_all (EntriesInRange t.sizes) t.view d f e h (r.view e i);
        client = r.client;
        versions = r.versions;
        messages = r.messages;
      }

  pub range-latest : (f : ℕ → Entry) → EntriesInRange t.sizes f → InRange (with_latest t f)
  range-latest f h = search

  pub range-versions : (vs : List Version) → Each (VersionInRange t.sizes) vs
      → InRange (with_versions t vs)
  range-versions vs h = search

  pub range-messages : (ms : List Message) → Each (MessageInRange t.sizes) ms
      → InRange (with_messages t ms)
  range-messages ms h = search

-- a client and its view
pub range-both : (t : Tables) → InRange t → (d : ℕ) (c : Client) (f : ℕ → Entry)
    → ClientInRange t.sizes c → EntriesInRange t.sizes f
    → InRange (with_view (with_client t d c) d f)
range-both t r d c f p q = range-view (with_client t d c) (range-client t r d c p) d f q
