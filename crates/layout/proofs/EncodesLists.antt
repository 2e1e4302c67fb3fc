-- A block that holds tables, changed in stored versions, messages and their counts alone, holds the
-- tables with other lists, if it holds these.
use mathlib.Core.List.{List}
use mathlib.Core.Path.{◌≡◌, ◌∙◌}
use Prim.Native.Nat.{ℕ, ◌+◌, ◌≤◌, ◌<◌}
use native.Mathlib.Omega.{arith}
use lib.Dec.{lit<}
use lib.ListN.{length, get_or}
use Rattle.protocol.specs.declared.Version.{Version}
use Rattle.protocol.specs.declared.Message.{Message}
use Rattle.protocol.specs.Tables.{Tables}
use Rattle.layout.specs.Layout.{header, base, at, clients_at, partitions_at, items_at}
use Rattle.layout.specs.Layout.{versions_at, messages_at, scalars, versions}
use Rattle.layout.specs.Encodes.{Encodes, HoldsVersion, HoldsMessage}
use Rattle.layout.proofs.Room.{HasRoom}
use Rattle.layout.proofs.Kept.{kept_entry}
use Rattle.layout.proofs.Sections.{row_at, row_in, rows-fixed}
use Rattle.layout.proofs.ClientWords.{KeptClient}
use Rattle.layout.proofs.ClientHolds.{kept-client}

pub record SameButLists (b b' : List ℕ) : Type 0 where
  pub long : length b' ≡ length b
  pub sizes : (i : ℕ) → i < 3 → at b' header i ≡ at b header i
  -- the fixed sections: all words from the scalars to the versions
  pub fixed : (p : ℕ) → base scalars ≤ p → p < base versions → get_or b' p 0 ≡ get_or b p 0

same-client : {b b' : List ℕ} → SameButLists b b' → (d : ℕ) → 1 ≤ d → d ≤ 8 → KeptClient d b b'
same-client same d l h = record {
  row = λ s n g. same.fixed (base s + row_at s d n) (omega (arith, (rows-fixed s n g).0))
      (omega (arith, row_in s d n l h g, (rows-fixed s n g).1));
}

pub encodes-lists : {b b' : List ℕ} {t : Tables} (vs : List Version) (ms : List Message)
    → Encodes b t → HasRoom t → SameButLists b b'
    → at b' header versions_at ≡ length vs → at b' header messages_at ≡ length ms
    → ((i : ℕ) → i < length vs → (none : Version) → HoldsVersion b' i (get_or vs i none))
    → ((i : ℕ) → i < length ms → (none : Message) → HoldsMessage b' i (get_or ms i none))
    → Encodes b' (record {
      sizes = t.sizes;
      latest = t.latest;
      view = t.view;
      client =
          t.client;
      versions = vs;
      messages = ms;
    })
encodes-lists {b} {b'} {t} vs ms n r same p q f g =
    record {
      long = omega (arith, n.long, same.long);
      clients = same.sizes clients_at (lit< tt) ∙ n.clients;
      partitions = same.sizes partitions_at (lit< tt) ∙ n.partitions;
      items = same.sizes items_at (lit< tt) ∙ n.items;
      version_count = p;
      message_count = q;
      latest = λ k l. kept_entry (λ i h. same.fixed _ (omega arith) (omega arith))
          (omega (arith, r.items)) (n.latest k l);
      view = λ d u v k l. kept_entry (λ i h. same.fixed _ (omega arith) (omega arith))
          (omega (arith, r.clients, r.items)) (n.view d u v k l);
      client = λ d u v. kept-client (same-client same d u (omega (arith, r.clients)))
          (r.client d u v) (n.client d u v);
      versions = f;
      messages = g;
    }
