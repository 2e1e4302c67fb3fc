-- A block that holds tables, changed in words of one client alone, holds the tables with that
-- client another, if its words hold that client.
use mathlib.Core.List.{List}
use mathlib.Core.Path.{refl, ◌∙◌}
use Prim.Native.Nat.{ℕ, ◌≤◌}
use native.Mathlib.Omega.{arith}
use lib.Dec.{eqb}
use lib.ListN.{get_or}
use borrow.Author.Tests.{eqb-true, eqb-false}
use Rattle.protocol.specs.Tables.{Tables, Client, with_client}
use Rattle.protocol.proofs.Put.{by_cond}
use Rattle.layout.specs.Layout.{header, latest, views, versions, messages, clients_at}
use Rattle.layout.specs.Layout.{partitions_at, items_at, versions_at, messages_at}
use Rattle.layout.specs.Encodes.{Encodes, HoldsClient}
use Rattle.layout.proofs.Room.{HasRoom}
use Rattle.layout.proofs.Kept.{kept_entry, kept-version, kept-message}
use Rattle.layout.proofs.ClientHolds.{kept-client}
use Rattle.layout.proofs.SameBut.{SameBut}

pub encodes-client : {b b' : List ℕ} {t : Tables} {d : ℕ} {c : Client} → Encodes b t → HasRoom t
    → 1 ≤ d → d ≤ t.sizes.clients
    → SameBut d b b' → HoldsClient b' d c → Encodes b' (with_client t d c)
encodes-client {b} {b'} {t} {d} {c} n r l h same holds =
    record {
      long = omega (arith, n.long, same.long);
      clients = same.kept header refl clients_at (omega arith) ∙ n.clients;
      partitions = same.kept header refl partitions_at (omega arith) ∙ n.partitions;
      items = same.kept header refl items_at (omega arith) ∙ n.items;
      version_count = same.kept header refl versions_at (omega arith) ∙ n.version_count;
      message_count = same.kept header refl messages_at (omega arith) ∙ n.message_count;
      latest = λ k g. kept_entry (same.kept latest refl) (omega (arith, r.items)) (n.latest k g);
      view = λ e p q k g. kept_entry (same.kept views refl)
          (omega (arith, r.clients, r.items)) (n.view e p q k g);
      client = λ e p q.
          by_cond (HoldsClient b' e) (eqb e d) c (t.client e)
          (λ s. rw (eqb-true e d s) holds)
          (λ s. kept-client (same.others e p (omega (arith, r.clients)) (eqb-false e d s))
          (r.client e p q) (n.client e p q));
      versions =
          λ i g none. kept-version (same.kept versions refl) (omega (arith, r.versions))
          (n.versions i g none);
      messages =
          λ i g none. kept-message b b' i (get_or t.messages i none) (same.kept messages refl)
          (omega (arith, r.messages)) (n.messages i g none);
    }
