-- A block that holds tables, with an entry stored, holds the tables with that entry: of latest, or
-- of a client's view.
use mathlib.Core.List.{List}
use mathlib.Core.Logic.{◌≢◌}
use mathlib.Core.Path.{◌≡◌, refl, ◌∙◌}
use Prim.Native.Nat.{ℕ, ◌+◌, ◌≤◌, ◌<◌}
use native.Mathlib.Omega.{arith}
use lib.Dec.{eqb}
use lib.ListN.{length, get_or}
use borrow.Author.Tests.{eqb-true, eqb-false}
use Rattle.protocol.specs.declared.Entry.{Entry}
use Rattle.protocol.specs.Tables.{Tables, put, with_latest, with_view}
use Rattle.protocol.proofs.Put.{by_cond}
use Rattle.layout.specs.Layout.{Section, header, latest, views, versions, messages, base}
use Rattle.layout.specs.Layout.{size, at, store, clients_at, partitions_at, items_at, versions_at}
use Rattle.layout.specs.Layout.{messages_at, latest_at, view_at}
use Rattle.layout.specs.Decode.{latest_in, view_in}
use Rattle.layout.specs.Store.{store_entry, store_latest, store_view}
use Rattle.layout.specs.Encodes.{Encodes, HoldsEntry}
use Rattle.layout.proofs.At.{length-store, at_store, at-store-other}
use Rattle.layout.proofs.Room.{HasRoom}
use Rattle.layout.proofs.Kept.{Kept, kept-version, kept-message}
use Rattle.layout.proofs.Sections.{row_width}
use Rattle.layout.proofs.ClientWords.{has_words, has-words-beside, beside-rows, KeptClient}
use Rattle.layout.proofs.ClientHolds.{kept-client}

-- ---- a stored entry

pub length-store-entry : (b : List ℕ) (s : Section) (i : ℕ) (e : Entry)
    → length (store_entry b s i e) ≡ length b
length-store-entry b s i e = length-store (store b s i e.stamp) s (i + 1) e.set
    ∙ length-store b s i e.stamp

pub holds-store-entry : (b : List ℕ) (s : Section) (i : ℕ) (e : Entry) → base s + (i + 1) < length b
    → HoldsEntry (store_entry b s i e) s i e
holds-store-entry b s i e l =
    record {
      stamp = at-store-other (store b s i e.stamp) s (i + 1) e.set s i (omega arith)
          ∙ at_store b s i e.stamp (omega arith);
      set = at_store (store b s i e.stamp) s (i + 1) e.set
          (omega (arith, length-store b s i e.stamp));
    }

-- two entries' words, from p and from q, have none in common
pub record Apart (p q : ℕ) : Type 0 where
  pub same : q ≢ p
  pub next : q ≢ p + 1
  pub previous : q + 1 ≢ p

-- a place that is neither of its two words
pub at-store-entry-other : (b : List ℕ) (s : Section) (i : ℕ) (e : Entry) (r : Section) (j : ℕ)
    → base r + j ≢ base s + i → base r + j ≢ base s + (i + 1)
    → at (store_entry b s i e) r j ≡ at b r j
at-store-entry-other b s i e r j n m =
    at-store-other (store b s i e.stamp) s (i + 1) e.set r j m
    ∙ at-store-other b s i e.stamp r j n

pub kept-store-entry : (r : Section) (b : List ℕ) (s : Section) (i : ℕ) (e : Entry)
    → ((j : ℕ) → j < size r → (base r + j ≢ base s + i) × (base r + j ≢ base s + (i + 1)))
    → Kept r b (store_entry b s i e)
kept-store-entry r b s i e n j l = at-store-entry-other b s i e r j (n j l).0 (n j l).1

-- an entry elsewhere
pub holds-entry-other : {b : List ℕ} (s : Section) (i : ℕ)
    (e : Entry) {r : Section} {j : ℕ} {o : Entry} → Apart (base s + i) (base r + j)
    → HoldsEntry b r j o → HoldsEntry (store_entry b s i e) r j o
holds-entry-other {b} s i e {r} {j} {o} a h =
    record {
      stamp = at-store-entry-other b s i e r j (omega arith) (omega arith) ∙ h.stamp;
      set = at-store-entry-other b s i e r (j + 1) (omega arith) (omega arith) ∙ h.set;
    }

pub kept-client-store-entry : (d : ℕ) (b : List ℕ) (s : Section) (i : ℕ) (e : Entry)
    → 1 ≤ d → d ≤ 8 → row_width s ≡ 0 → i + 1 < size s → KeptClient d b (store_entry b s i e)
kept-client-store-entry d b s i e first last none l =
    has-words-beside s (i + 1) e.set (beside-rows d s (i + 1) first last none l)
    (has-words-beside s i e.stamp (beside-rows d s i first last none (omega arith))
    (has_words d b))

-- ---- what is read

entry-held : {b : List ℕ} {s : Section} {i : ℕ} {e : Entry} → HoldsEntry b s i e
    → ◌≡◌ {A = Entry} (record { stamp = at b s i; set = at b s (i + 1) }) e
entry-held h = λ x. record { stamp = h.stamp x; set = h.set x }

pub latest-held : {b : List ℕ} {t : Tables} → Encodes b t → (k : ℕ) → k < t.sizes.items
    → latest_in b k ≡ t.latest k
latest-held n k l = entry-held (n.latest k l)

pub view-held : {b : List ℕ} {t : Tables} → Encodes b t → (d : ℕ) → 1 ≤ d → d ≤ t.sizes.clients
    → (k : ℕ) → k < t.sizes.items
    → view_in b d k ≡ t.view d k
view-held n d p q k l = entry-held (n.view d p q k l)

-- ---- two blocks that differ in entries alone

pub record SameButEntries (b b' : List ℕ) : Type 0 where
  pub long : length b' ≡ length b
  pub header : Kept header b b'
  pub versions : Kept versions b b'
  pub messages : Kept messages b b'
  pub client : (d : ℕ) → 1 ≤ d → d ≤ 8 → KeptClient d b b'

-- what b' holds, if it holds these entries
pub encodes-entries : {b b' : List ℕ} {t : Tables} (entries : ℕ → Entry) (view : ℕ → ℕ → Entry)
    → Encodes b t → HasRoom t → SameButEntries b b'
    → ((k : ℕ) → k < t.sizes.items → HoldsEntry b' latest (latest_at k) (entries k))
    → ((d : ℕ) → 1 ≤ d → d ≤ t.sizes.clients → (k : ℕ) → k < t.sizes.items
    → HoldsEntry b' views (view_at d k) (view d k))
    → Encodes b' (record {
      sizes = t.sizes;
      latest = entries;
      view = view;
      client =
          t.client;
      versions = t.versions;
      messages = t.messages;
    })
encodes-entries {b} {b'} {t} entries view n r same f g =
    record {
      long = omega (arith, n.long, same.long);
      clients = same.header clients_at (omega arith) ∙ n.clients;
      partitions = same.header partitions_at (omega arith) ∙ n.partitions;
      items = same.header items_at (omega arith) ∙ n.items;
      version_count = same.header versions_at (omega arith) ∙ n.version_count;
      message_count = same.header messages_at (omega arith) ∙ n.message_count;
      latest = f;
      view = g;
      client = λ d l h. kept-client (same.client d l (omega (arith, r.clients)))
          (r.client d l h) (n.client d l h);
      versions =
          λ i l none. kept-version same.versions (omega (arith, r.versions))
          (n.versions i l none);
      messages =
          λ i l none. kept-message b b' i (get_or t.messages i none) same.messages
          (omega (arith, r.messages)) (n.messages i l none);
    }

-- ---- latest

same-but-latest : (b : List ℕ) (k : ℕ) (e : Entry) → k < 64 → SameButEntries b (store_latest b k e)
same-but-latest b k e l =
    record {
      long = length-store-entry b latest (latest_at k) e;
      header = kept-store-entry header b latest (latest_at k) e (omega arith);
      versions = kept-store-entry versions b latest (latest_at k) e (omega arith);
      messages = kept-store-entry messages b latest (latest_at k) e (omega arith);
      client = λ d p q. kept-client-store-entry d b latest (latest_at k) e p q refl (omega arith);
    }

pub encodes-latest : {b : List ℕ} {t : Tables} (k : ℕ) (e : Entry) → Encodes b t → HasRoom t
    → k < t.sizes.items
    → Encodes (store_latest b k e) (with_latest t (put t.latest k e))
encodes-latest {b} {t} k e n r l =
    encodes-entries (put t.latest k e) t.view n r
    (same-but-latest b k e (omega (arith, r.items)))
    (λ j g.
    by_cond (HoldsEntry (store_latest b k e) latest (latest_at j)) (eqb j k) e (t.latest j)
    (λ s. rw (eqb-true j k s) (holds-store-entry b latest (latest_at k) e
    (omega (arith, r.items, n.long))))
    (λ s. holds-entry-other latest (latest_at k) e (omega (arith, eqb-false j k s)) (n.latest j g)))
    (λ d p q j g. holds-entry-other latest (latest_at k) e (omega (arith, r.items))
    (n.view d p q j g))

-- ---- view

same-but-view : (b : List ℕ) (d k : ℕ) (e : Entry) → 1 ≤ d → d ≤ 8 → k < 64
    → SameButEntries b (store_view b d k e)
same-but-view b d k e p q l =
    record {
      long = length-store-entry b views (view_at d k) e;
      header = kept-store-entry header b views (view_at d k) e (omega arith);
      versions = kept-store-entry versions b views (view_at d k) e (omega arith);
      messages = kept-store-entry messages b views (view_at d k) e (omega arith);
      client = λ c u v. kept-client-store-entry c b views (view_at d k) e u v refl (omega arith);
    }

pub encodes-view : {b : List ℕ} {t : Tables} (d k : ℕ) (e : Entry) → Encodes b t → HasRoom t → 1 ≤ d
    → d ≤ t.sizes.clients → k < t.sizes.items
    → Encodes (store_view b d k e) (with_view t d (put (t.view d) k e))
encodes-view {b} {t} d k e n r p q l =
    let b' = store_view b d k e in
    encodes-entries t.latest (put t.view d (put (t.view d) k e)) n r
    (same-but-view b d k e p (omega (arith, r.clients)) (omega (arith, r.items)))
    (λ j g. holds-entry-other views (view_at d k) e (omega (arith, r.items)) (n.latest j g))
    (λ c u v j g.
    by_cond (λ (f : ℕ → Entry). HoldsEntry b' views (view_at c j) (f j)) (eqb c d)
    (put (t.view d) k e) (t.view c)
    (λ s.
    rw (eqb-true c d s)
    (by_cond (HoldsEntry b' views (view_at d j)) (eqb j k) e (t.view d j)
    (λ x. rw (eqb-true j k x) (holds-store-entry b views (view_at d k) e
    (omega (arith, r.clients, r.items, n.long))))
    (λ x. holds-entry-other views (view_at d k) e (omega (arith, eqb-false j k x))
    (n.view d p q j g))))
    (λ s.
    holds-entry-other views (view_at d k) e (omega (arith, eqb-false c d s, r.items))
    (n.view c u v j g)))
