-- A block that holds tables decodes to them, where they are initial outside their sizes and sets.
use mathlib.Core.Bool.{true, cond, ◌&&◌, ◌||◌}
use mathlib.Core.List.{List}
use mathlib.Core.Path.{◌≡◌, refl, sym, ap, ◌∙◌, fun_ext}
use Prim.Native.Nat.{ℕ, ◌+◌, ◌≤◌, min}
use native.Mathlib.Omega.{arith}
use lib.ListN.{length}
use borrow.Author.Tests.{ltb-true}
use Rattle.basics.proofs.Cases.{by-test, between}
use Rattle.basics.specs.Lists.{table}
use Rattle.itemset.specs.Set.{has}
use Rattle.protocol.specs.declared.Entry.{Entry}
use Rattle.protocol.specs.declared.Message.TheVariants.{Commit}
use Rattle.protocol.specs.Tables.{Sizes, Tables, Client, ReadPart, WritePart, no_read, no_write}
use Rattle.protocol.specs.Tables.{Ended, nothing, shows_read, shows_write, initial, resting}
use Rattle.protocol.specs.Range.{capacities, is_client, is_item, is_writing, has_first, load}
use Rattle.protocol.specs.Range.{occupied, valid}
use Rattle.protocol.proofs.FastRead.{first-same}
use Rattle.protocol.specs.Steps.{version}
use Rattle.protocol.proofs.Ranges.Clients.{ClientInRange}
use Rattle.protocol.proofs.Ranges.Values.{IsClient}
use Rattle.protocol.proofs.Ranges.Tables.{Within, valid-within, valid-facts}
use Rattle.layout.specs.Layout.{most_versions, most_messages}
use Rattle.layout.specs.Layout.{Section, header, scalars, latest, views, at, messages_at, versions_at}
use Rattle.layout.specs.Layout.{mode_at, last_kind_at, latest_at, view_at, is_write_mode, is_mixed_mode}
use Rattle.layout.specs.Decode.{sizes_in, latest_in, view_in, within, come_of, read_of, write_of, read_in}
use Rattle.layout.specs.Decode.{write_in, last_read_in, last_write_in, ended_in, client_in, version_in}
use Rattle.layout.specs.Decode.{message_in, tables_of}
use Rattle.layout.specs.Encodes.{writes_alone, is_mixed, HoldsEntry, HeldRead, HeldWrite, HoldsEnded}
use Rattle.layout.specs.Encodes.{HoldsClient, Encodes}
use Rattle.layout.proofs.Masked.{Only, OnlyCome, MaskedEnded, MaskedClient, Masked}
use Rattle.layout.proofs.Parts.{mode-alone, mode-both, mode-writes}
use Rattle.layout.proofs.Held.{version-held, message-held}
use Rattle.encoding.proofs.Folds.{table_of}

-- ---- Clients

-- the words of a set's items are what f has there, and f is 0 elsewhere
only-words : (s : ℕ) (words f : ℕ → ℕ) → ((k : ℕ) → has s k ≡ true → words k ≡ f k) → Only s f
    → (k : ℕ) → within s words k ≡ f k
only-words s words f h o k = by-test (has s k) (λ e. rw e (h k e)) (λ e. rw e (sym (o k e)))

-- the first replies that have come are those of p
only-come : (p q : ReadPart) → q.set ≡ p.set → q.awaited ≡ p.awaited → q.stage ≡ p.stage
    → ((k : ℕ) → has_first p k ≡ true → q.firsts k ≡ p.firsts k) → OnlyCome p
    → (k : ℕ) → come_of q k ≡ p.firsts k
only-come p q s a n h o k =
    rw (first-same p q k s a n)
    (by-test (has_first p k) (λ e. rw e (h k e)) (λ e. rw e (sym (o k e))))

read-of : {s awaits stage : ℕ} {stamps vs : ℕ → ℕ} {replies : ℕ → Entry} (p : ReadPart)
    → HeldRead s awaits stage stamps vs replies p
    → Only p.set p.asked → Only p.set p.values → OnlyCome p
    → read_of s awaits stage stamps vs replies ≡ p
read-of {s} {awaits} {stage} {stamps} {vs} {replies} p h asks answers come =
    let σ = fun_ext (only-words p.set stamps p.asked h.asked asks) in
    let ν = fun_ext (only-words p.set vs p.values h.values answers) in
    let φ = fun_ext (only-come p (record {
      set = p.set;
      awaited = p.awaited;
      asked = stamps;
      values = vs;
      stage = p.stage;
      firsts = replies;
    }) refl refl refl h.firsts come) in
    rw (h.set, h.awaited, h.stage) (λ i. record {
      set = p.set;
      awaited = p.awaited;
      asked = σ i;
      values = ν i;
      stage = p.stage;
      firsts = φ i;
    })

write-of : {s awaits stamp : ℕ} {vs : ℕ → ℕ} (p : WritePart) → HeldWrite s awaits stamp vs p
    → Only p.set p.values → write_of s awaits stamp vs ≡ p
write-of {s} {awaits} {stamp} {vs} p h keeps =
    let ν = fun_ext (only-words p.set vs p.values h.values keeps) in
    rw (h.set, h.awaited, h.stamp) (λ i. record {
      set = p.set;
      awaited = p.awaited;
      stamp = p.stamp;
      values = ν i;
    })

ended_of : (b : List ℕ) (d : ℕ) (e : Ended) → HoldsEnded b d e → MaskedEnded e → ended_in b d ≡ e
ended_of b d e h m =
    let kind = at b scalars (last_kind_at d) in
    let read : cond (shows_read kind) (last_read_in b d) no_read ≡ e.read =
    by-test (shows_read kind)
    (λ s. rw s (read-of e.read (h.read (sym (ap shows_read h.kind) ∙ s)) m.asked
    m.answers m.firsts))
    (λ s. rw s (sym (m.hidden_read (sym (ap shows_read h.kind) ∙ s)))) in
    let write : cond (shows_write kind) (last_write_in b d) no_write ≡ e.write =
    by-test (shows_write kind)
    (λ s. rw s (write-of e.write (h.write (sym (ap shows_write h.kind) ∙ s)) m.values))
    (λ s. rw s (sym (m.hidden_write (sym (ap shows_write h.kind) ∙ s)))) in
    λ i. record { kind = h.kind i; read = read i; write = write i }

-- the mode tells which parts there are
module _ (b : List ℕ) (d : ℕ) (z : Sizes) (c : Client) (h : HoldsClient b d c)
    (r : ClientInRange z c) where
  pub tells-alone : is_write_mode (at b scalars (mode_at d)) ≡ writes_alone c
  tells-alone = ap is_write_mode h.mode ∙ mode-alone z c r

  pub tells-mixed : is_mixed_mode (at b scalars (mode_at d)) ≡ is_mixed c
  tells-mixed = ap is_mixed_mode h.mode ∙ mode-both z c r

  pub tells-writing : is_write_mode (at b scalars (mode_at d)) || is_mixed_mode (at b scalars (mode_at d))
      ≡ is_writing c
  tells-writing = ap (λ (x : ℕ). is_write_mode x || is_mixed_mode x) h.mode ∙ mode-writes z c r

client-of : (b : List ℕ) (d : ℕ) (z : Sizes) (c : Client) → HoldsClient b d c → MaskedClient c
    → ClientInRange z c → client_in b d ≡ c
unfolding client_in
client-of b d z c h m r =
    let last = ended_of b d c.last h.last m.last in
    let mode = at b scalars (mode_at d) in
    let read : cond (is_write_mode mode) no_read (read_in b d) ≡ c.read =
    by-test (writes_alone c)
    (λ w. rw (tells-alone b d z c h r ∙ w) (sym (m.writing w)))
    (λ w. rw (tells-alone b d z c h r ∙ w)
    (read-of c.read (h.read w) m.asked m.answers m.firsts)) in
    let write : cond (is_write_mode mode || is_mixed_mode mode) (write_in b d) no_write ≡ c.write =
    by-test (is_writing c)
    (λ w. rw (tells-writing b d z c h r ∙ w) (write-of c.write (h.write w) m.values))
    (λ w. rw (tells-writing b d z c h r ∙ w) (sym (m.others w))) in
    λ i. record {
      count = h.count i;
      read = read i;
      write = write i;
      last = last i;
    }

-- ---- Entries

pub entry_of_lem : (b : List ℕ) (s : Section) (at₀ : ℕ) (e : Entry) → HoldsEntry b s at₀ e
    → record { stamp = at b s at₀; set = at b s (at₀ + 1) } ≡ e
entry_of_lem b s at₀ e h = λ i. record { stamp = h.stamp i; set = h.set i }

-- ---- The whole

module _ (b : List ℕ) (t : Tables) (e : Encodes b t) (m : Masked t)
    (r : (d : ℕ) → IsClient t.sizes d → ClientInRange t.sizes (t.client d)) where
  sizes-of : sizes_in b ≡ t.sizes
  sizes-of = λ i. record {
    clients = e.clients i;
    partitions = e.partitions i;
    items =
        e.items i;
  }

  latest-of : (k : ℕ) → cond (is_item (sizes_in b) k) (latest_in b k) initial ≡ t.latest k
  latest-of k =
      rw e.items
      (by-test (is_item t.sizes k)
      (λ y. rw y (entry_of_lem b latest (latest_at k) (t.latest k)
      (e.latest k (ltb-true k t.sizes.items y))))
      (λ f. rw f (sym (m.latest k f))))

  view_of : (d k : ℕ) → cond (is_client (sizes_in b) d && is_item (sizes_in b) k)
      (view_in b d k) initial ≡ t.view d k
  view_of d k =
      rw (e.clients, e.items)
      (by-test (is_client t.sizes d) (λ y. rw y (by-test (is_item t.sizes k)
      (λ z.
      let bounds = between 1 t.sizes.clients d y in
      rw z (entry_of_lem b views (view_at d k) (t.view d k)
      (e.view d bounds.0 bounds.1 k (ltb-true k t.sizes.items z))))
      (λ f. rw f (sym (m.item_view d k f)))))
      (λ f. rw f (sym (m.client_view d k f))))

  clients-of : (d : ℕ) → cond (is_client (sizes_in b) d) (client_in b d)
      (resting 0 nothing) ≡ t.client d
  clients-of d =
      rw e.clients
      (by-test (is_client t.sizes d)
      (λ y.
      let bounds = between 1 t.sizes.clients d y in
      rw y (client-of b d t.sizes (t.client d) (e.client d bounds.0 bounds.1)
      (m.client d)
      (r d bounds)))
      (λ f. rw f (sym (m.absent d f))))

  pub tables-of : length t.versions ≤ most_versions → length t.messages ≤ most_messages
      → tables_of b ≡ t
  unfolding tables_of
  tables-of vs ms =
      let versions : table (min (at b header versions_at) most_versions) (version_in b) ≡ t.versions =
      table_of _ (version_in b) t.versions (version 0 0 0 0) (omega (arith, e.version_count))
      (λ i l. version-held b i _ (e.versions i l (version 0 0 0 0))) in
      let messages : table (min (at b header messages_at) most_messages) (message_in b) ≡ t.messages =
      table_of _ (message_in b) t.messages (Commit 0 0) (omega (arith, e.message_count))
      (λ i l. message-held b i _ (e.messages i l (Commit 0 0))) in
      λ i.
      record {
        sizes = sizes-of i;
        latest = λ k. latest-of k i;
        view = λ d k. view_of d k i;
        client = λ d. clients-of d i;
        versions = versions i;
        messages = messages i;
      }

-- ---- Within the capacities

pub few-versions : (t : Tables) → Within capacities t → length t.versions ≤ most_versions
unfolding occupied
few-versions t v = omega (arith, v.occupied)

pub few-messages : (t : Tables) → Within capacities t → length t.messages ≤ most_messages
unfolding load
few-messages t v = omega (arith, v.load)

pub tables-of-valid : (b : List ℕ) (t : Tables) → Encodes b t → Masked t → valid capacities t ≡ true
    → tables_of b ≡ t
tables-of-valid b t e m v =
    let f = valid-facts capacities t v in
    tables-of b t e m f.in_range.client (few-versions t (valid-within capacities t f))
    (few-messages t (valid-within capacities t f))
