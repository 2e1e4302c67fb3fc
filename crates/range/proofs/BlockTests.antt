-- The tests of a block's words are `valid_block`.
use mathlib.Core.Bool.{Bool, true, false, cond, ◌&&◌}
use mathlib.Core.List.{List}
use mathlib.Core.Path.{◌≡◌, sym, ◌∙◌}
use Prim.Native.Nat.{ℕ, suc, ◌+◌, ◌≤◌, ◌<◌, min}
use native.Mathlib.Omega.{arith}
use lib.Dec.{leb}
use lib.ListN.{length}
use borrow.Author.Tests.{lt-ltb, le-leb, lt-leb}
use Rattle.basics.proofs.Cases.{by-test, not-both, test-ext}
use Rattle.basics.specs.Lists.{every, all, table, counted}
use Rattle.protocol.specs.Tables.{Sizes, initial, resting, is_kind, nothing}
use Rattle.protocol.specs.Range.{sizes_in_range, entry_in_range, version_in_range, message_in_range}
use Rattle.protocol.specs.Range.{client_in_range, in_range, valid}
use Rattle.protocol.specs.Range.{is_client, is_item, every_client, arrived, total, load}
use Rattle.protocol.specs.Message.{kinds, is_prepare}
use Rattle.protocol.specs.Range.{occupied}
use Rattle.protocol.proofs.Tells.{tells-and, tells-le}
use Rattle.protocol.proofs.Ranges.Values.{tells-sizes}
use Rattle.layout.specs.Layout.{most_clients, most_items, most_versions, most_messages}
use Rattle.layout.specs.Layout.{at, header, scalars, clients_at, partitions_at, items_at, versions_at}
use Rattle.layout.specs.Layout.{messages_at, last_kind_at, needed}
use Rattle.layout.specs.Decode.{sizes_in, latest_in, view_in, client_in, version_in, message_in, kind_in}
use Rattle.layout.specs.Decode.{mode_fits, tables_of, well_formed, valid_block}
use Rattle.gather.specs.Sized.{sizes, sized}
use Rattle.gather.proofs.Tested.{every-same, every-both}
use Rattle.gather.proofs.Sizes.{entry-sized, version-sized, client-sized}
use Rattle.range_client.specs.Entries.{entry_from}
use Rattle.range_client.specs.Clients.{client_test}
use Rattle.range_message.specs.Messages.{message_test}
use Rattle.range.specs.Entries.{entries_at}
use Rattle.range.specs.Block.{tables_test}
use Rattle.encoding.proofs.Folds.{all-table}
use Rattle.range.proofs.EntryTests.{entries-tests}
use Rattle.encoding.proofs.WellFormed.{client-test, tells-valid-block}
use Rattle.encoding.proofs.Capacity.{load-words, occupied-words}

-- the same tests in another order, where those of the header pass
regroup : (long size vs ms latest view modes client versions kinds messages load occupied : Bool)
    → long ≡ true → size ≡ true → vs ≡ true → ms ≡ true
    → (latest && view && (modes && client) && versions && (kinds && messages) && load && occupied)
    ≡ ((long && size && vs && ms && modes && kinds)
    && (size && latest && view && client && versions && messages && load && occupied))
regroup long size vs ms latest view modes client versions kinds messages load occupied p q r s =
    test-ext _ _ (λ e. let f = simp tells-and at e in simp tells-and search)
    (λ e. let f = simp tells-and at e in simp tells-and search)

module _ (b : List ℕ) where
  abbrev z : Sizes
  z = sizes_in b

  abbrev vs : ℕ
  vs = at b header versions_at

  abbrev ms : ℕ
  ms = at b header messages_at

  latest-same : every z.items (λ k. entry_in_range (sized z.clients z.items) (latest_in b k))
      ≡ every z.items (λ k. entry_in_range z (cond (is_item z k) (latest_in b k) initial))
  latest-same = every-same z.items _ _
      (λ k l. rw (lt-ltb k z.items l)
      (entry-sized z.clients z.partitions z.items (latest_in b k)))

  view-same : every z.clients (λ i. every z.items
      (λ k. entry_in_range (sized z.clients z.items) (view_in b (suc i) k)))
      ≡ every_client z (λ d. every z.items (λ k. entry_in_range z
      (cond (is_client z d && is_item z k) (view_in b d k) initial)))
  view-same = every-same z.clients _ _ (λ i m. every-same z.items _ _ (λ k l.
      rw (client-test z (suc i) (omega arith, m), lt-ltb k z.items l)
      (entry-sized z.clients z.partitions z.items (view_in b (suc i) k))))

  client-same : every z.clients (λ i. client_test b (suc i) z.clients z.items)
      ≡ (every_client z (λ d. mode_fits b d && is_kind (at b scalars (last_kind_at d)))
      && every_client z (λ d. client_in_range z (cond (is_client z d) (client_in b d)
      (resting 0 nothing))))
  client-same =
      every-same z.clients _ _ (λ i l.
      rw (
        client-test z (suc i) (omega arith, l),
        client-sized z.clients z.partitions
            z.items (client_in b (suc i)),
      ))
      ∙ sym (every-both z.clients _ _)

  versions-same : vs ≤ most_versions → every vs
      (λ i. version_in_range (sized z.clients z.items) (version_in b i))
      ≡ all (version_in_range z) (table (min vs most_versions) (version_in b))
  versions-same l =
      let few : min vs most_versions ≡ vs = omega arith in
      every-same vs _ _ (λ i m. version-sized z.clients z.partitions z.items
      (version_in b i))
      ∙ sym (all-table (version_in_range z) vs (version_in b)) ∙ rw few

  messages-same : ms ≤ most_messages
      → every ms (λ i. message_test b i z.clients z.partitions z.items)
      ≡ (every ms (λ i. leb 1 (kind_in b i) && leb (kind_in b i) kinds)
      && all (message_in_range z) (table (min ms most_messages) (message_in b)))
  messages-same l =
      let few : min ms most_messages ≡ ms = omega arith in
      sym (every-both ms (λ i. leb 1 (kind_in b i) && leb (kind_in b i) kinds)
      (λ i. message_in_range z (message_in b i)))
      ∙ rw (few, all-table (message_in_range z) ms (message_in b))

  valid-tests : needed ≤ length b → sizes_in_range z ≡ true → vs ≤ most_versions → ms ≤ most_messages
      → tables_test b z.clients z.partitions z.items vs ms ≡ valid_block b
  unfolding tables_test valid_block well_formed valid in_range tables_of
  valid-tests h s l m =
      let t = tables_of b in
      rw (
        latest-same,
        view-same,
        client-same,
        versions-same l,
        messages-same m,
        load-words b m,
        occupied-words b l m,
      )
      (regroup (leb needed (length b)) (sizes_in_range z) (leb vs most_versions) (leb ms most_messages)
      (every z.items (λ k. entry_in_range z (t.latest k)))
      (every_client z (λ d. every z.items (λ k. entry_in_range z (t.view d k))))
      (every_client z (λ d. mode_fits b d && is_kind (at b scalars (last_kind_at d))))
      (every_client z (λ d. client_in_range z (t.client d)))
      (all (version_in_range z) t.versions)
      (every ms (λ i. leb 1 (kind_in b i) && leb (kind_in b i) kinds))
      (all (message_in_range z) t.messages)
      (leb (load t) most_messages)
      (leb (occupied t) most_versions)
      (le-leb needed (length b) h) s (le-leb vs most_versions l) (le-leb ms most_messages m))

  -- a block that is short, or has other sizes or counts, is not valid
  pub valid-short : length b < needed → false ≡ valid_block b
  unfolding valid_block well_formed
  valid-short h = rw (lt-leb needed (length b) h)

  valid-header : (sizes_in_range z && leb vs most_versions && leb ms most_messages) ≡ false
      → false ≡ valid_block b
  valid-header e =
      by-test (valid_block b)
      (λ v.
      let f = ((tells-valid-block b).0 v).well_formed in
      let sizes : sizes_in_range z ≡ true = (tells-sizes z).1 f.sizes in
      not-both (simp (tells-and, tells-le) search) e)
      sym

  -- ---- The load and the versions in use of a valid block

  pub load-valid : (clients messages : ℕ) → clients ≡ z.clients → messages ≡ ms
      → messages ≤ most_messages
      → messages + total clients (λ d. arrived (client_in b d)) ≡ load (tables_of b)
  load-valid clients messages p q l = rw (p, q) (load-words b (omega arith))

  pub occupied-valid : (versions messages : ℕ) → versions ≡ vs → messages ≡ ms
      → versions ≤ most_versions
      → messages ≤ most_messages
      → versions + counted is_prepare (table messages (message_in b)) ≡ occupied (tables_of b)
  occupied-valid versions messages p q l h =
      rw (p, q) (occupied-words b (omega arith) (omega arith))

-- ---- From the outcomes of the tests

pub tables-tests : (b : List ℕ) (clients partitions items versions messages : ℕ)
    {entries client stored flight fits : Bool} {full : ℕ}
    → entries ≡ every (suc clients) (λ i. every items (λ k. entry_in_range (sized clients items)
    (entry_from b (entries_at i) k)))
    → client ≡ every clients (λ i. client_test b (suc i) clients items)
    → stored ≡ every versions (λ i. version_in_range (sized clients items) (version_in b i))
    → flight ≡ every messages (λ i. message_test b i clients partitions items)
    → full ≡ messages + total clients (λ d. arrived (client_in b d))
    → fits ≡ leb (versions + counted is_prepare (table messages (message_in b))) most_versions
    → (entries && client && stored && flight && leb full most_messages && fits)
    ≡ tables_test b clients partitions items versions messages
unfolding tables_test
tables-tests b clients partitions items versions messages p q r s t u =
    rw (p, q, r, s, t, u, entries-tests b clients items)

-- ---- The header's words

abbrev header_test : ℕ → ℕ → ℕ → ℕ → ℕ → Bool
header_test clients partitions items versions messages =
    sizes_in_range (sizes clients partitions items) && leb versions most_versions
    && leb messages most_messages

pub header-bounds : (clients partitions items versions messages : ℕ) {known : Bool}
    → known ≡ header_test clients partitions items versions messages
    → known ≡ true
    → (clients ≤ most_clients) × (1 ≤ partitions) × (1 ≤ items) × (items ≤ most_items)
    × (versions ≤ most_versions) × (messages ≤ most_messages)
header-bounds clients partitions items versions messages k e =
    let f = simp (tells-and, tells-le, tells-sizes) at (sym k ∙ e) in
    let z = f.0.0 in
    (z.clients, z.some_partition, z.some_item, z.items, f.0.1, f.1)

module _ (b : List ℕ) {clients partitions items versions messages : ℕ}
    (p : clients ≡ at b header clients_at) (q : partitions ≡ at b header partitions_at)
    (r : items ≡ at b header items_at) (s : versions ≡ at b header versions_at)
    (t : messages ≡ at b header messages_at) where
  pub long-tests : {known ok : Bool} → known ≡ header_test clients partitions items versions messages
      → known ≡ true → needed ≤ length b
      → ok ≡ tables_test b clients partitions items versions messages → ok ≡ valid_block b
  long-tests k e l h =
      let f = simp (tells-and, tells-le) at (rw (p, q, r, s, t) at (sym k ∙ e)) in
      h ∙ rw (p, q, r, s, t) (valid-tests b l f.0.0 f.0.1 f.1)

  pub long-header : {known : Bool} → known ≡ header_test clients partitions items versions messages
      → known ≡ false → false ≡ valid_block b
  long-header k e = valid-header b (rw (p, q, r, s, t) at (sym k ∙ e))
