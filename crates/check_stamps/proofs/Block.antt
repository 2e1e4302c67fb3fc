-- The places of a valid block are those of its tables: versions by their keys, holders of a stamp's
-- set in their order.
use mathlib.Core.Bool.{Bool, true, false, not}
use mathlib.Core.List.{List, ◌++◌, map}
use mathlib.Core.Logic.{◌≢◌}
use mathlib.Core.Path.{◌≡◌, refl, sym, ap, ap₂, ◌∙◌}
use Prim.Native.Nat.{ℕ, zero, suc, ◌+◌, ◌-◌, ◌*◌, ◌/◌, ◌≤◌, ◌<◌, min}
use lib.Dec.{eqb, ltb}
use lib.ListN.{length, get_or}
use native.Mathlib.Omega.{arith}
use borrow.Author.Tests.{ne_eqb, ltb-true, ltb-false, lt-ltb}
use Rattle.basics.proofs.Cases.{by-test, not-both, eqb_same}
use Rattle.basics.specs.Lists.{In, all, every, table}
use Rattle.basics.proofs.Lists.{in_table, all_in, at_every, length-table, table_at, table-ext}
use Rattle.protocol.specs.declared.Version.{Version}
use Rattle.protocol.specs.declared.Entry.{Entry}
use Rattle.protocol.specs.Tables.{Client, initial, entry_of, shows_write}
use Rattle.protocol.specs.Steps.{stored, found}
use Rattle.protocol.specs.Check.{written_by, client_sets, clients_sets, sets_held, first_set, write_set}
use Rattle.protocol.specs.Check.{stored_value, distinct}
use Rattle.protocol.proofs.Ranges.Values.{IsClient}
use Rattle.layout.specs.Layout.{most_clients, most_versions, needed, header, at, clients_at}
use Rattle.layout.specs.Layout.{versions_at}
use Rattle.layout.specs.Decode.{client_in, version_in, sizes_in, tables_of, valid_block}
use Rattle.encoding.proofs.WellFormed.{ValidBlock, tells-valid-block, client-test}
use Rattle.encoding.proofs.Folds.{all-table}
use Rattle.index.specs.Index.{place}
use Rattle.index.proofs.Places.{place-holds, place_at}
use Rattle.check_stamps.specs.Stamps.{key_of, key_in, side_of, client_held, version_held}
use Rattle.check_stamps.specs.Stamps.{most_held, held_in, held_stamp, stamps_end}
use Rattle.check_stamps.proofs.Keys.{stored-place, found_some, found_none, distinct-own}
use Rattle.check_stamps.proofs.Entries.{some, some-append, first_some, all-some, some-past}
use Rattle.check_stamps.proofs.Entries.{table-append, map-table, held_place, some-sides}

clients-ext : (n : ℕ) (f g : ℕ → Client) → ((i : ℕ) → i < n → f (suc i) ≡ g (suc i))
    → clients_sets n f ≡ clients_sets n g
unfolding clients_sets
clients-ext zero f g same = refl
clients-ext (suc n) f g same =
    ap₂ (λ (xs : List Entry) (c : Client). xs ++ client_sets c)
    (clients-ext n f g (λ i l. same i (omega arith))) (same n (omega arith))

module _ (b : List ℕ) (v : valid_block b ≡ true) where
  facts : ValidBlock b
  facts = (tells-valid-block b).0 v

  abbrev n : ℕ
  n = at b header versions_at

  abbrev clients : ℕ
  clients = at b header clients_at

  pub few : n ≤ most_versions
  few = facts.well_formed.version_count

  pub long : needed ≤ length b
  long = facts.well_formed.long

  pub few-clients : clients ≤ most_clients
  few-clients = facts.well_formed.sizes.clients

  pub the-versions : (tables_of b).versions ≡ table n (version_in b)
  unfolding tables_of
  the-versions =
      let less : min n most_versions ≡ n = omega (arith, few) in
      rw less refl

  pub the-client : (i : ℕ) → i < clients → (tables_of b).client (suc i) ≡ client_in b (suc i)
  unfolding tables_of
  the-client i l =
      let one : IsClient (sizes_in b) (suc i) = (omega arith, omega arith) in
      rw (client-test (sizes_in b) (suc i) one) refl

  in-versions : (i : ℕ) → i < n → In (version_in b i) (table n (version_in b))
  in-versions i l = in_table n (version_in b) i l

  pub small : (i : ℕ) → i < n → (version_in b i).item < 64
  small i l =
      let range = facts.valid.in_range.versions (version_in b i) (rw the-versions
      (in-versions i l))
      in omega (arith, range.item, facts.valid.in_range.sizes.items)

  pub stamped : (i : ℕ) → i < n → (version_in b i).stamp < stamps_end
  stamped i l =
      let range = facts.valid.in_range.versions (version_in b i) (rw the-versions
      (in-versions i l))
      in omega (arith, range.stamp.fits)

  -- ---- versions

  abbrev keys : List ℕ
  keys = table most_versions (key_in b)

  module _ (k s : ℕ) (l : k < 64) where
    pub block-stored : ltb (place keys (key_of k s)) most_versions
        ≡ stored (tables_of b).versions k s
    unfolding key_in
    block-stored =
        stored-place n most_versions (version_in b) few small k s l
        ∙ ap (λ (vs : List Version). stored vs k s) (sym the-versions)

    pub block-value : place keys (key_of k s) < most_versions
        → (version_in b (place keys (key_of k s))).value ≡ stored_value (tables_of b) k s
    unfolding key_in
    block-value h =
        ap (λ (x : Version). x.value)
        (found_some n most_versions (version_in b) few small k s l h
        ∙ ap (λ (vs : List Version). found vs k s) (sym the-versions))

    pub block-no-value : most_versions ≤ place keys (key_of k s) → 0 ≡ stored_value (tables_of b) k s
    unfolding key_in
    block-no-value h =
        sym (ap (λ (vs : List Version). (found vs k s).value) the-versions
        ∙ found_none n most_versions (version_in b) few small k s l h)

  pub block-distinct : every n (λ i. eqb (place keys (key_in b i)) i)
      ≡ distinct (tables_of b).versions
  unfolding key_in
  block-distinct =
      distinct-own n most_versions (version_in b) few small n (omega arith)
      ∙ ap distinct (sym the-versions)

  -- ---- holders

  shown : (d : ℕ) → shows_write (client_in b d).last.kind ≡ false
      → written_by (client_in b d).last.write ≡ initial
  unfolding client_in
  shown d e = rw e refl

  held-version : (i : ℕ) → i < most_versions → held_in b i ≡ version_held b i
  unfolding held_in
  held-version i l = rw (lt-ltb i most_versions l) refl

  held-client : (i : ℕ) → held_in b (most_versions + i) ≡ client_held b i
  unfolding held_in
  held-client i =
      let back : most_versions + i - most_versions ≡ i = omega arith in
      by-test (ltb (most_versions + i) most_versions)
      (λ e. absurd (omega (arith, ltb-true (most_versions + i) most_versions e)))
      (λ e. rw (e, back) refl)

  no-version : (i : ℕ) → n ≤ i → version_held b i ≡ initial
  unfolding version_held
  no-version i l =
      by-test (ltb i n) (λ e. absurd (omega (arith, ltb-true i n e, l))) (λ e. rw e refl)

  pub some-version : (i : ℕ) → i < n → version_held b i ≡ entry_of (version_in b i)
  unfolding version_held
  some-version i l = rw (lt-ltb i n l) refl

  no-client : (i : ℕ) → 2 * clients ≤ i → client_held b i ≡ initial
  unfolding client_held
  no-client i l =
      by-test (ltb (i / 2) clients)
      (λ e. absurd (omega (arith, ltb-true (i / 2) clients e, l))) (λ e. rw e refl)

  some-client : (i : ℕ) → i < 2 * clients → client_held b i ≡ side_of (client_in b) i
  unfolding client_held
  some-client i l =
      let half : i / 2 < clients = omega arith in rw (lt-ltb (i / 2) clients half) refl

  versions-held : some (table most_versions (held_in b))
      ≡ some (map entry_of (tables_of b).versions)
  versions-held =
      ap some (table-ext most_versions (held_in b) (version_held b) held-version)
      ∙ some-past (version_held b) n most_versions few no-version
      ∙ ap some (table-ext n (version_held b) (λ i. entry_of (version_in b i)) some-version
      ∙ sym (map-table entry_of n (version_in b))
      ∙ ap (map entry_of) (sym the-versions))

  clients-held : some (table (2 * most_clients) (λ i. held_in b (most_versions + i)))
      ≡ some (clients_sets clients (tables_of b).client)
  clients-held =
      ap some (table-ext (2 * most_clients) (λ i. held_in b (most_versions + i)) (client_held b)
      (λ i l. held-client i))
      ∙ some-past (client_held b) (2 * clients) (2 * most_clients) (omega (arith, few-clients))
      no-client
      ∙ ap some (table-ext (2 * clients) (client_held b) (side_of (client_in b)) some-client)
      ∙ sym (some-sides (client_in b) shown clients)
      ∙ ap some (clients-ext clients (client_in b) (tables_of b).client
      (λ i l. sym (the-client i l)))

  some-held : some (table most_held (held_in b)) ≡ some (sets_held (tables_of b))
  unfolding sets_held tables_of
  some-held =
      ap some (table-append (held_in b) most_versions (2 * most_clients))
      ∙ some-append (table most_versions (held_in b))
      (table (2 * most_clients) (λ i. held_in b (most_versions + i)))
      ∙ ap₂ (λ (xs ys : List Entry). xs ++ ys) versions-held clients-held
      ∙ sym (some-append (map entry_of (tables_of b).versions)
      (clients_sets clients (tables_of b).client))

  past-held : held_in b most_held ≡ initial
  past-held = held-client (2 * most_clients)
      ∙ no-client (2 * most_clients) (omega (arith, few-clients))

  abbrev stamps : List ℕ
  stamps = table most_held (held_stamp b)

  pub block-set : (s : ℕ) → s ≢ 0 → (held_in b (place stamps s)).set ≡ write_set (tables_of b) s
  unfolding write_set
  block-set s some-stamp =
      held_place most_held (held_in b) s past-held
      ∙ sym (first_some (table most_held (held_in b)) s some-stamp)
      ∙ ap (λ (es : List Entry). first_set es s) some-held
      ∙ first_some (sets_held (tables_of b)) s some-stamp
      ∙ rw (ne_eqb s 0 some-stamp) refl

  pub block-no-set : 0 ≡ write_set (tables_of b) 0
  unfolding write_set
  block-no-set = refl

  pub block_held : (q : Entry → Bool) → q initial ≡ true
      → every most_held (λ p. q (held_in b p)) ≡ all q (sets_held (tables_of b))
  block_held q e =
      sym (all-table q most_held (held_in b))
      ∙ sym (all-some q (table most_held (held_in b)) e)
      ∙ ap (all q) some-held
      ∙ all-some q (sets_held (tables_of b)) e

  -- a version of stamp s is stored where s is found among the versions
  module _ (s : ℕ) (some-stamp : s ≢ 0) where
    stamp-at : (i : ℕ) → i < n → get_or stamps i 0 ≡ (version_in b i).stamp
    stamp-at i l =
        table_at most_held (held_stamp b) i 0 (omega (arith, few, l))
        ∙ ap (λ (e : Entry). e.stamp)
        (held-version i (omega (arith, few, l)) ∙ some-version i l)

    absent : Bool
    absent = all (λ (x : Version). not (eqb x.stamp s)) (table n (version_in b))

    found_among : place stamps s < most_versions → absent ≡ false
    unfolding absent
    found_among l =
        let p = place stamps s in
        let own : get_or stamps p 0 ≡ s =
        place-holds stamps s (omega (arith, l, length-table most_held (held_stamp b))) in
        let inside : p < n =
        by-test (ltb p n) (ltb-true p n)
        (λ t. absurd (some-stamp (sym own ∙ table_at most_held (held_stamp b) p 0 (omega (arith, l))
        ∙ ap (λ (e : Entry). e.stamp) (held-version p l ∙ no-version p (ltb-false p n t))))) in
        by-test (all (λ (x : Version). not (eqb x.stamp s)) (table n (version_in b)))
        (λ t. not-both (rw (sym (stamp-at p inside) ∙ own, eqb_same s) at
        (all_in (λ (x : Version). not (eqb x.stamp s)) (table n (version_in b)) t
        (version_in b p) (in-versions p inside))) refl)
        (λ t. t)

    not-among : most_versions ≤ place stamps s → absent ≡ true
    unfolding absent
    not-among l =
        all-table (λ (x : Version). not (eqb x.stamp s)) n (version_in b)
        ∙ at_every n (λ i. not (eqb (version_in b i).stamp s))
        (λ i q. rw (ne_eqb (version_in b i).stamp s (λ same. omega (
          arith,
          l,
          q,
          few,
          place_at stamps s i (omega (arith, q, few, length-table most_held (held_stamp b)))
              (stamp-at i q ∙ same),
        ))) refl)

    pub block-some : ltb (place stamps s) most_versions
        ≡ not (all (λ x. not (eqb x.stamp s)) (tables_of b).versions)
    unfolding absent
    block-some =
        by-test (ltb (place stamps s) most_versions)
        (λ t. t ∙ sym (rw (the-versions, found_among (ltb-true (place stamps s) most_versions t))
        refl))
        (λ t. t ∙ sym (rw (the-versions, not-among (ltb-false (place stamps s) most_versions t))
        refl))
