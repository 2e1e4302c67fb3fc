-- The tests of a client, part by part, are the protocol's test of the client that its words are.
use mathlib.Core.Bool.{Bool, true, false, cond, not, beq, ◌&&◌, ◌||◌, and-true}
use mathlib.Core.List.{List}
use mathlib.Core.Logic.{◌≢◌}
use mathlib.Core.Path.{◌≡◌, refl, sym, ap, ap₂, ◌∙◌}
use Prim.Native.Nat.{ℕ, ◌^◌}
use native.Mathlib.Omega.{arith}
use lib.Bits.{bit_and}
use lib.Dec.{eqb, ltb, leb}
use lib.Pow.{pow_pos}
use borrow.Author.Tests.{eqb-true, ne_eqb, ltb-true, lt-ltb}
use Rattle.basics.proofs.Cases.{by-test, not-both, or_right, beq-true, test-ext}
use Rattle.basics.specs.Lists.{every}
use Rattle.basics.proofs.Lists.{every-at, at_every}
use Rattle.itemset.specs.Set.{has, all_below}
use Rattle.itemset.proofs.Laws.{has-empty}
use Rattle.protocol.specs.declared.Entry.{Entry}
use Rattle.protocol.specs.Tables.{Sizes, no_read, no_write, is_kind, shows_read, shows_write}
use Rattle.protocol.specs.Range.{fits, each, stamp_in_range, entry_in_range, has_first, ended_in_range}
use Rattle.protocol.specs.Range.{read_part_in_range, write_part_in_range, client_in_range}
use Rattle.protocol.proofs.FastRead.{no-first}
use Rattle.protocol.proofs.Tells.{tells-and}
use Rattle.protocol.proofs.Ranges.Clients.{tells-read-part, tells-write-part}
use Rattle.protocol.proofs.Kept.Values.{range-no-read, range-no-write}
use Rattle.layout.specs.Layout.{at, scalars, asked, values, last_stamps, last_values, mode_at, set_at}
use Rattle.layout.specs.Layout.{count_at, awaited_at, stamp_at, last_kind_at, last_set_at, last_stamp_at}
use Rattle.layout.specs.Layout.{write_set_at, write_awaited_at, last_write_set_at, item_at, modes}
use Rattle.layout.specs.Layout.{mixing, is_write_mode, is_mixed_mode, is_mixed_kind, stage_of, low_half}
use Rattle.layout.specs.Layout.{high_half, read_value, written_value}
use Rattle.layout.specs.Decode.{within, read_of, first_in, last_read_in, last_write_in, client_in}
use Rattle.layout.specs.Decode.{has_parts}
use Rattle.layout.proofs.Halves.{low_below, high-below}
use Rattle.gather.specs.Sized.{sized}
use Rattle.range_client.specs.Clients.{rest_test, state_test, stamps_test, values_test}
use Rattle.range_client.specs.Clients.{firsts_test, asked_test, mixed_test, running_test}
use Rattle.range_client.specs.Clients.{last_read_test, last_write_test, last_test, client_test}
use Rattle.gather.proofs.Sizes.{stamp-sized}
use Rattle.range_client.proofs.Subsets.{subset-mask}
use Rattle.range_client.proofs.FirstTests.{firsts-empty, come-tests}
use Rattle.gather.proofs.Tested.{every-same, every-both}

-- ---- The items of a set

or-both : (a p q : Bool) → ((a || p) && (a || q)) ≡ (a || (p && q))
or-both true p q = refl
or-both false p q = refl

each_both : (z : Sizes) (s : ℕ) (p q : ℕ → Bool)
    → (each z s p && each z s q) ≡ each z s (λ k. p k && q k)
each_both z s p q =
    every-both z.items (λ k. not (has s k) || p k) (λ k. not (has s k) || q k)
    ∙ every-same z.items _ _ (λ k l. or-both (not (has s k)) (p k) (q k))

-- of a set's items the decoder keeps the words
each_within : (z : Sizes) (s : ℕ) (p : ℕ → Bool) (words : ℕ → ℕ)
    → each z s (λ k. p (words k)) ≡ each z s (λ k. p (within s words k))
each_within z s p words = every-same z.items _ _
    (λ k l. by-test (has s k) (λ e. rw e) (λ e. rw e))

each-true : (z : Sizes) (s : ℕ) (p : ℕ → Bool) → ((k : ℕ) → p k ≡ true) → each z s p ≡ true
each-true z s p h = at_every z.items _ (λ k l. or_right (not (has s k)) (p k) (h k))

pub each_all : (z : Sizes) (s : ℕ) (p : ℕ → Bool) → every z.items p ≡ true → true ≡ each z s p
each_all z s p e = sym (at_every z.items _
    (λ k l. or_right (not (has s k)) (p k) (every-at z.items p e k l)))

pub each-empty : (z : Sizes) (s : ℕ) (p : ℕ → Bool) → s ≡ 0 → true ≡ each z s p
each-empty z s p e = sym (at_every z.items _ (λ k l. rw (e, has-empty k)))

-- ---- The values of a mixed transaction: each half of a word is in range

read_fits : (mixed : Bool) (z : Sizes) (s : ℕ) (w : ℕ → ℕ)
    → (mixed || each z s (λ k. fits (w k))) ≡ each z s (λ k. fits (read_value mixed (w k)))
read_fits true z s w =
    sym (each-true z s (λ k. fits (low_half (w k)))
    (λ k. lt-ltb (low_half (w k)) (2 ^ 32) (low_below (w k))))
read_fits false z s w = refl

written-fits : (mixed : Bool) (z : Sizes) (s : ℕ) (w : ℕ → ℕ)
    → (mixed || each z s (λ k. fits (w k))) ≡ each z s (λ k. fits (written_value mixed (w k)))
written-fits true z s w =
    sym (each-true z s (λ k. fits (high_half (w k)))
    (λ k. lt-ltb (high_half (w k)) (2 ^ 32) (high-below (w k))))
written-fits false z s w = refl

-- ---- The same tests in another order, for a write part and for a read part

awaits : (none idle slow : Bool) → beq none idle ≡ true → (none ≡ true → slow ≡ true)
    → (slow || not idle) ≡ true
awaits true idle slow e h = rw (h refl) refl
awaits false idle slow e h = or_right slow (not idle) (ap not (sym (beq-true false idle e)))

awaits-some : (idle empty : Bool) → beq false idle ≡ true → (empty || not idle) ≡ true
awaits-some idle empty e = awaits false idle empty e (λ n. not-both n refl)

module _ (count own await mask inside stamps worth kind ended idle : Bool)
    (same : await ≡ true → mask ≡ inside) where
  write-regroup : (empty : Bool)
      → ((count && own && await && mask && beq false idle) && (stamps && worth)
      && (kind && ended))
      ≡ (beq false idle && true && kind
      && (count && true && (own && await && inside && stamps && worth)
      && (empty || not idle) && true && ended))
  write-regroup empty =
      test-ext _ _
      (λ e.
      let f = simp tells-and at e in
      let inner : inside ≡ true = sym (same (search)) ∙ search in
      let busy : (empty || not idle) ≡ true = awaits-some idle empty (search) in
      simp tells-and search)
      (λ e.
      let f = simp tells-and at e in
      let outer : mask ≡ true = same (search) ∙ search in
      simp tells-and search)

  -- where the mode is idle's, the read isn't a fast one
  read-regroup : (mode none slow come : Bool) → (none ≡ true → slow ≡ true)
      → ((mode && count && own && await && mask && beq none idle)
      && (stamps && worth && come) && (kind && ended))
      ≡ (mode && beq none idle && true && kind
      && (count && (own && await && inside && (stamps && worth) && true && come) && true && true
      && (slow || not idle) && ended))
  read-regroup mode none slow come rests =
      test-ext _ _
      (λ e.
      let f = simp tells-and at e in
      let inner : inside ≡ true = sym (same (search)) ∙ search in
      let busy : (slow || not idle) ≡ true = awaits none idle slow (search) rests in
      simp tells-and search)
      (λ e.
      let f = simp tells-and at e in
      let outer : mask ≡ true = same (search) ∙ search in
      simp tells-and search)

  -- with both parts, each of which isn't empty
  mixed-regroup : (reads writes both awaits covers within stamp empty : Bool)
      → (awaits ≡ true → covers ≡ within)
      → ((count && own && await && mask && beq false idle)
      && (reads && writes && stamps && both && awaits && covers && stamp) && (kind && ended))
      ≡ (beq false idle && (reads && writes) && kind
      && (count && (own && await && inside && (stamps && true) && true && true)
      && (both && awaits && within && stamp && true) && (empty || not idle) && true && ended))
  mixed-regroup reads writes both awaits covers within stamp empty also =
      test-ext _ _
      (λ e.
      let f = simp tells-and at e in
      let inner : inside ≡ true = sym (same (search)) ∙ search in
      let wider : within ≡ true = sym (also (search)) ∙ search in
      let busy : (empty || not idle) ≡ true = awaits-some idle empty (search) in
      simp tells-and search)
      (λ e.
      let f = simp tells-and at e in
      let outer : mask ≡ true = same (search) ∙ search in
      let cover : covers ≡ true = also (search) ∙ search in
      simp tells-and search)

-- idle exactly when nothing is awaited, in neither part
rests : (idle mixed none other : Bool) → (mixed ≡ true → idle ≡ false)
    → cond (beq idle none) true (mixed && not other)
    ≡ beq idle (none && (not mixed || other))
rests true true none other h = not-both refl (h refl)
rests false true true true h = refl
rests false true true false h = refl
rests false true false other h = refl
rests true false true other h = refl
rests true false false other h = refl
rests false false true other h = refl
rests false false false other h = refl

-- with none under way
idle-regroup : (count own await mask none running : Bool) → own ≡ true → running ≡ true
    → (none ≡ true → await ≡ true) → (none ≡ true → mask ≡ true)
    → (count && none) ≡ (count && own && await && mask && none && running)
idle-regroup count own await mask none running p r q s =
    test-ext _ _
    (λ e.
    let f = simp tells-and at e in
    let below : await ≡ true = q (search) in
    let inner : mask ≡ true = s (search) in
    simp tells-and search)
    (λ e.
    let f = simp tells-and at e in
    simp tells-and search)

-- of a read part that has ended
ended-order : (own each : Bool) → (own && each) ≡ (own && true && true && each && true && true)
ended-order true true = refl
ended-order true false = refl
ended-order false each = refl

-- a part that isn't shown isn't tested
shown-same : {A : Type 0} (shows : Bool) (p : A → Bool) (part none : A)
    → (not shows || p part) ≡ (not shows || p (cond shows part none))
shown-same true p part none = refl
shown-same false p part none = refl

no-read-test : (z : Sizes) → read_part_in_range z no_read ≡ true
no-read-test z = (tells-read-part z no_read).1 (range-no-read z)

stage-below : (mode : ℕ) → leb (stage_of mode) 2 ≡ true
stage-below mode =
    by-test (eqb mode 3) (λ e. rw e refl)
    (λ e. by-test (eqb mode 4) (λ f. rw (e, f) refl) (λ f. rw (e, f) refl))

no-write-test : (z : Sizes) → write_part_in_range z no_write ≡ true
no-write-test z = (tells-write-part z no_write).1 (range-no-write z)

-- ---- Client d of the block, from the outcomes of the tests

module _ (b : List ℕ) (d clients items : ℕ) where
  abbrev z : Sizes
  z = sized clients items

  none-awaited : all_below 0 items ≡ true
  none-awaited = lt-ltb 0 (2 ^ items) (pow_pos items)

  -- mode, count, set and awaited items
  pub state-tests : {mode count s awaited : ℕ} {own await rest : Bool}
      → mode ≡ at b scalars (mode_at d)
      → count ≡ at b scalars (count_at d) → s ≡ at b scalars (set_at d)
      → awaited ≡ at b scalars (awaited_at d) → own ≡ all_below s items
      → await ≡ all_below awaited items → rest ≡ rest_test b d
      → (ltb mode modes && ltb count (2 ^ 32) && own && await && eqb (bit_and awaited s) awaited
      && rest) ≡ state_test b d items
  state-tests m n s a p q e = rw (p, q, e, m, n, s, a)

  -- idle exactly when nothing is awaited: told by the items read, and if not, by those written
  rest-told : let mode = at b scalars (mode_at d) in
      cond (beq (eqb mode 0) (eqb (at b scalars (awaited_at d)) 0)) true
      (is_mixed_mode mode && not (eqb (at b scalars (write_awaited_at d)) 0)) ≡ rest_test b d
  rest-told =
      let mode = at b scalars (mode_at d) in
      rests (eqb mode 0) (is_mixed_mode mode) (eqb (at b scalars (awaited_at d)) 0)
      (eqb (at b scalars (write_awaited_at d)) 0) (λ e. rw (eqb-true mode mixing e) refl)

  module _ {mode awaited : ℕ} (m : mode ≡ at b scalars (mode_at d))
      (a : awaited ≡ at b scalars (awaited_at d)) where
    pub rest_read : beq (eqb mode 0) (eqb awaited 0) ≡ true → true ≡ rest_test b d
    rest_read e = rw (rw (m, a) at e) at rest-told

    pub rest-written : {other : ℕ} → other ≡ at b scalars (write_awaited_at d)
        → beq (eqb mode 0) (eqb awaited 0) ≡ false
        → (is_mixed_mode mode && not (eqb other 0)) ≡ rest_test b d
    rest-written o e = rw (m, o) (rw (rw (m, a) at e) at rest-told)

  -- the transaction under way: of a write
  pub running-write : {stamp s : ℕ} {stamped valued : Bool}
      → stamped ≡ stamp_in_range (sized clients 0) stamp → stamp ≡ at b scalars (stamp_at d)
      → valued ≡ each (sized 0 items) s (λ k. fits (at b values (item_at d k)))
      → s ≡ at b scalars (set_at d) → at b scalars (mode_at d) ≡ 2
      → (stamped && valued) ≡ running_test b d clients items
  unfolding running_test
  running-write p q v e h = rw (p, q, v, e, h, stamp-sized clients 0 items) refl

  -- of a mixed one
  pub running-mixed : {ok : Bool} → ok ≡ mixed_test b d clients items
      → at b scalars (mode_at d) ≡ mixing → ok ≡ running_test b d clients items
  unfolding running_test
  running-mixed p h = p ∙ rw h refl

  pub mixed-tests : {own s awaited stamp : ℕ} {asks below await stamped : Bool}
      → own ≡ at b scalars (set_at d) → s ≡ at b scalars (write_set_at d)
      → awaited ≡ at b scalars (write_awaited_at d)
      → asks ≡ each z own (λ k. stamp_in_range z (at b asked (item_at d k)))
      → below ≡ all_below s items → await ≡ all_below awaited items
      → stamped ≡ stamp_in_range (sized clients 0) stamp → stamp ≡ at b scalars (stamp_at d)
      → (not (eqb own 0) && not (eqb s 0) && asks && below && await
      && eqb (bit_and awaited s) awaited && stamped) ≡ mixed_test b d clients items
  unfolding mixed_test
  mixed-tests o w a t p q r e = rw (t, p, q, r, e, stamp-sized clients 0 items, o, w, a) refl

  -- and of any other
  pub running-other : {ok : Bool} → ok ≡ asked_test b d clients items
      → at b scalars (mode_at d) ≢ 2 → at b scalars (mode_at d) ≢ mixing
      → ok ≡ running_test b d clients items
  unfolding running_test
  running-other p h m = p
      ∙ rw (ne_eqb (at b scalars (mode_at d)) 2 h, ne_eqb (at b scalars (mode_at d)) mixing m) refl

  pub asked-tests : {s : ℕ} {stamped valued come : Bool}
      → stamped ≡ each z s (λ k. stamp_in_range z (at b asked (item_at d k)))
      → valued ≡ each (sized 0 items) s (λ k. fits (at b values (item_at d k)))
      → come ≡ firsts_test b d clients items → s ≡ at b scalars (set_at d)
      → (stamped && valued && come) ≡ asked_test b d clients items
  unfolding asked_test
  asked-tests p q r e = rw (p, q, r, e) refl

  pub asked-none : at b scalars (set_at d) ≡ 0 → true ≡ asked_test b d clients items
  unfolding asked_test
  asked-none e =
      rw (
        ← each-empty z (at b scalars (set_at d)) (λ k. stamp_in_range z (at b asked (item_at d k))) e,
        ← each-empty (sized 0 items) (at b scalars (set_at d)) (λ k. fits (at b values (item_at d k)))
            e,
        ← firsts-empty b d clients items e,
      )
      refl

  -- with none under way there are no items
  rest-idle : at b scalars (mode_at d) ≡ 0 → rest_test b d ≡ eqb (at b scalars (awaited_at d)) 0
  rest-idle m =
      by-test (eqb (at b scalars (awaited_at d)) 0) (λ e. rw (m, e) refl) (λ e. rw (m, e) refl)

  pub idle-tests : {count awaited : ℕ} → at b scalars (mode_at d) ≡ 0 → at b scalars (set_at d) ≡ 0
      → count ≡ at b scalars (count_at d) → awaited ≡ at b scalars (awaited_at d)
      → (ltb count (2 ^ 32) && eqb awaited 0)
      ≡ (state_test b d items && running_test b d clients items)
  idle-tests m s n a =
      let left = at b scalars (awaited_at d) in
      rw (n, a, rest-idle m, m, s)
      (idle-regroup (fits (at b scalars (count_at d))) (all_below 0 items) (all_below left items)
      (eqb (bit_and left 0) left) (eqb left 0) (running_test b d clients items) none-awaited
      (sym (running-other (asked-none s) (omega (arith, m)) (omega (arith, m))))
      (λ e. rw (eqb-true left 0 e) none-awaited) (λ e. rw (eqb-true left 0 e) refl))

  -- ---- the last ended transaction

  abbrev stamps : ℕ → ℕ
  stamps k = at b last_stamps (item_at d k)

  abbrev worth : ℕ → ℕ
  worth k = at b last_values (item_at d k)

  -- of its parts nothing is awaited
  none-outside : (s : ℕ) → each z 0 (has s) ≡ true
  none-outside s = sym (each-empty z 0 (has s) refl)

  -- and no first reply kept
  none_kept : every items (λ k. not (has_first (last_read_in b d) k)
      || entry_in_range z ((last_read_in b d).firsts k)) ≡ true
  none_kept = at_every items _ (λ k l. rw (no-first (last_read_in b d) k refl) refl)

  abbrev last_mixed : Bool
  last_mixed = is_mixed_kind (at b scalars (last_kind_at d))

  read_whole : let s = at b scalars (last_set_at d) in
      (all_below s items && (each z s (λ k. stamp_in_range z (stamps k))
      && (last_mixed || each z s (λ k. fits (worth k))))) ≡ read_part_in_range z (last_read_in b d)
  unfolding read_part_in_range
  read_whole =
      let s = at b scalars (last_set_at d) in
      let answers : ℕ → ℕ = λ k. read_value last_mixed (worth k) in
      ap (λ (x : Bool). all_below s items && x)
      (ap₂ ◌&&◌ (each_within z s (stamp_in_range z) stamps)
      (read_fits last_mixed z s worth ∙ each_within z s fits answers)
      ∙ each_both z s (λ k. stamp_in_range z (within s stamps k)) (λ k. fits (within s answers k)))
      ∙ rw (none-awaited, none-outside s, none_kept) (ended-order (all_below s items) _)

  pub read-tests : (kind : ℕ) {s : ℕ} {below stamped valued : Bool} → below ≡ all_below s items
      → stamped ≡ each z s (λ k. stamp_in_range z (stamps k))
      → valued ≡ (is_mixed_kind kind || each (sized 0 items) s (λ k. fits (worth k)))
      → s ≡ at b scalars (last_set_at d) → kind ≡ at b scalars (last_kind_at d)
      → (below && (stamped && valued)) ≡ read_part_in_range z (last_read_in b d)
  read-tests kind p q r e k = rw (p, q, r, e, k) read_whole

  abbrev last_written : ℕ
  last_written = cond last_mixed (at b scalars (last_write_set_at d)) (at b scalars (last_set_at d))

  write-whole : (s : ℕ) → s ≡ last_written →
      (all_below s items && stamp_in_range z (at b scalars (last_stamp_at d))
      && (last_mixed || each z s (λ k. fits (worth k)))) ≡ write_part_in_range z (last_write_in b d)
  unfolding write_part_in_range
  write-whole s e =
      rw (← e) (rw (none-awaited, none-outside s, and-true _, and-true (all_below s items))
      (ap (λ (x : Bool). all_below s items && stamp_in_range z (at b scalars (last_stamp_at d)) && x)
      (written-fits last_mixed z s worth
      ∙ each_within z s fits (λ k. written_value last_mixed (worth k)))))

  pub write-tests : (kind : ℕ) {s stamp : ℕ} {below stamped valued : Bool}
      → below ≡ all_below s items
      → stamped ≡ stamp_in_range (sized clients 0) stamp
      → valued ≡ (is_mixed_kind kind || each (sized 0 items) s (λ k. fits (worth k)))
      → s ≡ cond (is_mixed_kind kind) (at b scalars (last_write_set_at d)) (at b scalars (last_set_at d))
      → stamp ≡ at b scalars (last_stamp_at d) → kind ≡ at b scalars (last_kind_at d)
      → (below && stamped && valued) ≡ write_part_in_range z (last_write_in b d)
  write-tests kind {s} p q r e f k =
      rw (p, q, r, f, stamp-sized clients 0 items, k) (write-whole s (rw k at e))

  -- by its kind
  last-whole : let kind = at b scalars (last_kind_at d) in
      (is_kind kind && last_read_test b d kind clients items && last_write_test b d kind clients items)
      ≡ last_test b d clients items
  unfolding client_in ended_in_range
  last-whole =
      let kind = at b scalars (last_kind_at d) in
      by-test (is_kind kind)
      (λ e. rw e (ap₂ ◌&&◌ (shown-same (shows_read kind) (read_part_in_range z) _ _)
      (shown-same (shows_write kind) (write_part_in_range z) _ _)))
      (λ e. rw e refl)

  pub last-tests : {kind : ℕ} {known read write : Bool} → kind ≡ at b scalars (last_kind_at d)
      → known ≡ is_kind kind → read ≡ last_read_test b d kind clients items
      → write ≡ last_write_test b d kind clients items
      → (known && read && write) ≡ last_test b d clients items
  last-tests k p q r = rw (p, q, r, k) last-whole

  pub last_none : {kind : ℕ} → kind ≡ at b scalars (last_kind_at d) → kind ≡ 0
      → true ≡ last_test b d clients items
  unfolding is_kind
  last_none k e = last-tests {known = true} {read = true} {write = true} k (rw e refl) (rw e refl)
      (rw e refl)

  -- ---- the whole client

  abbrev mode : ℕ
  mode = at b scalars (mode_at d)

  abbrev set : ℕ
  set = at b scalars (set_at d)

  abbrev awaited : ℕ
  awaited = at b scalars (awaited_at d)

  inside : all_below awaited items ≡ true
      → eqb (bit_and awaited set) awaited ≡ each z awaited (has set)
  inside e = subset-mask awaited set items (ltb-true awaited (2 ^ items) e)

  abbrev Whole : Type 0
  Whole = (state_test b d items && running_test b d clients items && last_test b d clients items)
      ≡ client_test b d clients items

  whole-write : mode ≡ 2 → Whole
  unfolding running_test has_parts client_in_range write_part_in_range client_in
  whole-write m =
      rw (
        m,
        and-true (eqb awaited 0),
        no-read-test z,
        ← each_within z set fits (λ k. at b values (item_at d k)),
      )
      (write-regroup (fits (at b scalars (count_at d))) (all_below set items) (all_below awaited items)
      (eqb (bit_and awaited set) awaited) (each z awaited (has set))
      (stamp_in_range z (at b scalars (stamp_at d))) (values_test b d items)
      (is_kind (at b scalars (last_kind_at d))) (ended_in_range z (client_in b d).last) (eqb awaited 0)
      inside (eqb set 0))

  whole-other : is_write_mode mode ≡ false → is_mixed_mode mode ≡ false → Whole
  unfolding running_test asked_test firsts_test has_parts client_in_range read_part_in_range client_in
  whole-other w x =
      let stamps : ℕ → ℕ = λ j. at b asked (item_at d j) in
      let vs : ℕ → ℕ = λ j. at b values (item_at d j) in
      rw (
        w,
        x,
        and-true (eqb awaited 0),
        no-write-test z,
        stage-below mode,
        ← come-tests b d clients items set awaited (stage_of mode) stamps vs (first_in b d),
        ← each_both z set (λ k. stamp_in_range z (within set stamps k)) (λ k. fits (within set vs k)),
        ← each_within z set (stamp_in_range z) stamps,
        ← each_within z set fits vs,
      )
      (read-regroup (fits (at b scalars (count_at d))) (all_below set items) (all_below awaited items)
      (eqb (bit_and awaited set) awaited) (each z awaited (has set))
      (stamps_test b d clients items) (values_test b d items)
      (is_kind (at b scalars (last_kind_at d))) (ended_in_range z (client_in b d).last) (eqb awaited 0)
      inside (ltb mode modes) (eqb mode 0) (eqb (stage_of mode) 0)
      (every items (λ k. not (has_first (read_of set awaited (stage_of mode) stamps vs (first_in b d))
      k) || entry_in_range z (first_in b d k)))
      (λ e. rw (eqb-true mode 0 e) refl))

  abbrev written : ℕ
  written = at b scalars (write_set_at d)

  abbrev unwritten : ℕ
  unwritten = at b scalars (write_awaited_at d)

  within-written : all_below unwritten items ≡ true
      → eqb (bit_and unwritten written) unwritten ≡ each z unwritten (has written)
  within-written e = subset-mask unwritten written items (ltb-true unwritten (2 ^ items) e)

  -- each half of its words is in range
  low_fits : (s : ℕ) (w : ℕ → ℕ) → each z s (λ k. fits (low_half (w k))) ≡ true
  low_fits s w = sym (read_fits true z s w)

  high_fits : (s : ℕ) (w : ℕ → ℕ) → each z s (λ k. fits (high_half (w k))) ≡ true
  high_fits s w = sym (written-fits true z s w)

  -- and it keeps no first reply
  none_first : (s a : ℕ) (σ v : ℕ → ℕ) (x : ℕ → Entry) → every items
      (λ k. not (has_first (read_of s a 0 σ v x) k)
      || entry_in_range z ((read_of s a 0 σ v x).firsts k)) ≡ true
  none_first s a σ v x = at_every items _ (λ k l. rw (no-first (read_of s a 0 σ v x) k refl) refl)

  whole-mixed : mode ≡ mixing → Whole
  unfolding running_test mixed_test has_parts client_in_range read_part_in_range write_part_in_range client_in
  whole-mixed m =
      let stamps : ℕ → ℕ = λ j. at b asked (item_at d j) in
      let vs : ℕ → ℕ = λ j. at b values (item_at d j) in
      let low : ℕ → ℕ = λ j. low_half (vs j) in
      let high : ℕ → ℕ = λ j. high_half (vs j) in
      rw (
        m,
        none_first set awaited stamps low (first_in b d),
        ← each_both z set (λ k. stamp_in_range z (within set stamps k))
            (λ k. fits (within set low k)),
        ← each_within z set (stamp_in_range z) stamps,
        ← each_within z set fits low,
        ← each_within z written fits high,
        low_fits set vs,
        high_fits written vs,
      )
      (mixed-regroup (fits (at b scalars (count_at d))) (all_below set items) (all_below awaited items)
      (eqb (bit_and awaited set) awaited) (each z awaited (has set))
      (stamps_test b d clients items) true
      (is_kind (at b scalars (last_kind_at d))) (ended_in_range z (client_in b d).last)
      (eqb awaited 0 && eqb unwritten 0) inside (not (eqb set 0)) (not (eqb written 0))
      (all_below written items) (all_below unwritten items)
      (eqb (bit_and unwritten written) unwritten) (each z unwritten (has written))
      (stamp_in_range z (at b scalars (stamp_at d))) (eqb written 0) within-written)

  client-whole : Whole
  client-whole =
      by-test (ltb mode modes)
      (λ e. by-test (is_write_mode mode) (λ m. whole-write (eqb-true mode 2 m))
      (λ w. by-test (is_mixed_mode mode) (λ m. whole-mixed (eqb-true mode mixing m)) (whole-other w)))
      (λ e. rw e refl)

  pub client-tests : {under ended : Bool}
      → under ≡ (state_test b d items && running_test b d clients items)
      → ended ≡ last_test b d clients items → (under && ended) ≡ client_test b d clients items
  client-tests p q = rw (p, q) client-whole
