-- What the code reads of an entry, test by test, is what the definitions say.
use mathlib.Core.Bool.{Bool, true, false, cond, not, ◌&&◌, ◌||◌, and-true}
use mathlib.Core.List.{List}
use mathlib.Core.Logic.{◌≢◌}
use mathlib.Core.Path.{◌≡◌, refl, sym, ap, ◌∙◌, subst}
use Prim.Native.Nat.{ℕ, suc, ◌+◌, ◌-◌, ◌/◌, ◌%◌, ◌≤◌, ◌<◌, zero-le}
use lib.Dec.{eqb, leb, ltb}
use lib.ListN.{length, get_or}
use native.Mathlib.Omega.{arith}
use borrow.Author.Tests.{eqb-true, eqb-false, eq-eqb, ne_eqb, ltb-true, ltb-false, lt-ltb}
use borrow.Author.Tests.{le-ltb, le-leb}
use Rattle.basics.proofs.Cases.{by-test, not-both}
use Rattle.basics.specs.Lists.{all, every, table}
use Rattle.basics.proofs.Lists.{at_every, every-at, length-table, table_at}
use Rattle.itemset.specs.Set.{has, least_from}
use Rattle.itemset.proofs.Least.{least-none}
use Rattle.protocol.specs.declared.Entry.{Entry}
use Rattle.protocol.specs.Tables.{Tables}
use Rattle.protocol.specs.Range.{each}
use Rattle.protocol.specs.Steps.{stored}
use Rattle.protocol.specs.Check.{write_set, is_whole, is_counted}
use Rattle.protocol.proofs.Ranges.Values.{Stamped, tells-stamp, stamped}
use Rattle.layout.specs.Layout.{most_versions, header, scalars, at, clients_at, versions_at, items_at}
use Rattle.layout.specs.Layout.{count_at}
use Rattle.layout.specs.Decode.{tables_of, sizes_in, client_in, view_in, latest_in, valid_block}
use Rattle.encoding.proofs.WellFormed.{tells-valid-block, client-test}
use Rattle.index.specs.Index.{place}
use Rattle.index.proofs.Places.{place-holds}
use Rattle.check_stamps.specs.Stamps.{most_held, held_in, held_stamp, version_held, Held}
use Rattle.check_stamps.specs.Stamps.{stamps_end}
use Rattle.check_stamps.proofs.Block.{stamped as held-stamped}
use Rattle.check_stamps.proofs.Read.{look-set, look-some}
use Rattle.check_entries.specs.Entries.{whole_mark, Known, Ranged}
use Rattle.check_stamps.specs.Parts.{good_ask, good_entry, good_entries}

-- ---- a stamp in range

module _ (b : List ℕ) (s : ℕ) (r : Ranged b s) where
  pub stamp-small : s < stamps_end
  stamp-small =
      by-test (eqb s 0) (λ e. let z : s ≡ 0 = eqb-true s 0 e in omega (arith, z))
      (λ e. let m = stamped (tables_of b).sizes s ((tells-stamp (tables_of b).sizes s).0 r)
      (eqb-false s 0 e) in omega (arith, m.fits))

  module _ (some : s ≢ 0) where
    own : Stamped (tables_of b).sizes s
    own = stamped (tables_of b).sizes s ((tells-stamp (tables_of b).sizes s).0 r) some

    pub writer-is : (1 ≤ s % 16) × (s % 16 ≤ at b header clients_at)
    unfolding tables_of
    writer-is = own.writer

    pub counted_is : {n : ℕ} → n ≡ at b scalars (count_at (s % 16))
        → leb (s / 16) n ≡ is_counted (tables_of b) s
    unfolding tables_of client_in
    counted_is e = rw (e, client-test (sizes_in b) (s % 16) writer-is) refl

-- ---- an entry

module _ (t : Tables) (s : ℕ) where
  pub whole-both : {x y : Bool} {own : ℕ} → own ≡ write_set t s
      → x ≡ not (all (λ v. not (eqb v.stamp s)) t.versions)
      → y ≡ each t.sizes own (λ k. stored t.versions k s) → (x && y) ≡ is_whole t s
  unfolding is_whole
  whole-both w e f = rw (e, f, w) refl

module _ (t : Tables) (k : ℕ) where
  pub ask-initial : (s : ℕ) → s ≡ 0 → true ≡ good_ask t k s
  unfolding good_ask
  ask-initial s z =
      let low : leb 0 (t.client 0).count ≡ true = le-leb 0 (t.client 0).count zero-le in
      sym (rw (z, low) refl)

  pub ask-some : (s : ℕ) {own : ℕ} {h w c : Bool} → s ≢ 0 → own ≡ write_set t s
      → h ≡ has own k → w ≡ is_whole t s → c ≡ is_counted t s → (h && w && c) ≡ good_ask t k s
  unfolding good_ask
  ask-some s n o h w c = rw (h, w, c, o) (sym (rw (ne_eqb s 0 n) refl))

  module _ (e : Entry) where
    pub good-initial : e.stamp ≡ 0 → eqb e.set 0 ≡ good_entry t k e
    unfolding good_entry write_set
    good-initial z =
        sym (rw (z, sym (ask-initial 0 refl)) (and-true (eqb e.set 0)))

    pub good-some : {own : ℕ} {a : Bool} → own ≡ write_set t e.stamp
        → a ≡ good_ask t k e.stamp → (eqb e.set own && a) ≡ good_entry t k e
    unfolding good_entry
    good-some o a = rw (o, a) refl

  pub good-same : (e like : Entry) {good : Bool} → e.stamp ≡ like.stamp → e.set ≡ like.set
      → good ≡ good_entry t k like → good ≡ good_entry t k e
  good-same e like p q g =
      let same : like ≡ e = λ j. record { stamp = sym p j; set = sym q j } in
      g ∙ ap (good_entry t k) same

-- ---- the items of a set, one member after another

-- every item before k has a version, if it is a member
abbrev pub Through : ℕ → (ℕ → Bool) → ℕ → Type 0
Through s p k = (j : ℕ) → j < k → (not (has s j) || p j) ≡ true

module _ (s : ℕ) (p : ℕ → Bool) where
  unmember : (j : ℕ) → has s j ≡ false → (not (has s j) || p j) ≡ true
  unmember j e = rw e refl

  pub through-none : {k : ℕ} → k ≡ least_from (64 - 0) s 0 → Through s p k
  through-none e j l = unmember j (least-none 64 s 0 j zero-le (omega (arith, e, l)))

  pub through-next : {k next : ℕ} → Through s p k → p k ≡ true
      → next ≡ least_from (64 - (k + 1)) s (k + 1) → Through s p next
  through-next {k} h e f j l =
      by-test (ltb j k) (λ t. h j (ltb-true j k t))
      (λ t. by-test (eqb j k)
      (λ u. rw (eqb-true j k u, e) (or-true (not (has s k))))
      (λ u. unmember j (least-none (64 - (k + 1)) s (k + 1) j
      (omega (arith, ltb-false j k t, eqb-false j k u)) (omega (arith, f, l)))))
    where
      or-true : (x : Bool) → (x || true) ≡ true
      or-true true = refl
      or-true false = refl

  pub through-all : {k n : ℕ} → Through s p k → n ≤ k
      → true ≡ every n (λ j. not (has s j) || p j)
  through-all h l = sym (at_every _ (λ j. not (has s j) || p j) (λ j m. h j (omega arith)))

  -- a member without one
  pub through_not : {k : ℕ} (n : ℕ) → k < n → has s k ≡ true → p k ≡ false
      → false ≡ every n (λ j. not (has s j) || p j)
  through_not {k} n l e f =
      by-test (every n (λ j. not (has s j) || p j))
      (λ t. not-both (every-at n (λ j. not (has s j) || p j) t k l) (rw (e, f) refl))
      (λ t. sym t)

-- ---- a stamp that is told whole at its first place

module _ (b : List ℕ) (v : valid_block b ≡ true) (p : ℕ) (l : p < most_versions) where
  pub held_small : {e : Entry} → e ≡ held_in b p → e.stamp < stamps_end
  unfolding held_in version_held
  held_small e =
      rw (e, lt-ltb p most_versions l)
      (by-test (ltb p (at b header versions_at))
      (λ t. rw t (held-stamped b v p (ltb-true p (at b header versions_at) t)))
      (λ t. rw t (omega arith)))

marked : (x : Bool) → eqb (cond x 1 0) 1 ≡ x
marked true = refl
marked false = refl

mark-first : (b : List ℕ) (p : ℕ) → held_stamp b p ≢ 0
    → place (table most_held (held_stamp b)) (held_stamp b p) ≡ p
    → whole_mark b p ≡ cond (is_whole (tables_of b) (held_stamp b p)) 1 0
unfolding whole_mark
mark-first b p some first =
    rw (
      ne_eqb (held_stamp b p) 0 some,
      eq-eqb (place (table most_held (held_stamp b)) (held_stamp b p)) p first,
    ) refl

module _ (b stamps links : List ℕ) (h : Held b stamps links) where
  first-is : (s : ℕ) → place stamps s ≡ place (table most_held (held_stamp b)) s
  first-is s = ap (λ (l : List ℕ). place l s) h.gathered

  module _ (p : ℕ) {e : Entry} (is : e ≡ held_in b p) where
    pub mark-none : e.stamp ≡ 0 → 0 ≡ whole_mark b p
    unfolding whole_mark
    mark-none z =
        let none : held_stamp b p ≡ 0 = ap (λ (x : Entry). x.stamp) (sym is) ∙ z in
        sym (rw (eq-eqb (held_stamp b p) 0 none) refl)

    module _ (some : e.stamp ≢ 0) {r : ℕ} (f : r ≡ place stamps e.stamp) where
      stamp-is : held_stamp b p ≡ e.stamp
      stamp-is = ap (λ (x : Entry). x.stamp) (sym is)

      first-place : place (table most_held (held_stamp b)) (held_stamp b p) ≡ r
      first-place = ap (place (table most_held (held_stamp b))) stamp-is ∙ sym (first-is e.stamp)
          ∙ sym f

      some-stamp : held_stamp b p ≢ 0
      some-stamp z = some (sym stamp-is ∙ z)

      pub mark-later : r ≢ p → 0 ≡ whole_mark b p
      unfolding whole_mark
      mark-later n =
          sym (rw (
            ne_eqb (held_stamp b p) 0 some-stamp,
            ne_eqb (place (table most_held (held_stamp b)) (held_stamp b p)) p
                (λ same. n (sym first-place ∙ same)),
          ) refl)

      module _ (own : r ≡ p) (low : p < most_versions) {y : Bool}
          (a : y ≡ each (tables_of b).sizes e.set (λ k. stored (tables_of b).versions k e.stamp))
        where
          whole_is : y ≡ is_whole (tables_of b) (held_stamp b p)
          whole_is =
              whole-both (tables_of b) e.stamp (look-set b stamps links h e.stamp some f
              (is ∙ ap (held_in b) (sym own)))
              (sym (lt-ltb r most_versions (omega (arith, own, low)))
              ∙ look-some b stamps links h e.stamp some f) a
              ∙ ap (is_whole (tables_of b)) (sym stamp-is)

          pub first-mark : cond y 1 0 ≡ whole_mark b p
          first-mark =
              ap (λ (x : Bool). cond x 1 0) whole_is
              ∙ sym (mark-first b p some-stamp (first-place ∙ own))

module _ (b stamps links wholes : List ℕ) (h : Known b stamps links wholes) (s : ℕ) (some : s ≢ 0)
    {r : ℕ} (f : r ≡ place stamps s) where
  pub look-whole : r < length wholes → eqb (get_or wholes r 0) 1 ≡ is_whole (tables_of b) s
  look-whole l =
      let low : r < most_versions =
      omega (arith, l, ap length h.whole, length-table most_versions (whole_mark b)) in
      let inside : place stamps s < length stamps =
      omega (arith, f, low, ap length h.held.gathered, length-table most_held (held_stamp b)) in
      let own : held_stamp b r ≡ s =
      sym (table_at most_held (held_stamp b) r 0 (omega (arith, low)))
      ∙ ap (λ (xs : List ℕ). get_or xs r 0) (sym h.held.gathered)
      ∙ ap (λ (q : ℕ). get_or stamps q 0) f ∙ place-holds stamps s inside in
      let first : place (table most_held (held_stamp b)) (held_stamp b r) ≡ r =
      ap (place (table most_held (held_stamp b))) own ∙ sym (first-is b stamps links h.held s)
      ∙ sym f in
      let mark : get_or wholes r 0 ≡ cond (is_whole (tables_of b) s) 1 0 =
      ap (λ (xs : List ℕ). get_or xs r 0) h.whole ∙ table_at most_versions (whole_mark b) r 0 low
      ∙ mark-first b r (λ z. some (sym own ∙ z)) first
      ∙ ap (λ (x : ℕ). cond (is_whole (tables_of b) x) 1 0) own in
      ap (λ (x : ℕ). eqb x 1) mark ∙ marked (is_whole (tables_of b) s)

  pub look-missing : length wholes ≤ r → false ≡ is_whole (tables_of b) s
  look-missing l =
      let high : most_versions ≤ r =
      omega (arith, l, ap length h.whole, length-table most_versions (whole_mark b)) in
      whole-both (tables_of b) s refl
      (sym (le-ltb r most_versions high) ∙ look-some b stamps links h.held s some f) refl

-- ---- places

pub client-is : (b : List ℕ) (d : ℕ) → 1 ≤ d → d ≤ at b header clients_at
    → (tables_of b).client d ≡ client_in b d
unfolding tables_of
client-is b d low high = rw (client-test (sizes_in b) d (low, high)) refl

module _ (b : List ℕ) (v : valid_block b ≡ true) where
  pub few-items : at b header items_at ≤ 64
  few-items = ((tells-valid-block b).0 v).well_formed.sizes.items

  pub the_view : (d k : ℕ) → 1 ≤ d → d ≤ at b header clients_at → k < at b header items_at
      → view_in b d k ≡ (tables_of b).view d k
  unfolding tables_of
  the_view d k low high l =
      sym (rw (client-test (sizes_in b) d (low, high), lt-ltb k (at b header items_at) l) refl)

  pub the-latest : (k : ℕ) → k < at b header items_at → latest_in b k ≡ (tables_of b).latest k
  unfolding tables_of
  the-latest k l = sym (rw (lt-ltb k (at b header items_at) l) refl)

  pub view-ranged : (d k : ℕ) → 1 ≤ d → d ≤ at b header clients_at → k < at b header items_at
      → Ranged b ((tables_of b).view d k).stamp
  unfolding tables_of
  view-ranged d k low high l =
      (tells-stamp (tables_of b).sizes ((tables_of b).view d k).stamp).1
      (((tells-valid-block b).0 v).valid.in_range.view d (low, high) k l).stamp

  pub latest-ranged : (k : ℕ) → k < at b header items_at → Ranged b ((tables_of b).latest k).stamp
  unfolding tables_of
  latest-ranged k l =
      (tells-stamp (tables_of b).sizes ((tables_of b).latest k).stamp).1
      (((tells-valid-block b).0 v).valid.in_range.latest k l).stamp

pub entries-are : (b : List ℕ) → every (at b header items_at)
    (λ k. good_entry (tables_of b) k ((tables_of b).latest k) && every (at b header clients_at)
    (λ i. good_entry (tables_of b) k ((tables_of b).view (suc i) k)))
    ≡ good_entries (tables_of b)
unfolding good_entries tables_of
entries-are b = refl

pub every-to : {n m : ℕ} (p : ℕ → Bool) → n ≡ m → every n p ≡ every m p
every-to p e = ap (λ (k : ℕ). every k p) e

module _ (b : List ℕ) (v : valid_block b ≡ true) (k : ℕ) {n : ℕ} (c : n ≡ at b header items_at)
    (l : k < n) where
  inside : k < at b header items_at
  inside = omega (arith, c, l)

  module _ (d : ℕ) (low : 1 ≤ d) (high : d ≤ at b header clients_at) {e : Entry}
      (h : e ≡ view_in b d k) where
    pub view-read : e ≡ (tables_of b).view d k
    view-read = h ∙ the_view b v d k low high inside

    pub read-ranged : Ranged b e.stamp
    read-ranged =
        subst (λ (x : Entry). Ranged b x.stamp) (sym view-read)
        (view-ranged b v d k low high inside)

  module _ {e : Entry} (h : e ≡ latest_in b k) where
    pub latest-read : e ≡ (tables_of b).latest k
    latest-read = h ∙ the-latest b v k inside

    pub latest-read-ranged : Ranged b e.stamp
    latest-read-ranged =
        subst (λ (x : Entry). Ranged b x.stamp) (sym latest-read) (latest-ranged b v k inside)
