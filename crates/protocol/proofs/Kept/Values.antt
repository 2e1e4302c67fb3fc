-- The stamps, entries and clients that a step makes are in range, where those that it makes them
-- from are.
use mathlib.Core.Bool.{true, false, not, ◌&&◌}
use mathlib.Core.List.{List, [], ◌∷◌}
use mathlib.Core.Logic.{◌≢◌, inl, inr}
use mathlib.Core.Path.{◌≡◌, refl, sym, ◌∙◌, subst}
use Prim.Native.Nat.{ℕ, ◌^◌, ◌<◌, max}
use native.Mathlib.Nat.{lt_of_le_of_lt}
use native.Mathlib.Omega.{arith}
use lib.Dec.{eqb, leb, ltb}
use lib.Pow.{pow_pos}
use borrow.Author.Tests.{leb-true, leb-false, eqb-true}
use Rattle.basics.proofs.Cases.{by-test, not-both, and_right}
use Rattle.itemset.specs.Set.{has, remove}
use Rattle.itemset.proofs.Laws.{has-empty, has-remove, remove-le, set-empty}
use Rattle.protocol.specs.declared.Version.{Version}
use Rattle.protocol.specs.declared.Entry.{Entry}
use Rattle.protocol.specs.Tables.{Sizes, Tables, Client, ReadPart, Ended, nothing, is_kind}
use Rattle.protocol.specs.Tables.{of_read, of_write, no_read, no_write, later_of, entry_of}
use Rattle.protocol.specs.Tables.{partition_of, resting, rested, put, WritePart, with_count}
use Rattle.protocol.specs.Tables.{with_read, with_write, with_last}
use Rattle.protocol.specs.Steps.{alike, stored, found, answered, is_last, ended, prepared, got}
use Rattle.protocol.specs.Steps.{struck, ended_read, offered, seen, committed}
use Rattle.protocol.proofs.Each.{Each}
use Rattle.protocol.proofs.Ranges.Values.{Stamped, StampInRange, EntryInRange}
use Rattle.protocol.proofs.Ranges.Values.{EntriesInRange, VersionInRange}
use Rattle.protocol.proofs.Ranges.Clients.{EndedInRange, ReadPartInRange, WritePartInRange}
use Rattle.protocol.proofs.Ranges.Clients.{ClientInRange}
use Rattle.protocol.proofs.Ranges.Tables.{InRange}
use Rattle.protocol.proofs.Put.{by_cond, put_all}
use Rattle.protocol.proofs.FastRead.{no-first, first-apart}

-- ---- Stamps and entries

pub range-initial : (z : Sizes) → StampInRange z 0
range-initial z n = absurd (n refl)

pub range-max : (z : Sizes) (a b : ℕ) → StampInRange z a → StampInRange z b
    → StampInRange z (max a b)
range-max z a b p q =
    by-test (leb a b)
    (λ e. subst (StampInRange z) (omega (arith, leb-true a b e)) q)
    (λ e. subst (StampInRange z) (omega (arith, leb-false a b e)) p)

pub range-later : (z : Sizes) (e f : Entry) → EntryInRange z e → EntryInRange z f
    → EntryInRange z (later_of e f)
range-later z e f p q = by_cond (EntryInRange z) (ltb e.stamp f.stamp) _ _ (λ l. q) (λ l. p)

-- the latest of three, of which two come in a got or first reply
pub range-offered : (z : Sizes) (e : Entry) (v : Version) (latest : Entry) → EntryInRange z e
    → EntryInRange z (entry_of v) → EntryInRange z latest → EntryInRange z (offered e v latest)
range-offered z e v latest p h g =
    range-later z (later_of e latest) (entry_of v) (range-later z e latest p g) h

pub range-seen : (z : Sizes) (f : ℕ → Entry) (s stamp : ℕ) → EntriesInRange z f → s < 2 ^ z.items
    → StampInRange z stamp
    → EntriesInRange z (seen f s stamp)
range-seen z f s stamp h b g k l =
    by_cond (EntryInRange z) (has s k) _ _
    (λ e. range-later z (f k) _ (h k l) (record { stamp = g; set = b }))
    (λ e. h k l)

-- ---- Stored versions

-- the set and the value of the version found, or of the initial one
pub record FoundInRange (z : Sizes) (v : Version) : Type 0 where
  pub set : v.set < 2 ^ z.items
  pub value : v.value < 2 ^ 32

pub range-found : (z : Sizes) (vs : List Version) (k stamp : ℕ) → Each (VersionInRange z) vs
    → FoundInRange z (found vs k stamp)
unfolding found
range-found z [] k stamp h = record { set = pow_pos z.items; value = omega arith }
range-found z (v ∷ vs) k stamp h =
    by_cond (FoundInRange z) (alike k stamp v) _ _
    (λ e. let r = h v (inl refl) in record { set = r.set; value = r.value })
    (λ e. range-found z vs k stamp (λ u i. h u (inr i)))

pub range-committed : (t : Tables) (p stamp : ℕ) → InRange t → Stamped t.sizes stamp
    → EntriesInRange t.sizes (committed t p stamp)
range-committed t p stamp r g k l =
    by_cond (EntryInRange t.sizes) (eqb (partition_of t k) p && stored t.versions k stamp) _ _
    (λ e. range-later t.sizes (t.latest k) _ (r.latest k l)
    (record {
      stamp = λ n. g;
      set = (range-found t.sizes t.versions k stamp r.versions).set;
    }))
    (λ e. r.latest k l)

-- ---- Clients

pub range-no-read : (z : Sizes) → ReadPartInRange z no_read
range-no-read z =
    record {
      set = pow_pos z.items;
      awaited = pow_pos z.items;
      within = λ k i. i;
      asked = λ k i. range-initial z;
      values = λ k i. omega arith;
      stage = omega arith;
      firsts = λ k e. not-both e (no-first no_read k refl);
    }

pub range-no-write : (z : Sizes) → WritePartInRange z no_write
range-no-write z =
    record {
      set = pow_pos z.items;
      awaited = pow_pos z.items;
      within = λ k i. i;
      stamp = range-initial z;
      values = λ k i. omega arith;
    }

pub range-resting : (z : Sizes) (n : ℕ) (e : Ended) → n < 2 ^ 32 → EndedInRange z e
    → ClientInRange z (resting n e)
range-resting z n e h r =
    record {
      count = h;
      read = range-no-read z;
      write = range-no-write z;
      busy = λ n. absurd (n refl);
      fast = λ n. absurd (n refl);
      last = r;
    }

pub range-nothing : (z : Sizes) → EndedInRange z nothing
unfolding is_kind
range-nothing z =
    record { kind = refl; read = λ s. range-no-read z; write = λ s. range-no-write z }

-- a part in range is so once nothing of it is awaited
pub range-ended : (z : Sizes) (c : Client) → ReadPartInRange z c.read
    → WritePartInRange z c.write → EndedInRange z (ended c)
unfolding is_kind
range-ended z c r w =
    record {
      kind = by-test (eqb c.write.set 0)
          (λ e. by-test (eqb c.read.stage 0) (λ f. rw (e, f) refl) (λ f. rw (e, f) refl))
          (λ e. by-test (eqb c.read.set 0) (λ f. rw (e, f) refl) (λ f. rw (e, f) refl));
      read = λ s. record {
        set = r.set;
        awaited = pow_pos z.items;
        within = λ k i. not-both i (has-empty k);
        asked = r.asked;
        values = r.values;
        stage = omega arith;
        firsts = λ k e. not-both e (no-first (ended_read c.read) k refl);
      };
      write = λ s. record {
        set = w.set;
        awaited = pow_pos z.items;
        within = λ k i. not-both i (has-empty k);
        stamp = w.stamp;
        values = w.values;
      };
    }

-- another last transaction, another count, and other parts
pub range_last : (z : Sizes) (c : Client) (e : Ended) → ClientInRange z c → EndedInRange z e
    → ClientInRange z (with_last c e)
range_last z c e r h = record {
  count = r.count;
  read = r.read;
  write = r.write;
  busy = r.busy;
  fast = r.fast;
  last = h;
}

pub range-count : (z : Sizes) (c : Client) (n : ℕ) → ClientInRange z c → n < 2 ^ 32
    → ClientInRange z (with_count c n)
range-count z c n r h = record {
  count = h;
  read = r.read;
  write = r.write;
  busy = r.busy;
  fast = r.fast;
  last = r.last;
}

pub range-parts : (z : Sizes) (c : Client) (p : ReadPart) (w : WritePart) → ClientInRange z c
    → ReadPartInRange z p → WritePartInRange z w
    → (w.set ≢ 0 → (eqb p.awaited 0 && eqb w.awaited 0) ≡ false)
    → (p.stage ≢ 0 → (w.set ≡ 0) × (p.awaited ≢ 0))
    → ClientInRange z (with_write (with_read c p) w)
range-parts z c p w r asks keeps busy fast = record {
  count = r.count;
  read = asks;
  write = keeps;
  busy = busy;
  fast = fast;
  last = r.last;
}

pub range-rested : (z : Sizes) (c : Client) (e : Ended) → ClientInRange z c → EndedInRange z e
    → ClientInRange z (rested c e)
range-rested z c e r h =
    range_last z (with_write (with_read c no_read) no_write) e
    (range-parts z c no_read no_write r (range-no-read z) (range-no-write z) (λ n. absurd (n refl))
    (λ n. absurd (n refl))) h

-- one item is struck
pub range-left : (s k n : ℕ) → s < 2 ^ n → remove s k < 2 ^ n
range-left s k n l = lt_of_le_of_lt (remove-le s k) l

pub within-left : (a s k : ℕ) → ((j : ℕ) → has a j ≡ true → has s j ≡ true) → (j : ℕ)
    → has (remove a k) j ≡ true → has s j ≡ true
within-left a s k h j e = h j (and_right (not (eqb j k)) (has a j) (sym (has-remove a k j) ∙ e))

-- a part that awaits an item isn't empty
pub awaits-some : (a s k : ℕ) → ((j : ℕ) → has a j ≡ true → has s j ≡ true) → has a k ≡ true
    → eqb s 0 ≡ false
awaits-some a s k h e =
    by-test (eqb s 0) (λ z. not-both (h k e) (subst (λ (x : ℕ). has x k ≡ false)
    (sym (eqb-true s 0 z)) (has-empty k))) (λ z. z)

-- and an empty one awaits none
none_within : (a s : ℕ) → ((j : ℕ) → has a j ≡ true → has s j ≡ true) → s ≡ 0 → a ≡ 0
none_within a s h e =
    set-empty a (λ k. by-test (has a k) (λ m. not-both (h k m) (rw e (has-empty k))) (λ m. m))

pub no-write-awaited : (z : Sizes) (p : WritePart) → WritePartInRange z p → p.set ≡ 0
    → p.awaited ≡ 0
no-write-awaited z p r e = none_within p.awaited p.set r.within e

pub range-prepared : (z : Sizes) (c : Client) (k : ℕ) → ClientInRange z c
    → has c.write.awaited k ≡ true → ClientInRange z (prepared c k)
range-prepared z c k r m =
    let w = r.write in
    by_cond (ClientInRange z) (is_last of_write c k) _ _
    (λ l. range-rested z c (ended c) r (range-ended z c r.read w))
    (λ l. range-parts z c c.read (struck c k).write r r.read (record {
      set = w.set;
      awaited = range-left c.write.awaited k z.items w.awaited;
      within = within-left c.write.awaited c.write.set k w.within;
      stamp = w.stamp;
      values = w.values;
    }) (λ n. l) r.fast)

-- the first part of a fast read has no write part beside it
pub fast-alone : (z : Sizes) (c : Client) → ClientInRange z c → c.read.stage ≡ 1
    → c.write.set ≡ 0
fast-alone z c r first = (r.fast (λ e. absurd (omega arith))).0

pub range-got : (z : Sizes) (c : Client) (k value : ℕ) → ClientInRange z c
    → has c.read.awaited k ≡ true → c.read.stage ≢ 1 → value < 2 ^ 32
    → ClientInRange z (got c k value)
range-got z c k value r m n h =
    let p = r.read in
    let last_of : c.read.stage ≢ 0 → remove c.read.awaited k ≡ 0 → is_last of_read c k ≡ true =
    λ s e. rw (e, no-write-awaited z c.write r.write (r.fast s).0) refl in
    let values = put c.read.values k value in
    let fit : (j : ℕ) → has c.read.set j ≡ true → values j < 2 ^ 32 =
    λ j e. put_all (λ v. v < 2 ^ 32) c.read.values k value j h (p.values j e) in
    let part : ReadPartInRange z (answered c k value).read = record {
      set = p.set;
      awaited = range-left c.read.awaited k z.items p.awaited;
      within = within-left c.read.awaited c.read.set k p.within;
      asked = p.asked;
      values = fit;
      stage = p.stage;
      firsts = λ j e. p.firsts j
          (sym (first-apart c.read (answered c k value).read j n refl refl) ∙ e);
    } in
    by_cond (ClientInRange z) (is_last of_read c k) _ _
    (λ l. range-rested z c (ended (answered c k value)) r
    (range-ended z (answered c k value) part r.write))
    (λ l. range-parts z c (answered c k value).read c.write r part r.write (λ s. l)
    (λ s. ((r.fast s).0, λ e. not-both (last_of s e) l)))
