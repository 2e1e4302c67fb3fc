-- What the steps do, as plain facts: sentences of documents 01 and 02 that a near miss breaks.
use mathlib.Core.Bool.{Bool, true, false, cond, ◌&&◌}
use mathlib.Core.List.{List, [], ◌∷◌, ◌++◌}
use mathlib.Core.Logic.{◌⊎◌, inl, inr}
use mathlib.Core.Path.{◌≡◌, refl, sym, ap, subst}
use Prim.Native.Nat.{ℕ, ◌≤◌, ◌<◌}
use native.Mathlib.Nat.{le_refl, le_trans}
use native.Mathlib.Omega.{arith}
use lib.Dec.{eqb, ltb}
use borrow.Author.Tests.{ltb-true, ltb-false, lt-ltb, le-ltb, eqb-true, eq-eqb}
use Rattle.basics.proofs.Cases.{by-test, and_left, eqb_same}
use Rattle.basics.specs.Lists.{In}
use Rattle.itemset.specs.Set.{has}
use Rattle.protocol.specs.declared.Version.{Version}
use Rattle.protocol.specs.declared.Entry.{Entry}
use Rattle.protocol.specs.declared.Message.{Message}
use Rattle.protocol.specs.declared.Message.TheVariants.{Prepare, Prepared, Commit, Get, Got}
use Rattle.protocol.specs.declared.Message.TheVariants.{FirstGet, FirstReply}
use Rattle.protocol.specs.Tables.{Tables, of_read, of_write, writer_of, later_of, entry_of}
use Rattle.protocol.specs.Tables.{partition_of, put}
use Rattle.protocol.specs.Message.{parts_of}
use Rattle.protocol.specs.Steps.{asks, committed, delivered, joined, delivered_at, message_at}
use Rattle.protocol.specs.Steps.{stored, found, offered, seen, is_last, started_write}
use Rattle.protocol.specs.Calls.{outcome_of}
use Rattle.protocol.proofs.Stored.{choice-own, choice-ge}
use Rattle.protocol.proofs.Put.{put_same}

-- ---- the later of two

pub later-one : (a b : Entry) → a.stamp ≤ (later_of a b).stamp
later-one a b =
    by-test (ltb a.stamp b.stamp)
    (λ e. rw e (omega (arith, ltb-true a.stamp b.stamp e)))
    (λ e. rw e (le_refl a.stamp))

pub later-other : (a b : Entry) → b.stamp ≤ (later_of a b).stamp
later-other a b = by-test (ltb a.stamp b.stamp) (λ e. rw e (le_refl b.stamp))
    (λ e. rw e (ltb-false a.stamp b.stamp e))

pub later-stays : (a b : Entry) → b.stamp ≤ a.stamp → later_of a b ≡ a
later-stays a b h = rw (le-ltb a.stamp b.stamp h) refl

pub later-is : (a b : Entry) → a.stamp < b.stamp → later_of a b ≡ b
later-is a b h = rw (lt-ltb a.stamp b.stamp h) refl

-- ---- the latest of three

module _ (e : Entry) (v : Version) (l : Entry) where
  -- none earlier than its own and the version
  pub offered-own : e.stamp ≤ (offered e v l).stamp
  offered-own = le_trans (later-one e l) (later-one (later_of e l) (entry_of v))

  pub offered-version : v.stamp ≤ (offered e v l).stamp
  offered-version = later-other (later_of e l) (entry_of v)

  -- its own before the reply's latest, that before the version: each with its own set
  pub offered-is-own : l.stamp ≤ e.stamp → v.stamp ≤ e.stamp → offered e v l ≡ e
  offered-is-own h g = rw (later-stays e l h) (later-stays e (entry_of v) g)

  pub offered-is-latest : e.stamp < l.stamp → v.stamp ≤ l.stamp → offered e v l ≡ l
  offered-is-latest h g = rw (later-is e l h) (later-stays l (entry_of v) g)

  pub offered-is-version : e.stamp < v.stamp → l.stamp < v.stamp → offered e v l ≡ entry_of v
  offered-is-version h g = by-test (ltb e.stamp l.stamp)
      (λ t. rw t (later-is l (entry_of v) g)) (λ t. rw t (later-is e (entry_of v) h))

-- ---- what a read asks for

-- is no earlier than the view's own entry, nor than an entry whose write set contains the item
pub asks-own : (t : Tables) (d k : ℕ) → (t.view d k).stamp ≤ asks t d k
asks-own t d k = omega (arith, choice-own (t.view d) k t.sizes.items)

pub asks-sibling : (t : Tables) (d k j : ℕ) → j < t.sizes.items
    → has (t.view d j).set k ≡ true → (t.view d j).stamp ≤ asks t d k
asks-sibling t d k j l e = omega (arith, choice-ge (t.view d) k t.sizes.items j l e)

-- and a get is answered with exactly the stamp asked for
pub answered-exactly : (t : Tables) (d k s : ℕ) (j : Message) → In j (joined t (Get d k s))
    → (parts_of j).stamp ≡ s
unfolding joined
answered-exactly t d k s j (inr x') = elim x' [ ]
answered-exactly t d k s j (inl e) = ap (λ (m : Message). (parts_of m).stamp) e

-- ---- what becomes the latest

-- no commit replaces a later latest
pub committed-later : (t : Tables) (p s k : ℕ) → (t.latest k).stamp ≤ (committed t p s k).stamp
committed-later t p s k =
    let new : Entry = record { stamp = s; set = (found t.versions k s).set } in
    by-test (eqb (partition_of t k) p && stored t.versions k s)
    (λ e. rw e (omega (arith, later-one (t.latest k) new)))
    (λ e. rw e (le_refl (t.latest k).stamp))

-- and an item of the partition whose version is stored has it or a later one
pub committed-raised : (t : Tables) (p s k : ℕ) → partition_of t k ≡ p
    → stored t.versions k s ≡ true → s ≤ (committed t p s k).stamp
committed-raised t p s k here e =
    let new : Entry = record { stamp = s; set = (found t.versions k s).set } in
    rw (eq-eqb (partition_of t k) p here, e) (omega (arith, later-other (t.latest k) new))

-- a latest changes only by a commit at its item's partition, whose stamp it takes
pub latest-by : (t : Tables) (m : Message) (k : ℕ)
    → (((delivered t m).latest k).stamp ≡ (t.latest k).stamp)
    ⊎ (m ≡ Commit (partition_of t k) ((delivered t m).latest k).stamp)
unfolding delivered
latest-by t (Prepare v) k = inl refl
latest-by t (Prepared j s) k = inl refl
latest-by t (Commit p s) k =
    let new : Entry = record { stamp = s; set = (found t.versions k s).set } in
    by-test (eqb (partition_of t k) p && stored t.versions k s)
    (λ e. rw e (by-test (ltb (t.latest k).stamp s)
    (λ l. rw l (inr (ap (λ (x : ℕ). Commit x s) (sym (eqb-true (partition_of t k) p
    (and_left (eqb (partition_of t k) p) (stored t.versions k s) e))))))
    (λ l. rw l (inl refl))))
    (λ e. rw e (inl refl))
latest-by t (Get d j s) k = inl refl
latest-by t (Got d v e) k = inl refl
latest-by t (FirstGet d j) k = inl refl
latest-by t (FirstReply d v e) k = inl refl

-- a prepare is stored, and changes no latest
pub prepare-latest : (t : Tables) (v : Version) (k : ℕ)
    → ((delivered t (Prepare v)).latest k).stamp ≡ (t.latest k).stamp
unfolding delivered
prepare-latest t v k = refl

pub prepare-stored : (t : Tables) (i : ℕ) (v : Version) → message_at t i ≡ Prepare v
    → (delivered_at t i).versions ≡ t.versions ++ v ∷ []
unfolding delivered
prepare-stored t i v e = ap (λ (m : Message). (delivered t m).versions) e

-- ---- what enters the writer's view

-- nothing at the write's start
pub started-view : (t : Tables) (d s : ℕ) (bytes : List ℕ) (e k : ℕ)
    → ((started_write t d s bytes).view e k).stamp ≡ (t.view e k).stamp
started-view t d s bytes e k = refl

-- the write at its end
seen-ge : (view : ℕ → Entry) (s stamp k : ℕ) → has s k ≡ true → stamp ≤ (seen view s stamp k).stamp
seen-ge view s stamp k e = rw e (later-other (view k) (record { stamp = stamp; set = s }))

pub ended-view : (t : Tables) (k s : ℕ) → is_last of_write (t.client (writer_of s)) k ≡ true → (j : ℕ)
    → has (t.client (writer_of s)).write.set j ≡ true
    → s ≤ ((delivered t (Prepared k s)).view (writer_of s) j).stamp
unfolding delivered
ended-view t k s last j e =
    let d = writer_of s in
    let c = t.client d in
    let entered : s ≤ (cond (is_last of_write c k) (seen (t.view d) c.write.set s)
    (t.view d) j).stamp = rw last (seen-ge (t.view d) c.write.set s j e) in
    rw (eqb_same d) (omega arith)

-- a transaction's end takes nothing from it
pub end_ge : (last : Bool) (view : ℕ → Entry) (s stamp k : ℕ)
    → (view k).stamp ≤ (cond last (seen view s stamp) view k).stamp
end_ge true view s stamp k =
    by-test (has s k) (λ e. rw e (later-one (view k) (record { stamp = stamp; set = s })))
    (λ e. rw e (le_refl (view k).stamp))
end_ge false view s stamp k = le_refl (view k).stamp

-- ---- what a got brings into the view: its version

pub got-view : (t : Tables) (d : ℕ) (v : Version) (e : Entry)
    → v.stamp ≤ ((delivered t (Got d v e)).view d v.item).stamp
unfolding delivered
got-view t d v e =
    let c = t.client d in
    let k = v.item in
    let grown : ℕ → Entry = put (t.view d) k (offered (t.view d k) v e) in
    let last = is_last of_read c k in
    let view : ℕ → Entry = cond last (seen grown c.write.set c.write.stamp) grown in
    let here : v.stamp ≤ (grown k).stamp =
    subst (λ (x : Entry). v.stamp ≤ x.stamp)
    (sym (put_same (t.view d) k (offered (t.view d k) v e)))
    (offered-version (t.view d k) v e) in
    subst (λ (f : ℕ → Entry). v.stamp ≤ (f k).stamp) (sym (put_same t.view d view))
    (le_trans here (end_ge last grown c.write.set c.write.stamp k))

-- and where it ends a transaction, the write
pub ended-view-got : (t : Tables) (d : ℕ) (v : Version) (e : Entry)
    → is_last of_read (t.client d) v.item ≡ true → (j : ℕ)
    → has (t.client d).write.set j ≡ true
    → (t.client d).write.stamp ≤ ((delivered t (Got d v e)).view d j).stamp
unfolding delivered
ended-view-got t d v e is-last j h =
    let c = t.client d in
    let k = v.item in
    let grown : ℕ → Entry = put (t.view d) k (offered (t.view d k) v e) in
    let last = is_last of_read c k in
    let view : ℕ → Entry = cond last (seen grown c.write.set c.write.stamp) grown in
    let entered : c.write.stamp ≤ (view j).stamp =
    rw is-last (seen-ge grown c.write.set c.write.stamp j h) in
    subst (λ (f : ℕ → Entry). c.write.stamp ≤ (f j).stamp) (sym (put_same t.view d view))
    entered

-- and a first reply
pub first-view : (t : Tables) (d : ℕ) (v : Version) (e : Entry)
    → v.stamp ≤ ((delivered t (FirstReply d v e)).view d v.item).stamp
unfolding delivered
first-view t d v e =
    let k = v.item in
    let grown : ℕ → Entry = put (t.view d) k (offered (t.view d k) v e) in
    subst (λ (f : ℕ → Entry). v.stamp ≤ (f k).stamp) (sym (put_same t.view d grown))
    (subst (λ (x : Entry). v.stamp ≤ x.stamp)
    (sym (put_same (t.view d) k (offered (t.view d k) v e)))
    (offered-version (t.view d k) v e))

-- ---- when a read ends

-- not before its last reply
pub unended : (t : Tables) (d : ℕ) (v : Version) (e : Entry)
    → is_last of_read (t.client d) v.item ≡ false → outcome_of t (Got d v e) ≡ 0
unfolding outcome_of
unended t d v e not_last = ap (λ b. cond b (cond (eqb (t.client d).write.set 0) 1 2) 0) not_last
