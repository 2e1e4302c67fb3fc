-- A write under way, alone or in a mixed transaction, up to its end: its stamp, set and values
-- stay, and with its end its client's view is nowhere older on the items written.
use mathlib.Core.Bool.{true, false, cond, not, and-false}
use mathlib.Core.List.{List, [], ◌∷◌}
use mathlib.Core.Logic.{◌⊎◌, inl, inr, ⊎_elim, ◌≢◌}
use mathlib.Core.Path.{◌≡◌, refl, sym, ap, ap₂, ◌∙◌, subst}
use Prim.Native.Nat.{ℕ, suc, ◌≤◌}
use lib.Dec.{eqb}
use borrow.Author.Tests.{eqb-true, eq-eqb, ne_eqb}
use Rattle.basics.proofs.Cases.{by-test, not-both, and_left, and_right, not-true}
use Rattle.itemset.specs.Set.{has}
use Rattle.protocol.specs.declared.Version.{Version}
use Rattle.protocol.specs.declared.Entry.{Entry}
use Rattle.protocol.specs.declared.Message.{Message}
use Rattle.protocol.specs.declared.Message.TheVariants.{Prepared, Got}
use Rattle.protocol.specs.Tables.{Tables, Client, Ended, of_read, of_write, writer_of, rested}
use Rattle.protocol.specs.Message.{owner_of}
use Rattle.protocol.specs.Range.{Capacities}
use Rattle.protocol.specs.Steps.{delivered, prepared, got, answered, ended, ended_write, kind_ended}
use Rattle.protocol.specs.Steps.{struck, is_last, message_at, writer, mixer, next_stamp, greatest_of}
use Rattle.protocol.specs.Steps.{commits, delivery_of, joined, value_of}
use Rattle.protocol.specs.Calls.{Call, deliver, refusal, effect, step, outcome_of}
use Rattle.condition3.specs.World.{World, placed, does, accepts, moved, passed, next, after}
use Rattle.condition3.specs.World.{outcome_in, delivers, ends_for, stays, starts_for}
use Rattle.condition3.specs.Condition3.{Company, start_with}
use Rattle.condition3.specs.Condition3.Company.{alone, reading}
use Rattle.protocol.proofs.Put.{put_same}
use Rattle.protocol.proofs.Behaviour.{ended-view, ended-view-got}
use Rattle.protocol.proofs.Keeps.{keeps}
use Rattle.protocol.proofs.Kept.Values.{fast-alone}
use Rattle.protocol.proofs.Ranges.Values.{IsClient}
use Rattle.protocol.proofs.Refusals.{AcceptedWrite, accepted-write, accepted-mixed}
use Rattle.condition3.proofs.Sound.Carry.{owner-client}
use Rattle.condition3.proofs.Link.{Inv}
use Rattle.condition3.proofs.Link.Messages.{placed-message, in-message, fits}
use Rattle.condition3.proofs.Link.Step.{next-inv}
use Rattle.condition3.proofs.Runs.Touch.{refused-outcome, delivered-outcome, Way, quiet}
use Rattle.condition3.proofs.Runs.Touch.{starts, answers, way, answers-owner, Answers, by_got}
use Rattle.condition3.proofs.Runs.Touch.{by_prepared, answers_of}
use Rattle.condition3.proofs.Runs.ReadStep.{got-client, got-outcome, prepared-client}
use Rattle.condition3.proofs.Runs.ReadStep.{prepared-outcome}

-- the write of s by client d, with this stamp and these values, beside a read of q
pub record Writing (d s stamp q : ℕ) (values : ℕ → ℕ) (v : World) : Type 0 where
  pub mode : (v.tables.client d).write.set ≢ 0
  pub reads : (v.tables.client d).read.set ≡ q
  pub is_set : (v.tables.client d).write.set ≡ s
  pub is_stamp : (v.tables.client d).write.stamp ≡ stamp
  pub is_values : (v.tables.client d).write.values ≡ values

-- the view of client d has the write, or a later one, on each item of s
abbrev pub Seen : ℕ → ℕ → ℕ → World → Type 0
Seen d s stamp v = (k : ℕ) → has s k ≡ true → stamp ≤ (v.tables.view d k).stamp

-- what its end leaves: the view has it, its commits join, and the client keeps it as its last
-- transaction, or as its part of that
pub record Written (d s stamp : ℕ) (v : World) (c : Call) (v' : World) : Type 0 where
  pub seen : Seen d s stamp v'
  pub sends : (does v c).joins ≡ commits v.tables s stamp
  pub last : Ended
  pub client : v'.tables.client d ≡ rested (v.tables.client d) last
  pub kind : last.kind ≡ kind_ended (v.tables.client d).read (v.tables.client d).write
  pub reads : last.read.set ≡ (v.tables.client d).read.set
  pub part : last.write ≡ ended_write (v.tables.client d).write

-- ---- what the replies that end it bring into the view

prepared-view : (t : Tables) (i k s : ℕ) → message_at t i ≡ Prepared k s
    → is_last of_write (t.client (writer_of s)) k ≡ true → (j : ℕ)
    → has (t.client (writer_of s)).write.set j ≡ true
    → s ≤ ((effect t (deliver i)).view (writer_of s) j).stamp
unfolding effect
prepared-view t i k s is last j e =
    subst (λ (m : Message). s ≤ ((delivered t m).view (writer_of s) j).stamp) (sym is)
    (ended-view t k s last j e)

got-view : (t : Tables) (i d : ℕ) (u : Version) (latest : Entry) → message_at t i ≡ Got d u latest
    → is_last of_read (t.client d) u.item ≡ true → (j : ℕ)
    → has (t.client d).write.set j ≡ true
    → (t.client d).write.stamp ≤ ((effect t (deliver i)).view d j).stamp
unfolding effect
got-view t i d u latest is last j e =
    subst (λ (m : Message). (t.client d).write.stamp ≤ ((delivered t m).view d j).stamp) (sym is)
    (ended-view-got t d u latest last j e)

-- and the commits that go with them

prepared-sends : (t : Tables) (i k s : ℕ) → message_at t i ≡ Prepared k s
    → is_last of_write (t.client (writer_of s)) k ≡ true
    → joined t (message_at t i) ≡ commits t (t.client (writer_of s)).write.set s
unfolding joined
prepared-sends t i k s is last = ap (λ (m : Message). (delivery_of t m).joins) is ∙ rw last refl

got-sends : (t : Tables) (i d : ℕ) (u : Version) (latest : Entry) → message_at t i ≡ Got d u latest
    → is_last of_read (t.client d) u.item ≡ true
    → joined t (message_at t i) ≡ commits t (t.client d).write.set (t.client d).write.stamp
unfolding joined
got-sends t i d u latest is last = ap (λ (m : Message). (delivery_of t m).joins) is ∙ rw last refl

-- ---- a call while the write is under way

module _ (caps : Capacities) (v : World) (inv : Inv caps v) (d s stamp q : ℕ)
    (values : ℕ → ℕ) (r : Writing d s stamp q values v) where
  abbrev here : Client
  here = v.tables.client d

  -- a client that starts awaits nothing, and one that writes does
  pub not-started : (c : Call) → refusal caps v.tables c ≡ 0 → starts_for v d c ≡ true → ⊥
  unfolding starts_for
  not-started c a t =
      let start = (keeps caps v.tables c a).starter d t in
      not-both (rw (start.1.read, start.1.write) refl)
      ((inv.sound.valid.in_range.client d start.0).busy r.mode)

  abbrev Ways : Call → Type 0
  Ways c = (Writing d s stamp q values (moved v c) × (ends_for caps v d c ≡ false))
      ⊎ ((ends_for caps v d c ≡ true) × Written d s stamp v c (moved v c))

  -- the client has the same sets, stamp and values
  same_parts : (v' : World) (c : Client) → v'.tables.client d ≡ c
      → c.read.set ≡ here.read.set → c.write.set ≡ here.write.set
      → c.write.stamp ≡ here.write.stamp → c.write.values ≡ here.write.values
      → Writing d s stamp q values v'
  same_parts v' c is read set stamp-is values-are =
      let set' : (v'.tables.client d).write.set ≡ here.write.set =
      ap (λ (x : Client). x.write.set) is ∙ set in
      record {
        mode = λ z. r.mode (sym set' ∙ z);
        reads = ap (λ (x : Client). x.read.set) is ∙ read ∙ r.reads;
        is_set = set' ∙ r.is_set;
        is_stamp = ap (λ (x : Client). x.write.stamp) is ∙ stamp-is ∙ r.is_stamp;
        is_values = ap (λ (x : Client). x.write.values) is ∙ values-are ∙ r.is_values;
      }

  by-prepared : (i k n : ℕ) → refusal caps v.tables (deliver i) ≡ 0
      → message_at v.tables i ≡ Prepared k n → writer_of n ≡ d
      → here.write.stamp ≡ n → delivers v d (deliver i) ≡ true → Ways (deliver i)
  by-prepared i k n a same owner is-stamp delivers-it =
      let t = v.tables in
      let outcome : outcome_in (step caps t (deliver i)).answer ≡ cond (is_last of_write here k) 2 0 =
      delivered-outcome caps v i a ∙ subst (λ (x : ℕ). outcome_of t (message_at t i)
      ≡ cond (is_last of_write (t.client x) k) 2 0) owner (prepared-outcome t i k n same) in
      let after-it : (effect t (deliver i)).client d ≡ prepared here k =
      subst (λ (x : ℕ). (effect t (deliver i)).client x ≡ prepared (t.client x) k) owner
      (prepared-client t i k n same) in
      by-test (is_last of_write here k)
      (λ last. inr (
        rw (delivers-it, outcome, last) refl,
        record {
          seen = λ j e.
              subst (λ (x : ℕ). x ≤ ((effect t (deliver i)).view d j).stamp)
              (sym is-stamp ∙ r.is_stamp)
              (subst (λ (x : ℕ). is_last of_write (t.client x) k ≡ true
              → has (t.client x).write.set j ≡ true
              → n ≤ ((effect t (deliver i)).view x j).stamp) owner
              (λ l h. prepared-view t i k n same l j h) last
              (subst (λ (x : ℕ). has x j ≡ true) (sym r.is_set) e));
          sends =
              subst (λ (x : ℕ). is_last of_write (t.client x) k ≡ true
              → joined t (message_at t i) ≡ commits t (t.client x).write.set n) owner
              (prepared-sends t i k n same) last
              ∙ ap₂ (commits t) r.is_set (sym is-stamp ∙ r.is_stamp);
          last = ended here;
          client = after-it ∙ rw last refl;
          kind = refl;
          reads = refl;
          part = refl;
        },
      ))
      (λ f. inl (
        same_parts (moved v (deliver i)) (struck here k) (after-it ∙ rw f refl) refl refl refl
            refl,
        rw (outcome, f) (and-false (delivers v d (deliver i))),
      ))

  by-got : (i : ℕ) (u : Version) (latest : Entry) → refusal caps v.tables (deliver i) ≡ 0
      → message_at v.tables i ≡ Got d u latest → delivers v d (deliver i) ≡ true
      → Ways (deliver i)
  by-got i u latest a same delivers-it =
      let t = v.tables in
      let k = u.item in
      let outcome : outcome_in (step caps t (deliver i)).answer ≡ cond (is_last of_read here k) 2 0 =
      delivered-outcome caps v i a ∙ got-outcome t i d u latest same
      ∙ rw (ne_eqb here.write.set 0 r.mode) refl in
      let after-it : (effect t (deliver i)).client d ≡ got here k u.value =
      got-client t i d u latest same in
      by-test (is_last of_read here k)
      (λ last. inr (
        rw (delivers-it, outcome, last) refl,
        record {
          seen = λ j e.
              subst (λ (x : ℕ). x ≤ ((effect t (deliver i)).view d j).stamp) r.is_stamp
              (got-view t i d u latest same last j
              (subst (λ (x : ℕ). has x j ≡ true) (sym r.is_set) e));
          sends = got-sends t i d u latest same last
              ∙ ap₂ (commits t) r.is_set r.is_stamp;
          last = ended (answered here k u.value);
          client = after-it ∙ rw last refl;
          kind = refl;
          reads = refl;
          part = refl;
        },
      ))
      (λ f. inl (
        same_parts (moved v (deliver i)) (answered here k u.value) (after-it ∙ rw f refl) refl
            refl refl refl,
        rw (outcome, f) (and-false (delivers v d (deliver i))),
      ))

  by_way : {c : Call} → refusal caps v.tables c ≡ 0 → Way caps v inv d c → Ways c
  unfolding delivers
  by_way a (quiet c x) =
      inl (same_parts (moved v c) here x.client refl refl refl refl, x.ends)
  by_way a (starts c t) = absurd (not-started c a t)
  by_way a (answers i is_in t) =
      let m = (placed v i).message in
      let owner = answers-owner m d t in
      let is-client : IsClient v.tables.sizes (owner_of m) =
      owner-client caps inv.ledger v.tables inv.sound m
      (in-message caps v inv (placed v i) is_in) in
      let range = inv.sound.valid.in_range.client (owner_of m) is-client in
      go owner (answers_of inv.ledger v.tables.versions (v.tables.client (owner_of m)) m d t
      (fits caps v inv (placed v i) is_in)
      (λ e. r.mode (subst (λ (x : ℕ). (v.tables.client x).write.set ≡ 0) owner
      (fast-alone v.tables.sizes (v.tables.client (owner_of m)) range e))))
    where
      go : owner_of (placed v i).message ≡ d
          → Answers inv.ledger v.tables.versions
          (v.tables.client (owner_of (placed v i).message)) (placed v i).message d t
          (fits caps v inv (placed v i) is_in) → Ways (deliver i)
      go owner (by_got u e is) =
          by-got i u e a (sym (placed-message caps v inv i) ∙ is)
          (eq-eqb (placed v i).label.client d (inv.owners (placed v i) is_in ∙ owner))
      go owner (by_prepared k n is own some stamp-is) =
          by-prepared i k n a (sym (placed-message caps v inv i) ∙ is) own
          (subst (λ (x : ℕ). (v.tables.client x).write.stamp ≡ n) owner stamp-is)
          (eq-eqb (placed v i).label.client d (inv.owners (placed v i) is_in ∙ owner))

  ways : (c : Call) → refusal caps v.tables c ≡ 0 → Ways c
  ways c a =
      by_way a (way caps v inv d c a)

  pub write-goes-on : (c : Call) → ends_for caps v d c ≡ false
      → Writing d s stamp q values (next caps v c)
  unfolding next
  write-goes-on c f =
      by-test (accepts caps v c)
      (λ a. rw a (⊎_elim (λ x. x.0) (λ x. not-both x.0 f)
      (ways c (eqb-true (refusal caps v.tables c) 0 a))))
      (λ a. rw a (same_parts (passed v) here refl refl refl refl refl))

  pub write-ends : (c : Call) → ends_for caps v d c ≡ true → Written d s stamp v c (next caps v c)
  unfolding next
  write-ends c t =
      by-test (accepts caps v c)
      (λ a. rw a (⊎_elim (λ x. not-both t x.1) (λ x. x.1)
      (ways c (eqb-true (refusal caps v.tables c) 0 a))))
      (λ a. not-both t (rw (refused-outcome caps v c a) (and-false (delivers v d c))))

-- ---- from its start

-- the items read beside it
abbrev pub read_with : Company → ℕ
read_with alone = 0
read_with (reading r) = r

-- the kind of the last ended transaction that it leaves
abbrev pub kind_with : Company → ℕ
kind_with alone = 2
kind_with (reading r) = 4

-- what the start of a write tells, and makes of its client
pub record WriteBegun (caps : Capacities) (w : World) (κ : Company) (d s : ℕ) (bytes : List ℕ)
    : Type 0 where
  pub write : AcceptedWrite caps w.tables d s bytes
  pub client : Client
  pub is_client : (moved w (start_with κ d s bytes)).tables.client d ≡ client
  pub count : client.count ≡ suc (greatest_of w.tables d)
  pub reads : client.read.set ≡ read_with κ
  pub set : client.write.set ≡ s
  pub stamp : client.write.stamp ≡ next_stamp w.tables d
  pub values : client.write.values ≡ value_of s bytes
  pub kind : cond (eqb (read_with κ) 0) 2 4 ≡ kind_with κ

pub write-begun : (caps : Capacities) (w : World) (κ : Company) (d s : ℕ) (bytes : List ℕ)
    → refusal caps w.tables (start_with κ d s bytes) ≡ 0 → WriteBegun caps w κ d s bytes
unfolding effect
write-begun caps w alone d s bytes a =
    record {
      write = (accepted-write caps w.tables d s bytes).0 a;
      client = writer w.tables d s bytes;
      is_client = put_same w.tables.client d (writer w.tables d s bytes);
      count = refl;
      reads = refl;
      set = refl;
      stamp = refl;
      values = refl;
      kind = refl;
    }
write-begun caps w (reading r) d s bytes a =
    let start = (accepted-mixed caps w.tables d r s bytes).0 a in
    record {
      write = start.write;
      client = mixer w.tables d r s bytes;
      is_client = put_same w.tables.client d (mixer w.tables d r s bytes);
      count = refl;
      reads = refl;
      set = refl;
      stamp = refl;
      values = refl;
      kind = rw (ne_eqb r 0 start.read.some) refl;
    }

pub write-started : (caps : Capacities) (w : World) (κ : Company) (d s : ℕ) (bytes : List ℕ)
    → WriteBegun caps w κ d s bytes
    → Writing d s (next_stamp w.tables d) (read_with κ) (value_of s bytes)
    (moved w (start_with κ d s bytes))
write-started caps w κ d s bytes b =
    let is = b.is_client in
    let set : ((moved w (start_with κ d s bytes)).tables.client d).write.set ≡ s =
    ap (λ (x : Client). x.write.set) is ∙ b.set in
    record {
      mode = λ z. b.write.start.some (sym set ∙ z);
      reads = ap (λ (x : Client). x.read.set) is ∙ b.reads;
      is_set = set;
      is_stamp = ap (λ (x : Client). x.write.stamp) is ∙ b.stamp;
      is_values = ap (λ (x : Client). x.write.values) is ∙ b.values;
    }

pub write-during : (caps : Capacities) (v : World) → Inv caps v → (d s stamp q : ℕ)
    (values : ℕ → ℕ) → Writing d s stamp q values v → (cs : List Call) → stays caps v d cs ≡ true
    → Writing d s stamp q values (after caps v cs)
unfolding after stays
write-during caps v inv d s stamp q values r [] e = r
write-during caps v inv d s stamp q values r (c ∷ cs) e =
    write-during caps (next caps v c) (next-inv caps v inv c) d s stamp q values
    (write-goes-on caps v inv d s stamp q values r c
    (not-true (ends_for caps v d c)
    (and_left (not (ends_for caps v d c)) (stays caps (next caps v c) d cs) e)))
    cs (and_right (not (ends_for caps v d c)) (stays caps (next caps v c) d cs) e)
