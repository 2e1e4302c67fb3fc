-- What an accepted call tells: its tests, taken one by one, as a record of plain facts, both ways.
use mathlib.Core.Bool.{Bool, true, false}
use mathlib.Core.List.{List, [], ◌∷◌}
use mathlib.Core.Logic.{◌↔◌, ◌≢◌, inl, inr}
use mathlib.Core.Path.{◌≡◌, refl, sym, ap}
use Prim.Native.Nat.{ℕ, ◌+◌, ◌*◌, ◌^◌, ◌≤◌, ◌<◌}
use native.Mathlib.Omega.{arith}
use lib.Dec.{eqb}
use lib.ListN.{length}
use borrow.Author.Tests.{eqb-false, ltb-true}
use Rattle.basics.proofs.Cases.{not-both}
use Rattle.basics.proofs.Lists.{in-get_or}
use Rattle.itemset.specs.Set.{has, count}
use Rattle.itemset.proofs.Laws.{has-empty}
use Rattle.protocol.specs.declared.Version.{Version}
use Rattle.protocol.specs.declared.Entry.{Entry}
use Rattle.protocol.specs.declared.Message.{Message}
use Rattle.protocol.specs.declared.Message.TheVariants.{Prepared, Commit, Got, FirstReply}
use Rattle.protocol.specs.Tables.{Sizes, Tables, Client, writer_of, Ended, rested, Side}
use Rattle.protocol.specs.Tables.{of_read, of_write, awaited_of}
use Rattle.protocol.specs.Range.{Capacities, load, occupied}
use Rattle.protocol.specs.Steps.{message_at, greatest_of}
use Rattle.protocol.specs.Calls.{start_read, start_fast_read, start_write, deliver, show, clear}
use Rattle.protocol.specs.Calls.{hand_over, compare, check, Test, test, first, unexpected}
use Rattle.protocol.specs.Calls.{missing, is_nothing, refusal, fresh_refusal, shown_frame}
use Rattle.protocol.specs.Calls.{start_mixed, write_tests}
use Rattle.protocol.specs.Check.{sound}
use Rattle.protocol.proofs.Tells.{tells}
use Rattle.protocol.proofs.Each.{Each}
use Rattle.protocol.proofs.Ranges.Values.{SizesInRange, tells-sizes, IsClient}
use Rattle.protocol.proofs.Ranges.Values.{MessageInRange}
use Rattle.protocol.proofs.Ranges.Tables.{Valid, tells-valid}

-- ---- The first test that applies

pub tells_first : (n : ℕ) (b : Bool) (xs : List Test) → eqb n 0 ≡ false
    → (first (test n b ∷ xs) ≡ 0) ↔ ((b ≡ false) × (first xs ≡ 0))
unfolding first
tells_first n true xs z = (λ e. absurd (eqb-false n 0 z e), λ p. not-both refl p.0)
tells_first n false xs z = (λ e. (refl, e), λ p. p.1)

pub first-none : (xs : List Test) → Each (λ x. x.applies ≡ false) xs → first xs ≡ 0
unfolding first
first-none [] h = refl
first-none (x ∷ xs) h = rw (h x (inl refl)) (first-none xs (λ y i. h y (inr i)))

-- a number that is given, of the tests behind one of another number
first-later : (m n : ℕ) (b : Bool) (xs : List Test) → eqb n m ≡ false
    → first (test n b ∷ xs) ≡ m → first xs ≡ m
unfolding first
first-later m n true xs z e = absurd (eqb-false n m z e)
first-later m n false xs z e = e

first-last : (m : ℕ) (b : Bool) → eqb m 0 ≡ false → first (test m b ∷ []) ≡ m → b ≡ true
unfolding first
first-last m true z e = refl
first-last m false z e = absurd (eqb-false m 0 z (sym e))

first-empty : first [] ≡ 0
unfolding first
first-empty = refl

-- ---- Starts

-- neither part awaits an item
pub record Idle (c : Client) : Type 0 where
  pub read : c.read.awaited ≡ 0
  pub write : c.write.awaited ≡ 0

pub idle-rested : {c : Client} (o : Client) (e : Ended) → c ≡ rested o e → Idle c
idle-rested o e h = record {
  read = ap (λ (x : Client). x.read.awaited) h;
  write = ap (λ (x : Client). x.write.awaited) h;
}

pub idle-awaits : (c : Client) → Idle c → (σ : Side) (k : ℕ) → has (awaited_of σ c) k ≡ false
idle-awaits c i of_read k = rw i.read (has-empty k)
idle-awaits c i of_write k = rw i.write (has-empty k)

-- what all starts test
pub record AcceptedStart (caps : Capacities) (t : Tables) (d s : ℕ) : Type 0 where
  pub valid : Valid caps t
  pub client : IsClient t.sizes d
  pub idle : Idle (t.client d)
  pub some : s ≢ 0
  pub set : s < 2 ^ t.sizes.items
  pub load : load t + count s ≤ caps.load

-- and what a write tests besides
pub record AcceptedWrite (caps : Capacities) (t : Tables) (d s : ℕ) (bytes : List ℕ) : Type 0 where
  pub start : AcceptedStart caps t d s
  pub values : length bytes ≡ 4 * count s
  pub narrow : count s ≤ caps.widest
  pub number_left : greatest_of t d ≢ 4294967295
  pub occupied : occupied t + count s ≤ caps.versions

ruleset tests = (tells_first, tells-valid, tells)

pub accepted-read : (caps : Capacities) (t : Tables) (d s : ℕ)
    → (refusal caps t (start_read d s) ≡ 0) ↔ AcceptedStart caps t d s
unfolding refusal
accepted-read caps t d s = (
  λ e. let f = simp tests at e in
      search,
  λ a. simp tests (search first-empty),
)

pub accepted-fast-read : (caps : Capacities) (t : Tables) (d s : ℕ)
    → (refusal caps t (start_fast_read d s) ≡ 0) ↔ AcceptedStart caps t d s
unfolding refusal
accepted-fast-read caps t d s = accepted-read caps t d s

pub accepted-write : (caps : Capacities) (t : Tables) (d s : ℕ) (bytes : List ℕ)
    → (refusal caps t (start_write d s bytes) ≡ 0) ↔ AcceptedWrite caps t d s bytes
unfolding refusal
accepted-write caps t d s bytes = (
  λ e. let f = simp tests at e in
      search,
  λ a. simp tests (search first-empty),
)

-- a mixed start what a read of r and a write of s test, and the load for both
pub record AcceptedMixed (caps : Capacities) (t : Tables) (d r s : ℕ) (bytes : List ℕ)
    : Type 0 where
  pub read : AcceptedStart caps t d r
  pub write : AcceptedWrite caps t d s bytes
  pub load : load t + (count r + count s) ≤ caps.load

-- the tests of a mixed start, one by one
record MixedTests (caps : Capacities) (t : Tables) (d r s : ℕ) (bytes : List ℕ) : Type 0 where
  valid : Valid caps t
  client : IsClient t.sizes d
  idle : Idle (t.client d)
  some_read : r ≢ 0
  reads : r < 2 ^ t.sizes.items
  some_written : s ≢ 0
  writes : s < 2 ^ t.sizes.items
  values : length bytes ≡ 4 * count s
  narrow : count s ≤ caps.widest
  number_left : greatest_of t d ≢ 4294967295
  load : load t + (count r + count s) ≤ caps.load
  occupied : occupied t + count s ≤ caps.versions

mixed-tests : (caps : Capacities) (t : Tables) (d r s : ℕ) (bytes : List ℕ)
    → (refusal caps t (start_mixed d r s bytes) ≡ 0) ↔ MixedTests caps t d r s bytes
unfolding refusal
mixed-tests caps t d r s bytes = (
  λ e. let f = simp tests at e in
      search,
  λ a. simp tests (search first-empty),
)

pub accepted-mixed : (caps : Capacities) (t : Tables) (d r s : ℕ) (bytes : List ℕ)
    → (refusal caps t (start_mixed d r s bytes) ≡ 0) ↔ AcceptedMixed caps t d r s bytes
accepted-mixed caps t d r s bytes = (
  λ e. let f = (mixed-tests caps t d r s bytes).0 e in
      record {
        read = record {
          valid = f.valid;
          client = f.client;
          idle = f.idle;
          some = f.some_read;
          set = f.reads;
          load = omega (arith, f.load);
        };
        write = record {
          start = record {
            valid = f.valid;
            client = f.client;
            idle = f.idle;
            some = f.some_written;
            set = f.writes;
            load = omega (arith, f.load);
          };
          values = f.values;
          narrow = f.narrow;
          number_left = f.number_left;
          occupied = f.occupied;
        };
        load = f.load;
      },
  λ a. (mixed-tests caps t d r s bytes).1
      (record {
        valid = a.read.valid;
        client = a.read.client;
        idle = a.read.idle;
        some_read = a.read.some;
        reads = a.read.set;
        some_written = a.write.start.some;
        writes = a.write.start.set;
        values = a.write.values;
        narrow = a.write.narrow;
        number_left = a.write.number_left;
        load = a.load;
        occupied = a.write.occupied;
      }),
)

-- a write, alone or in a mixed transaction, is refused by 9 for want of versions alone
pub refused_full : (caps : Capacities) (t : Tables) (d : ℕ) (bad : Bool) (s : ℕ) (bytes : List ℕ)
    (joining : ℕ) → first (write_tests caps t d bad s bytes joining) ≡ 9
    → caps.versions < occupied t + count s
refused_full caps t d bad s bytes joining e =
    ltb-true caps.versions (occupied t + count s)
    (first-last 9 _ refl
    (first-later 9 8 _ _ refl (first-later 9 7 _ _ refl (first-later 9 17 _ _ refl
    (first-later 9 6 _ _ refl (first-later 9 5 _ _ refl (first-later 9 4 _ _ refl
    (first-later 9 3 _ _ refl (first-later 9 1 _ _ refl e)))))))))

-- ---- Deliveries

-- of a prepared reply: its client's write part awaits it
pub record AwaitedPrepared (t : Tables) (k σ : ℕ) : Type 0 where
  pub awaited : has (t.client (writer_of σ)).write.awaited k ≡ true
  pub stamp : (t.client (writer_of σ)).write.stamp ≡ σ

-- of a got reply: its client's read part awaits it, and not in the first part of a fast read
pub record AwaitedGot (t : Tables) (d : ℕ) (v : Version) : Type 0 where
  pub by_stamp : (t.client d).read.stage ≢ 1
  pub awaited : has (t.client d).read.awaited v.item ≡ true
  pub stamp : (t.client d).read.asked v.item ≡ v.stamp

-- of a first reply: its client is in such a part, and awaits its item
pub record AwaitedFirst (t : Tables) (d : ℕ) (v : Version) : Type 0 where
  pub by_item : (t.client d).read.stage ≡ 1
  pub awaited : has (t.client d).read.awaited v.item ≡ true

-- neither unexpected nor missing
pub record Expected (t : Tables) (m : Message) : Type 0 where
  pub expected : unexpected t m ≡ false
  pub found : missing t m ≡ false

-- what that tells of a reply
pub tells-prepared : (t : Tables) (k stamp : ℕ) → Expected t (Prepared k stamp)
    ↔ AwaitedPrepared t k stamp
unfolding unexpected missing
tells-prepared t k stamp = (
  λ x. let f = simp tests at x.expected in search,
  λ r. record { expected = simp tests search; found = refl },
)

pub tells-got : (t : Tables) (d : ℕ) (v : Version) (e : Entry) → Expected t (Got d v e)
    ↔ AwaitedGot t d v
unfolding unexpected missing
tells-got t d v e = (
  λ x. let f = simp tests at x.expected in search,
  λ r. record { expected = simp tests search; found = refl },
)

pub tells-first-reply : (t : Tables) (d : ℕ) (v : Version) (e : Entry)
    → Expected t (FirstReply d v e) ↔ AwaitedFirst t d v
unfolding unexpected missing
tells-first-reply t d v e = (
  λ x. let f = simp tests at x.expected in search,
  λ r. record { expected = simp tests search; found = refl },
)

pub record AcceptedDeliver (caps : Capacities) (t : Tables) (i : ℕ) : Type 0 where
  pub valid : Valid caps t
  pub place : i < length t.messages
  pub expected : Expected t (message_at t i)

pub accepted-deliver : (caps : Capacities) (t : Tables) (i : ℕ) → (refusal caps t (deliver i) ≡ 0)
    ↔ AcceptedDeliver caps t i
unfolding refusal
accepted-deliver caps t i = (
  λ e. let f = simp tests at e in
      search,
  λ a. simp tests (search first-empty),
)

-- the message delivered is in range
pub accepted-message : (caps : Capacities) (t : Tables) (i : ℕ) → AcceptedDeliver caps t i
    → MessageInRange t.sizes (message_at t i)
accepted-message caps t i a = a.valid.in_range.messages (message_at t i)
    (in-get_or t.messages i (Commit 0 0) a.place)

-- ---- Fresh starts, showings, clearings, hand-overs, comparisons and checks

pub accepted-fresh : (z : Sizes) → (fresh_refusal z ≡ 0) ↔ SizesInRange z
accepted-fresh z = (
  λ e. let f = simp (tests, tells-sizes) at e in
      search,
  λ r. simp (tests, tells-sizes) (search first-empty),
)

pub record AcceptedShow (caps : Capacities) (t : Tables) (d : ℕ) (output : List ℕ) : Type 0 where
  pub valid : Valid caps t
  pub client : IsClient t.sizes d
  pub idle : Idle (t.client d)
  pub ended : is_nothing (t.client d).last ≡ false
  pub room : length (shown_frame t d) ≤ length output

pub accepted-show : (caps : Capacities) (t : Tables) (d : ℕ) (output : List ℕ)
    → (refusal caps t (show d output) ≡ 0) ↔ AcceptedShow caps t d output
unfolding refusal
accepted-show caps t d output = (
  λ e. let f = simp tests at e in
      search,
  λ a. simp tests (search first-empty),
)

pub accepted-clear : (caps : Capacities) (t : Tables) → (refusal caps t clear ≡ 0) ↔ Valid caps t
unfolding refusal
accepted-clear caps t = (λ e. (simp tests at e).0, λ v. simp tests (v, first-empty))

-- from client d to client e
pub record AcceptedHandOver (caps : Capacities) (t : Tables) (d e : ℕ) : Type 0 where
  pub valid : Valid caps t
  pub giver : IsClient t.sizes d
  pub receiver : IsClient t.sizes e
  pub other : d ≢ e
  pub giver_idle : Idle (t.client d)
  pub receiver_idle : Idle (t.client e)

pub accepted-hand-over : (caps : Capacities) (t : Tables) (d e : ℕ)
    → (refusal caps t (hand_over d e) ≡ 0) ↔ AcceptedHandOver caps t d e
unfolding refusal
accepted-hand-over caps t d e = (
  λ h. let f = simp tests at h in
      search,
  λ a. simp tests (search first-empty),
)

-- busy and equal clients are compared
pub record AcceptedCompare (caps : Capacities) (t : Tables) (d e : ℕ) : Type 0 where
  pub valid : Valid caps t
  pub one : IsClient t.sizes d
  pub other : IsClient t.sizes e

pub accepted-compare : (caps : Capacities) (t : Tables) (d e : ℕ)
    → (refusal caps t (compare d e) ≡ 0) ↔ AcceptedCompare caps t d e
unfolding refusal
accepted-compare caps t d e = (
  λ h. let f = simp tests at h in
      search,
  λ a. simp tests (search first-empty),
)

pub record AcceptedCheck (caps : Capacities) (t : Tables) : Type 0 where
  pub valid : Valid caps t
  pub passes : sound t ≡ true

pub accepted-check : (caps : Capacities) (t : Tables)
    → (refusal caps t check ≡ 0) ↔ AcceptedCheck caps t
unfolding refusal
accepted-check caps t = (
  λ e. let f = simp tests at e in
      search,
  λ a. simp tests (search first-empty),
)
