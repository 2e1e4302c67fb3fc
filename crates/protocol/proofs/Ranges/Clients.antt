-- What the tests of a client, its parts and its last ended transaction tell, as records of plain
-- facts, both ways.
use mathlib.Core.Bool.{Bool, true, false, not, ◌||◌}
use mathlib.Core.Logic.{◌↔◌, ◌≢◌}
use mathlib.Core.Path.{◌≡◌, refl}
use Prim.Native.Nat.{ℕ, ◌^◌, ◌≤◌, ◌<◌}
use Rattle.basics.proofs.Cases.{not-both}
use Rattle.itemset.specs.Set.{has}
use Rattle.itemset.proofs.Laws.{has-below}
use Rattle.protocol.specs.Tables.{Sizes, Client, ReadPart, WritePart, Ended, is_kind}
use Rattle.protocol.specs.Tables.{shows_read, shows_write}
use Rattle.protocol.specs.Range.{has_first, is_idle, read_part_in_range, write_part_in_range}
use Rattle.protocol.specs.Range.{client_in_range, ended_in_range}
use Rattle.protocol.proofs.Tells.{tells-and}
use Rattle.protocol.proofs.FastRead.{first-in-set}
use Rattle.protocol.proofs.Ranges.Values.{StampInRange, EntryInRange, parts}

-- a set's items exist
each-has : {P : ℕ → Type 0} (s n : ℕ) → s < 2 ^ n → ((k : ℕ) → k < n → has s k ≡ true → P k)
    → (k : ℕ) → has s k ≡ true → P k
each-has s n l h k e = h k (has-below s k n l e) e

pub record ReadPartInRange (z : Sizes) (p : ReadPart) : Type 0 where
  pub set : p.set < 2 ^ z.items
  pub awaited : p.awaited < 2 ^ z.items
  pub within : (k : ℕ) → has p.awaited k ≡ true → has p.set k ≡ true
  pub asked : (k : ℕ) → has p.set k ≡ true → StampInRange z (p.asked k)
  pub values : (k : ℕ) → has p.set k ≡ true → p.values k < 2 ^ 32
  pub stage : p.stage ≤ 2
  pub firsts : (k : ℕ) → has_first p k ≡ true → EntryInRange z (p.firsts k)

pub tells-read-part : (z : Sizes) (p : ReadPart)
    → (read_part_in_range z p ≡ true) ↔ ReadPartInRange z p
unfolding read_part_in_range
tells-read-part z p = (
  λ h.
      let f = simp parts at h in
      let set = f.0.0.0.0.0 in
      let within = each-has p.awaited z.items f.0.0.0.0.1 f.0.0.0.1 in
      let items = each-has p.set z.items set f.0.0.1 in
      record {
        set = set;
        awaited = f.0.0.0.0.1;
        within = within;
        asked = λ k e. (items k e).0;
        values = λ k e. (items k e).1;
        stage = f.0.1;
        firsts = λ k e. f.1 k (has-below p.set k z.items set (first-in-set p k e)) e;
      },
  λ r. simp parts (
    (
      (((r.set, r.awaited), λ k l. r.within k), λ k l e. (r.asked k e, r.values k e)),
      r.stage,
    ),
    λ k l. r.firsts k,
  ),
)

pub record WritePartInRange (z : Sizes) (p : WritePart) : Type 0 where
  pub set : p.set < 2 ^ z.items
  pub awaited : p.awaited < 2 ^ z.items
  pub within : (k : ℕ) → has p.awaited k ≡ true → has p.set k ≡ true
  pub stamp : StampInRange z p.stamp
  pub values : (k : ℕ) → has p.set k ≡ true → p.values k < 2 ^ 32

pub tells-write-part : (z : Sizes) (p : WritePart)
    → (write_part_in_range z p ≡ true) ↔ WritePartInRange z p
unfolding write_part_in_range
tells-write-part z p = (
  λ h.
      let f = simp parts at h in
      let within = each-has p.awaited z.items f.0.0.0.1 f.0.0.1 in
      let values = each-has p.set z.items f.0.0.0.0 f.1 in
      record {
        set = f.0.0.0.0;
        awaited = f.0.0.0.1;
        within = within;
        stamp = f.0.1;
        values = values;
      },
  λ r. simp parts
      ((((r.set, r.awaited), λ k l. r.within k), r.stamp), λ k l. r.values k),
)

-- what a last ended transaction doesn't show may be anything
pub record EndedInRange (z : Sizes) (e : Ended) : Type 0 where
  pub kind : is_kind e.kind ≡ true
  pub read : shows_read e.kind ≡ true → ReadPartInRange z e.read
  pub write : shows_write e.kind ≡ true → WritePartInRange z e.write

pub tells-shown : (shows b : Bool) → ((not shows || b) ≡ true) ↔ (shows ≡ true → b ≡ true)
tells-shown true b = (λ e s. e, λ h. h refl)
tells-shown false b = (λ e s. not-both s refl, λ h. refl)

ruleset shown = (tells-and, tells-shown, tells-read-part, tells-write-part)

pub tells-ended : (z : Sizes) (e : Ended) → (ended_in_range z e ≡ true) ↔ EndedInRange z e
unfolding ended_in_range
tells-ended z e = (
  λ h.
      let f = simp shown at h in
      record { kind = f.0.0; read = f.0.1; write = f.1 },
  λ r. simp shown ((r.kind, r.read), r.write),
)

pub record ClientInRange (z : Sizes) (c : Client) : Type 0 where
  pub count : c.count < 2 ^ 32
  pub read : ReadPartInRange z c.read
  pub write : WritePartInRange z c.write
  pub busy : c.write.set ≢ 0 → is_idle c ≡ false
  pub fast : c.read.stage ≢ 0 → (c.write.set ≡ 0) × (c.read.awaited ≢ 0)
  pub last : EndedInRange z c.last

pub tells-client : (z : Sizes) (c : Client) → (client_in_range z c ≡ true) ↔ ClientInRange z c
unfolding client_in_range
tells-client z c = (
  λ h.
      let f = simp (parts, tells-read-part, tells-write-part, tells-ended) at h in
      record {
        count = f.0.0.0.0.0;
        read = f.0.0.0.0.1;
        write = f.0.0.0.1;
        busy = f.0.0.1;
        fast = f.0.1;
        last = f.1;
      },
  λ r. simp (parts, tells-read-part, tells-write-part, tells-ended)
      (((((r.count, r.read), r.write), r.busy), r.fast), r.last),
)
