-- What the code reads of a client, test by test, is what the definitions say.
use mathlib.Core.Bool.{Bool, true, false, cond, not, ◌&&◌, ◌||◌}
use mathlib.Core.List.{List}
use mathlib.Core.Path.{◌≡◌, refl, sym, ◌∙◌, subst}
use Prim.Native.Nat.{ℕ, ◌+◌, ◌*◌, ◌≤◌, ◌<◌}
use lib.Dec.{eqb}
use native.Mathlib.Omega.{arith}
use Rattle.basics.specs.Lists.{every}
use Rattle.basics.proofs.Cases.{by-test, not-both}
use Rattle.itemset.specs.Set.{has}
use Rattle.itemset.proofs.Laws.{has-empty}
use Rattle.protocol.specs.declared.Entry.{Entry}
use Rattle.protocol.specs.Tables.{ReadPart}
use Rattle.protocol.specs.Range.{each, has_first}
use Rattle.protocol.specs.Steps.{stored}
use Rattle.protocol.specs.Check.{answered_again, is_stamped, stored_value}
use Rattle.protocol.proofs.Ranges.Values.{StampInRange, tells-stamp}
use Rattle.protocol.proofs.Ranges.Clients.{ClientInRange}
use Rattle.layout.specs.Layout.{most_clients, most_items, header, scalars, at, clients_at, items_at, mode_at, count_at}
use Rattle.layout.specs.Decode.{client_in, first_in, sizes_in, tables_of, valid_block}
use Rattle.encoding.proofs.WellFormed.{client-range, tells-valid-block}
use Rattle.check_stamps.specs.Stamps.{stamps_end}
use Rattle.check_entries.specs.Entries.{Ranged}
use Rattle.check_stamps.proofs.Block.{few-clients}
use Rattle.check_entries.proofs.Good.{few-items, stamp-small, client-is}
use Rattle.check_stamps.specs.Parts.{good_entry, good_first, good_item}

pub again-is : (p : ReadPart) (k : ℕ) {stage awaited asked stamp : ℕ} {h : Bool}
    → stage ≡ p.stage → awaited ≡ p.awaited → asked ≡ p.asked k → stamp ≡ (p.firsts k).stamp
    → h ≡ has awaited k
    → (eqb stage 2 && not h && not (eqb asked stamp)) ≡ answered_again p k
unfolding answered_again
again-is p k s a q f h = rw (h, s, a, q, f) refl

pub item-some : (s k : ℕ) {x y h : Bool} → h ≡ has s k → h ≡ true → x ≡ y
    → x ≡ (not (has s k) || y)
item-some s k e t f = f ∙ sym (rw (sym e ∙ t) refl)

pub item-none : (s k : ℕ) (y : Bool) {h : Bool} → h ≡ has s k → h ≡ false → true ≡ (not
    (has s k) || y)
item-none s k y e t = sym (rw (sym e ∙ t) refl)

pub count-is : (b : List ℕ) (d : ℕ) → at b scalars (count_at d) ≡ (client_in b d).count
unfolding client_in
count-is b d = refl

module _ (b : List ℕ) (d : ℕ) (low : 1 ≤ d) (high : d ≤ at b header clients_at) where
  pub stamp-is : {s stamp count : ℕ} → s ≡ (client_in b d).write.set
      → stamp ≡ (client_in b d).write.stamp → count ≡ at b scalars (count_at d)
      → (eqb s 0 || eqb stamp (count * 16 + d))
      ≡ is_stamped ((tables_of b).client d) d
  unfolding client_in
  stamp-is s w c = rw (client-is b d low high, s, w, c) (twice (eqb (client_in b d).write.set 0) _)
    where
      twice : (x y : Bool) → (x || y) ≡ (not (not x) || y)
      twice true y = refl
      twice false y = refl

  pub item-is : (k : ℕ) {stamp value awaited : ℕ} {h r : Bool}
      → stamp ≡ (client_in b d).write.stamp → value ≡ (client_in b d).write.values k
      → awaited ≡ (client_in b d).write.awaited → h ≡ has awaited k
      → r ≡ cond (stored (tables_of b).versions k stamp) (eqb (stored_value (tables_of b) k stamp)
      value) h
      → r ≡ good_item (tables_of b) d k
  unfolding good_item
  item-is k s u a h r =
      rw (r, h, a, u, s) (rw (client-is b d low high) (once (stored (tables_of b).versions k
      (client_in b d).write.stamp) (has (client_in b d).write.awaited k) _))
    where
      once : (held waits right : Bool)
          → cond held right waits ≡ ((waits || held) && (not held || right))
      once true true right = refl
      once true false right = refl
      once false true right = refl
      once false false right = refl

-- ---- in range

pub in-most : (b : List ℕ) → valid_block b ≡ true → (d k : ℕ) → 1 ≤ d → d ≤ at b header clients_at
    → k < at b header items_at → (1 ≤ d) × (d ≤ most_clients) × (k < most_items)
in-most b v d k low high l = (
  low,
  omega (arith, high, few-clients b v),
  omega (arith, l, few-items b v),
)

module _ (b : List ℕ) (v : valid_block b ≡ true) (d : ℕ) (low : 1 ≤ d)
    (high : d ≤ at b header clients_at) where
  range : ClientInRange (sizes_in b) (client_in b d)
  range = client-range b ((tells-valid-block b).0 v) d (low, high)

  pub write-small : {s : ℕ} → s ≡ (client_in b d).write.stamp → s < stamps_end
  unfolding tables_of
  write-small {s} e =
      stamp-small b s ((tells-stamp (sizes_in b) s).1 (rw (sym e) at range.write.stamp))

  pub first-ranged : (k : ℕ) {e : Entry} → has_first (client_in b d).read k ≡ true
      → e ≡ (client_in b d).read.firsts k → Ranged b e.stamp
  unfolding tables_of
  first-ranged k {e} h same =
      (tells-stamp (sizes_in b) e.stamp).1
      (subst (λ (x : Entry). StampInRange (sizes_in b) x.stamp) (sym same)
      (range.read.firsts k h).stamp)

pub first-is : (b : List ℕ) (d k : ℕ) → has_first (client_in b d).read k ≡ true
    → first_in b d k ≡ (client_in b d).read.firsts k
unfolding client_in has_first
first-is b d k h =
    by-test (eqb (at b scalars (mode_at d)) 2)
    (λ e. not-both (rw e at h) (rw (has-empty k) refl))
    (λ e. sym (rw (e, (rw e at h)) refl))

pub items-each : (b : List ℕ) (d : ℕ) {n s : ℕ} → n ≡ at b header items_at
    → s ≡ (client_in b d).write.set
    → every n (λ k. not (has s k) || good_item (tables_of b) d k)
    ≡ each (tables_of b).sizes (client_in b d).write.set (good_item (tables_of b) d)
unfolding tables_of
items-each b d e f = rw (e, f) refl

-- ---- a first reply

module _ (b : List ℕ) (d : ℕ) (low : 1 ≤ d) (high : d ≤ at b header clients_at) (k : ℕ) {h : Bool}
    (come : h ≡ has_first (client_in b d).read k) where
  pub first-none : h ≡ false → true ≡ good_first (tables_of b) d k
  unfolding good_first
  first-none e = sym (rw (client-is b d low high, sym come ∙ e) refl)

  pub first_some : {x : Entry} {value held : ℕ} {good again : Bool} → h ≡ true
      → x ≡ (client_in b d).read.firsts k → value ≡ (client_in b d).read.values k
      → held ≡ stored_value (tables_of b) k x.stamp
      → again ≡ answered_again (client_in b d).read k → good ≡ good_entry (tables_of b) k x
      → (good && (again || eqb value held)) ≡ good_first (tables_of b) d k
  unfolding good_first
  first_some e x u w a g =
      rw (g, a, w, u, x) (sym (rw (client-is b d low high, sym come ∙ e) refl))

module _ (b : List ℕ) (v : valid_block b ≡ true) (d : ℕ) (low : 1 ≤ d)
    (high : d ≤ at b header clients_at) (k : ℕ) {h : Bool}
    (come : h ≡ has_first (client_in b d).read k) (yes-come : h ≡ true) {x : Entry}
    (same : x ≡ first_in b d k) where
  pub first_read : x ≡ (client_in b d).read.firsts k
  first_read = same ∙ first-is b d k (sym come ∙ yes-come)

  pub first-read-ranged : Ranged b x.stamp
  first-read-ranged = first-ranged b v d low high k (sym come ∙ yes-come) first_read

  pub first-read-small : x.stamp < stamps_end
  first-read-small = stamp-small b x.stamp first-read-ranged
