-- The refusal table from the words of a valid block.
use mathlib.Core.Bool.{Bool, true, false, cond, not, ◌&&◌, ◌||◌, and-true}
use mathlib.Core.List.{List}
use mathlib.Core.Path.{◌≡◌, refl, sym, ◌∙◌}
use Prim.Native.Nat.{ℕ, ◌+◌, ◌*◌}
use lib.Dec.{eqb, ltb}
use lib.ListN.{length}
use borrow.Author.Tests.{eqb-true}
use Rattle.basics.proofs.Cases.{by-test, between, and_left, and_right}
use Rattle.itemset.specs.Set.{all_below, count}
use Rattle.protocol.specs.Range.{capacities, is_client, is_idle, load, occupied}
use Rattle.protocol.specs.Steps.{greatest_of}
use Rattle.protocol.specs.Check.{sound}
use Rattle.protocol.specs.Calls.{start_read, start_write, start_mixed, show, hand_over, compare}
use Rattle.protocol.specs.Calls.{check, write_tests, refusal, first, is_nothing}
use Rattle.layout.specs.Layout.{most_versions, most_messages, most_write_items, header, scalars, at}
use Rattle.layout.specs.Layout.{items_at, mode_at, awaited_at, last_kind_at, is_write_mode, is_mixed_mode}
use Rattle.layout.specs.Decode.{sizes_in, client_in, tables_of, awaits_none, valid_block}
use Rattle.encoding.proofs.WellFormed.{tells-valid-block}
use Rattle.show.specs.Show.{frame_in}
use Rattle.show.proofs.LogFrames.{is_nothing-last, shown_frame-tables_of}
use Rattle.start.specs.Start.{greatest_on}
use Rattle.start.proofs.Numbers.{greatest-held}
use Rattle.block_calls.proofs.Accepted.{valid-tables, holds-tables}

-- ---- fields of the tables, as words

pub sizes-read : (b : List ℕ) → (tables_of b).sizes ≡ sizes_in b
unfolding tables_of
sizes-read b = refl

-- a client is idle exactly if its words await no item
idle-words : (b : List ℕ) (d : ℕ) → is_idle (client_in b d) ≡ awaits_none b d
unfolding client_in
idle-words b d =
    let mode = at b scalars (mode_at d) in
    by-test (is_write_mode mode)
    (λ e. rw (eqb-true mode 2 e) (sym (and-true (eqb (at b scalars (awaited_at d)) 0))))
    (λ e. by-test (is_mixed_mode mode) (λ m. rw (e, m) refl) (λ m. rw (e, m) refl))

module _ (b : List ℕ) (d : ℕ) (c : is_client (sizes_in b) d ≡ true) where
  client-read : (tables_of b).client d ≡ client_in b d
  unfolding tables_of
  client-read = rw c

  idle-read : valid_block b ≡ true
      → is_idle ((tables_of b).client d) ≡ eqb (at b scalars (mode_at d)) 0
  idle-read v = rw client-read (idle-words b d
      ∙ sym (((tells-valid-block b).0 v).well_formed.idle d (between 1 (sizes_in b).clients d c)))

  greatest-read : valid_block b ≡ true
      → greatest_of (tables_of b) d ≡ greatest_on b d (at b header items_at)
  unfolding tables_of
  greatest-read v =
      let p = between 1 (sizes_in b).clients d c in
      sym (greatest-held b (tables_of b) d (holds-tables b v).encodes p.0 p.1)

  nothing_read : is_nothing ((tables_of b).client d).last ≡ eqb (at b scalars (last_kind_at d)) 0
  nothing_read = rw client-read (is_nothing-last b d)

-- ---- 3, 4 and what follows them

module _ (b : List ℕ) (d : ℕ) (v : valid_block b ≡ true) where
  pub read-nobody : (s : ℕ) → is_client (sizes_in b) d ≡ false
      → refusal capacities (tables_of b) (start_read d s) ≡ 3
  unfolding refusal first
  read-nobody s c = rw (valid-tables b v, sizes-read b, c) refl

  pub write-nobody : (s : ℕ) (bytes : List ℕ) → is_client (sizes_in b) d ≡ false
      → refusal capacities (tables_of b) (start_write d s bytes) ≡ 3
  unfolding refusal first
  write-nobody s bytes c = rw (valid-tables b v, sizes-read b, c) refl

  pub show-nobody : (output : List ℕ) → is_client (sizes_in b) d ≡ false
      → refusal capacities (tables_of b) (show d output) ≡ 3
  unfolding refusal first
  show-nobody output c = rw (valid-tables b v, sizes-read b, c) refl

  abbrev busy : Bool
  busy = not (eqb (at b scalars (mode_at d)) 0)

  abbrev bad : ℕ → Bool
  bad s = eqb s 0 || not (all_below s (at b header items_at))

  pub read-tests : (s : ℕ) → is_client (sizes_in b) d ≡ true
      → refusal capacities (tables_of b) (start_read d s) ≡ cond busy 4
      (cond (bad s) 5 (cond (ltb most_messages (load (tables_of b) + count s)) 8 0))
  unfolding refusal first
  read-tests s c = rw (valid-tables b v, idle-read b d c v, sizes-read b, c) refl

  -- a write of s, alone or in a mixed transaction
  pub writing-tests : (wrong : Bool) (s : ℕ) (bytes : List ℕ) (joining : ℕ)
      → is_client (sizes_in b) d ≡ true
      → first (write_tests capacities (tables_of b) d wrong s bytes joining)
      ≡ cond busy 4
      (cond wrong 5
      (cond (not (eqb (length bytes) (4 * count s))) 6
      (cond (ltb most_write_items (count s)) 17
      (cond (eqb (greatest_on b d (at b header items_at)) 4294967295) 7
      (cond (ltb most_messages (load (tables_of b) + joining)) 8
      (cond (ltb most_versions (occupied (tables_of b) + count s)) 9 0))))))
  unfolding first
  writing-tests wrong s bytes joining c =
      rw (valid-tables b v, idle-read b d c v, greatest-read b d c v, sizes-read b, c)
      refl

  pub write-refusal : (s : ℕ) (bytes : List ℕ) {wrong : Bool} {joining : ℕ} → wrong ≡ bad s
      → joining ≡ count s
      → first (write_tests capacities (tables_of b) d wrong s bytes joining)
      ≡ refusal capacities (tables_of b) (start_write d s bytes)
  unfolding refusal tables_of
  write-refusal s bytes w n = rw (w, n) refl

  pub mixed-refusal : (r s : ℕ) (bytes : List ℕ) {unread unwritten : Bool} {m n : ℕ}
      → unread ≡ bad r → unwritten ≡ bad s → m ≡ count r → n ≡ count s
      → first (write_tests capacities (tables_of b) d (unread || unwritten) s bytes (m + n))
      ≡ refusal capacities (tables_of b) (start_mixed d r s bytes)
  unfolding refusal tables_of
  mixed-refusal r s bytes u w m n = rw (u, w, m, n) refl

  pub mixed-nobody : (r s : ℕ) (bytes : List ℕ) → is_client (sizes_in b) d ≡ false
      → refusal capacities (tables_of b) (start_mixed d r s bytes) ≡ 3
  unfolding refusal first
  mixed-nobody r s bytes c = rw (valid-tables b v, sizes-read b, c) refl

  pub show-tests : (output : List ℕ) → is_client (sizes_in b) d ≡ true
      → refusal capacities (tables_of b) (show d output)
      ≡ cond busy 4 (cond (eqb (at b scalars (last_kind_at d)) 0) 13
      (cond (ltb (length output) (length (frame_in b d))) 14 0))
  unfolding refusal first
  show-tests output c =
      rw (
        valid-tables b v,
        idle-read b d c v,
        nothing_read b d c,
        shown_frame-tables_of b d c,
        sizes-read b,
        c,
      ) refl

-- ---- of two clients

module _ (b : List ℕ) (d e : ℕ) (v : valid_block b ≡ true) where
  abbrev pub both_clients : Bool
  both_clients = is_client (sizes_in b) d && is_client (sizes_in b) e

  abbrev pub both_idle : Bool
  both_idle = eqb (at b scalars (mode_at d)) 0 && eqb (at b scalars (mode_at e)) 0

  pub hand-over-nobody : both_clients ≡ false
      → refusal capacities (tables_of b) (hand_over d e) ≡ 3
  unfolding refusal first
  hand-over-nobody c = rw (valid-tables b v, sizes-read b, c) refl

  pub compare-nobody : both_clients ≡ false → refusal capacities (tables_of b) (compare d e) ≡ 3
  unfolding refusal first
  compare-nobody c = rw (valid-tables b v, sizes-read b, c) refl

  pub hand-over-tests : both_clients ≡ true
      → refusal capacities (tables_of b) (hand_over d e) ≡ cond (eqb d e) 18
      (cond (not both_idle) 4 0)
  unfolding refusal first
  hand-over-tests c =
      let one = is_client (sizes_in b) d in
      let other = is_client (sizes_in b) e in
      rw (
        valid-tables b v,
        idle-read b d (and_left one other c) v,
        idle-read b e (and_right one other c) v,
        sizes-read b,
        c,
      ) refl

  pub compare-tests : both_clients ≡ true → refusal capacities (tables_of b) (compare d e) ≡ 0
  unfolding refusal first
  compare-tests c = rw (valid-tables b v, sizes-read b, c) refl

-- ---- of a check

module _ (b : List ℕ) (v : valid_block b ≡ true) where
  pub check-passes : sound (tables_of b) ≡ true → refusal capacities (tables_of b) check ≡ 0
  unfolding refusal first
  check-passes e = rw (valid-tables b v, e) refl

  pub check-fails : sound (tables_of b) ≡ false → refusal capacities (tables_of b) check ≡ 19
  unfolding refusal first
  check-fails e = rw (valid-tables b v, e) refl
