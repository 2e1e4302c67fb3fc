-- The log frame that a block holds: the parts that the kind of the client's last ended transaction
-- shows; its length; and the same frame in the tables.
use mathlib.Core.Bool.{Bool, true, false, cond}
use mathlib.Core.List.{List, [], ◌++◌}
use mathlib.Core.Path.{◌≡◌, refl, sym, ap, ap₂, ◌∙◌}
use Prim.Native.Nat.{ℕ, ◌+◌, ◌%◌, ◌^◌, ◌≤◌, ◌<◌}
use native.Mathlib.Nat.{mod-lt}
use native.Mathlib.Omega.{arith}
use lib.Dec.{eqb}
use lib.ListN.{length, length-append}
use lib.Pow.{pow_pos}
use borrow.Author.Tests.{ne_eqb}
use Rattle.basics.proofs.Cases.{by-test}
use Rattle.hexadecimal.specs.Number.{big_endian}
use Rattle.hexadecimal.proofs.Number.{length-big_endian}
use Rattle.itemset.specs.Set.{rank}
use Rattle.itemset.proofs.Counts.{rank-mod, count-le}
use Rattle.itemset.proofs.Members.{length-members, length-members-rank}
use Rattle.protocol.specs.Tables.{ReadPart, WritePart, no_read, no_write, Ended, shows_read}
use Rattle.protocol.specs.Tables.{shows_write, number_of}
use Rattle.protocol.specs.Range.{is_client}
use Rattle.protocol.specs.LogFrame.{most_log_frame, shown_entry, read_bytes, write_bytes, frame_byte}
use Rattle.protocol.specs.LogFrame.{frame}
use Rattle.protocol.specs.Calls.{is_nothing, shown_frame}
use Rattle.protocol.proofs.Shown.{length-read, length-write, length-frame}
use Rattle.layout.specs.Layout.{scalars, last_stamps, last_values, at, last_kind_at, last_set_at}
use Rattle.layout.specs.Layout.{last_stamp_at, item_at, read_value, written_value}
use Rattle.layout.specs.Decode.{within, last_read_in, last_write_in, sizes_in, client_in, tables_of}
use Rattle.show.specs.Show.{frame_in, head, last_mixed, last_written_set, read_item, written_item}
use Rattle.show.specs.Show.{read_part, write_part, read_shown, write_shown, read_length}
use Rattle.show.specs.Show.{write_length}
use Rattle.show.proofs.Listed.{listed-ext}

-- ---- lengths of the parts

pub length-head : (kind d : ℕ) → length (head kind d) ≡ 2
length-head kind d = simp length-big_endian

length-shown_entry : (stamp value : ℕ) → length (shown_entry stamp value) ≡ 9
length-shown_entry stamp value = simp (length-append, length-big_endian)

pub length-read_item : (b : List ℕ) (d k : ℕ) → length (read_item b d k) ≡ 9
length-read_item b d k =
    length-shown_entry (at b last_stamps (item_at d k))
    (read_value (last_mixed b d) (at b last_values (item_at d k)))

pub length-written_item : (b : List ℕ) (d k : ℕ) → length (written_item b d k) ≡ 4
length-written_item b d k =
    length-big_endian 4 (written_value (last_mixed b d) (at b last_values (item_at d k)))

-- ---- the last ended transaction

module _ (b : List ℕ) (d : ℕ) where
  abbrev stamps : ℕ → ℕ
  stamps k = at b last_stamps (item_at d k)

  abbrev answers : ℕ → ℕ
  answers k = read_value (last_mixed b d) (at b last_values (item_at d k))

  abbrev values : ℕ → ℕ
  values k = written_value (last_mixed b d) (at b last_values (item_at d k))

  -- refusal 13
  pub is_nothing-last : is_nothing (client_in b d).last ≡ eqb (at b scalars (last_kind_at d)) 0
  unfolding client_in is_nothing
  is_nothing-last = refl

  -- the same frame in the tables
  pub shown_frame-tables_of : is_client (sizes_in b) d ≡ true → shown_frame (tables_of b) d ≡ frame_in b d
  unfolding tables_of
  shown_frame-tables_of e = rw e

  -- ---- its parts, as the words of the block give them
  read-words : read_bytes (last_read_in b d) ≡ read_part b d (at b scalars (last_set_at d))
  unfolding read_bytes
  read-words =
      let s = at b scalars (last_set_at d) in
      ap (λ (l : List ℕ). big_endian 8 s ++ l)
      (listed-ext (λ k. shown_entry (within s stamps k) (within s answers k)) (read_item b d) s 64
      (λ k h. rw h))

  write-words : write_bytes (last_write_in b d) ≡ write_part b d (last_written_set b d)
  unfolding write_bytes
  write-words =
      let s = last_written_set b d in
      let number = number_of (at b scalars (last_stamp_at d)) in
      ap (λ (l : List ℕ). big_endian 8 s ++ big_endian 4 number ++ l)
      (listed-ext (λ k. big_endian 4 (within s values k)) (written_item b d) s 64 (λ k h. rw h))

-- a part that isn't shown has no bytes
shown-bytes : {A : Type 0} (shows : Bool) (bytes : A → List ℕ) (part none : A) (words : List ℕ)
    → bytes part ≡ words
    → cond shows (bytes (cond shows part none)) [] ≡ cond shows words []
shown-bytes true bytes part none words e = e
shown-bytes false bytes part none words e = refl

-- ---- lengths of what is shown

module _ (b : List ℕ) (d kind : ℕ) where
  length-read_shown : let s = at b scalars (last_set_at d) in
      s < 2 ^ 64 → length (read_shown b d kind s) ≡ read_length kind s
  length-read_shown below =
      by-test (shows_read kind)
      (λ e. rw e (ap length (sym (read-words b d))
      ∙ omega (
        arith,
        length-read (last_read_in b d),
        length-members (at b scalars (last_set_at d)) 64 below,
      )))
      (λ e. rw e refl)

  length-write_shown : let s = last_written_set b d in
      s < 2 ^ 64 → length (write_shown b d kind s) ≡ write_length kind s
  length-write_shown below =
      by-test (shows_write kind)
      (λ e. rw e (ap length (sym (write-words b d))
      ∙ omega (arith, length-write (last_write_in b d), length-members (last_written_set b d) 64 below)))
      (λ e. rw e refl)

-- ---- the frame and its length, by kind and sets as read from the block

module _ (b : List ℕ) (d : ℕ) {kind set : ℕ} (k : kind ≡ at b scalars (last_kind_at d))
    (s : set ≡ at b scalars (last_set_at d)) where
  pub frame_in-nothing : kind ≡ 0 → frame_in b d ≡ []
  unfolding client_in frame
  frame_in-nothing e = rw (sym k ∙ e)

  pub frame_in-shown : {written : ℕ} → written ≡ last_written_set b d → (kind ≡ 0 → ⊥)
      → frame_in b d
      ≡ head (frame_byte kind) d ++ read_shown b d kind set ++ write_shown b d kind written
  unfolding client_in frame
  frame_in-shown w some =
      let n = at b scalars (last_kind_at d) in
      rw (ne_eqb n 0 (λ e. some (k ∙ e)), w, k, s)
      (ap₂ (λ (x y : List ℕ). head (frame_byte n) d ++ x ++ y)
      (shown-bytes (shows_read n) read_bytes (last_read_in b d) no_read _ (read-words b d))
      (shown-bytes (shows_write n) write_bytes (last_write_in b d) no_write _ (write-words b d)))

  -- where the write part begins, and where the frame ends
  pub length_before : set < 2 ^ 64
      → length (head (frame_byte kind) d ++ read_shown b d kind set) ≡ 2 + read_length kind set
  length_before below =
      rw s
      (length-append (head (frame_byte kind) d) (read_shown b d kind (at b scalars (last_set_at d)))
      ∙ omega (
        arith,
        length-head (frame_byte kind) d,
        length-read_shown b d kind (rw s at below),
      ))

  pub length-frame_in : {written : ℕ} → written ≡ last_written_set b d → set < 2 ^ 64 → written < 2 ^ 64
      → (kind ≡ 0 → ⊥)
      → length (frame_in b d) ≡ 2 + read_length kind set + write_length kind written
  length-frame_in {written} w below within some =
      ap length (frame_in-shown w some)
      ∙ length-append (head (frame_byte kind) d ++ read_shown b d kind set)
      (write_shown b d kind written)
      ∙ ap₂ ◌+◌ (length_before below) (rw w (length-write_shown b d kind (rw w at within)))

-- ---- no frame is longer than that of a mixed transaction of 64 items and 64

rank-le-item : (s k : ℕ) → rank s k ≤ k
rank-le-item s k = rw (rank-mod s k) (count-le (s % 2 ^ k) k (mod-lt s (pow_pos k)))

length-read-le : (p : ReadPart) → length (read_bytes p) ≤ 584
length-read-le p =
    omega (arith, length-read p, length-members-rank p.set 64, rank-le-item p.set 64)

length-write-le : (p : WritePart) → length (write_bytes p) ≤ 268
length-write-le p =
    omega (arith, length-write p, length-members-rank p.set 64, rank-le-item p.set 64)

shown-le : (shows : Bool) (l : List ℕ) (n : ℕ) → length l ≤ n → length (cond shows l []) ≤ n
shown-le true l n h = h
shown-le false l n h = omega arith

nothing-le : (d : ℕ) (e : Ended) → eqb e.kind 0 ≡ true → length (frame d e) ≤ most_log_frame
unfolding frame
nothing-le d e z = rw z (omega arith)

pub length-frame-le : (d : ℕ) (e : Ended) → length (frame d e) ≤ most_log_frame
length-frame-le d e =
    by-test (eqb e.kind 0) (nothing-le d e)
    (λ z. omega (
      arith,
      length-frame d e z,
      shown-le (shows_read e.kind) (read_bytes e.read) 584 (length-read-le e.read),
      shown-le (shows_write e.kind) (write_bytes e.write) 268 (length-write-le e.write),
    ))
