-- A showing's frame gives back what it shows: its length, its head, and of each item the stamp and
-- the value, read at the item's rank. Entries are of equal length, so the entry of a place begins
-- at a multiple of it.
use mathlib.Core.Bool.{true, false, cond}
use mathlib.Core.List.{List, [], ◌∷◌, ◌++◌, append_assoc, append-nil}
use mathlib.Core.Path.{◌≡◌, refl, sym, ap, ap₂, ◌∙◌}
use Prim.Native.Nat.{ℕ, zero, suc, ◌+◌, ◌*◌, ◌%◌, ◌^◌, ◌≤◌, ◌<◌}
use native.Mathlib.Nat.{mul-zero, mul-suc, zero-add, mod-eq_of_lt, not-suc-le-zero}
use native.Mathlib.Nat.{le_of_suc-le-suc}
use native.Mathlib.Omega.{arith}
use lib.Dec.{eqb}
use lib.ListN.{length, get_or, take, length-append}
use lib.Seq.{take_at}
use borrow.Author.Tests.{eqb-true}
use Rattle.basics.proofs.Cases.{by-test, not-both}
use Rattle.hexadecimal.specs.Number.{number_at, big_endian}
use Rattle.hexadecimal.proofs.Number.{length-big_endian, number_at-append, number_at-append-add}
use Rattle.hexadecimal.proofs.Number.{number_at-append-big_endian}
use Rattle.itemset.specs.Set.{has, count, rank, members}
use Rattle.itemset.proofs.Laws.{has-below}
use Rattle.itemset.proofs.Counts.{rank_lt}
use Rattle.itemset.proofs.Members.{length-members, members-at}
use Rattle.protocol.specs.Tables.{ReadPart, WritePart, Ended, shows_read, shows_write, number_of}
use Rattle.protocol.specs.Tables.{writer_of}
use Rattle.protocol.specs.LogFrame.{listed, shown_entry, read_bytes, write_bytes, frame_byte}
use Rattle.protocol.specs.LogFrame.{frame}

-- ---- entries of n bytes each

module _ (f : ℕ → List ℕ) (n : ℕ) (each : (k : ℕ) → length (f k) ≡ n) where
  pub length-listed : (ks : List ℕ) → length (listed f ks) ≡ n * length ks
  unfolding listed
  length-listed [] = sym (mul-zero n)
  length-listed (k ∷ ks) =
      length-append (f k) (listed f ks)
      ∙ omega (arith, each k, length-listed ks, mul-suc n (length ks))

  -- what stands at j in the entry of place i
  pub listed_at : (ks rest : List ℕ) (m i j : ℕ) → j + m ≤ n → i < length ks
      → number_at m (listed f ks ++ rest) (n * i + j) ≡ number_at m (f (get_or ks i 0)) j
  unfolding listed
  listed_at [] rest m i j h l = absurd (not-suc-le-zero l)
  listed_at (k ∷ ks) rest m zero j h l =
      rw (append_assoc, mul-zero, zero-add)
      (number_at-append m (f k) (listed f ks ++ rest) j (omega (arith, each k)))
  listed_at (k ∷ ks) rest m (suc i) j h l =
      let place : n * suc i + j ≡ length (f k) + (n * i + j) = omega (arith, each k, mul-suc n i) in
      rw (append_assoc, place)
      (number_at-append-add m (f k) (listed f ks ++ rest) (n * i + j)
      ∙ listed_at ks rest m i j h (le_of_suc-le-suc l))

-- ---- the parts of a frame

-- kind, client and set: what every frame begins with
abbrev head : ℕ → ℕ → ℕ → List ℕ
head byte d s = byte ∷ big_endian 1 d ++ big_endian 8 s

-- the entry of item k in what a read shows, and those of all its items
abbrev entry_of : ReadPart → ℕ → List ℕ
entry_of p k = shown_entry (p.asked k) (p.values k)

abbrev entries : ReadPart → List ℕ
entries p = listed (entry_of p) (members 64 p.set)

length-head : (byte d s : ℕ) → length (head byte d s) ≡ 10
length-head byte d s = simp (length-append, length-big_endian)

length-entry_of : (p : ReadPart) (k : ℕ) → length (entry_of p k) ≡ 9
length-entry_of p k = simp (length-append, length-big_endian)

-- ---- lengths

pub length-read : (p : ReadPart) → length (read_bytes p) ≡ 8 + 9 * length (members 64 p.set)
unfolding read_bytes
length-read p =
    length-append (big_endian 8 p.set) (entries p)
    ∙ omega (
      arith,
      length-big_endian 8 p.set,
      length-listed (entry_of p) 9 (length-entry_of p) (members 64 p.set),
    )

pub length-write : (p : WritePart) → length (write_bytes p) ≡ 12 + 4 * length (members 64 p.set)
unfolding write_bytes
length-write p =
    let number = big_endian 4 (number_of p.stamp) in
    length-append (big_endian 8 p.set ++ number)
    (listed (λ k. big_endian 4 (p.values k)) (members 64 p.set))
    ∙ omega (
      arith,
      length-append (big_endian 8 p.set) number,
      length-big_endian 8 p.set,
      length-big_endian 4 (number_of p.stamp),
      length-listed (λ k. big_endian 4 (p.values k)) 4
          (λ k. length-big_endian 4 (p.values k)) (members 64 p.set),
    )

-- the bytes of the parts that a kind shows
abbrev pub shown_read : Ended → List ℕ
shown_read e = cond (shows_read e.kind) (read_bytes e.read) []

abbrev pub shown_write : Ended → List ℕ
shown_write e = cond (shows_write e.kind) (write_bytes e.write) []

-- a frame is its head and these
parts : (d : ℕ) (e : Ended) → eqb e.kind 0 ≡ false
    → frame d e ≡ (frame_byte e.kind ∷ big_endian 1 d) ++ shown_read e ++ shown_write e
unfolding frame
parts d e some = rw some refl

pub length-frame : (d : ℕ) (e : Ended) → eqb e.kind 0 ≡ false
    → length (frame d e) ≡ 2 + length (shown_read e) + length (shown_write e)
length-frame d e some =
    let first = frame_byte e.kind ∷ big_endian 1 d in
    ap length (parts d e some)
    ∙ omega (
      arith,
      length-append (first ++ shown_read e) (shown_write e),
      length-append first (shown_read e),
      length-big_endian 1 d,
    )

-- a kind that shows a read part is of an ended transaction
pub shows-some : (kind : ℕ) → shows_read kind ≡ true → eqb kind 0 ≡ false
shows-some kind s =
    by-test (eqb kind 0) (λ z. not-both (rw (eqb-true kind 0 z) at s) refl) (λ z. z)

pub length-frame-read : (d : ℕ) (e : Ended) → shows_read e.kind ≡ true
    → shows_write e.kind ≡ false → e.read.set < 2 ^ 64
    → length (frame d e) ≡ 10 + 9 * count e.read.set
length-frame-read d e shows none below =
    length-frame d e (shows-some e.kind shows)
    ∙ rw (shows, none)
    (omega (arith, length-read e.read, length-members e.read.set 64 below))

-- ---- what a frame with a read part begins with

regroup : (a b c w rest : List ℕ) → a ++ (b ++ c) ++ w ++ rest ≡ a ++ b ++ (c ++ (w ++ rest))
regroup a b c w rest = simp append_assoc

module _ (d : ℕ) (e : Ended) (shows : shows_read e.kind ≡ true) (rest : List ℕ) where
  abbrev p : ReadPart
  p = e.read

  abbrev byte : ℕ
  byte = frame_byte e.kind

  read-shown : shown_read e ≡ big_endian 8 p.set ++ entries p
  unfolding read_bytes
  read-shown = rw shows refl

  split : frame d e ++ rest ≡ head byte d p.set ++ (entries p ++ (shown_write e ++ rest))
  split =
      ap (λ (l : List ℕ). l ++ rest) (parts d e (shows-some e.kind shows)
      ∙ ap (λ (l : List ℕ). (byte ∷ big_endian 1 d) ++ l ++ shown_write e) read-shown)
      ∙ regroup (byte ∷ big_endian 1 d) (big_endian 8 p.set) (entries p) (shown_write e) rest

  pub frame-head : take 10 (frame d e ++ rest) ≡ byte ∷ d % 256 ∷ big_endian 8 p.set
  unfolding big_endian
  frame-head =
      ap (take 10) split
      ∙ take_at (head byte d p.set) (entries p ++ (shown_write e ++ rest)) 10
      (length-head byte d p.set)

  pub frame-head-client : d < 256
      → take 10 (frame d e ++ rest) ≡ byte ∷ d ∷ big_endian 8 p.set
  frame-head-client h = frame-head
      ∙ ap (λ (b : ℕ). byte ∷ b ∷ big_endian 8 p.set) (mod-eq_of_lt h)

  -- ---- and its item k
  module _ (k : ℕ) (member : has p.set k ≡ true) (below : p.set < 2 ^ 64) where
    -- what stands at j in the item's entry
    pub shown-at : (m j : ℕ) → j + m ≤ 9
        → number_at m (frame d e ++ rest) (10 + j + 9 * rank p.set k) ≡ number_at m (entry_of p k) j
    shown-at m j h =
        let s = p.set in
        let place : 10 + j + 9 * rank s k ≡ length (head byte d s) + (9 * rank s k + j) =
        omega (arith, length-head byte d s) in
        let inside : rank s k < length (members 64 s) =
        omega (arith, rank_lt s k member, length-members s 64 below) in
        ap₂ (number_at m) split place
        ∙ number_at-append-add m (head byte d s) (entries p ++ (shown_write e ++ rest))
        (9 * rank s k + j)
        ∙ listed_at (entry_of p) 9 (length-entry_of p) (members 64 s) (shown_write e ++ rest) m
        (rank s k) j h inside
        ∙ ap (λ (i : ℕ). number_at m (entry_of p i) j)
        (members-at s k 64 (has-below s k 64 below member) member)

    -- a number that is written between two parts of the item's entry
    shown-field : (m x : ℕ) (before after : List ℕ)
        → entry_of p k ≡ before ++ big_endian m x ++ after → x < 256 ^ m
        → number_at m (frame d e ++ rest) (10 + length before + 9 * rank p.set k) ≡ x
    shown-field m x before after q h =
        let whole : length (before ++ big_endian m x ++ after) ≡ 9 =
        rw q at (length-entry_of p k) in
        let parts : length before + length (big_endian m x) + length after ≡ 9 =
        simp length-append at whole in
        shown-at m (length before) (omega (arith, length-big_endian m x))
        ∙ ap (λ (t : List ℕ). number_at m t (length before)) q
        ∙ number_at-append-big_endian m x before after h

    pub shown-number : number_of (p.asked k) < 2 ^ 32
        → number_at 4 (frame d e ++ rest) (10 + 9 * rank p.set k) ≡ number_of (p.asked k)
    unfolding big_endian
    shown-number h =
        shown-field 4 (number_of (p.asked k)) []
        (big_endian 1 (writer_of (p.asked k)) ++ big_endian 4 (p.values k)) refl h

    pub shown-writer : number_at 1 (frame d e ++ rest) (14 + 9 * rank p.set k)
        ≡ writer_of (p.asked k)
    unfolding big_endian
    shown-writer =
        shown-field 1 (writer_of (p.asked k)) (big_endian 4 (number_of (p.asked k)))
        (big_endian 4 (p.values k)) refl (omega arith)

    pub shown-value : p.values k < 2 ^ 32
        → number_at 4 (frame d e ++ rest) (15 + 9 * rank p.set k) ≡ p.values k
    unfolding big_endian
    shown-value h =
        shown-field 4 (p.values k) (big_endian 4 (number_of (p.asked k)) ++ big_endian 1
        (writer_of (p.asked k))) [] refl h

-- ---- what a write's frame begins with, its number among it

length-first : (byte d : ℕ) → length (byte ∷ big_endian 1 d) ≡ 2
length-first byte d = omega (arith, length-big_endian 1 d)

regroup-set : (a b c v : List ℕ) → a ++ b ++ c ++ v ≡ a ++ b ++ (c ++ v)
regroup-set a b c v = simp append_assoc

regroup-write : (a b c v rest : List ℕ)
    → a ++ [] ++ (b ++ c ++ v) ++ rest ≡ a ++ b ++ c ++ (v ++ rest)
regroup-write a b c v rest = simp (append_assoc, append-nil)

module _ (d : ℕ) (e : Ended) (kind : e.kind ≡ 2) (rest : List ℕ) where
  abbrev part : WritePart
  part = e.write

  abbrev number : List ℕ
  number = big_endian 4 (number_of part.stamp)

  abbrev written : List ℕ
  written = listed (λ k. big_endian 4 (part.values k)) (members 64 part.set)

  write-split : frame d e ++ rest ≡ head 0x20 d part.set ++ number ++ (written ++ rest)
  unfolding write_bytes
  write-split =
      ap (λ (l : List ℕ). l ++ rest) (parts d e (rw kind refl))
      ∙ rw kind (regroup-write (0x20 ∷ big_endian 1 d) (big_endian 8 part.set) number written rest)

  pub write-head : d < 256 → take 10 (frame d e ++ rest) ≡ 0x20 ∷ d ∷ big_endian 8 part.set
  unfolding big_endian
  write-head h =
      ap (take 10) (write-split ∙ append_assoc (head 0x20 d part.set) number (written ++ rest))
      ∙ take_at (head 0x20 d part.set) (number ++ (written ++ rest)) 10
      (length-head 0x20 d part.set)
      ∙ ap (λ (b : ℕ). 0x20 ∷ b ∷ big_endian 8 part.set) (mod-eq_of_lt h)

  pub write-set : part.set < 2 ^ 64 → number_at 8 (frame d e ++ rest) 2 ≡ part.set
  write-set h =
      ap (λ (l : List ℕ). number_at 8 l 2)
      (write-split ∙ regroup-set (0x20 ∷ big_endian 1 d) (big_endian 8 part.set) number
      (written ++ rest))
      ∙ ap (number_at 8 _) (sym (length-first 0x20 d))
      ∙ number_at-append-big_endian 8 part.set (0x20 ∷ big_endian 1 d)
      (number ++ (written ++ rest)) h

  pub write-number : number_of part.stamp < 2 ^ 32
      → number_at 4 (frame d e ++ rest) 10 ≡ number_of part.stamp
  write-number h =
      ap₂ (number_at 4) write-split (sym (length-head 0x20 d part.set))
      ∙ number_at-append-big_endian 4 (number_of part.stamp) (head 0x20 d part.set)
      (written ++ rest) h

pub length-frame-write : (d : ℕ) (e : Ended) → e.kind ≡ 2 → e.write.set < 2 ^ 64
    → length (frame d e) ≡ 14 + 4 * count e.write.set
length-frame-write d e kind below =
    length-frame d e (rw kind refl)
    ∙ rw kind (omega (arith, length-write e.write, length-members e.write.set 64 below))

-- ---- what a mixed transaction's frame has behind its read part: the write's set and number

pub length-frame-mixed : (d : ℕ) (e : Ended) → e.kind ≡ 4 → e.read.set < 2 ^ 64
    → e.write.set < 2 ^ 64
    → length (frame d e) ≡ 22 + 9 * count e.read.set + 4 * count e.write.set
length-frame-mixed d e kind below below' =
    length-frame d e (rw kind refl)
    ∙ rw kind (omega (
      arith,
      length-read e.read,
      length-write e.write,
      length-members e.read.set 64 below,
      length-members e.write.set 64 below',
    ))

regroup-mixed : (a r b c v rest : List ℕ)
    → a ++ r ++ (b ++ c ++ v) ++ rest ≡ (a ++ r ++ b) ++ c ++ (v ++ rest)
regroup-mixed a r b c v rest = simp append_assoc

module _ (d : ℕ) (e : Ended) (kind : e.kind ≡ 4) (below : e.read.set < 2 ^ 64)
    (rest : List ℕ) where
  -- what comes before the set, the number, and what comes behind it
  abbrev ahead : List ℕ
  ahead = (0x24 ∷ big_endian 1 d) ++ read_bytes e.read

  abbrev numbered : List ℕ
  numbered = big_endian 4 (number_of e.write.stamp)

  abbrev behind : List ℕ
  behind = listed (λ k. big_endian 4 (e.write.values k)) (members 64 e.write.set) ++ rest

  length-ahead : length ahead ≡ 10 + 9 * count e.read.set
  length-ahead =
      length-append (0x24 ∷ big_endian 1 d) (read_bytes e.read)
      ∙ omega (
        arith,
        length-first 0x24 d,
        length-read e.read,
        length-members e.read.set 64 below,
      )

  mixed-split : frame d e ++ rest ≡ (ahead ++ big_endian 8 e.write.set) ++ numbered ++ behind
  unfolding write_bytes
  mixed-split =
      ap (λ (l : List ℕ). l ++ rest) (parts d e (rw kind refl))
      ∙ rw kind (regroup-mixed (0x24 ∷ big_endian 1 d) (read_bytes e.read)
      (big_endian 8 e.write.set) numbered
      (listed (λ k. big_endian 4 (e.write.values k)) (members 64 e.write.set)) rest)

  pub mixed-set : e.write.set < 2 ^ 64
      → number_at 8 (frame d e ++ rest) (10 + 9 * count e.read.set) ≡ e.write.set
  mixed-set h =
      ap₂ (number_at 8)
      (mixed-split ∙ regroup-set ahead (big_endian 8 e.write.set) numbered behind)
      (sym length-ahead)
      ∙ number_at-append-big_endian 8 e.write.set ahead (numbered ++ behind) h

  pub mixed-number : number_of e.write.stamp < 2 ^ 32
      → number_at 4 (frame d e ++ rest) (18 + 9 * count e.read.set)
      ≡ number_of e.write.stamp
  mixed-number h =
      let place : length (ahead ++ big_endian 8 e.write.set) ≡ 18 + 9 * count e.read.set =
      length-append ahead (big_endian 8 e.write.set)
      ∙ omega (arith, length-ahead, length-big_endian 8 e.write.set) in
      ap₂ (number_at 4) mixed-split (sym place)
      ∙ number_at-append-big_endian 4 (number_of e.write.stamp)
      (ahead ++ big_endian 8 e.write.set) behind h
