-- A log frame's bytes, written from its fields as documents 01 and 02 have them, give back those
-- fields, part by part; and a well-formed frame is the bytes of its fields.
use mathlib.Core.Bool.{Bool, true, false, not, ◌&&◌, and-true}
use mathlib.Core.List.{List, [], ◌∷◌, ◌++◌, append_assoc, append-nil}
use mathlib.Core.Logic.{⊎_elim}
use mathlib.Core.Path.{◌≡◌, refl, sym, ap, ap₂, ◌∙◌}
use Prim.Native.Nat.{ℕ, ◌+◌, ◌*◌, ◌/◌, ◌%◌, ◌^◌, ◌≤◌, ◌<◌}
use native.Mathlib.Nat.{add-zero}
use native.Mathlib.Omega.{arith}
use lib.Dec.{eqb, leb}
use lib.ListN.{length, get_or, take, drop, length-append, take-append-drop, drop_of_length-le}
use lib.Seq.{drop-drop, take-add}
use borrow.Author.Tests.{eqb-true, eq-eqb, leb-true, le-leb}
use Rattle.basics.specs.Lists.{every}
use Rattle.basics.proofs.Cases.{and_right, and_both, or_cases}
use Rattle.basics.proofs.Lists.{every-at, at_every}
use Rattle.hexadecimal.specs.Bytes.{EachByte}
use Rattle.hexadecimal.specs.Number.{number_at, big_endian}
use Rattle.hexadecimal.proofs.Number.{number_at-one, number_at-append, number_at-append-add}
use Rattle.hexadecimal.proofs.Number.{number_at-append-big_endian, length-big_endian, big_endian-number_at}
use Rattle.itemset.specs.Set.{has, rank, members}
use Rattle.itemset.proofs.Counts.{rank-all, rank_lt}
use Rattle.itemset.proofs.Laws.{has-below}
use Rattle.itemset.proofs.Members.{length-members-rank, members-at, members-rank, members-has}
use Rattle.log_format.specs.Log.{count64, stamp_of, kind_of, client_of, has_read, has_write, hands_over}
use Rattle.log_format.specs.Log.{receiver_of, is_client, is_whole}
use Rattle.log_format.specs.Log.{shown, shown_stamp, shown_value, write_at, written, number_of}
use Rattle.log_format.specs.Log.{written_value, end_of, entries_whole, entry_number, entry_writer}
use Rattle.log_format.specs.Log.{read_shaped, write_shaped, hand_over_shaped, shaped}
use Rattle.log_format.proofs.Each.{each, length-each, each_at, each-begins}
use Rattle.log_format.proofs.Parts.{shaped-size, shaped-read}

-- ---- the bytes of a frame

-- number (4), writing client (1), value (4)
pub entry : (number writer value : ℕ) → List ℕ
entry number writer value = big_endian 4 number ++ big_endian 1 writer ++ big_endian 4 value

-- kind, client, and a read part: set, then an entry per item
pub read_frame : (kind client set : ℕ) → (number writer value : ℕ → ℕ) → List ℕ
read_frame kind client set number writer value =
    kind ∷ client ∷ big_endian 8 set
    ++ each (λ item. entry (number item) (writer item) (value item)) (members 64 set)

-- a write part: set, number (4), values (4 each)
pub write_part : (set number : ℕ) → (ℕ → ℕ) → List ℕ
write_part set number value =
    big_endian 8 set ++ big_endian 4 number
    ++ each (λ item. big_endian 4 (value item)) (members 64 set)

-- `20` client, and a write part
pub write_frame : (client set number : ℕ) → (ℕ → ℕ) → List ℕ
write_frame client set number value = 0x20 ∷ client ∷ write_part set number value

-- `22` giver, receiver
pub hand_over_frame : (giver receiver : ℕ) → List ℕ
hand_over_frame giver receiver = 0x22 ∷ giver ∷ receiver ∷ []

-- `24` client, a read part, and then a write part
pub mixed_frame : (client shown : ℕ) → (number writer value : ℕ → ℕ)
    → (written of : ℕ) → (ℕ → ℕ) → List ℕ
mixed_frame client shown number writer value written of to =
    read_frame 0x24 client shown number writer value ++ write_part written of to

-- a kind with a read part alone
pub record ReadAlone (kind : ℕ) : Type 0 where
  pub read : has_read kind ≡ true
  pub no_write_lem : has_write kind ≡ false
  pub no-hand-over : hands_over kind ≡ false

-- `21` is one, and so is `23`
pub read-kind : ReadAlone 0x21
read-kind = record { read = refl; no_write_lem = refl; no-hand-over = refl }

pub fast-read-kind : ReadAlone 0x23
fast-read-kind = record { read = refl; no_write_lem = refl; no-hand-over = refl }

length-entry : (a b v : ℕ) → length (entry a b v) ≡ 9
unfolding entry
length-entry a b v =
    omega (
      arith,
      length-append (big_endian 4 a ++ big_endian 1 b) (big_endian 4 v),
      length-append (big_endian 4 a) (big_endian 1 b),
      length-big_endian 4 a,
      length-big_endian 1 b,
      length-big_endian 4 v,
    )

entry-number : (a b v : ℕ) → a < 256 ^ 4 → number_at 4 (entry a b v) 0 ≡ a
unfolding entry
entry-number a b v h =
    ap (λ (l : List ℕ). number_at 4 l 0)
    (append_assoc (big_endian 4 a) (big_endian 1 b) (big_endian 4 v))
    ∙ number_at-append-big_endian 4 a [] (big_endian 1 b ++ big_endian 4 v) h

entry-writer : (a b v : ℕ) → b < 256 ^ 1 → number_at 1 (entry a b v) 4 ≡ b
unfolding entry
entry-writer a b v h =
    ap (number_at 1 (entry a b v)) (sym (length-big_endian 4 a))
    ∙ number_at-append-big_endian 1 b (big_endian 4 a) (big_endian 4 v) h

entry_value : (a b v : ℕ) → v < 256 ^ 4 → number_at 4 (entry a b v) 5 ≡ v
unfolding entry
entry_value a b v h =
    let front = big_endian 4 a ++ big_endian 1 b in
    let long : length front ≡ 5 =
    omega (
      arith,
      length-append (big_endian 4 a) (big_endian 1 b),
      length-big_endian 4 a,
      length-big_endian 1 b,
    ) in
    ap₂ (number_at 4) (sym (append-nil (front ++ big_endian 4 v))) (sym long)
    ∙ number_at-append-big_endian 4 v front [] h

-- ---- fields of a frame that begins with a read part

module _ (kind client set : ℕ) (number writer value : ℕ → ℕ) (f rest : List ℕ)
    (begins : f ≡ read_frame kind client set number writer value ++ rest) where
  abbrev bytes : ℕ → List ℕ
  bytes item = entry (number item) (writer item) (value item)

  abbrev entries : List ℕ
  entries = each bytes (members 64 set)

  kind-is : kind_of f ≡ kind
  unfolding read_frame
  kind-is = ap kind_of begins

  pub part-client : client_of f ≡ client
  unfolding read_frame
  part-client = ap client_of begins

  entries-behind : f ≡ (kind ∷ client ∷ big_endian 8 set) ++ (entries ++ rest)
  unfolding read_frame
  entries-behind = begins ∙ append_assoc (kind ∷ client ∷ big_endian 8 set) entries rest

  length-entries : length entries ≡ 9 * count64 set
  length-entries =
      omega (
        arith,
        length-each bytes 9 (λ k. length-entry (number k) (writer k) (value k)) (members 64 set),
        length-members-rank set 64,
      )

  length-read : length (read_frame kind client set number writer value) ≡ 10 + 9 * count64 set
  unfolding read_frame
  length-read =
      omega (
        arith,
        length-append (kind ∷ client ∷ big_endian 8 set) entries,
        length-big_endian 8 set,
        length-entries,
      )

  module _ (is : has_read kind ≡ true) (narrow : set < 2 ^ 64) where
    part-read : has_read (kind_of f) ≡ true
    part-read = ap has_read kind-is ∙ is

    pub part-shown : shown f ≡ set
    unfolding shown
    part-shown =
        rw part-read
        (ap (λ (l : List ℕ). number_at 8 l 2) entries-behind
        ∙ number_at-append-big_endian 8 set (kind ∷ client ∷ []) (entries ++ rest) narrow)

    -- n bytes, from the j-th on, of the entry of an item of the set
    at_entry : (item j n : ℕ) → has set item ≡ true → j + n ≤ 9
        → number_at n f (10 + 9 * rank set item + j) ≡ number_at n (bytes item) j
    at_entry item j n e h =
        let place : rank set item < length (members 64 set) =
        omega (arith, length-members-rank set 64, rank-all set 64 narrow, rank_lt set item e) in
        let at : 10 + 9 * rank set item + j
        ≡ length (kind ∷ client ∷ big_endian 8 set) + (9 * rank set item + j) =
        omega (arith, length-big_endian 8 set) in
        ap₂ (number_at n) entries-behind at
        ∙ number_at-append-add n (kind ∷ client ∷ big_endian 8 set) (entries ++ rest)
        (9 * rank set item + j)
        ∙ number_at-append n entries rest (9 * rank set item + j)
        (omega (arith, length-entries, length-members-rank set 64))
        ∙ each_at bytes 9 (λ k. length-entry (number k) (writer k) (value k)) (members 64 set)
        (rank set item) j n place h
        ∙ ap (λ (k : ℕ). number_at n (bytes k) j)
        (members-at set item 64 (has-below set item 64 narrow e) e)

    module _ (item : ℕ) (e : has set item ≡ true) where
      entry-number-is : number item < 2 ^ 32 → entry_number f (rank set item) ≡ number item
      entry-number-is h =
          ap (number_at 4 f) (sym (add-zero (10 + 9 * rank set item)))
          ∙ at_entry item 0 4 e (omega arith)
          ∙ entry-number (number item) (writer item) (value item) h

      entry-writer-is : writer item < 256 → entry_writer f (rank set item) ≡ writer item
      entry-writer-is h =
          sym (number_at-one f (10 + 9 * rank set item + 4))
          ∙ at_entry item 4 1 e (omega arith)
          ∙ entry-writer (number item) (writer item) (value item) h

      pub part-stamp : number item < 2 ^ 32 → writer item < 256
          → shown_stamp f item ≡ stamp_of (number item) (writer item)
      unfolding shown_stamp
      part-stamp n d =
          ap (λ (s : ℕ). stamp_of (entry_number f (rank s item)) (entry_writer f (rank s item)))
          part-shown
          ∙ ap₂ stamp_of (entry-number-is n) (entry-writer-is d)

      pub part-shown-value : value item < 2 ^ 32 → shown_value f item ≡ value item
      unfolding shown_value
      part-shown-value h =
          ap (λ (s : ℕ). number_at 4 f (10 + 9 * rank s item + 5)) part-shown
          ∙ at_entry item 5 4 e (omega arith)
          ∙ entry_value (number item) (writer item) (value item) h

    -- what follows stands behind it
    pub part-behind : write_at f ≡ length (read_frame kind client set number writer value)
    unfolding write_at
    part-behind = rw part-read (omega (arith, length-read, ap count64 part-shown))

    -- well-formed where the set is nonempty and every stamp whole
    pub part-read-shaped : 1 ≤ set
        → ((item : ℕ) → has set item ≡ true → (number item < 2 ^ 32) × (writer item < 256)
        × (is_whole (number item) (writer item) ≡ true))
        → read_shaped f ≡ true
    unfolding read_shaped entries_whole
    part-read-shaped some whole =
        rw part-read
        (and_both (leb 1 (shown f)) (entries_whole f)
        (ap (leb 1) part-shown ∙ le-leb 1 set some)
        (ap (λ (s : ℕ). every (count64 s) (λ i. is_whole (entry_number f i) (entry_writer f i)))
        part-shown
        ∙ at_every (count64 set) (λ i. is_whole (entry_number f i) (entry_writer f i))
        each-whole-stamp))
      where
        each-whole-stamp : (i : ℕ) → i < count64 set
            → is_whole (entry_number f i) (entry_writer f i) ≡ true
        each-whole-stamp i l =
            let inside : i < length (members 64 set) =
            omega (arith, length-members-rank set 64) in
            let item = get_or (members 64 set) i 0 in
            let e = members-has set 64 i inside in
            let h = whole item e in
            ap (λ (k : ℕ). is_whole (entry_number f k) (entry_writer f k))
            (sym (members-rank set 64 i inside))
            ∙ ap₂ is_whole (entry-number-is item e h.0) (entry-writer-is item e h.1)
            ∙ h.2

-- ---- fields of a frame that ends in a write part

module _ (front : List ℕ) (set number : ℕ) (value : ℕ → ℕ) (f : List ℕ)
    (ends : f ≡ front ++ write_part set number value) (is : has_write (kind_of f) ≡ true)
    (at : write_at f ≡ length front) (narrow : set < 2 ^ 64) (small : number < 2 ^ 32) where
  abbrev values : List ℕ
  values = each (λ item. big_endian 4 (value item)) (members 64 set)

  number_behind : f ≡ front ++ big_endian 8 set ++ (big_endian 4 number ++ values)
  unfolding write_part
  number_behind =
      ends
      ∙ ap (λ (l : List ℕ). front ++ l) (append_assoc (big_endian 8 set) (big_endian 4 number) values)
      ∙ sym (append_assoc front (big_endian 8 set) (big_endian 4 number ++ values))

  values-behind : f ≡ front ++ big_endian 8 set ++ big_endian 4 number ++ values
  values-behind =
      number_behind ∙ sym (append_assoc (front ++ big_endian 8 set) (big_endian 4 number) values)

  set-length : length (front ++ big_endian 8 set) ≡ length front + 8
  set-length = omega (arith, length-append front (big_endian 8 set), length-big_endian 8 set)

  number-length : length (front ++ big_endian 8 set ++ big_endian 4 number) ≡ length front + 12
  number-length =
      omega (
        arith,
        set-length,
        length-append (front ++ big_endian 8 set) (big_endian 4 number),
        length-big_endian 4 number,
      )

  pub part-written : written f ≡ set
  unfolding written
  part-written =
      rw is
      (ap₂ (number_at 8) number_behind at
      ∙ number_at-append-big_endian 8 set front (big_endian 4 number ++ values) narrow)

  pub part-number : number_of f ≡ number
  unfolding number_of
  part-number =
      rw is
      (ap₂ (number_at 4) values-behind (omega (arith, at, set-length))
      ∙ number_at-append-big_endian 4 number (front ++ big_endian 8 set) values small)

  pub part-written-value : (item : ℕ) → has set item ≡ true → value item < 2 ^ 32
      → written_value f item ≡ value item
  unfolding written_value
  part-written-value item e h =
      let place : rank set item < length (members 64 set) =
      omega (arith, length-members-rank set 64, rank-all set 64 narrow, rank_lt set item e) in
      let stands : write_at f + 12 + 4 * rank (written f) item
      ≡ length (front ++ big_endian 8 set ++ big_endian 4 number) + (4 * rank set item + 0) =
      omega (arith, at, number-length, ap (λ (s : ℕ). rank s item) part-written) in
      ap₂ (number_at 4) values-behind stands
      ∙ number_at-append-add 4 (front ++ big_endian 8 set ++ big_endian 4 number) values
      (4 * rank set item + 0)
      ∙ each_at (λ k. big_endian 4 (value k)) 4 (λ k. length-big_endian 4 (value k))
      (members 64 set) (rank set item) 0 4 place (omega arith)
      ∙ ap (λ (k : ℕ). number_at 4 (big_endian 4 (value k)) 0)
      (members-at set item 64 (has-below set item 64 narrow e) e)
      ∙ ap (λ (l : List ℕ). number_at 4 l 0) (sym (append-nil (big_endian 4 (value item))))
      ∙ number_at-append-big_endian 4 (value item) [] [] h

  pub part_end : hands_over (kind_of f) ≡ false → length f ≡ end_of f
  unfolding end_of
  part_end over =
      rw (over, is)
      (omega (
        arith,
        ap (λ (l : List ℕ). length l) values-behind,
        length-append (front ++ big_endian 8 set ++ big_endian 4 number) values,
        number-length,
        length-each (λ k. big_endian 4 (value k)) 4 (λ k. length-big_endian 4 (value k))
            (members 64 set),
        length-members-rank set 64,
        ap count64 part-written,
        at,
      ))

  -- well-formed where the set is nonempty and the number 1 or more
  pub part-write-shaped : write_shaped f ≡ (leb 1 set && leb 1 number)
  unfolding write_shaped
  part-write-shaped = rw is (ap₂ (λ (s n : ℕ). leb 1 s && leb 1 n) part-written part-number)

-- ---- the bytes of a write

module _ (client set number : ℕ) (value : ℕ → ℕ) where
  abbrev w : List ℕ
  w = write_frame client set number value

  pub write-client : client_of w ≡ client
  unfolding write_frame
  write-client = refl

  -- a write line isn't a read
  pub write-shown : shown w ≡ 0
  unfolding write_frame shown
  write-shown = refl

  module _ (narrow : set < 2 ^ 64) (small : number < 2 ^ 32) where
    pub write-written : written w ≡ set
    unfolding write_frame write_at
    write-written = part-written (0x20 ∷ client ∷ []) set number value w refl refl refl narrow small

    pub write-number : number_of w ≡ number
    unfolding write_frame write_at
    write-number = part-number (0x20 ∷ client ∷ []) set number value w refl refl refl narrow small

    pub write-value : (item : ℕ) → has set item ≡ true → value item < 2 ^ 32
        → written_value w item ≡ value item
    unfolding write_frame write_at
    write-value =
        part-written-value (0x20 ∷ client ∷ []) set number value w refl refl refl narrow small

    -- well-formed where the client is one, the set nonempty and the number 1 or more
    pub write-shaped : shaped w ≡ (is_client client && (leb 1 set && leb 1 number))
    unfolding write_frame write_at shaped read_shaped hand_over_shaped
    write-shaped =
        ap₂ (λ (b : Bool) (s : Bool). is_client client && (b && s))
        (eq-eqb (length w) (end_of w)
        (part_end (0x20 ∷ client ∷ []) set number value w refl refl refl narrow small refl))
        (and-true (write_shaped w)
        ∙ part-write-shaped (0x20 ∷ client ∷ []) set number value w refl refl refl narrow small)

-- ---- the bytes of a read

module _ (kind client set : ℕ) (number writer value : ℕ → ℕ) (of : ReadAlone kind) where
  abbrev r : List ℕ
  r = read_frame kind client set number writer value

  whole-read : r ≡ r ++ []
  whole-read = sym (append-nil r)

  pub read-client : client_of r ≡ client
  read-client = part-client kind client set number writer value r [] whole-read

  -- a read line isn't a write
  pub read-written : written r ≡ 0
  unfolding read_frame written
  read-written = rw of.no_write_lem

  pub read_number : number_of r ≡ 0
  unfolding read_frame number_of
  read_number = rw of.no_write_lem

  module _ (narrow : set < 2 ^ 64) where
    pub read-shown : shown r ≡ set
    read-shown =
        part-shown kind client set number writer value r [] whole-read of.read narrow

    pub read-stamp : (item : ℕ) → has set item ≡ true → number item < 2 ^ 32
        → writer item < 256 → shown_stamp r item ≡ stamp_of (number item) (writer item)
    read-stamp =
        part-stamp kind client set number writer value r [] whole-read of.read narrow

    pub read-value : (item : ℕ) → has set item ≡ true → value item < 2 ^ 32
        → shown_value r item ≡ value item
    read-value =
        part-shown-value kind client set number writer value r [] whole-read of.read narrow

    read-size : length r ≡ end_of r
    unfolding read_frame end_of
    read-size =
        rw (of.no-hand-over, of.no_write_lem)
        (sym (part-behind kind client set number writer value r [] whole-read of.read narrow))

    -- well-formed where the client is one, the set nonempty and every stamp whole
    pub read-shaped : is_client client ≡ true → 1 ≤ set
        → ((item : ℕ) → has set item ≡ true → (number item < 2 ^ 32) × (writer item < 256)
        × (is_whole (number item) (writer item) ≡ true))
        → shaped r ≡ true
    unfolding read_frame shaped write_shaped hand_over_shaped
    read-shaped is some whole =
        rw (of.read, of.no_write_lem, of.no-hand-over)
        (and_both (is_client client) _ is
        (and_both (eqb (length r) (end_of r)) _ (eq-eqb (length r) (end_of r) read-size)
        (and_both (read_shaped r) true
        (part-read-shaped kind client set number writer value r [] whole-read of.read narrow some
        whole)
        refl)))

-- ---- the bytes of a mixed transaction

module _ (client set : ℕ) (number writer value : ℕ → ℕ) (to of : ℕ) (new : ℕ → ℕ) where
  abbrev m : List ℕ
  m = mixed_frame client set number writer value to of new

  -- its read part, and what stands before its write part
  abbrev m-read : List ℕ
  m-read = read_frame 0x24 client set number writer value

  pub mixed-client : client_of m ≡ client
  unfolding mixed_frame read_frame
  mixed-client = refl

  module _ (narrow : set < 2 ^ 64) where
    pub mixed-shown : shown m ≡ set
    unfolding mixed_frame
    mixed-shown =
        part-shown 0x24 client set number writer value m (write_part to of new) refl refl narrow

    pub mixed-stamp : (item : ℕ) → has set item ≡ true → number item < 2 ^ 32
        → writer item < 256 → shown_stamp m item ≡ stamp_of (number item) (writer item)
    unfolding mixed_frame
    mixed-stamp =
        part-stamp 0x24 client set number writer value m (write_part to of new) refl refl narrow

    pub mixed-shown-value : (item : ℕ) → has set item ≡ true → value item < 2 ^ 32
        → shown_value m item ≡ value item
    unfolding mixed_frame
    mixed-shown-value =
        part-shown-value 0x24 client set number writer value m (write_part to of new) refl refl
        narrow

    mixed-behind : write_at m ≡ length m-read
    unfolding mixed_frame
    mixed-behind =
        part-behind 0x24 client set number writer value m (write_part to of new) refl refl narrow

    module _ (slim : to < 2 ^ 64) (small : of < 2 ^ 32) where
      pub mixed-written : written m ≡ to
      unfolding mixed_frame read_frame
      mixed-written = part-written m-read to of new m refl refl mixed-behind slim small

      pub mixed-number : number_of m ≡ of
      unfolding mixed_frame read_frame
      mixed-number = part-number m-read to of new m refl refl mixed-behind slim small

      pub mixed-value : (item : ℕ) → has to item ≡ true → new item < 2 ^ 32
          → written_value m item ≡ new item
      unfolding mixed_frame read_frame
      mixed-value = part-written-value m-read to of new m refl refl mixed-behind slim small

      -- well-formed where the client is one, both sets are nonempty, every stamp whole and the
      -- number 1 or more
      pub mixed-shaped : is_client client ≡ true → 1 ≤ set
          → ((item : ℕ) → has set item ≡ true → (number item < 2 ^ 32) × (writer item < 256)
          × (is_whole (number item) (writer item) ≡ true))
          → shaped m ≡ (leb 1 to && leb 1 of)
      unfolding mixed_frame read_frame shaped hand_over_shaped
      mixed-shaped is some whole =
          rw (
            is,
            eq-eqb (length m) (end_of m)
                (part_end m-read to of new m refl refl mixed-behind slim small refl),
            part-read-shaped 0x24 client set number writer value m (write_part to of new) refl refl
                narrow some whole,
          )
          (and-true (write_shaped m)
          ∙ part-write-shaped m-read to of new m refl refl mixed-behind slim small)

-- ---- fields of the bytes of a hand-over

module _ (giver receiver : ℕ) where
  abbrev h : List ℕ
  h = hand_over_frame giver receiver

  pub hand-over-giver : client_of h ≡ giver
  unfolding hand_over_frame
  hand-over-giver = refl

  pub hand-over-receiver : receiver_of h ≡ receiver
  unfolding hand_over_frame
  hand-over-receiver = refl

  -- it shows nothing and writes nothing
  pub hand-over-shown : shown h ≡ 0
  unfolding hand_over_frame shown
  hand-over-shown = refl

  pub hand-over-written : written h ≡ 0
  unfolding hand_over_frame written
  hand-over-written = refl

  pub hand-over-number : number_of h ≡ 0
  unfolding hand_over_frame number_of
  hand-over-number = refl

  -- well-formed where both are clients, and not the same
  pub hand-over-shaped : shaped h
      ≡ (is_client giver && (is_client receiver && not (eqb receiver giver)))
  unfolding hand_over_frame shaped read_shaped write_shaped hand_over_shaped end_of
  hand-over-shaped = refl

-- ---- a well-formed frame is the bytes of its fields

two_bytes : (f : List ℕ) → 2 ≤ length f → f ≡ kind_of f ∷ client_of f ∷ drop 2 f
two_bytes [] h = absurd (omega arith)
two_bytes (a ∷ []) h = absurd (omega arith)
two_bytes (a ∷ b ∷ s) h = refl

three-bytes : (f : List ℕ) → length f ≡ 3 → f ≡ kind_of f ∷ client_of f ∷ receiver_of f ∷ []
three-bytes [] h = absurd (omega arith)
three-bytes (a ∷ []) h = absurd (omega arith)
three-bytes (a ∷ b ∷ []) h = absurd (omega arith)
three-bytes (a ∷ b ∷ c ∷ []) h = refl
three-bytes (a ∷ b ∷ c ∷ d ∷ s) h = absurd (omega arith)

piece : (f : List ℕ) (n at : ℕ) → EachByte f → at + n ≤ length f
    → drop at f ≡ big_endian n (number_at n f at) ++ drop (at + n) f
piece f n at h l =
    sym (take-append-drop n (drop at f))
    ∙ ap₂ (λ (a b : List ℕ). a ++ b) (sym (big_endian-number_at n f at h l)) (drop-drop n at f)

module _ (f : List ℕ) (h : EachByte f) (e : shaped f ≡ true) where
  size : length f ≡ end_of f
  size = eqb-true (length f) (end_of f) (shaped-size f e)

  -- a read part, with what follows it
  module _ (is : has_read (kind_of f) ≡ true) (long : write_at f ≤ length f) where
    set-shown : shown f ≡ number_at 8 f 2
    unfolding shown
    set-shown = rw is

    read_behind : write_at f ≡ 10 + 9 * count64 (shown f)
    unfolding write_at
    read_behind = rw is

    -- a writing client is at most 8
    writer-small : (i : ℕ) → i < count64 (shown f) → entry_writer f i < 16
    unfolding read_shaped entries_whole
    writer-small i l =
        let whole : is_whole (entry_number f i) (entry_writer f i) ≡ true =
        every-at (count64 (shown f)) (λ k. is_whole (entry_number f k) (entry_writer f k))
        (and_right (leb 1 (shown f)) _ (rw is at (shaped-read f e))) i l in
        ⊎_elim
        (λ t. omega (
          arith,
          eqb-true (entry_writer f i) 0
              (and_right (eqb (entry_number f i) 0) (eqb (entry_writer f i) 0) t),
        ))
        (λ t. omega (
          arith,
          leb-true (entry_writer f i) 8
              (and_right (leb 1 (entry_writer f i)) (leb (entry_writer f i) 8)
              (and_right (leb 1 (entry_number f i)) _ t)),
        ))
        (or_cases (eqb (entry_number f i) 0 && eqb (entry_writer f i) 0)
        (leb 1 (entry_number f i) && is_client (entry_writer f i)) whole)

    abbrev fields-of : ℕ → List ℕ
    fields-of item =
        entry (shown_stamp f item / 16) (shown_stamp f item % 16) (shown_value f item)

    -- the i-th entry
    entry-bytes : (i : ℕ) → i < length (members 64 (shown f))
        → fields-of (get_or (members 64 (shown f)) i 0) ≡ take 9 (drop (9 * i) (drop 10 f))
    unfolding entry shown_stamp shown_value
    entry-bytes i l =
        let many = length-members-rank (shown f) 64 in
        let small = writer-small i (omega (arith, many)) in
        let at = 10 + 9 * i in
        let rest = drop (9 * i) (drop 10 f) in
        let here : drop at f ≡ rest = sym (drop-drop (9 * i) 10 f) in
        let inside : at + 9 ≤ length f = omega (arith, long, read_behind, many) in
        let number : big_endian 4 (stamp_of (entry_number f i) (entry_writer f i) / 16) ≡ take 4 rest =
        ap (big_endian 4) (high (entry_number f i) (entry_writer f i) small)
        ∙ big_endian-number_at 4 f at h (omega (arith, inside)) ∙ ap (take 4) here in
        let writer : big_endian 1 (stamp_of (entry_number f i) (entry_writer f i) % 16)
        ≡ take 1 (drop 4 rest) =
        ap (big_endian 1) (low (entry_number f i) (entry_writer f i) small
        ∙ sym (number_at-one f (at + 4)))
        ∙ big_endian-number_at 1 f (at + 4) h (omega (arith, inside))
        ∙ ap (take 1) (sym (drop-drop 4 at f) ∙ ap (drop 4) here) in
        let value : big_endian 4 (number_at 4 f (at + 5)) ≡ take 4 (drop 5 rest) =
        big_endian-number_at 4 f (at + 5) h (omega (arith, inside))
        ∙ ap (take 4) (sym (drop-drop 5 at f) ∙ ap (drop 5) here) in
        ap (λ (k : ℕ). entry (stamp_of (entry_number f k) (entry_writer f k) / 16)
        (stamp_of (entry_number f k) (entry_writer f k) % 16) (number_at 4 f (10 + 9 * k + 5)))
        (members-rank (shown f) 64 i l)
        ∙ ap₂ (λ (a b : List ℕ). a ++ b)
        (ap₂ (λ (a b : List ℕ). a ++ b) number writer ∙ sym (take-add 4 1 rest)) value
        ∙ sym (take-add 5 4 rest)
      where
        high : (n d : ℕ) → d < 16 → stamp_of n d / 16 ≡ n
        high n d l = omega arith

        low : (n d : ℕ) → d < 16 → stamp_of n d % 16 ≡ d
        low n d l = omega arith

    abbrev shown-bytes : List ℕ
    shown-bytes = read_frame (kind_of f) (client_of f) (shown f) (λ item. shown_stamp f item / 16)
        (λ item. shown_stamp f item % 16) (shown_value f)

    begins-shown : f ≡ shown-bytes ++ drop (write_at f) f
    unfolding read_frame
    begins-shown =
        let all-entries = each fields-of (members 64 (shown f)) in
        let past : 10 + 9 * length (members 64 (shown f)) ≡ write_at f =
        omega (arith, read_behind, length-members-rank (shown f) 64) in
        let behind : drop (9 * length (members 64 (shown f))) (drop 10 f) ≡ drop (write_at f) f =
        drop-drop (9 * length (members 64 (shown f))) 10 f ∙ ap (λ (n : ℕ). drop n f) past in
        two_bytes f (omega (arith, long, read_behind))
        ∙ ap (λ (l : List ℕ). kind_of f ∷ client_of f ∷ l)
        (piece f 8 2 h (omega (arith, long, read_behind))
        ∙ ap₂ (λ (s : ℕ) (l : List ℕ). big_endian 8 s ++ l) (sym set-shown)
        (each-begins fields-of 9 (members 64 (shown f)) (drop 10 f) entry-bytes
        ∙ ap (λ (l : List ℕ). all-entries ++ l) behind))
        ∙ sym (append_assoc (kind_of f ∷ client_of f ∷ big_endian 8 (shown f)) all-entries
        (drop (write_at f) f))

  -- a write part, and nothing behind it
  module _ (is : has_write (kind_of f) ≡ true)
      (long : length f ≡ write_at f + 12 + 4 * count64 (written f)) where
    set-written : written f ≡ number_at 8 f (write_at f)
    unfolding written
    set-written = rw is

    number-written : number_of f ≡ number_at 4 f (write_at f + 8)
    unfolding number_of
    number-written = rw is

    value-bytes : (i : ℕ) → i < length (members 64 (written f))
        → big_endian 4 (written_value f (get_or (members 64 (written f)) i 0))
        ≡ take 4 (drop (4 * i) (drop (write_at f + 12) f))
    unfolding written_value
    value-bytes i l =
        let many = length-members-rank (written f) 64 in
        let at : write_at f + 12 + 4 * rank (written f) (get_or (members 64 (written f)) i 0)
        ≡ write_at f + 12 + 4 * i = omega (arith, members-rank (written f) 64 i l) in
        ap (λ (k : ℕ). big_endian 4 (number_at 4 f k)) at
        ∙ big_endian-number_at 4 f (write_at f + 12 + 4 * i) h (omega (arith, long, many))
        ∙ ap (take 4) (sym (drop-drop (4 * i) (write_at f + 12) f))

    abbrev written-bytes : List ℕ
    written-bytes = write_part (written f) (number_of f) (written_value f)

    ends-written : drop (write_at f) f ≡ written-bytes
    unfolding write_part
    ends-written =
        let number_of_lem = big_endian 4 (number_of f) in
        let all-values = each (λ item. big_endian 4 (written_value f item))
        (members 64 (written f)) in
        let last : drop (4 * length (members 64 (written f))) (drop (write_at f + 12) f) ≡ [] =
        drop-drop (4 * length (members 64 (written f))) (write_at f + 12) f
        ∙ drop_of_length-le f
        {i = write_at f + 12 + 4 * length (members 64 (written f))}
        (omega (arith, long, length-members-rank (written f) 64)) in
        let past : write_at f + 8 + 4 ≡ write_at f + 12 = omega arith in
        piece f 8 (write_at f) h (omega (arith, long))
        ∙ ap₂ (λ (s : ℕ) (l : List ℕ). big_endian 8 s ++ l) (sym set-written)
        (piece f 4 (write_at f + 8) h (omega (arith, long))
        ∙ ap₂ (λ (n : ℕ) (l : List ℕ). big_endian 4 n ++ l) (sym number-written)
        (ap (λ (n : ℕ). drop n f) past
        ∙ each-begins (λ item. big_endian 4 (written_value f item)) 4 (members 64 (written f))
        (drop (write_at f + 12) f) value-bytes
        ∙ ap (λ (l : List ℕ). all-values ++ l) last
        ∙ append-nil all-values))
        ∙ sym (append_assoc (big_endian 8 (written f)) number_of_lem all-values)

  module _ (kind-write : kind_of f ≡ 0x20) where
    at-write : write_at f ≡ 2
    unfolding write_at
    at-write = rw (ap has_read kind-write)

    long-write : length f ≡ write_at f + 12 + 4 * count64 (written f)
    unfolding end_of
    long-write = size ∙ rw (ap hands_over kind-write, ap has_write kind-write)

    pub write_bytes_lem : f ≡ write_frame (client_of f) (written f) (number_of f) (written_value f)
    unfolding write_frame
    write_bytes_lem =
        two_bytes f (omega (arith, long-write))
        ∙ ap₂ (λ (k : ℕ) (l : List ℕ). k ∷ client_of f ∷ l) kind-write
        (ap (λ (n : ℕ). drop n f) (sym at-write)
        ∙ ends-written (ap has_write kind-write) long-write)

  module _ (alone : ReadAlone (kind_of f)) where
    long-read : length f ≡ write_at f
    unfolding end_of
    long-read = size ∙ rw (alone.no-hand-over, alone.no_write_lem)

    pub read-bytes : f ≡ read_frame (kind_of f) (client_of f) (shown f)
        (λ item. shown_stamp f item / 16) (λ item. shown_stamp f item % 16) (shown_value f)
    read-bytes =
        let within : write_at f ≤ length f = omega (arith, long-read) in
        let front = shown-bytes alone.read within in
        begins-shown alone.read within
        ∙ ap (λ (l : List ℕ). front ++ l)
        (drop_of_length-le f {i = write_at f} (omega (arith, long-read)))
        ∙ append-nil front

  module _ (kind-mixed : kind_of f ≡ 0x24) where
    long-mixed : length f ≡ write_at f + 12 + 4 * count64 (written f)
    unfolding end_of
    long-mixed = size ∙ rw (ap hands_over kind-mixed, ap has_write kind-mixed)

    pub mixed-bytes : f ≡ mixed_frame (client_of f) (shown f) (λ item. shown_stamp f item / 16)
        (λ item. shown_stamp f item % 16) (shown_value f) (written f) (number_of f) (written_value f)
    unfolding mixed_frame
    mixed-bytes =
        let within : write_at f ≤ length f = omega (arith, long-mixed) in
        begins-shown (ap has_read kind-mixed) within
        ∙ ap₂ (λ (k : ℕ) (l : List ℕ). read_frame k (client_of f) (shown f)
        (λ item. shown_stamp f item / 16) (λ item. shown_stamp f item % 16) (shown_value f) ++ l)
        kind-mixed (ends-written (ap has_write kind-mixed) long-mixed)

  module _ (kind-hand-over : kind_of f ≡ 0x22) where
    long-hand-over : length f ≡ 3
    unfolding end_of
    long-hand-over = size ∙ rw (ap hands_over kind-hand-over)

    pub hand-over-bytes : f ≡ hand_over_frame (client_of f) (receiver_of f)
    unfolding hand_over_frame
    hand-over-bytes =
        three-bytes f long-hand-over
        ∙ ap (λ (k : ℕ). k ∷ client_of f ∷ receiver_of f ∷ []) kind-hand-over
