-- What a write, alone or in a mixed transaction, shows once it has ended: its own number, which is
-- below that of each later write of its client, and its values.
use mathlib.Core.Bool.{true, false}
use mathlib.Core.List.{List, [], ◌∷◌, ◌++◌, append_assoc}
use mathlib.Core.Path.{◌≡◌, refl, sym, ap, ap₂, ◌∙◌, subst}
use Prim.Native.Nat.{ℕ, ◌+◌, ◌*◌, ◌^◌, ◌≤◌, ◌<◌}
use native.Mathlib.Nat.{mod-eq_of_lt}
use native.Mathlib.Omega.{arith}
use lib.Dec.{eqb}
use lib.ListN.{length, take, drop, length-append}
use borrow.Author.Tests.{eqb-true, eqb-false, ne_eqb}
use Rattle.basics.proofs.Cases.{by-test}
use Rattle.hexadecimal.specs.Number.{number_at, big_endian}
use Rattle.hexadecimal.proofs.Number.{length-big_endian, number_at-append-add, number_at-big_endian}
use Rattle.itemset.specs.Set.{has, count, rank, members}
use Rattle.itemset.proofs.Laws.{below-le, has-below}
use Rattle.itemset.proofs.Counts.{rank_lt}
use Rattle.itemset.proofs.Members.{length-members, members-at}
use Rattle.protocol.specs.declared.Answer.TheVariants.{Shown}
use Rattle.protocol.specs.Tables.{Sizes, Client, WritePart, Ended, shows_write, rested, number_of}
use Rattle.protocol.specs.Range.{Capacities}
use Rattle.protocol.specs.LogFrame.{frame, frame_byte, listed, write_bytes}
use Rattle.protocol.specs.Steps.{next_stamp, value_of}
use Rattle.protocol.specs.Calls.{Call, show, step, refusal, shown_frame, is_nothing, reply, written}
use Rattle.condition3.specs.World.{World, moved, next, after, stays, rests}
use Rattle.condition3.specs.Condition3.{Company, start_with, head_with, length_with, UnderWay}
use Rattle.condition3.specs.Condition3.{EndedBy, number_with, shown_own_set, shown_own_number}
use Rattle.condition3.specs.Condition3.{shown_own_value}
use Rattle.condition3.specs.Condition3.Company.{alone, reading}
use Rattle.protocol.proofs.Shown.{write-head, write-number, length-frame-write, frame-head-client}
use Rattle.protocol.proofs.Shown.{write-set, length-frame-mixed, mixed-set, mixed-number}
use Rattle.protocol.proofs.Shown.{shown_read, listed_at, length-listed}
use Rattle.protocol.proofs.Ranges.Values.{IsClient, SizesInRange}
use Rattle.protocol.proofs.Ranges.Clients.{EndedInRange, WritePartInRange}
use Rattle.protocol.proofs.Ranges.Tables.{Valid}
use Rattle.protocol.proofs.Refusals.{accepted-show, idle-rested}
use Rattle.condition3.proofs.Link.{Inv}
use Rattle.condition3.proofs.Runs.Run.{after-append, after-inv, after-sizes}
use Rattle.condition3.proofs.Runs.Rising.{rising}
use Rattle.condition3.proofs.Runs.Spans.{at_rest}
use Rattle.condition3.proofs.Runs.ReadCounts.{after-start, after-span}
use Rattle.condition3.proofs.Runs.WriteSpan.{Writing, Written, read_with, WriteBegun}
use Rattle.condition3.proofs.Runs.WriteSpan.{kind_with, write-begun, write-started}
use Rattle.condition3.proofs.Runs.WriteSpan.{write-during, write-ends}

-- ---- a write of s by client d, under way and ended

-- how its kind is shown

shows-with : (κ : Company) → shows_write (kind_with κ) ≡ true
shows-with alone = refl
shows-with (reading r) = refl

some_with : (κ : Company) → eqb (kind_with κ) 0 ≡ false
some_with alone = refl
some_with (reading r) = refl

module _ (z : Sizes) (d : ℕ) (e : Ended) (sizes : SizesInRange z) (range : EndedInRange z e)
    (rest : List ℕ) (one : d < 256) (fits : number_of e.write.stamp < 2 ^ 32) where
  below : (s : ℕ) → s < 2 ^ z.items → s < 2 ^ 64
  below s l = below-le s z.items 64 l sizes.items

  pub long-with : (κ : Company) → e.kind ≡ kind_with κ → e.read.set ≡ read_with κ
      → length (frame d e) ≡ length_with κ e.write.set
  long-with alone k r = length-frame-write d e k
      (below e.write.set (range.write (rw k refl)).set)
  long-with (reading q) k r =
      length-frame-mixed d e k (below e.read.set (range.read (rw k refl)).set)
      (below e.write.set (range.write (rw k refl)).set)
      ∙ ap (λ (x : ℕ). 22 + 9 * count x + 4 * count e.write.set) r

  pub head-with : (κ : Company) → e.kind ≡ kind_with κ → e.read.set ≡ read_with κ
      → take 10 (frame d e ++ rest) ≡ head_with κ d e.write.set
  head-with alone k r = write-head d e k rest one
  head-with (reading q) k r =
      frame-head-client d e (rw k refl) rest one
      ∙ rw (k, r) refl

  pub number-with : (κ : Company) → e.kind ≡ kind_with κ → e.read.set ≡ read_with κ
      → shown_own_number κ (frame d e ++ rest) ≡ number_of e.write.stamp
  number-with alone k r = write-number d e k rest fits
  number-with (reading q) k r =
      ap (λ (x : ℕ). number_at 4 (frame d e ++ rest) (18 + 9 * count x)) (sym r)
      ∙ mixed-number d e k (below e.read.set (range.read (rw k refl)).set) rest fits

  pub set-with : (κ : Company) → e.kind ≡ kind_with κ → e.read.set ≡ read_with κ
      → shown_own_set κ (frame d e ++ rest) ≡ e.write.set
  set-with alone k r = write-set d e k rest
      (below e.write.set (range.write (rw k refl)).set)
  set-with (reading q) k r =
      ap (λ (x : ℕ). number_at 8 (frame d e ++ rest) (10 + 9 * count x)) (sym r)
      ∙ mixed-set d e k (below e.read.set (range.read (rw k refl)).set) rest
      (below e.write.set (range.write (rw k refl)).set)

  -- behind set and number its values, each of 4 bytes, which end the frame
  abbrev value_bytes : ℕ → List ℕ
  value_bytes k = big_endian 4 (e.write.values k)

  abbrev values : List ℕ
  values = listed value_bytes (members 64 e.write.set)

  abbrev ahead : List ℕ
  ahead = (frame_byte e.kind ∷ big_endian 1 d) ++ shown_read e
      ++ (big_endian 8 e.write.set ++ big_endian 4 (number_of e.write.stamp))

  values-last : (κ : Company) → e.kind ≡ kind_with κ → frame d e ≡ ahead ++ values
  unfolding frame write_bytes
  values-last κ k =
      let some : eqb e.kind 0 ≡ false = rw k (some_with κ) in
      let shows : shows_write e.kind ≡ true = rw k (shows-with κ) in
      rw (some, shows)
      (sym (append_assoc ((frame_byte e.kind ∷ big_endian 1 d) ++ shown_read e)
      (big_endian 8 e.write.set ++ big_endian 4 (number_of e.write.stamp)) values))

  numbered : (κ : Company) (c : ℕ) → length_with κ c ≡ number_with κ + 4 + 4 * count c
  numbered alone c = refl
  numbered (reading q) c = omega arith

  pub value-with : (κ : Company) → e.kind ≡ kind_with κ → e.read.set ≡ read_with κ → (k : ℕ)
      → has e.write.set k ≡ true → e.write.values k < 2 ^ 32
      → shown_own_value κ e.write.set (frame d e ++ rest) k ≡ e.write.values k
  value-with κ kind r k member small =
      let s = e.write.set in
      let under : s < 2 ^ 64 = below s (range.write (rw kind (shows-with κ))).set in
      let whole : length ahead + length values ≡ length_with κ s =
      sym (length-append ahead values) ∙ ap length (sym (values-last κ kind))
      ∙ long-with κ kind r in
      let place : number_with κ + 4 + 4 * rank s k ≡ length ahead + (4 * rank s k + 0) =
      omega (
        arith,
        whole,
        numbered κ s,
        length-listed value_bytes 4 (λ j. length-big_endian 4 (e.write.values j)) (members 64 s),
        length-members s 64 under,
      ) in
      let inside : rank s k < length (members 64 s) =
      omega (arith, rank_lt s k member, length-members s 64 under) in
      ap₂ (number_at 4) (ap (λ (l : List ℕ). l ++ rest) (values-last κ kind)
      ∙ append_assoc ahead values rest) place
      ∙ number_at-append-add 4 ahead (values ++ rest) (4 * rank s k + 0)
      ∙ listed_at value_bytes 4 (λ j. length-big_endian 4 (e.write.values j)) (members 64 s) rest 4
      (rank s k) 0 (omega arith) inside
      ∙ ap (λ (j : ℕ). number_at 4 (value_bytes j) 0)
      (members-at s k 64 (has-below s k 64 under member) member)
      ∙ number_at-big_endian 4 (e.write.values k) ∙ mod-eq_of_lt small

module _ (caps : Capacities) (w : World) (inv : Inv caps w) (κ : Company) (d s : ℕ)
    (bytes : List ℕ) (before during : List Call) where
  abbrev start : Call
  start = start_with κ d s bytes

  abbrev w₀ : World
  w₀ = after caps w before

  abbrev stamp : ℕ
  stamp = next_stamp w₀.tables d

  abbrev y : World
  y = after caps w (before ++ start ∷ during)

  pub under-way : UnderWay caps w d start before during
      → Writing d s stamp (read_with κ) (value_of s bytes) y
  under-way u =
      let begins = after-start caps w before start u.accepted in
      subst (λ (q : World). Writing d s stamp (read_with κ) (value_of s bytes) q)
      (sym (after-span caps w before during start u.accepted))
      (write-during caps (moved w₀ start)
      (subst (λ (q : World). Inv caps q) begins (after-inv caps w inv (before ++ start ∷ []))) d s
      stamp (read_with κ) (value_of s bytes)
      (write-started caps w₀ κ d s bytes (write-begun caps w₀ κ d s bytes u.accepted))
      during (subst (λ (q : World). stays caps q d during ≡ true) begins u.unended))

  pub ended-write : (end : Call) → EndedBy caps w d start before during end
      → Written d s stamp y end (next caps y end)
  ended-write end e = write-ends caps y (after-inv caps w inv (before ++ start ∷ during)) d s stamp
      (read_with κ) (value_of s bytes) (under-way e.under_way) end e.ended

  -- ---- then shown
  module _ (end : Call) (until : List Call) (room : List ℕ)
      (e : EndedBy caps w d start before during end)
      (quietly : rests caps (after caps w (before ++ start ∷ during ++ end ∷ [])) d until ≡ true)
      (enough : length_with κ s ≤ length room) where
    abbrev x : World
    x = after caps w (before ++ start ∷ during ++ end ∷ until)

    writing : Writing d s stamp (read_with κ) (value_of s bytes) y
    writing = under-way e.under_way

    was-written : Written d s stamp y end (next caps y end)
    was-written = ended-write end e

    abbrev last : Ended
    last = was-written.last

    ended_is : after caps w (before ++ start ∷ during ++ end ∷ []) ≡ next caps y end
    unfolding after
    ended_is = after-append caps w (before ++ start ∷ during) (end ∷ [])

    shown-is : x ≡ after caps (next caps y end) until
    unfolding after
    shown-is = after-append caps w (before ++ start ∷ during) (end ∷ until)

    inv-ended : Inv caps (next caps y end)
    inv-ended = subst (λ (q : World). Inv caps q) ended_is
        (after-inv caps w inv (before ++ start ∷ during ++ end ∷ []))

    inv-shown : Inv caps x
    inv-shown = after-inv caps w inv (before ++ start ∷ during ++ end ∷ until)

    -- the client keeps what it wrote
    kept : x.tables.client d ≡ rested (y.tables.client d) last
    kept =
        ap (λ (q : World). q.tables.client d) shown-is
        ∙ at_rest caps (next caps y end) inv-ended d
        (idle-rested (y.tables.client d) last was-written.client) until
        (subst (λ (q : World). rests caps q d until ≡ true) ended_is quietly)
        ∙ was-written.client

    begun : WriteBegun caps w₀ κ d s bytes
    begun = write-begun caps w₀ κ d s bytes e.under_way.accepted

    kind : last.kind ≡ kind_with κ
    kind = was-written.kind
        ∙ rw (ne_eqb (y.tables.client d).write.set 0 writing.mode, writing.reads)
        begun.kind

    reads : last.read.set ≡ read_with κ
    reads = was-written.reads ∙ writing.reads

    set : last.write.set ≡ s
    set = ap (λ (p : WritePart). p.set) was-written.part ∙ writing.is_set

    is_client : IsClient x.tables.sizes d
    is_client = subst (λ z. IsClient z d)
        (after-sizes caps w before
        ∙ sym (after-sizes caps w (before ++ start ∷ during ++ end ∷ until)))
        begun.write.start.client

    valid-here : Valid caps x.tables
    valid-here = inv-shown.sound.valid

    sizes : SizesInRange x.tables.sizes
    sizes = valid-here.in_range.sizes

    range : EndedInRange x.tables.sizes last
    range = subst (λ (c : Client). EndedInRange x.tables.sizes c.last) kept
        (valid-here.in_range.client d is_client).last

    part : WritePartInRange x.tables.sizes last.write
    part = range.write (rw kind (shows-with κ))

    one : d < 256
    one = omega (arith, is_client.1, sizes.clients)

    number_fits_lem : number_of last.write.stamp < 2 ^ 32
    number_fits_lem =
        by-test (eqb last.write.stamp 0)
        (λ z. let q : last.write.stamp ≡ 0 = eqb-true last.write.stamp 0 z in omega arith)
        (λ z. (part.stamp (eqb-false last.write.stamp 0 z)).fits)

    abbrev rest : List ℕ
    rest = drop (length (shown_frame x.tables d)) room

    frame_is : shown_frame x.tables d ≡ frame d last
    frame_is = ap (λ (c : Client). frame d c.last) kept

    frame-length : length (shown_frame x.tables d) ≡ length_with κ s
    frame-length = ap length frame_is
        ∙ long-with x.tables.sizes d last sizes range rest one number_fits_lem κ kind reads
        ∙ ap (length_with κ) set

    accepted : refusal caps x.tables (show d room) ≡ 0
    unfolding is_nothing
    accepted =
        (accepted-show caps x.tables d room).1
        (record {
          valid = valid-here;
          client = is_client;
          idle = idle-rested (y.tables.client d) last kept;
          ended = ap (λ (c : Client). is_nothing c.last) kept ∙ rw kind (some_with κ);
          room = omega (arith, frame-length, enough);
        })

    abbrev output : List ℕ
    output = (step caps x.tables (show d room)).output

    output-is : output ≡ frame d last ++ rest
    unfolding step written
    output-is = rw accepted (ap (λ (f : List ℕ). f ++ rest) frame_is)

    pub own-shown : (step caps x.tables (show d room)).answer ≡ Shown (length_with κ s)
    unfolding step reply
    own-shown = rw accepted (ap Shown frame-length)

    pub own-head : take 10 output ≡ head_with κ d s
    own-head = ap (take 10) output-is
        ∙ head-with x.tables.sizes d last sizes range rest one number_fits_lem κ kind reads
        ∙ ap (head_with κ d) set

    pub own-set : shown_own_set κ output ≡ s
    own-set = ap (shown_own_set κ) output-is
        ∙ set-with x.tables.sizes d last sizes range rest one number_fits_lem κ kind reads ∙ set

    pub own-number : shown_own_number κ output ≡ number_of stamp
    own-number = ap (shown_own_number κ) output-is
        ∙ number-with x.tables.sizes d last sizes range rest one number_fits_lem κ kind reads
        ∙ ap number_of (ap (λ (p : WritePart). p.stamp) was-written.part ∙ writing.is_stamp)

    pub own-values : (k : ℕ) → has s k ≡ true → shown_own_value κ s output k ≡ value_of s bytes k
    own-values k m =
        let member : has last.write.set k ≡ true = rw set m in
        ap₂ (λ (q : ℕ) (o : List ℕ). shown_own_value κ q o k) (sym set) output-is
        ∙ value-with x.tables.sizes d last sizes range rest one number_fits_lem κ kind reads k
        member (part.values k member)
        ∙ ap (λ (f : ℕ → ℕ). f k)
        (ap (λ (p : WritePart). p.values) was-written.part ∙ writing.is_values)

    -- ---- and a later write's number is above it
    pub wins-own : (between : List Call) → shown_own_number κ output < number_of
        (next_stamp (after caps w (before ++ start ∷ during ++ end ∷ until ++ show d room
        ∷ between)).tables d)
    wins-own between =
        let rest = show d room ∷ between in
        rw (
          own-number,
          append_assoc (before ++ start ∷ during) (end ∷ until) rest,
          append_assoc before (start ∷ during) (end ∷ until ++ rest),
        )
        (rising caps w κ d s bytes before e.under_way.accepted
        (during ++ (end ∷ until ++ rest)))
