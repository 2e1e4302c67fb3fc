-- What a read, in any manner, shows once it has ended: the stamps it chose and the values of their
-- writes, read off the output bytes.
use mathlib.Core.Bool.{true}
use mathlib.Core.List.{List, [], ◌∷◌, ◌++◌}
use mathlib.Core.Logic.{◌⊎◌, inl, inr, ⊎_elim}
use mathlib.Core.Path.{◌≡◌, refl, sym, ap, ◌∙◌, subst}
use Prim.Native.Nat.{ℕ, ◌+◌, ◌*◌, ◌^◌, ◌≤◌, ◌<◌}
use native.Mathlib.Nat.{le_trans}
use native.Mathlib.Omega.{arith}
use lib.Dec.{eqb}
use lib.ListN.{length}
use borrow.Author.Tests.{eqb-true}
use Rattle.basics.proofs.Cases.{not-both, or_cases}
use Rattle.basics.specs.Lists.{In}
use Rattle.hexadecimal.specs.Number.{big_endian}
use Rattle.itemset.specs.Set.{has, count}
use Rattle.itemset.proofs.Laws.{has-empty, has-below, below-le}
use Rattle.protocol.specs.Tables.{Sizes, Ended, shows_read, rested, number_of, writer_of}
use Rattle.protocol.specs.Message.{parts_of}
use Rattle.protocol.specs.Range.{Capacities}
use Rattle.protocol.specs.LogFrame.{frame_byte, frame}
use Rattle.protocol.specs.Steps.{next_stamp}
use Rattle.protocol.specs.Calls.{Call, show, step, written}
use Rattle.condition3.specs.World.{World, Labelled, Write, Store, leaving, moved, after}
use Rattle.condition3.specs.World.{stays, rests}
use Rattle.condition3.specs.Condition3.{Manner, start_of, byte_of, length_of, by_view}
use Rattle.condition3.specs.Condition3.{StoredBefore, LastReply, answered_at, came}
use Rattle.condition3.specs.Condition3.{shown_number, shown_writer, shown_value, Initial}
use Rattle.condition3.specs.Condition3.{ShownWith, ShownOlder, Own, Shows}
use Rattle.condition3.specs.Condition3.Manner.{ordinary, fast, writing}
use Rattle.protocol.proofs.Known.{greatest-ge}
use Rattle.protocol.proofs.Ranges.Values.{SizesInRange, IsClient}
use Rattle.protocol.proofs.Ranges.Clients.{EndedInRange}
use Rattle.protocol.proofs.Shown.{length-frame-read, length-frame-mixed}
use Rattle.protocol.proofs.Refusals.{AcceptedStart, idle-rested}
use Rattle.condition3.proofs.Link.{Inv}
use Rattle.condition3.proofs.Link.Asks.{Picked}
use Rattle.condition3.proofs.Runs.Run.{after-append, after-inv, after-sizes, after-view}
use Rattle.condition3.proofs.Runs.Run.{longer-view, after-known, after-stores}
use Rattle.condition3.proofs.Runs.Replies.{Answer}
use Rattle.condition3.proofs.Runs.ReadStep.{Finished, was_read}
use Rattle.condition3.proofs.Runs.Spans.{at_rest, rest-stays}
use Rattle.condition3.proofs.Runs.Ended.{by-manner, kind_of, beside_of, EndedRead}
use Rattle.condition3.proofs.Runs.Fresh.{first, answered, then, asked-then, then-time}
use Rattle.condition3.proofs.Runs.Fresh.{then-stamp}
use Rattle.condition3.proofs.Runs.Own.{own-seen}
use Rattle.condition3.proofs.Runs.Shows.{answer-is, head-is, number_is, writer-is, value-is}
use Rattle.condition3.proofs.Runs.ReadCounts.{after-start, after-span}
use Rattle.condition3.proofs.Common.{known, origin}

-- how long the frame of a read of s is, beside a write of what its manner says
frame-long : (μ : Manner) (z : Sizes) (d : ℕ) (e : Ended) → e.kind ≡ kind_of μ
    → e.write.set ≡ beside_of μ → SizesInRange z → EndedInRange z e
    → length (frame d e) ≡ length_of μ e.read.set
frame-long μ z d e kind beside sizes range = go μ kind beside
  where
    below : (s : ℕ) → s < 2 ^ z.items → s < 2 ^ 64
    below s l = below-le s z.items 64 l sizes.items

    go : (ν : Manner) → e.kind ≡ kind_of ν → e.write.set ≡ beside_of ν
        → length (frame d e) ≡ length_of ν e.read.set
    go ordinary k b = length-frame-read d e (rw k refl) (rw k refl)
        (below e.read.set (range.read (rw k refl)).set)
    go fast k b = length-frame-read d e (rw k refl) (rw k refl)
        (below e.read.set (range.read (rw k refl)).set)
    go (writing y bytes) k b =
        length-frame-mixed d e k (below e.read.set (range.read (rw k refl)).set)
        (below e.write.set (range.write (rw k refl)).set)
        ∙ ap (λ (x : ℕ). 22 + 9 * count e.read.set + 4 * count x) b

-- ---- stamps by their parts

parts_same : (a b : ℕ) → number_of a ≡ number_of b → writer_of a ≡ writer_of b → a ≡ b
parts_same a b p q = omega arith

pub parts-less : (a b : ℕ) → (number_of a < number_of b)
    ⊎ ((number_of a ≡ number_of b) × (writer_of a < writer_of b)) → a < b
parts-less a b (inl p) = omega arith
parts-less a b (inr p) = omega (arith, p.0, p.1)

-- ---- a read of s by client d, ended and then shown

module _ (caps : Capacities) (w : World) (inv : Inv caps w) (μ : Manner) (d s : ℕ)
    (before during : List Call) (end : Call) (r : EndedRead caps w μ d s before during end)
    (until rest : List Call) (room : List ℕ)
    (quietly : rests caps (after caps w (before ++ start_of μ d s ∷ during ++ end ∷ [])) d until
    ≡ true)
    (enough : length_of μ s ≤ length room) where
  abbrev w₁ : World
  w₁ = after caps w before

  abbrev v : World
  v = after caps w (before ++ start_of μ d s ∷ during)

  abbrev x : World
  x = after caps w (before ++ start_of μ d s ∷ during ++ end ∷ until)

  abbrev stamps : ℕ → ℕ
  stamps = r.stamps

  done : Finished caps d s (kind_of μ) r.again (beside_of μ) stamps v end r.left
  done = r.done

  start : AcceptedStart caps w₁.tables d s
  start = r.start

  -- the world right after the end, and the one in which it is shown
  ended_is : after caps w (before ++ start_of μ d s ∷ during ++ end ∷ []) ≡ moved v end
  ended_is = after-start caps w (before ++ start_of μ d s ∷ during) end done.accepted

  shown-is : x ≡ after caps (moved v end) until
  shown-is = after-span caps w (before ++ start_of μ d s ∷ during) until end done.accepted

  inv-ended : Inv caps (moved v end)
  inv-ended = subst (λ (y : World). Inv caps y) ended_is
      (after-inv caps w inv (before ++ start_of μ d s ∷ during ++ end ∷ []))

  inv-shown : Inv caps x
  inv-shown = after-inv caps w inv (before ++ start_of μ d s ∷ during ++ end ∷ until)

  -- the client keeps what it read
  abbrev last : Ended
  last = was_read (kind_of μ) s stamps done.values (v.tables.client d).write

  kept : x.tables.client d ≡ rested (v.tables.client d) last
  kept =
      ap (λ (y : World). y.tables.client d) shown-is
      ∙ at_rest caps (moved v end) inv-ended d
      (idle-rested (v.tables.client d) _ done.client) until
      (subst (λ (y : World). rests caps y d until ≡ true) ended_is quietly)
      ∙ done.client

  sizes-same : x.tables.sizes ≡ w₁.tables.sizes
  sizes-same = after-sizes caps w (before ++ start_of μ d s ∷ during ++ end ∷ until)
      ∙ sym (after-sizes caps w before)

  is_client : IsClient x.tables.sizes d
  is_client = subst (λ z. IsClient z d) (sym sizes-same) start.client

  -- its kind shows a read part
  shows-part : shows_read (kind_of μ) ≡ true
  shows-part = by-manner (λ ν. shows_read (kind_of ν) ≡ true) refl refl (λ z bytes. refl) μ

  long : SizesInRange x.tables.sizes → EndedInRange x.tables.sizes last
      → length (frame d last) ≡ length_of μ s
  long = frame-long μ x.tables.sizes d last refl done.beside

  abbrev output : List ℕ
  output = (step caps x.tables (show d room)).output

  pub number-shown : (k : ℕ) → has s k ≡ true → shown_number s output k ≡ number_of (stamps k)
  number-shown k m = number_is caps x inv-shown d (v.tables.client d) last
      room is_client shows-part kept (length_of μ s) long enough k m

  pub writer-shown : (k : ℕ) → has s k ≡ true → shown_writer s output k ≡ writer_of (stamps k)
  writer-shown k m = writer-is caps x inv-shown d (v.tables.client d) last
      room is_client shows-part kept (length_of μ s) long enough k m

  shown-with : (k : ℕ) → has s k ≡ true → (a : ℕ) → ShownWith s output k a → stamps k ≡ a
  shown-with k m a p = parts_same (stamps k) a (sym (number-shown k m) ∙ p.0)
      (sym (writer-shown k m) ∙ p.1)

  shown-older : (k : ℕ) → has s k ≡ true → (a : ℕ) → ShownOlder s output k a → stamps k < a
  shown-older k m a p =
      parts-less (stamps k) a
      (rw (← number-shown k m, ← writer-shown k m) p)

  -- ---- against the history of the whole list
  abbrev calls : List Call
  calls = before ++ start_of μ d s ∷ during ++ end ∷ until ++ show d room ∷ rest

  abbrev final : World
  final = after caps w calls

  inv-final : Inv caps final
  inv-final = after-inv caps w inv calls

  -- what was known at the end still is
  final-is : final ≡ after caps (moved v end) (until ++ show d room ∷ rest)
  final-is =
      after-append caps w (before ++ start_of μ d s ∷ during ++ end ∷ until) (show d room ∷ rest)
      ∙ ap (λ (y : World). after caps y (show d room ∷ rest)) shown-is
      ∙ sym (after-append caps (moved v end) until (show d room ∷ rest))

  known-ended : (a : Write) → In a (known (moved v end).writes) → In a (known final.writes)
  known-ended a i = subst (λ (y : World). In a (known y.writes)) (sym final-is)
      (after-known caps (moved v end) (until ++ show d room ∷ rest) a i)

  stores-ended : (σ : Store) → In σ (moved v end).stores → In σ final.stores
  stores-ended σ i = subst (λ (y : World). In σ y.stores) (sym final-is)
      (after-stores caps (moved v end) (until ++ show d room ∷ rest) σ i)

  -- what it chose
  abbrev chose : Picked (moved v end).writes s stamps
  chose = done.picked

  unfractured : (a : Write) → In a final.writes → (j k : ℕ) → has s j ≡ true → has s k ≡ true
      → ShownWith s output j a.stamp → has a.set j ≡ true → has a.set k ≡ true
      → ShownOlder s output k a.stamp → ⊥
  unfractured a i j k mj mk with-a hj hk older =
      let same : stamps j ≡ a.stamp = shown-with j mj a.stamp with-a in
      let less : stamps k < a.stamp = shown-older k mk a.stamp older in
      let b : Write = chose.write j mj in
      let is : b ≡ a = inv-final.unique b a (known-ended b (chose.is_known j mj)) (inr i)
      (chose.same j mj ∙ same) in
      omega (
        arith,
        chose.not_older j k mj mk (subst (λ (z : Write). has z.set k ≡ true) (sym is) hk),
      )

  -- ---- every entry is initial, or what a write put there, stored before the partition answered
  answer : (k : ℕ) → has s k ≡ true
      → Answer (moved v end) d k (stamps k) (done.values k) (r.left ++ leaving v end)
  answer k m = done.answered k m

  abbrev Written : (k : ℕ) → has s k ≡ true → Type 0
  Written k m =
      (a : Write) × In a final.writes × ShownWith s output k a.stamp × (has a.set k ≡ true)
      × (a.values k ≡ shown_value s output k)
      × StoredBefore final.stores a (answered_at (answer k m).reply)

  value-shown : (k : ℕ) → has s k ≡ true → shown_value s output k ≡ done.values k
  value-shown k m = value-is caps x inv-shown d (v.tables.client d) last
      room is_client shows-part kept (length_of μ s) long enough k m

  -- the write that answered item k, as the whole list knows it, is the one chosen
  chosen : (k : ℕ) (m : has s k ≡ true) → chose.write k m ≡ (answer k m).write
  chosen k m =
      inv-final.unique (chose.write k m) (answer k m).write
      (known-ended (chose.write k m) (chose.is_known k m))
      (known-ended (answer k m).write (answer k m).is_known)
      (chose.same k m ∙ sym (answer k m).same)

  is-initial : (k : ℕ) (m : has s k ≡ true) → stamps k ≡ 0 → Initial s output k
  is-initial k m z =
      let first : (answer k m).write ≡ origin =
      inv-final.unique (answer k m).write origin
      (known-ended (answer k m).write (answer k m).is_known) (inl refl)
      ((answer k m).same ∙ z) in (
        number-shown k m ∙ ap number_of z,
        writer-shown k m ∙ ap writer_of z,
        value-shown k m ∙ sym (answer k m).brings ∙ ap (λ (a : Write). a.values k) first,
      )

  -- a write with items is no initial one
  listed : (a : Write) (k : ℕ) → has a.set k ≡ true → In a (known final.writes)
      → In a final.writes
  listed a k h (inl e) = not-both (subst (λ (z : Write). has z.set k ≡ true) e h) (has-empty k)
  listed a k h (inr i) = i

  is-written : (k : ℕ) (m : has s k ≡ true) → has (answer k m).write.set k ≡ true
      → Written k m
  is-written k m h =
      let y = answer k m in (
        y.write,
        listed y.write k h (known-ended y.write y.is_known),
        (
          number-shown k m ∙ ap number_of (sym y.same),
          writer-shown k m
              ∙ ap writer_of (sym y.same),
        ),
        h,
        y.brings ∙ sym (value-shown k m),
        λ j q. let σ = y.landed j q in (σ.0, stores-ended σ.0 σ.1, σ.2, σ.3, σ.4),
      )

  written-or-initial : (k : ℕ) (m : has s k ≡ true) → Initial s output k ⊎ Written k m
  written-or-initial k m =
      ⊎_elim (λ z. inl (is-initial k m (eqb-true (stamps k) 0 z)))
      (λ h. inr (is-written k m (subst (λ (a : Write). has a.set k ≡ true) (chosen k m) h)))
      (or_cases (eqb (stamps k) 0) (has (chose.write k m).set k) (chose.mine k m))

  -- the last reply for the item brought it
  last-reply : (k : ℕ) (m : has s k ≡ true) → LastReply d k (came caps w (start_of μ d s) before
      (during ++ end ∷ [])) (answer k m).reply
  last-reply k m = subst (λ (ls : List Labelled). LastReply d k ls (answer k m).reply)
      (sym r.left_all) (answer k m).last

  reply-shown : (k : ℕ) (m : has s k ≡ true)
      → ShownWith s output k (parts_of (answer k m).reply.message).stamp
  reply-shown k m = (
    number-shown k m ∙ ap number_of (sym (answer k m).holds),
    writer-shown k m ∙ ap writer_of (sym (answer k m).holds),
  )

  -- ---- the view has what is shown

  pub shown-seen : (k : ℕ) → has s k ≡ true → stamps k ≤ (x.tables.view d k).stamp
  shown-seen k m =
      subst (λ (y : World). stamps k ≤ (y.tables.view d k).stamp) (sym shown-is)
      (le_trans (answer k m).seen (after-view caps (moved v end) until d k))

  -- ---- no entry of a read by the view is older than a write that counted as its client's own
  -- before

  own : by_view μ ≡ true → (o z : ℕ) (bytes : List ℕ) (earlier : List Call)
      → Own caps w o z bytes earlier d before → (k : ℕ) → has s k ≡ true → has z k ≡ true
      → ShownOlder s output k (next_stamp (after caps w earlier).tables o) → ⊥
  own is o z bytes earlier counts k m h older =
      let stamp = next_stamp (after caps w earlier).tables o in
      let less : stamps k < stamp = shown-older k m stamp older in
      omega (arith, own-seen caps w inv o z bytes earlier counts k h, r.late is k m)

  -- ---- its client's later writes are later than all it shows

  -- the view has it, and a write's number is above all of the view
  pub wins : (between : List Call) (k : ℕ) → has s k ≡ true → ShownOlder s output k
      (next_stamp (after caps w (before ++ start_of μ d s ∷ during ++ end ∷ until ++ show d room
      ∷ between)).tables d)
  wins between k m =
      let y : World = after caps w (before ++ start_of μ d s ∷ during ++ end ∷ until ++ show d room
      ∷ between) in
      let items = y.tables.sizes.items in
      let small : d < 16 = omega (arith, start.client.1, start.valid.in_range.sizes.clients) in
      let same : y.tables.sizes ≡ w₁.tables.sizes =
      after-sizes caps w (before ++ start_of μ d s ∷ during ++ end ∷ until ++ show d room ∷ between)
      ∙ sym (after-sizes caps w before) in
      let below : k < items = subst (λ (z : Sizes). k < z.items) (sym same)
      (has-below s k w₁.tables.sizes.items start.set m) in
      let seen : stamps k ≤ (y.tables.view d k).stamp = le_trans (shown-seen k m)
      (longer-view caps w (before ++ start_of μ d s ∷ during ++ end ∷ until) (show d room ∷ between)
      d k) in
      inl (omega (
        arith,
        number-shown k m,
        small,
        seen,
        greatest-ge (y.tables.view d) items k below,
      ))

  -- ---- and no delivery reports its end again, up to the client's next start
  pub silent : stays caps (after caps w (before ++ start_of μ d s ∷ during ++ end ∷ [])) d until
      ≡ true
  silent =
      rest-stays caps (after caps w (before ++ start_of μ d s ∷ during ++ end ∷ []))
      (after-inv caps w inv (before ++ start_of μ d s ∷ during ++ end ∷ [])) d
      (idle-rested (v.tables.client d) _
      (ap (λ (y : World). y.tables.client d) ended_is ∙ done.client)) until
      quietly

  pub shows : Shows caps w calls μ d s before during end until room
  shows =
      record {
        shown = answer-is caps x inv-shown d (v.tables.client d) last
            room is_client shows-part kept (length_of μ s) long enough;
        head = head-is caps x inv-shown d (v.tables.client d) last
            room is_client shows-part kept (length_of μ s) long enough
            ∙ ap (λ (b : ℕ). b ∷ d ∷ big_endian 8 s)
            (by-manner (λ ν. frame_byte (kind_of ν) ≡ byte_of ν) refl refl (λ z bytes. refl) μ);
        unfractured = unfractured;
        written = λ k m. (
          (answer k m).reply,
          last-reply k m,
          reply-shown k m,
          value-shown k m ∙ sym (answer k m).bears,
          written-or-initial k m,
        );
        own = own;
        fresh = λ is k m.
            let y = answered caps w inv μ d s before during end r is k m in
            let v = then caps w inv μ d s before during end r is k m in (
              (first caps w inv μ d s before during end r is k m).reply,
              (first caps w inv μ d s before during end r is k m).is_left,
              (first caps w inv μ d s before during end r is k m).is_for,
              (
                y.early,
                y.late,
                (
                  y.place,
                  y.splits,
                  asked-then caps w inv μ d s before during end r is k m,
                  then-time caps w inv μ d s before during end r is k m,
                  then-stamp caps w inv μ d s before during end r is k m,
                  λ older. let less : stamps k < (v.tables.latest k).stamp =
                      shown-older k m (v.tables.latest k).stamp older in
                      omega (
                        arith,
                        less,
                        then-stamp caps w inv μ d s before during end r is k m,
                        (first caps w inv μ d s before during end r is k m).not_later,
                      ),
                ),
              ),
            );
      }
