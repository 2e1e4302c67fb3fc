-- A transaction's end on the block is its end in the tables: the client rests, with its last ended
-- transaction.
use mathlib.Core.Bool.{true, false}
use mathlib.Core.List.{List}
use mathlib.Core.Path.{◌≡◌, ap, ◌∙◌}
use Prim.Native.Nat.{ℕ, ◌^◌, ◌≤◌, ◌<◌}
use native.Mathlib.Omega.{arith}
use lib.Dec.{eqb, lit<}
use Rattle.basics.proofs.Cases.{by-test, and_left, and_right}
use Rattle.basics.specs.Fold.{up_to}
use Rattle.itemset.specs.Set.{has}
use Rattle.itemset.proofs.Laws.{has-below}
use Rattle.itemset.proofs.Pass.{filled, filled_at, filled-below}
use Rattle.protocol.specs.Tables.{Tables, Client, rested, with_client, with_view}
use Rattle.protocol.specs.Range.{is_writing}
use Rattle.protocol.specs.Steps.{ended as last_of, seen}
use Rattle.layout.specs.Layout.{scalars, asked, values, at, mode_at, low_half, high_half}
use Rattle.layout.specs.Encodes.{writes_alone, number_of_mode, Encodes, HoldsClient}
use Rattle.layout.proofs.Room.{NarrowClient, HasRoom, room-client}
use Rattle.layout.proofs.ClientWords.{Words}
use Rattle.layout.proofs.Changed.{Changed, changed-none, changed-put, encodes-changed}
use Rattle.ends.specs.Ends.{read_kind, see_item, read_ended, write_kept}
use Rattle.ends.specs.Ends.{mixed_kept}
use Rattle.ends.proofs.Seen.{encodes-seen}
use Rattle.ends.proofs.Copied.{values-taken, answers-taken}
use Rattle.ends.proofs.Rests.{ended-changed, narrow-last, rests-read, rests-write}
use Rattle.ends.proofs.Rests.{rests-mixed}

-- ---- a write: its values go over, and the view takes it

pub encodes-write-kept : {b : List ℕ} {t : Tables} (d stamp : ℕ) → Encodes b t → HasRoom t → 1 ≤ d
    → d ≤ t.sizes.clients
    → writes_alone (t.client d) ≡ true → number_of_mode (t.client d) ≡ 2
    → (t.client d).write.set < 2 ^ t.sizes.items
    → (t.client d).write.stamp ≡ stamp
    → Encodes (write_kept b t.sizes.items d (t.client d).write.set stamp)
    (with_view (with_client t d (rested (t.client d) (last_of (t.client d)))) d
    (seen (t.view d) (t.client d).write.set stamp))
unfolding write_kept
encodes-write-kept {b} {t} d stamp n r first last alone mode set own =
    let c = t.client d in
    let writes = and_left (is_writing c) (eqb c.read.set 0) alone in
    let s = c.write.set in
    let items = t.sizes.items in
    let b₁ = up_to (see_item d s stamp) b items in
    let e : Encodes b₁ (with_view t d (seen (t.view d) s stamp)) =
    encodes-seen d s stamp n r first last in
    let h : HoldsClient b₁ d c = e.client d first last in
    let v = values-taken s (changed-none d b₁ first (omega (arith, r.clients)) e.long) items
    r.items in
    encodes-changed e r last (changed-put (ended-changed 2 s v) scalars 7 stamp (lit< tt))
    (narrow-last c (r.client d first last))
    (rests-write _ c stamp own writes (and_right (is_writing c) (eqb c.read.set 0) alone)
    h.count
    (λ k m. let kept = (h.write writes).values k m in
    let number : at b₁ scalars (mode_at d) ≡ 2 = h.mode ∙ mode in
    filled_at s _ _ items k (has-below s k items set m) m ∙ (rw number at kept)))

-- ---- a read of client c: its stamps and answers go over

pub encodes-read-ended : {a b : List ℕ} {t : Tables} {d : ℕ} {w : Words} (c : Client)
    → Encodes a t → HasRoom t → NarrowClient c
    → d ≤ t.sizes.clients → c.read.set < 2 ^ t.sizes.items → Changed d a b w
    → read_kind (w scalars 0) ≡ (last_of c).kind
    → is_writing c ≡ false → w scalars 1 ≡ c.count → w scalars 2 ≡ c.read.set
    → ((k : ℕ) → has c.read.set k ≡ true → w asked k ≡ c.read.asked k)
    → ((k : ℕ) → has c.read.set k ≡ true → w values k ≡ c.read.values k)
    → Encodes (read_ended b t.sizes.items d) (with_client t d (rested c (last_of c)))
unfolding read_ended
encodes-read-ended {a} {b} {t} {d} {w} c n r narrow last set ch kinds reads counted same asks
    answers =
    let s = c.read.set in
    let items = t.sizes.items in
    let kind = read_kind (w scalars 0) in
    let v = answers-taken s ch items r.items in
    rw (ch.words.row scalars 2 (lit< tt) ∙ same, ch.words.row scalars 0 (lit< tt))
    (encodes-changed n r last (ended-changed kind s v) (narrow-last c narrow)
    (rests-read _ c kind kinds reads counted
    (λ k m. filled_at s _ _ items k (has-below s k items set m) m ∙ asks k m)
    (λ k m. filled_at s _ _ items k (has-below s k items set m) m ∙ answers k m)))

-- ---- a mixed transaction of client c: its stamps, answers and values go over, and the view takes
-- it

-- an item of either set takes its word
both-filled : (r s items : ℕ) (f g : ℕ → ℕ) (k : ℕ) → k < items → has r k ≡ true
    → filled s items (filled r items f g) g k ≡ g k
both-filled r s items f g k l e =
    by-test (has s k) (λ m. filled_at s _ _ items k l m)
    (λ m. filled-below s (filled r items f g) g items k l ∙ rw m (filled_at r f g items k l e))

pub encodes-mixed-kept : {a b : List ℕ} {t : Tables} {d : ℕ} {w : Words} (c : Client)
    → Encodes a t → HasRoom t → NarrowClient c
    → d ≤ t.sizes.clients → c.read.set < 2 ^ t.sizes.items
    → c.write.set < 2 ^ t.sizes.items → Changed d a b w
    → is_writing c ≡ true → eqb c.read.set 0 ≡ false → w scalars 1 ≡ c.count
    → ((k : ℕ) → has c.read.set k ≡ true → w asked k ≡ c.read.asked k)
    → ((k : ℕ) → has c.read.set k ≡ true → low_half (w values k) ≡ c.read.values k)
    → ((k : ℕ) → has c.write.set k ≡ true → high_half (w values k) ≡ c.write.values k)
    → Encodes
    (mixed_kept b t.sizes.items d c.read.set c.write.set c.write.stamp)
    (with_view (with_client t d (rested c (last_of c))) d
    (seen (t.view d) c.write.set c.write.stamp))
unfolding mixed_kept
encodes-mixed-kept {a} {b} {t} {d} {w} c n r narrow last reads writes ch writing some counted asks
    answers kept =
    let q = c.read.set in
    let s = c.write.set in
    let items = t.sizes.items in
    let v = values-taken s (answers-taken q ch items r.items) items r.items in
    let rest = narrow-last c narrow in
    let over = encodes-changed n r last
    (changed-put (changed-put (ended-changed 4 q v) scalars 7 c.write.stamp (lit< tt)) scalars
    10 s (lit< tt)) rest
    (rests-mixed _ c writing some counted
    (λ k m. filled_at q _ _ items k (has-below q k items reads m) m ∙ asks k m)
    (λ k m. ap low_half (both-filled q s items _ _ k (has-below q k items reads m) m)
    ∙ answers k m)
    (λ k m. ap high_half (filled_at s _ _ items k (has-below s k items writes m) m) ∙ kept k m)) in
    encodes-seen d s c.write.stamp over (room-client t d (rested c (last_of c)) r rest)
    ch.first last
