-- From a transaction's start over a list of calls: a read under way, alone or in a mixed
-- transaction, and a client at rest.
use mathlib.Core.Bool.{true, false, cond, not, ◌&&◌, and-false}
use mathlib.Core.List.{List, [], ◌∷◌, ◌++◌, map, append_assoc, append-nil}
use mathlib.Core.Logic.{◌≢◌}
use mathlib.Core.Path.{◌≡◌, refl, sym, ap, ◌∙◌, subst}
use Prim.Native.Nat.{ℕ, ◌+◌, ◌^◌, ◌<◌}
use native.Mathlib.Omega.{arith}
use lib.Dec.{eqb}
use borrow.Author.Tests.{eqb-true, eq-eqb, ne_eqb}
use Rattle.basics.proofs.Cases.{by-test, not-both, and_left, and_right, and_both, not-true}
use Rattle.basics.proofs.Cases.{eqb_same}
use Rattle.basics.specs.Lists.{counted}
use Rattle.basics.proofs.Lists.{counted-append, counted-map, counted-all, none-counted}
use Rattle.itemset.specs.Set.{has, count, members}
use Rattle.itemset.proofs.Laws.{has-empty, has-below}
use Rattle.itemset.proofs.Counts.{count-empty}
use Rattle.itemset.proofs.Members.{length-members}
use Rattle.protocol.specs.declared.Message.TheVariants.{Prepare, Get}
use Rattle.protocol.specs.Tables.{Client, ReadPart}
use Rattle.protocol.specs.Range.{Capacities, is_idle}
use Rattle.protocol.specs.Steps.{reader, gets, asks, version, value_of, next_stamp, prepares, mixer}
use Rattle.protocol.specs.Steps.{mixed_messages}
use Rattle.protocol.specs.Calls.{Call, refusal, effect}
use Rattle.condition3.specs.World.{World, Labelled, labelled, placed, joining, leaving}
use Rattle.condition3.specs.World.{accepts, moved, next, after, joining_over, leaving_over}
use Rattle.condition3.specs.World.{is_request, delivers, ends_for, stays, starts_for, rests}
use Rattle.protocol.proofs.Put.{put_same}
use Rattle.protocol.proofs.Refusals.{Idle, AcceptedStart, accepted-read, accepted-mixed}
use Rattle.condition3.specs.Condition3.{Manner, start_of, by_view}
use Rattle.condition3.specs.Condition3.Manner.{ordinary, fast, writing}
use Rattle.condition3.proofs.Link.{Inv}
use Rattle.condition3.proofs.Link.Messages.{in-message}
use Rattle.condition3.proofs.Link.Step.{next-inv}
use Rattle.condition3.proofs.Runs.Run.{next-all}
use Rattle.condition3.proofs.Runs.Touch.{refused-outcome, Way, quiet, starts, answers, way}
use Rattle.condition3.proofs.Runs.Touch.{no_answer}
use Rattle.condition3.proofs.Link.Grows.{moved-grows}
use Rattle.condition3.proofs.Link.Asks.{picked, picked-grows}
use Rattle.condition3.proofs.Runs.Replies.{Awaiting, Beside}
use Rattle.condition3.proofs.Runs.ReadSpan.{Reading}
use Rattle.condition3.proofs.Runs.ReadStep.{kind_at, outcome_at, read-goes-on}
use Rattle.condition3.proofs.Runs.Ended.{kind_of, beside_of, outcome_with}

-- ---- a read from its start

-- a client that awaits all of s and has had no reply
pub starts-awaiting : (d s : ℕ) (v : World) (c : Client) → v.tables.client d ≡ c
    → c.read.set ≡ s → c.read.awaited ≡ s → s ≢ 0 → Awaiting d s 0 v []
unfolding counted
starts-awaiting d s v c is set awaited some =
    let here : (v.tables.client d).read.awaited ≡ s =
    ap (λ (x : Client). x.read.awaited) is ∙ awaited in
    record {
      mode = λ z. some (sym (ap (λ (x : Client). x.read.set) is ∙ set) ∙ z);
      set = ap (λ (x : Client). x.read.set) is ∙ set;
      once = λ k. ap (λ (x : ℕ). 0 + cond (has x k) 1 0) here ∙ rw (has-empty k) (omega arith);
      replied = omega (arith, ap count here, count-empty);
    }

-- and all of z beside it
pub starts-beside : (d z : ℕ) (v : World) (c : Client) → v.tables.client d ≡ c
    → c.write.set ≡ z → c.write.awaited ≡ z → Beside d z v []
unfolding counted
starts-beside d z v c is set awaited =
    record {
      set = ap (λ (x : Client). x.write.set) is ∙ set;
      once = λ k. ap (λ (x : ℕ). 0 + cond (has x k) 1 0)
          (ap (λ (x : Client). x.write.awaited) is ∙ awaited) ∙ omega arith;
      prepared = omega (
        arith,
        ap (λ (x : Client). count x.write.awaited) is ∙ ap count awaited,
      );
    }

pub starts-busy : (s : ℕ) (c c' : Client) → c ≡ c' → c'.read.awaited ≡ s → s ≢ 0
    → is_idle c ≡ false
starts-busy s c c' is awaited some =
    ap is_idle is ∙ rw (ap (λ (x : ℕ). eqb x 0) awaited ∙ ne_eqb s 0 some) refl

-- what the start of a read that asks by its view makes: its client's parts, and its requests
pub record Begun (caps : Capacities) (w : World) (μ : Manner) (d s : ℕ) : Type 0 where
  pub start : AcceptedStart caps w.tables d s
  pub client : Client
  pub is_client : (moved w (start_of μ d s)).tables.client d ≡ client
  pub reads : client.read ≡ (reader w.tables d s).read
  pub set : client.write.set ≡ beside_of μ
  pub awaited : client.write.awaited ≡ beside_of μ
  pub kind : kind_at 0 (beside_of μ) ≡ kind_of μ
  pub outcome : outcome_at (beside_of μ) ≡ outcome_with μ
  pub requests : counted (is_request d) (joining w (start_of μ d s)) ≡ count s

-- the gets of a start are one request for each item of its set, and its prepares are none
gets-requested : (w : World) (d s : ℕ) → s < 2 ^ w.tables.sizes.items
    → counted (is_request d) (map (labelled d w.time w.time) (gets w.tables d s)) ≡ count s
gets-requested w d s below =
    counted-map (labelled d w.time w.time) (is_request d) (gets w.tables d s)
    ∙ counted-map (λ k. Get d k (asks w.tables d k))
    (λ m. is_request d (labelled d w.time w.time m))
    (members w.tables.sizes.items s)
    ∙ counted-all (λ k. is_request d (labelled d w.time w.time
    (Get d k (asks w.tables d k)))) (members w.tables.sizes.items s)
    (λ k i. rw (eqb_same d) refl)
    ∙ length-members s w.tables.sizes.items below

mixed-requested : (w : World) (d s z : ℕ) (bytes : List ℕ) → s < 2 ^ w.tables.sizes.items
    → counted (is_request d) (map (labelled d w.time w.time)
    (mixed_messages w.tables d s z bytes)) ≡ count s
mixed-requested w d s z bytes below =
    let label = labelled d w.time w.time in
    let t = w.tables in
    counted-map label (is_request d) (mixed_messages t d s z bytes)
    ∙ counted-append (λ m. is_request d (label m)) (gets t d s) (prepares t d z bytes)
    ∙ omega (
      arith,
      counted-map label (is_request d) (gets t d s),
      gets-requested w d s below,
      counted-map (λ k. Prepare (version k (value_of z bytes k) (next_stamp t d) z))
          (λ m. is_request d (label m)) (members t.sizes.items z),
      none-counted (λ k. is_request d (label (Prepare (version k (value_of z bytes k)
          (next_stamp t d) z)))) (members t.sizes.items z) (λ k i. rw (eqb_same d) refl),
    )

pub begun : (caps : Capacities) (w : World) (μ : Manner) (d s : ℕ) → by_view μ ≡ true
    → refusal caps w.tables (start_of μ d s) ≡ 0 → Begun caps w μ d s
unfolding effect joining
begun caps w ordinary d s is a =
    let start = (accepted-read caps w.tables d s).0 a in
    record {
      start = start;
      client = reader w.tables d s;
      is_client = put_same w.tables.client d (reader w.tables d s);
      reads = refl;
      set = refl;
      awaited = refl;
      kind = refl;
      outcome = refl;
      requests = gets-requested w d s start.set;
    }
begun caps w fast d s is a = not-both is refl
begun caps w (writing z bytes) d s is a =
    let start = (accepted-mixed caps w.tables d s z bytes).0 a in
    let some = ne_eqb z 0 start.write.start.some in
    record {
      start = start.read;
      client = mixer w.tables d s z bytes;
      is_client = put_same w.tables.client d (mixer w.tables d s z bytes);
      reads = refl;
      set = refl;
      awaited = refl;
      kind = rw some refl;
      outcome = rw some refl;
      requests = mixed-requested w d s z bytes start.read.set;
    }

pub read-started : (caps : Capacities) (w : World) → Inv caps w → (μ : Manner) (d s : ℕ)
    → refusal caps w.tables (start_of μ d s) ≡ 0 → Begun caps w μ d s
    → Reading d s 0 0 (beside_of μ) (reader w.tables d s).read.asked
    (moved w (start_of μ d s)) []
read-started caps w inv μ d s accepted b =
    let start = b.start in
    let v = moved w (start_of μ d s) in
    let part : (v.tables.client d).read ≡ (reader w.tables d s).read =
    ap (λ (c : Client). c.read) b.is_client ∙ b.reads in
    let awaits = ap (λ (p : ReadPart). p.awaited) b.reads in
    record {
      awaiting = starts-awaiting d s v b.client b.is_client
          (ap (λ (p : ReadPart). p.set) b.reads) awaits start.some;
      beside = starts-beside d (beside_of μ) v b.client b.is_client b.set b.awaited;
      busy = starts-busy s (v.tables.client d) b.client b.is_client awaits start.some;
      is_stage = ap (λ (p : ReadPart). p.stage) part;
      by_stamp = λ z. absurd (omega (arith, ap (λ (p : ReadPart). p.stage) part));
      asks = ap (λ (p : ReadPart). p.asked) part;
      picked = picked-grows w v (moved-grows caps w (start_of μ d s) accepted) s
          (reader w.tables d s).read.asked
          (picked caps w inv (w.tables.view d)
          (λ j l. inv.sound.view d j start.client l) s (reader w.tables d s).read.asked
          (λ k m. has-below s k w.tables.sizes.items start.set m) (λ k m. rw m refl));
      answered = λ k e f. not-both e (sym (ap (λ (p : ReadPart). has p.awaited k) part) ∙ f);
    }

-- ---- while no call ends it

pub read-during : (caps : Capacities) (v : World) → Inv caps v
    → (d s stage again z : ℕ) (asked : ℕ → ℕ) (left : List Labelled)
    → Reading d s stage again z asked v left
    → (cs : List Call) → stays caps v d cs ≡ true
    → Reading d s stage again z asked (after caps v cs) (left ++ leaving_over caps v cs)
    × (counted (is_request d) (joining_over caps v cs) ≡ 0)
unfolding after leaving_over joining_over stays counted
read-during caps v inv d s stage again z asked left r [] e = (
  subst (λ (l : List Labelled). Reading d s stage again z asked v l) (sym (append-nil left)) r,
  refl,
)
read-during caps v inv d s stage again z asked left r (c ∷ cs) e =
    let open' : ends_for caps v d c ≡ false =
    not-true (ends_for caps v d c)
    (and_left (not (ends_for caps v d c)) (stays caps (next caps v c) d cs) e) in
    let one = read-goes-on caps v inv d s stage again z asked left r c open' in
    let rest = read-during caps (next caps v c) (next-inv caps v inv c) d s stage again z asked
    (left ++ cond (accepts caps v c) (leaving v c) []) one.0 cs
    (and_right (not (ends_for caps v d c)) (stays caps (next caps v c) d cs) e) in (
      subst
          (λ (l : List Labelled). Reading d s stage again z asked (after caps (next caps v c) cs) l)
          (append_assoc left (cond (accepts caps v c) (leaving v c) [])
          (leaving_over caps (next caps v c) cs)) rest.0,
      counted-append (is_request d) (cond (accepts caps v c) (joining v c) [])
          (joining_over caps (next caps v c) cs) ∙ omega (arith, one.1, rest.1),
    )

-- ---- a client at rest: while it starts nothing, its record stays

module _ (caps : Capacities) (v : World) (inv : Inv caps v) (d : ℕ)
    (rested : Idle (v.tables.client d)) where
  rest-way : {c : Call} → refusal caps v.tables c ≡ 0
      → (accepts caps v c && starts_for v d c) ≡ false → Way caps v inv d c
      → (effect v.tables c).client d ≡ v.tables.client d
  rest-way a f (quiet c q) = q.client
  rest-way a f (starts c t) = not-both
      (and_both (accepts caps v c) (starts_for v d c) (eq-eqb (refusal caps v.tables c) 0 a) t) f
  rest-way a f (answers i here t) =
      absurd (no_answer caps inv.ledger v.tables inv.sound (placed v i).message
      (in-message caps v inv (placed v i) here) d t rested)

  rest-step : (c : Call) → (accepts caps v c && starts_for v d c) ≡ false
      → (next caps v c).tables.client d ≡ v.tables.client d
  rest-step c f =
      next-all caps (λ (x : World). x.tables.client d ≡ v.tables.client d) v c
      (λ a. rest-way a f (way caps v inv d c a)) refl

-- and no delivery reports an end of its
rest-silent : (caps : Capacities) (v : World) → Inv caps v → (d : ℕ) → Idle (v.tables.client d)
    → (c : Call)
    → (accepts caps v c && starts_for v d c) ≡ false → ends_for caps v d c ≡ false
rest-silent caps v inv d m c f =
    by-test (accepts caps v c)
    (λ t. let a = eqb-true (refusal caps v.tables c) 0 t in
    by_way a f (way caps v inv d c a))
    (λ t. rw (refused-outcome caps v c t) (and-false (delivers v d c)))
  where
    by_way : {x : Call} → refusal caps v.tables x ≡ 0
        → (accepts caps v x && starts_for v d x) ≡ false → Way caps v inv d x
        → ends_for caps v d x ≡ false
    by_way a f (quiet x q) = q.ends
    by_way a f (starts x t) = not-both
        (and_both (accepts caps v x) (starts_for v d x) (eq-eqb (refusal caps v.tables x) 0 a) t)
        f
    by_way a f (answers i here t) =
        absurd (no_answer caps inv.ledger v.tables inv.sound (placed v i).message
        (in-message caps v inv (placed v i) here) d t m)

pub rest-stays : (caps : Capacities) (v : World) → Inv caps v → (d : ℕ) → Idle (v.tables.client d)
    → (cs : List Call) → rests caps v d cs ≡ true
    → stays caps v d cs ≡ true
unfolding stays rests
rest-stays caps v inv d m [] e = refl
rest-stays caps v inv d m (c ∷ cs) e =
    let f : (accepts caps v c && starts_for v d c) ≡ false =
    not-true (accepts caps v c && starts_for v d c)
    (and_left (not (accepts caps v c && starts_for v d c)) (rests caps (next caps v c) d cs) e) in
    let one = rest-step caps v inv d m c f in
    rw (rest-silent caps v inv d m c f)
    (rest-stays caps (next caps v c) (next-inv caps v inv c) d (subst Idle (sym one) m) cs
    (and_right (not (accepts caps v c && starts_for v d c)) (rests caps (next caps v c) d cs) e))

pub at_rest : (caps : Capacities) (v : World) → Inv caps v → (d : ℕ) → Idle (v.tables.client d)
    → (cs : List Call) → rests caps v d cs ≡ true
    → (after caps v cs).tables.client d ≡ v.tables.client d
unfolding after rests
at_rest caps v inv d m [] e = refl
at_rest caps v inv d m (c ∷ cs) e =
    let f : (accepts caps v c && starts_for v d c) ≡ false =
    not-true (accepts caps v c && starts_for v d c)
    (and_left (not (accepts caps v c && starts_for v d c)) (rests caps (next caps v c) d cs) e) in
    let one = rest-step caps v inv d m c f in
    at_rest caps (next caps v c) (next-inv caps v inv c) d (subst Idle (sym one) m) cs
    (and_right (not (accepts caps v c && starts_for v d c)) (rests caps (next caps v c) d cs) e)
    ∙ one
