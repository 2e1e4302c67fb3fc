-- What a write sends, alone or in a mixed transaction: one prepare for each item with its start, no
-- commit while it is under way, and its commits with its end.
use mathlib.Core.Bool.{Bool, true, false, cond, not, ◌&&◌}
use mathlib.Core.List.{List, [], ◌∷◌, ◌++◌, map, append_assoc}
use mathlib.Core.Path.{◌≡◌, refl, sym, ap, ◌∙◌, subst}
use Prim.Native.Nat.{ℕ, ◌^◌, ◌≤◌, ◌<◌}
use native.Mathlib.Omega.{arith}
use lib.Dec.{eqb}
use borrow.Author.Tests.{eqb-true, eq-eqb}
use Rattle.basics.proofs.Cases.{by-test, not-both, and_left, and_right, not-true, eqb_same}
use Rattle.basics.specs.Lists.{counted}
use Rattle.basics.proofs.Lists.{counted-append, counted-map, counted-ext, none-counted}
use Rattle.basics.proofs.Lists.{counted_none}
use Rattle.itemset.specs.Set.{has, count, members}
use Rattle.protocol.specs.declared.Message.{Message}
use Rattle.protocol.specs.declared.Message.TheVariants.{Prepare, Prepared, Commit, Get, Got}
use Rattle.protocol.specs.declared.Message.TheVariants.{FirstGet, FirstReply}
use Rattle.protocol.specs.Tables.{Tables, of_read, of_write, writer_of, is_second_part}
use Rattle.protocol.specs.Message.{is_prepare, is_commit, item_of}
use Rattle.protocol.specs.Range.{Capacities}
use Rattle.protocol.specs.FastRead.{first_replied, first_gets}
use Rattle.protocol.specs.Steps.{is_last, answer_of, joined, message_at, gets, prepares, mixed_messages}
use Rattle.protocol.specs.Steps.{next_stamp, commits, value_of, version}
use Rattle.protocol.specs.Calls.{Call, deliver, refusal, outcome_of, step}
use Rattle.condition3.specs.World.{World, Labelled, labelled, placed, joining, accepts, moved}
use Rattle.condition3.specs.World.{next}
use Rattle.condition3.specs.World.{after, joining_over, is_prepare_of, is_commit_of, outcome_in}
use Rattle.condition3.specs.World.{is_prepare_for}
use Rattle.condition3.specs.World.{delivers, ends_for, stays, starts_for}
use Rattle.condition3.specs.Condition3.{Company, start_with, UnderWay, now, sent}
use Rattle.condition3.specs.Condition3.Company.{alone, reading}
use Rattle.protocol.proofs.Put.{by_cond}
use Rattle.protocol.proofs.Each.{Each, each_none, each-one, each-upto, each_append}
use Rattle.protocol.proofs.Delivered.{joined-prepare}
use Rattle.protocol.proofs.Occupied.{counted-prepares, counted-mixed}
use Rattle.protocol.proofs.Sorts.{Sort, reads, reads_fast, writes, mixes}
use Rattle.protocol.proofs.Sorts.{delivers as delivered-at, apart, sort}
use Rattle.condition3.proofs.Link.{Inv}
use Rattle.condition3.proofs.Link.Apart.{apart-joining}
use Rattle.condition3.proofs.Link.Step.{next-inv}
use Rattle.condition3.proofs.Runs.Run.{after-append, next-accepted, after-inv}
use Rattle.condition3.proofs.Runs.Touch.{of_client, others-labelled, none-join}
use Rattle.condition3.proofs.Runs.Touch.{delivered-outcome}
use Rattle.condition3.proofs.Runs.ReadCounts.{after-start}
use Rattle.condition3.proofs.Runs.WriteSpan.{Writing, Written, read_with, write-begun}
use Rattle.condition3.proofs.Runs.WriteSpan.{write-started, not-started, write-goes-on}
use Rattle.condition3.proofs.Runs.WriteSpan.{write-ends}
use Rattle.condition3.proofs.Runs.WriteShows.{under-way}
use Rattle.condition3.proofs.Common.{unlabelled, gets_none, prepares-none}
use Rattle.condition3.proofs.Common.{members-once}

-- ---- a delivery that ends nothing makes no commit join

abbrev NoCommit : List Message → Type 0
NoCommit = Each (λ m. is_commit m ≡ false)

-- what joins at an end does so with an outcome
unended : (last : Bool) (n : ℕ) (ms : List Message) → eqb n 0 ≡ false → cond last n 0 ≡ 0
    → NoCommit (cond last ms [])
unended true n ms some e = not-both (eq-eqb n 0 e) some
unended false n ms some e = each_none (λ m. is_commit m ≡ false)

no-commit : (t : Tables) (m : Message) → outcome_of t m ≡ 0 → NoCommit (joined t m)
unfolding joined outcome_of
no-commit t (Prepare v) o =
    each-one (λ m. is_commit m ≡ false) (Prepared v.item v.stamp) refl
no-commit t (Prepared k s) o = unended (is_last of_write (t.client (writer_of s)) k) 2 _ refl o
no-commit t (Commit p s) o = each_none (λ m. is_commit m ≡ false)
no-commit t (Get d k s) o =
    each-one (λ m. is_commit m ≡ false) (Got d (answer_of t k s) (t.latest k)) refl
no-commit t (Got d v e) o =
    unended (is_last of_read (t.client d) v.item)
    (cond (eqb (t.client d).write.set 0) 1 2) _
    (by-test (eqb (t.client d).write.set 0) (λ q. rw q refl) (λ q. rw q refl)) o
no-commit t (FirstGet d k) o =
    each-one (λ m. is_commit m ≡ false)
    (FirstReply d (answer_of t k (t.latest k).stamp) (t.latest k)) refl
no-commit t (FirstReply d v e) o =
    let p = first_replied t.sizes.items (t.client d).read v in
    by_cond NoCommit (is_second_part p) _ _
    (λ q. each-upto (λ m. is_commit m ≡ false) (λ k. Get d k (p.asked k)) t.sizes.items
    (has p.awaited) (λ k l h. refl))
    (λ q. each_none (λ m. is_commit m ≡ false))

-- ---- a call that is no start of client d

module _ (caps : Capacities) (v : World) (inv : Inv caps v) (d : ℕ) where
  -- a delivery for the client makes none of the kinds q join
  abbrev NoneJoin : (Message → Bool) → Call → Type 0
  NoneJoin q c = (i : ℕ) → c ≡ deliver i → eqb (placed v i).label.client d ≡ true
      → Each (λ m. q m ≡ false) (joined v.tables (message_at v.tables i))

  sort-sends : (q : Message → Bool) {c : Call} → Sort caps v.tables c → starts_for v d c ≡ false
      → NoneJoin q c → counted (of_client q d) (joining v c) ≡ 0
  unfolding joining starts_for
  sort-sends q (reads e s a) f none = others-labelled q d e v.time f (gets v.tables e s)
  sort-sends q (reads_fast e s a) f none =
      others-labelled q d e v.time f (first_gets v.tables e s)
  sort-sends q (writes e s bytes a) f none =
      others-labelled q d e v.time f (prepares v.tables e s bytes)
  sort-sends q (mixes e r s bytes a) f none =
      others-labelled q d e v.time f (mixed_messages v.tables e r s bytes)
  sort-sends q (delivered-at i a) f none = none-join caps v inv d q i (none i refl)
  sort-sends q (apart c ok a) f none = ap (counted (of_client q d)) (apart-joining v c a)
      ∙ none-counted (of_client q d) [] (λ x p. absurd p)

  -- one that ends nothing for the client
  silent-joins : (c : Call) → refusal caps v.tables c ≡ 0 → ends_for caps v d c ≡ false
      → NoneJoin is_commit c
  unfolding delivers
  silent-joins c a f i is mine =
      let ok : refusal caps v.tables (deliver i) ≡ 0 =
      subst (λ (x : Call). refusal caps v.tables x ≡ 0) is a in
      let open' : ends_for caps v d (deliver i) ≡ false =
      subst (λ (x : Call). ends_for caps v d x ≡ false) is f in
      no-commit v.tables (message_at v.tables i)
      (sym (delivered-outcome caps v i ok)
      ∙ by-test (eqb (outcome_in (step caps v.tables (deliver i)).answer) 0)
      (λ e. eqb-true (outcome_in (step caps v.tables (deliver i)).answer) 0 e)
      (λ e. not-both (rw (mine, e) refl) open'))

-- ---- while a write is under way

abbrev SendsNone : ℕ → List Labelled → Type 0
SendsNone d ls = (counted (is_prepare_of d) ls ≡ 0) × (counted (is_commit_of d) ls ≡ 0)

sends_none : (caps : Capacities) (v : World) (inv : Inv caps v) (d s stamp r : ℕ)
    (values : ℕ → ℕ) → Writing d s stamp r values v → (c : Call) → ends_for caps v d c ≡ false
    → SendsNone d (cond (accepts caps v c) (joining v c) [])
unfolding counted
sends_none caps v inv d s stamp r values u c f =
    by-test (accepts caps v c)
    (λ t.
    let a : refusal caps v.tables c ≡ 0 = eqb-true (refusal caps v.tables c) 0 t in
    let by-sort = sort caps v.tables c a in
    let other : starts_for v d c ≡ false =
    by-test (starts_for v d c)
    (λ e. absurd (not-started caps v inv d s stamp r values u c a e)) (λ e. e) in
    rw t (
      sort-sends caps v inv d is_prepare by-sort other
          (λ i e m. joined-prepare v.tables (message_at v.tables i)),
      sort-sends caps v inv d is_commit by-sort other (silent-joins caps v inv d c a f),
    ))
    (λ t. rw t (refl, refl))

sends-during : (caps : Capacities) (v : World) → Inv caps v → (d s stamp r : ℕ)
    (values : ℕ → ℕ) → Writing d s stamp r values v → (cs : List Call) → stays caps v d cs ≡ true
    → SendsNone d (joining_over caps v cs)
unfolding joining_over stays counted
sends-during caps v inv d s stamp r values u [] e = (refl, refl)
sends-during caps v inv d s stamp r values u (c ∷ cs) e =
    let f : ends_for caps v d c ≡ false =
    not-true (ends_for caps v d c)
    (and_left (not (ends_for caps v d c)) (stays caps (next caps v c) d cs) e) in
    let joins = cond (accepts caps v c) (joining v c) [] in
    let more = joining_over caps (next caps v c) cs in
    let one = sends_none caps v inv d s stamp r values u c f in
    let rest = sends-during caps (next caps v c) (next-inv caps v inv c) d s stamp r values
    (write-goes-on caps v inv d s stamp r values u c f) cs
    (and_right (not (ends_for caps v d c)) (stays caps (next caps v c) d cs) e) in (
      counted-append (is_prepare_of d) joins more ∙ omega (arith, one.0, rest.0),
      counted-append (is_commit_of d) joins more ∙ omega (arith, one.1, rest.1),
    )

-- ---- its start

own-labelled : (q : Message → Bool) (d n : ℕ) (ms : List Message)
    → counted (of_client q d) (map (labelled d n n) ms) ≡ counted q ms
own-labelled q d n ms =
    counted-map (labelled d n n) (of_client q d) ms
    ∙ counted-ext (λ m. of_client q d (labelled d n n m)) q ms (λ m i. rw (eqb_same d) refl)

start-prepares : (caps : Capacities) (w : World) (κ : Company) (d s : ℕ) (bytes : List ℕ)
    → refusal caps w.tables (start_with κ d s bytes) ≡ 0
    → counted (is_prepare_of d) (joining w (start_with κ d s bytes)) ≡ count s
unfolding joining
start-prepares caps w alone d s bytes a =
    own-labelled is_prepare d w.time (prepares w.tables d s bytes)
    ∙ counted-prepares w.tables d s bytes
    (write-begun caps w alone d s bytes a).write.start.set
start-prepares caps w (reading r) d s bytes a =
    own-labelled is_prepare d w.time (mixed_messages w.tables d r s bytes)
    ∙ counted-mixed w.tables d r s bytes
    (write-begun caps w (reading r) d s bytes a).write.start.set

-- one for item k, if it is written

abbrev prepare_for : ℕ → Message → Bool
prepare_for k m = is_prepare m && eqb (item_of m) k

labelled-for : (d k n : ℕ) (ms : List Message)
    → counted (is_prepare_for d k) (map (labelled d n n) ms) ≡ counted (prepare_for k) ms
labelled-for d k n ms =
    counted-map (labelled d n n) (is_prepare_for d k) ms
    ∙ counted-ext (λ m. is_prepare_for d k (labelled d n n m)) (prepare_for k) ms
    (λ m i. rw (eqb_same d) refl)

prepares-for : (t : Tables) (d s : ℕ) (bytes : List ℕ) (k : ℕ) → s < 2 ^ t.sizes.items
    → counted (prepare_for k) (prepares t d s bytes) ≡ cond (has s k) 1 0
prepares-for t d s bytes k below =
    counted-map (λ j. Prepare (version j (value_of s bytes j) (next_stamp t d) s)) (prepare_for k)
    (members t.sizes.items s)
    ∙ members-once t.sizes.items s k below

start-for : (caps : Capacities) (w : World) (κ : Company) (d s : ℕ) (bytes : List ℕ) (k : ℕ)
    → refusal caps w.tables (start_with κ d s bytes) ≡ 0
    → counted (is_prepare_for d k) (joining w (start_with κ d s bytes)) ≡ cond (has s k) 1 0
unfolding joining
start-for caps w alone d s bytes k a =
    labelled-for d k w.time (prepares w.tables d s bytes)
    ∙ prepares-for w.tables d s bytes k
    (write-begun caps w alone d s bytes a).write.start.set
start-for caps w (reading r) d s bytes k a =
    let t = w.tables in
    labelled-for d k w.time (mixed_messages t d r s bytes)
    ∙ counted-append (prepare_for k) (gets t d r) (prepares t d s bytes)
    ∙ omega (
      arith,
      none-counted (prepare_for k) (gets t d r) (gets_none (prepare_for k) t d r (λ j n. refl)),
      prepares-for t d s bytes k
          (write-begun caps w (reading r) d s bytes a).write.start.set,
    )

start-commits : (w : World) (κ : Company) (d s : ℕ) (bytes : List ℕ)
    → counted (is_commit_of d) (joining w (start_with κ d s bytes)) ≡ 0
unfolding joining
start-commits w alone d s bytes =
    own-labelled is_commit d w.time (prepares w.tables d s bytes)
    ∙ none-counted is_commit (prepares w.tables d s bytes)
    (prepares-none is_commit w.tables d s bytes (λ u. refl))
start-commits w (reading r) d s bytes =
    let t = w.tables in
    own-labelled is_commit d w.time (mixed_messages t d r s bytes)
    ∙ none-counted is_commit (mixed_messages t d r s bytes)
    (each_append (λ m. is_commit m ≡ false) (gets t d r) (prepares t d s bytes)
    (gets_none is_commit t d r (λ k n. refl)) (prepares-none is_commit t d s bytes (λ u. refl)))

-- ---- in a list of calls

module _ (caps : Capacities) (w : World) (inv : Inv caps w) (κ : Company) (d s : ℕ)
    (bytes : List ℕ) (before during : List Call)
    (u : UnderWay caps w d (start_with κ d s bytes) before during) where
  abbrev start : Call
  start = start_with κ d s bytes

  abbrev w₁ : World
  w₁ = after caps w before

  abbrev y : World
  y = now caps w start before during

  abbrev stamp : ℕ
  stamp = next_stamp w₁.tables d

  inv-moved : Inv caps (moved w₁ start)
  inv-moved = subst (λ (x : World). Inv caps x) (after-start caps w before start u.accepted)
      (after-inv caps w inv (before ++ start ∷ []))

  over : SendsNone d (joining_over caps (moved w₁ start) during)
  over =
      sends-during caps (moved w₁ start) inv-moved d s stamp (read_with κ) (value_of s bytes)
      (write-started caps w₁ κ d s bytes (write-begun caps w₁ κ d s bytes u.accepted)) during
      (subst (λ (x : World). stays caps x d during ≡ true)
      (after-start caps w before start u.accepted) u.unended)

  sent_is : sent caps w start before during ≡ joining w₁ start
      ++ joining_over caps (moved w₁ start) during
  unfolding joining_over
  sent_is =
      rw (eq-eqb (refusal caps w₁.tables start) 0 u.accepted)
      (ap (λ (x : World). joining w₁ start ++ joining_over caps x during)
      (next-accepted caps w₁ start u.accepted))

  pub prepares-sent : counted (is_prepare_of d) (sent caps w start before during) ≡ count s
  prepares-sent =
      ap (counted (is_prepare_of d)) sent_is
      ∙ counted-append (is_prepare_of d) (joining w₁ start)
      (joining_over caps (moved w₁ start) during)
      ∙ omega (arith, start-prepares caps w₁ κ d s bytes u.accepted, over.0)

  pub prepared-for : (k : ℕ) → has s k ≡ true
      → counted (is_prepare_for d k) (sent caps w start before during) ≡ 1
  prepared-for k h =
      let later = joining_over caps (moved w₁ start) during in
      let first : counted (is_prepare_for d k) (joining w₁ start) ≡ 1 =
      start-for caps w₁ κ d s bytes k u.accepted ∙ rw h refl in
      ap (counted (is_prepare_for d k)) sent_is
      ∙ counted-append (is_prepare_for d k) (joining w₁ start) later
      ∙ omega (
        arith,
        first,
        none-counted (is_prepare_for d k) later
            (λ l i. rw (counted_none (is_prepare_of d) later over.0 l i) refl),
      )

  pub no-commits-sent : counted (is_commit_of d) (sent caps w start before during) ≡ 0
  no-commits-sent =
      ap (counted (is_commit_of d)) sent_is
      ∙ counted-append (is_commit_of d) (joining w₁ start)
      (joining_over caps (moved w₁ start) during)
      ∙ omega (arith, start-commits w₁ κ d s bytes, over.1)

  -- ---- its end
  module _ (c : Call) (e : ends_for caps y d c ≡ true) where
    ended : Written d s stamp y c (next caps y c)
    ended = write-ends caps y (after-inv caps w inv (before ++ start ∷ during)) d s stamp
        (read_with κ) (value_of s bytes) (under-way caps w inv κ d s bytes before during u) c e

    pub commits-sent : map (λ l. l.message) (joining y c) ≡ commits y.tables s stamp
    unfolding joining
    commits-sent = unlabelled _ _ _ _ ∙ ended.sends

    pub then-seen : (k : ℕ) → has s k ≡ true
        → stamp ≤ ((now caps w start before (during ++ c ∷ [])).tables.view d k).stamp
    unfolding after
    then-seen k h =
        subst (λ (x : World). stamp ≤ (x.tables.view d k).stamp)
        (sym (after-append caps w (before ++ start ∷ during) (c ∷ []))
        ∙ ap (after caps w) (append_assoc before (start ∷ during) (c ∷ []))) (ended.seen k h)
