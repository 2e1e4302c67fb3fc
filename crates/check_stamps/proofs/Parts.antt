-- The parts of a check tell what its rules do, so that they are the check.
use mathlib.Core.Bool.{Bool, true, false, cond, ◌||◌}
use mathlib.Core.Path.{◌≡◌, refl}
use Prim.Native.Nat.{ℕ, suc, ◌<◌}
use lib.Dec.{eqb}
use Rattle.basics.proofs.Cases.{test-ext, or_left, or_right}
use Rattle.basics.specs.Lists.{counted}
use Rattle.itemset.specs.Set.{has}
use Rattle.protocol.specs.declared.Entry.{Entry}
use Rattle.protocol.specs.Tables.{Tables, of_read, of_write, awaited_of, stamp_of}
use Rattle.protocol.specs.Message.{parts_of, is_commit, is_get, item_of, is_for}
use Rattle.protocol.specs.Range.{is_writing, has_first}
use Rattle.protocol.specs.Steps.{stored}
use Rattle.protocol.specs.Check.{entry_in, whole_or_initial, writes, agrees, is_counted, sound}
use Rattle.protocol.specs.Check.{stored_value, answered_again}
use Rattle.protocol.proofs.Tells.{tells-and, tells-every, tells_all}
use Rattle.protocol.proofs.Ranges.Values.{IsClient}
use Rattle.protocol.proofs.Ranges.Clients.{tells-shown}
use Rattle.protocol.proofs.Ranges.Tables.{is-client, each-client}
use Rattle.protocol.proofs.Checks.{EveryEntry, Checks, tells-checks}
use Rattle.check_stamps.specs.Parts.{good_ask, good_entry, good_entries, good_holders, good_first}
use Rattle.check_stamps.specs.Parts.{good_item, good_client, good_message, parts}

ruleset joins = (tells-and, tells-shown, tells-every, tells_all)

either : (x y : Bool) {A : Type 0} → (x ≡ true → A) → (y ≡ true → A) → (x || y) ≡ true → A
either true y f g e = f refl
either false y f g e = g e

-- ---- of every entry

abbrev Asked : Tables → ℕ → ℕ → Type 0
Asked t k s =
    ((writes t k s ≡ true) × (whole_or_initial t s ≡ true)) × (is_counted t s ≡ true)

abbrev Good : Tables → ℕ → Entry → Type 0
Good t k e = (agrees t e ≡ true) × Asked t k e.stamp

map-every : (t : Tables) (P Q : ℕ → Entry → Type 0) → ((k : ℕ) (e : Entry) → P k e → Q k e)
    → EveryEntry t P → EveryEntry t Q
map-every t P Q f r =
    record {
      view = λ d k i l. f k (t.view d k) (r.view d k i l);
      latest = λ k l. f k (t.latest k) (r.latest k l);
      first = λ d k i l h. f k ((t.client d).read.firsts k) (r.first d k i l h);
      got = λ m i h. (
        f (item_of m) (entry_in m) (r.got m i h).0,
        f (item_of m) (parts_of m).latest (r.got m i h).1,
      );
    }

-- ---- of a client

abbrev OfClient : Tables → ℕ → Type 0
OfClient t d =
    ((((((k : ℕ) → k < t.sizes.items → has_first (t.client d).read k ≡ true
    → Good t k ((t.client d).read.firsts k)
    × ((answered_again (t.client d).read k || eqb ((t.client d).read.values k)
    (stored_value t k ((t.client d).read.firsts k).stamp)) ≡ true))
    × (is_writing (t.client d) ≡ true
    → eqb (t.client d).write.stamp (stamp_of (t.client d).count d) ≡ true))
    × ((k : ℕ) → k < t.sizes.items → has (t.client d).write.set k ≡ true
    → ((has (t.client d).write.awaited k
    || stored t.versions k (t.client d).write.stamp) ≡ true)
    × (stored t.versions k (t.client d).write.stamp ≡ true
    → eqb (stored_value t k (t.client d).write.stamp) ((t.client d).write.values k) ≡ true)))
    × ((k : ℕ) → k < t.sizes.items → eqb (counted (is_for of_read d k) t.messages)
    (cond (has (awaited_of of_read (t.client d)) k) 1 0) ≡ true))
    × ((k : ℕ) → k < t.sizes.items → eqb (counted (is_for of_write d k) t.messages)
    (cond (has (awaited_of of_write (t.client d)) k) 1 0) ≡ true))

-- ---- both ways

pub parts-tell : (t : Tables) → parts t ≡ true → Checks t
unfolding parts good_entries good_holders good_first good_item good_client good_message good_entry good_ask
parts-tell t h =
    let z = t.sizes in
    let f = simp joins at h in
    let client : (d : ℕ) → IsClient z d → OfClient t d = each-client z (OfClient t) f.0.1 in
    let good : EveryEntry t (Good t) = record {
      view = λ d k i l. each-client z (λ c. Good t k (t.view c k)) (f.0.0.0 k l).1 d i;
      latest = λ k l. (f.0.0.0 k l).0;
      first = λ d k i l e. ((client d i).0.0.0.0 k l e).0;
      got = λ m i e. ((f.1 m i).0.0.0.0.0.0 e).0;
    } in
    record {
      whole = map-every t (Good t) (λ k e. whole_or_initial t e.stamp ≡ true) (λ k e g. g.1.0.1)
          good;
      whole_sent = λ m i. either (is_commit m) (is_get m) (f.1 m i).0.0.0.0.0.1
          (λ e. ((f.1 m i).0.0.0.0.1 e).0.1);
      written = map-every t (Good t) (λ k e. writes t k e.stamp ≡ true) (λ k e g. g.1.0.0)
          good;
      written_sent = λ m i e. ((f.1 m i).0.0.0.0.1 e).0.0;
      agree = map-every t (Good t) (λ k e. agrees t e ≡ true) (λ k e g. g.0) good;
      agree_held = λ e i. (f.0.0.1.0 e i).0;
      agree_sent = λ m i. (f.1 m i).0.0.0.1;
      distinct = f.0.0.1.1;
      got_values = λ m i e. ((f.1 m i).0.0.0.0.0.0 e).1;
      first_values = λ d k i l e. ((client d i).0.0.0.0 k l e).1;
      numbers = map-every t (Good t) (λ k e. is_counted t e.stamp ≡ true) (λ k e g. g.1.1) good;
      numbers_held = λ e i. (f.0.0.1.0 e i).1;
      numbers_sent = λ m i. (f.1 m i).0.1;
      stamped = λ d i. (client d i).0.0.0.1;
      arrived = λ d k i l. (client d i).0.0.1 k l;
      replied = λ m i. (f.1 m i).0.0.1;
      one = λ d i. ((client d i).0.1, (client d i).1);
      fits = λ m i. (f.1 m i).1;
    }

pub tell-parts : (t : Tables) → Checks t → parts t ≡ true
unfolding parts good_entries good_holders good_first good_item good_client good_message good_entry good_ask
tell-parts t r =
    let z = t.sizes in
    let good : EveryEntry t (Good t) = record {
      view = λ d k i l. (
        r.agree.view d k i l,
        ((r.written.view d k i l, r.whole.view d k i l), r.numbers.view d k i l),
      );
      latest = λ k l. (
        r.agree.latest k l,
        ((r.written.latest k l, r.whole.latest k l), r.numbers.latest k l),
      );
      first = λ d k i l e. (
        r.agree.first d k i l e,
        ((r.written.first d k i l e, r.whole.first d k i l e), r.numbers.first d k i l e),
      );
      got = λ m i e. (
        (
          (r.agree.got m i e).0,
          (((r.written.got m i e).0, (r.whole.got m i e).0), (r.numbers.got m i e).0),
        ),
        (
          (r.agree.got m i e).1,
          (((r.written.got m i e).1, (r.whole.got m i e).1), (r.numbers.got m i e).1),
        ),
      );
    } in
    simp joins (
      (
        (
          λ k h. (good.latest k h, λ i l. good.view (suc i) k (is-client z i l) h),
          (λ e i. (r.agree_held e i, r.numbers_held e i), r.distinct),
        ),
        λ i l.
            let d = suc i in
            let c = is-client z i l in (
              (
                (
                  (
                    λ k m e. (good.first d k c m e, r.first_values d k c m e),
                    r.stamped d c,
                  ),
                  λ k m. r.arrived d k c m,
                ),
                (r.one d c).0,
              ),
              (r.one d c).1,
            ),
      ),
      λ m i. (
        (
          (
            (
              (
                (
                  λ e. (good.got m i e, r.got_values m i e),
                  λ e. r.whole_sent m i (or_left (is_commit m) (is_get m) e),
                ),
                λ e. (
                  (r.written_sent m i e, r.whole_sent m i (or_right (is_commit m) (is_get m) e)),
                  r.numbers_sent m i,
                ),
              ),
              r.agree_sent m i,
            ),
            r.replied m i,
          ),
          r.numbers_sent m i,
        ),
        r.fits m i,
      ),
    )

pub parts-sound : (t : Tables) → parts t ≡ sound t
parts-sound t =
    test-ext (parts t) (sound t) (λ e. (tells-checks t).1 (parts-tell t e))
    (λ e. tell-parts t ((tells-checks t).0 e))
