-- The first place of a key, and the walk that leads to it.
use mathlib.Core.List.{List, [], ◌∷◌, ◌++◌}
use mathlib.Core.Logic.{◌≢◌}
use mathlib.Core.Path.{◌≡◌, refl, sym, ap, ap₂, ◌∙◌, subst}
use Prim.Native.Nat.{ℕ, zero, suc, ◌+◌, ◌-◌, ◌*◌, ◌/◌, ◌≤◌, ◌<◌}
use lib.Dec.{eqb, ltb}
use lib.ListN.{length, get_or, set, take, replicate, length-set, length-replicate}
use lib.ListN.{get_or-replicate, get_or-eq_default}
use lib.Seq.{get_or-set_same, get_or-set_other, take-suc-set, take_all}
use native.Mathlib.Numerals.{add-one}
use native.Mathlib.Omega.{arith}
use borrow.Author.Tests.{eqb-true, eqb-false, eq-eqb, ne_eqb, ltb-true, ltb-false}
use Rattle.basics.proofs.Cases.{by-test}
use Rattle.basics.specs.Lists.{table}
use Rattle.index.specs.Index.{place, most_slots, base, most_keys, most_links, slot_of, rest_at}
use Rattle.index.specs.Index.{below, link_at, Leads, Reached, Walked, Ends, Indexed, Index}

-- ---- what a place is

pub place-first : (keys : List ℕ) (key p : ℕ) → p < length keys → get_or keys p 0 ≡ key
    → ((j : ℕ) → j < p → get_or keys j 0 ≢ key) → place keys key ≡ p
unfolding place
place-first [] key p l e none = absurd (omega arith)
place-first (x ∷ xs) key zero l e none = rw (eq-eqb x key e) refl
place-first (x ∷ xs) key (suc p) l e none =
    rw (ne_eqb x key (none 0 (omega arith)))
    (ap suc (place-first xs key p (omega arith) e (λ j m. none (suc j) (omega arith))))

pub place_none : (keys : List ℕ) (key : ℕ) → ((j : ℕ) → j < length keys → get_or keys j 0 ≢ key)
    → place keys key ≡ length keys
unfolding place
place_none [] key none = refl
place_none (x ∷ xs) key none =
    rw (ne_eqb x key (none 0 (omega arith)))
    (ap suc (place_none xs key (λ j m. none (suc j) (omega arith))))

pub place-holds : (keys : List ℕ) (key : ℕ) → place keys key < length keys
    → get_or keys (place keys key) 0 ≡ key
unfolding place
place-holds [] key l = absurd (omega arith)
place-holds (x ∷ xs) key l =
    by-test (eqb x key) (λ e. rw e (eqb-true x key e))
    (λ e. rw e (place-holds xs key (omega (arith, (rw e at l)))))

pub place-le : (keys : List ℕ) (key : ℕ) → place keys key ≤ length keys
unfolding place
place-le [] key = omega arith
place-le (x ∷ xs) key =
    by-test (eqb x key) (λ e. rw e (omega arith)) (λ e. rw e (omega (arith, place-le xs key)))

pub place-before : (keys : List ℕ) (key j : ℕ) → j < place keys key → get_or keys j 0 ≢ key
unfolding place
place-before [] key j l e = absurd (omega arith)
place-before (x ∷ xs) key zero l e = absurd (omega (arith, (rw (eq-eqb x key e) at l)))
place-before (x ∷ xs) key (suc j) l e =
    by-test (eqb x key) (λ t. absurd (omega (arith, (rw t at l))))
    (λ t. place-before xs key j (omega (arith, (rw t at l))) e)

pub place_at : (keys : List ℕ) (key j : ℕ) → j < length keys → get_or keys j 0 ≡ key
    → place keys key ≤ j
place_at keys key j l e =
    by-test (ltb j (place keys key))
    (λ t. absurd (place-before keys key j (ltb-true j (place keys key) t) e))
    (λ t. omega (arith, ltb-false j (place keys key) t))

-- ---- keys gathered one by one

pub gathered_next : (f : ℕ → ℕ) (l : List ℕ) (p v : ℕ) → p < length l → take p l ≡ table p f
    → v ≡ f p → take (p + 1) (set l p v) ≡ table (p + 1) f
unfolding table
gathered_next f l p v h e g =
    rw add-one (take-suc-set l p v h ∙ ap₂ (λ (xs : List ℕ) (x : ℕ). xs ++ x ∷ []) e g)

pub gathered-all : (f : ℕ → ℕ) (l : List ℕ) (p n : ℕ) → take p l ≡ table p f → length l ≡ n
    → p ≤ n → n ≤ p → l ≡ table n f
gathered-all f l p n e h low high =
    let same : p ≡ n = omega arith in
    sym (take_all p l (omega arith)) ∙ e ∙ ap (λ (k : ℕ). table k f) same

-- ---- no key yet

blank : (n p : ℕ) → ◌≡◌ {A = ℕ} (get_or (replicate n 0) p 0) 0
blank n p =
    by-test (ltb p n) (λ e. get_or-replicate n p 0 0 (ltb-true p n e))
    (λ e. get_or-eq_default (replicate n 0) 0
    (omega (arith, ltb-false p n e, length-replicate {A = ℕ} n 0)))

pub index-none : (keys : List ℕ) → length keys ≤ most_keys → Indexed keys (replicate most_links 0) 0
index-none keys few = record {
  rise = record {
    few = few;
    long = length-replicate {A = ℕ} most_links 0;
    within = λ h. rw (blank most_links h) (omega arith);
    rising = λ h n. absurd (n (blank most_links h));
  };
  among = λ h. rw (blank most_links h) (omega arith);
  names = λ h n. absurd (n (blank most_links h));
  once = λ h j n. absurd (n (blank most_links h));
  reached = λ p l. absurd (omega arith);
}

-- ---- a walk

slot-in : (key : ℕ) → slot_of key < most_slots
slot-in key = omega arith

module _ (keys links : List ℕ) (key : ℕ) where
  pub walk_begins : {at : ℕ} → at ≡ slot_of key → Walked keys links key at key
  unfolding link_at rest_at
  walk_begins e = record {
    turns = 0;
    link = e;
    left = refl;
    leads = λ m l. absurd (omega arith);
    others = λ m l. absurd (omega arith);
  }

  -- one turn more: the link names another key
  pub walk-goes : {at rest next : ℕ} → Walked keys links key at rest → get_or links at 0 ≢ 0
      → get_or keys (get_or links at 0 - 1) 0 ≢ key
      → next ≡ below (get_or links at 0 - 1) rest → Walked keys links key next (rest / base)
  unfolding link_at rest_at
  walk-goes {at} {rest} {next} w some other e = record {
    turns = suc w.turns;
    link = e ∙ ap₂ (λ (h r : ℕ). below (get_or links h 0 - 1) r) w.link w.left;
    left = ap (λ (r : ℕ). r / base) w.left;
    leads = λ m l. last m l (λ h. get_or links h 0 ≢ 0) (w.leads m) some;
    others = λ m l. last m l (λ h. get_or keys (get_or links h 0 - 1) 0 ≢ key) (w.others m) other;
  }
    where
      last : (m : ℕ) → m < suc w.turns → (P : ℕ → Type 0) → (m < w.turns → P (link_at links key m))
          → P at → P (link_at links key m)
      last m l P early late =
          by-test (eqb m w.turns)
          (λ e. subst (λ (j : ℕ). P (link_at links key j)) (sym (eqb-true m w.turns e))
          (subst P w.link late))
          (λ e. early (omega (arith, eqb-false m w.turns e)))

module _ (keys links : List ℕ) (n key at : ℕ) (i : Indexed keys links n) (few : n ≤ length keys)
    (w : Ends keys links key at) where
  -- a walk that ends at an empty link is of none of the first n keys
  pub walk-absent : get_or links at 0 ≡ 0 → (q : ℕ) → q < n → get_or keys q 0 ≢ key
  walk-absent empty q l same =
      let r : Reached keys links key = subst (Reached keys links) same (i.reached q l) in
      let t = w.walked.turns in
      let held : get_or keys (place keys key) 0 ≡ key =
      place-holds keys key (omega (arith, place_at keys key q (omega (arith, l, few)) same, few, l)) in
      let back : suc (place keys key) - 1 ≡ place keys key = omega arith in
      by-test (ltb r.0 t)
      (λ e. w.walked.others r.0 (ltb-true r.0 t e)
      (ap (λ (x : ℕ). get_or keys (x - 1) 0) r.1 ∙ ap (λ (x : ℕ). get_or keys x 0) back ∙ held))
      (λ e. by-test (eqb r.0 t)
      (λ f. absurd (omega (
        arith,
        r.1,
        empty,
        ap (λ (h : ℕ). get_or links h 0) w.walked.link,
        ap (λ (m : ℕ). get_or links (link_at links key m) 0) (eqb-true r.0 t f),
      )))
      (λ f. r.2 t (omega (arith, ltb-false r.0 t e, eqb-false r.0 t f))
      (ap (λ (h : ℕ). get_or links h 0) (sym w.walked.link) ∙ empty)))

  pub walk-names : get_or links at 0 ≢ 0 → get_or links at 0 - 1 ≡ place keys key
  walk-names some = sym (i.names at some) ∙ ap (place keys) (w.ends some)

pub walk_none : (keys links : List ℕ) (key at : ℕ) → Index keys links → Ends keys links key at
    → get_or links at 0 ≡ 0 → length keys ≡ place keys key
walk_none keys links key at i w empty =
    sym (place_none keys key
    (walk-absent keys links (length keys) key at i (omega arith) w empty))

-- ---- one key more

module _ (keys links : List ℕ) (p at : ℕ) (i : Indexed keys links p) (l : p < length keys)
    (w : Ends keys links (get_or keys p 0) at) where
  abbrev key : ℕ
  key = get_or keys p 0

  abbrev t : ℕ
  t = w.walked.turns

  module _ (empty : get_or links at 0 ≡ 0) where
    abbrev after : List ℕ
    after = set links at (p + 1)

    here-is : get_or after at 0 ≡ p + 1
    here-is = get_or-set_same links at (p + 1) 0 w.inside

    there-is : (h : ℕ) → h ≢ at → get_or after h 0 ≡ get_or links h 0
    there-is h n = get_or-set_other links at h (p + 1) 0 n

    led-is : (h : ℕ) → get_or links h 0 ≢ 0 → get_or after h 0 ≡ get_or links h 0
    led-is h n = there-is h (λ e. n (ap (λ (j : ℕ). get_or links j 0) e ∙ empty))

    -- a walk doesn't change as far as its links name places
    same-link : (k n : ℕ) → Leads links k n → link_at after k n ≡ link_at links k n
    unfolding link_at
    same-link k zero led = refl
    same-link k (suc n) led =
        ap (λ (x : ℕ). below (x - 1) (rest_at k n))
        (ap (λ (h : ℕ). get_or after h 0) (same-link k n (λ m l. led m (omega arith)))
        ∙ led-is (link_at links k n) (led n (omega arith)))

    same-leads : (k n : ℕ) → Leads links k n → Leads after k n
    same-leads k n led m l z =
        led m l (sym (led-is (link_at links k m) (led m l))
        ∙ ap (λ (h : ℕ). get_or after h 0)
        (sym (same-link k m (λ j q. led j (omega arith)))) ∙ z)

    first-place : place keys key ≡ p
    first-place =
        place-first keys key p l refl
        (walk-absent keys links p key at i (omega arith) w empty)

    at-link : (h : ℕ) (P : ℕ → Type 0) → (h ≡ at → P (p + 1)) → (h ≢ at → P (get_or links h 0))
        → P (get_or after h 0)
    at-link h P here there =
        by-test (eqb h at)
        (λ e. let same = eqb-true h at e in
        subst P (sym (ap (λ (q : ℕ). get_or after q 0) same ∙ here-is)) (here same))
        (λ e. let other = eqb-false h at e in subst P (sym (there-is h other)) (there other))

    -- the link lies in a slot, or below an earlier place
    at_low : at < most_slots + base * p
    unfolding link_at
    at_low = low t w.walked.link w.walked.leads
      where
        low : (n : ℕ) → at ≡ link_at links key n → Leads links key n → at < most_slots + base * p
        low zero e led = omega (arith, e, slot-in key)
        low (suc n) e led =
            omega (
              arith,
              e,
              i.among (link_at links key n),
              led n (omega arith),
            )

    own : Reached keys after key
    own = (
      t,
      ap (λ (h : ℕ). get_or after h 0) (same-link key t w.walked.leads ∙ sym w.walked.link)
          ∙ here-is ∙ add-one p ∙ ap suc (sym first-place),
      same-leads key t w.walked.leads,
    )

    old : (k : ℕ) → Reached keys links k → Reached keys after k
    old k r = (
      r.0,
      ap (λ (h : ℕ). get_or after h 0) (same-link k r.0 r.2)
          ∙ led-is (link_at links k r.0) (λ z. omega (arith, z, r.1)) ∙ r.1,
      same-leads k r.0 r.2,
    )

    pub index-added : Indexed keys after (suc p)
    index-added = record {
      rise = record {
        few = i.rise.few;
        long = length-set links at (p + 1) ∙ i.rise.long;
        within = λ h. at-link h (λ x. x ≤ length keys) (λ e. omega (arith, l))
            (λ n. i.rise.within h);
        rising = λ h. at-link h (λ x. x ≢ 0 → h < most_slots + base * (x - 1))
            (λ e n. omega (arith, e, at_low)) (λ n. i.rise.rising h);
      };
      among = λ h. at-link h (λ x. x ≤ suc p) (λ e. omega arith)
          (λ n. omega (arith, i.among h));
      names = λ h. at-link h
          (λ x. x ≢ 0 → place keys (get_or keys (x - 1) 0) ≡ x - 1)
          (λ e n. let back : p + 1 - 1 ≡ p = omega arith in rw back first-place)
          (λ n. i.names h);
      once = λ h j. at-link h (λ x. x ≢ 0 → x ≡ get_or after j 0 → h ≡ j)
          (λ e n. at-link j (λ y. p + 1 ≡ y → h ≡ j) (λ f s. e ∙ sym f)
          (λ o s. absurd (omega (arith, s, i.among j))))
          (λ o n. at-link j (λ y. get_or links h 0 ≡ y → h ≡ j)
          (λ f s. absurd (omega (arith, s, i.among h))) (λ q. i.once h j n));
      reached = λ q m. by-test (eqb q p)
          (λ e. subst (λ (j : ℕ). Reached keys after (get_or keys j 0)) (sym (eqb-true q p e)) own)
          (λ e. old (get_or keys q 0) (i.reached q (omega (arith, eqb-false q p e))));
    }

  pub index_kept : get_or links at 0 ≢ 0 → Indexed keys links (suc p)
  index_kept some = record {
    rise = i.rise;
    among = λ h. omega (arith, i.among h);
    names = i.names;
    once = i.once;
    reached = λ q m. by-test (eqb q p)
        (λ e. subst (λ (j : ℕ). Reached keys links (get_or keys j 0)) (sym (eqb-true q p e)) (
          t,
          omega (
            arith,
            ap (λ (h : ℕ). get_or links h 0) w.walked.link,
            walk-names keys links p key at i (omega arith) w some,
            some,
          ),
          w.walked.leads,
        ))
        (λ e. i.reached q (omega (arith, eqb-false q p e)));
  }

pub index-all : (keys links : List ℕ) (p : ℕ) → length keys ≡ p → Indexed keys links p
    → Index keys links
index-all keys links p e i = subst (Indexed keys links) (sym e) i
