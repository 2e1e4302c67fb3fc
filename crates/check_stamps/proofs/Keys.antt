-- A stored version by its key: the place of the key is that of the first version alike.
use mathlib.Core.Bool.{Bool, true, false, cond, not}
use mathlib.Core.List.{List}
use mathlib.Core.Logic.{◌≢◌}
use mathlib.Core.Path.{◌≡◌, refl, sym, ap, ◌∙◌}
use Prim.Native.Nat.{ℕ, zero, suc, ◌≤◌, ◌<◌}
use lib.Dec.{eqb, ltb}
use lib.ListN.{length, get_or}
use native.Mathlib.Omega.{arith}
use borrow.Author.Tests.{eqb-true, eq-eqb, eqb-false, ltb-true, ltb-false, lt-ltb}
use Rattle.basics.proofs.Cases.{by-test, and_left, and_right, and_both}
use Rattle.basics.specs.Lists.{table, every}
use Rattle.basics.proofs.Lists.{in_table, length-table, table_at}
use Rattle.protocol.specs.declared.Version.{Version}
use Rattle.protocol.specs.Steps.{alike, stored, found}
use Rattle.protocol.specs.Check.{distinct}
use Rattle.protocol.proofs.Stored.{held-stored}
use Rattle.protocol.proofs.CheckWords.{distinct_append}
use Rattle.std.specs.Prelude.{Some, None}
use Rattle.versions.specs.Found.{first}
use Rattle.versions.proofs.First.{first-here, first_next, stored-first, found_first}
use Rattle.index.specs.Index.{place}
use Rattle.index.proofs.Places.{place-holds, place-before, place_at}
use Rattle.check_stamps.specs.Stamps.{key_of}

first-nothing : (p : ℕ → Bool) (n : ℕ) → ((j : ℕ) → j < n → p j ≡ false) → first p n ≡ None
unfolding first
first-nothing p zero h = refl
first-nothing p (suc n) h =
    first_next p n (first-nothing p n (λ j l. h j (omega arith))) (h n (omega arith))

module _ (n m : ℕ) (f : ℕ → Version) (few : n ≤ m) (small : (i : ℕ) → i < n → (f i).item < 64) where
  abbrev key : ℕ → ℕ
  key i = cond (ltb i n) (key_of (f i).item (f i).stamp) 0

  abbrev keys : List ℕ
  keys = table m key

  key_in_lem : (i : ℕ) → i < n → key i ≡ key_of (f i).item (f i).stamp
  key_in_lem i l = rw (lt-ltb i n l) refl

  at_key : (i : ℕ) → i < m → get_or keys i 0 ≡ key i
  at_key i l = table_at m key i 0 l

  long : length keys ≡ m
  long = length-table m key

  alike-key : (i k s : ℕ) → i < n → alike k s (f i) ≡ true → get_or keys i 0 ≡ key_of k s
  alike-key i k s l e =
      let item : (f i).item ≡ k =
      eqb-true (f i).item k (and_left (eqb (f i).item k) (eqb (f i).stamp s) e) in
      let stamp : (f i).stamp ≡ s =
      eqb-true (f i).stamp s (and_right (eqb (f i).item k) (eqb (f i).stamp s) e) in
      at_key i (omega arith) ∙ key_in_lem i l ∙ omega (arith, item, stamp)

  key-some : (i k s : ℕ) → i < m → get_or keys i 0 ≡ key_of k s → i < n
  key-some i k s l e =
      by-test (ltb i n) (ltb-true i n)
      (λ t. let none : ◌≡◌ {A = ℕ} (key i) 0 = rw t refl in
      absurd (omega (arith, none, at_key i l, e)))

  key-alike : (i k s : ℕ) → i < m → k < 64 → get_or keys i 0 ≡ key_of k s → alike k s (f i) ≡ true
  key-alike i k s l few-items e =
      let inside = key-some i k s l e in
      let same : key_of (f i).item (f i).stamp ≡ key_of k s =
      sym (key_in_lem i inside) ∙ sym (at_key i l) ∙ e in
      let item : (f i).item ≡ k = omega (arith, same, small i inside) in
      let stamp : (f i).stamp ≡ s = omega (arith, same, small i inside) in
      and_both (eqb (f i).item k) (eqb (f i).stamp s) (eq-eqb (f i).item k item)
      (eq-eqb (f i).stamp s stamp)

  unlike : (i k s : ℕ) → i < n → get_or keys i 0 ≢ key_of k s → alike k s (f i) ≡ false
  unlike i k s l n =
      by-test (alike k s (f i)) (λ e. absurd (n (alike-key i k s l e))) (λ e. e)

  module _ (k s : ℕ) (few-items : k < 64) where
    abbrev p : ℕ
    p = place keys (key_of k s)

    first-at : p < m → first (λ i. alike k s (f i)) n ≡ Some p
    first-at l =
        let here = place-holds keys (key_of k s) (omega (arith, l, long)) in
        let inside = key-some p k s l here in
        first-here (λ i. alike k s (f i)) p n
        (first-nothing (λ i. alike k s (f i)) p
        (λ j q. unlike j k s (omega (arith, q, inside)) (place-before keys (key_of k s) j q)))
        (key-alike p k s l few-items here) inside

    first-none : m ≤ p → first (λ i. alike k s (f i)) n ≡ None
    first-none l =
        first-nothing (λ i. alike k s (f i)) n
        (λ j q. unlike j k s q (place-before keys (key_of k s) j (omega (arith, l, q, few))))

    pub stored-place : ltb p m ≡ stored (table n f) k s
    stored-place =
        by-test (ltb p m)
        (λ t. t ∙ sym (stored-first n f k s ∙ rw (first-at (ltb-true p m t)) refl))
        (λ t. t ∙ sym (stored-first n f k s ∙ rw (first-none (ltb-false p m t)) refl))

    pub found_some : p < m → f p ≡ found (table n f) k s
    found_some l = sym (found_first n f k s ∙ rw (first-at l) refl)

    pub found_none : m ≤ p → (found (table n f) k s).value ≡ 0
    found_none l = ap (λ (v : Version). v.value) (found_first n f k s) ∙ rw (first-none l) refl

  -- none alike: every key is found at its own place
  abbrev own : ℕ → Bool
  own i = eqb (place keys (key i)) i

  stored_at : (i j k s : ℕ) → j < i → alike k s (f j) ≡ true → stored (table i f) k s ≡ true
  stored_at i j k s l e =
      held-stored (table i f) k s (f j) (record {
        is_in = in_table i f j l;
        item = eqb-true (f j).item k (and_left (eqb (f j).item k) (eqb (f j).stamp s) e);
        stamp = eqb-true (f j).stamp s (and_right (eqb (f j).item k) (eqb (f j).stamp s) e);
      })

  module _ (i : ℕ) (l : i < n) where
    abbrev at_i : ℕ
    at_i = place keys (key i)

    own_first : at_i ≡ i → stored (table i f) (f i).item (f i).stamp ≡ false
    own_first same =
        stored-first i f (f i).item (f i).stamp
        ∙ rw (first-nothing (λ j. alike (f i).item (f i).stamp (f j)) i
        (λ j q. unlike j (f i).item (f i).stamp (omega arith)
        (λ x. place-before keys (key i) j (omega (arith, same, q)) (x ∙ sym (key_in_lem i l))))) refl

    own-later : at_i < i → stored (table i f) (f i).item (f i).stamp ≡ true
    own-later less =
        let found-key : get_or keys at_i 0 ≡ key_of (f i).item (f i).stamp =
        place-holds keys (key i) (omega (arith, less, long, l, few)) ∙ key_in_lem i l in
        stored_at i at_i (f i).item (f i).stamp less
        (key-alike at_i (f i).item (f i).stamp (omega arith) (small i l) found-key)

    unstored : not (stored (table i f) (f i).item (f i).stamp) ≡ own i
    unstored =
        let top : at_i ≤ i =
        place_at keys (key i) i (omega (arith, long, l, few)) (at_key i (omega arith)) in
        by-test (own i)
        (λ e. rw (own_first (eqb-true at_i i e)) (sym e))
        (λ e. rw (own-later (omega (arith, top, eqb-false at_i i e))) (sym e))

  pub distinct-own : (i : ℕ) → i ≤ n → every i own ≡ distinct (table i f)
  unfolding every distinct table
  distinct-own zero l = refl
  distinct-own (suc i) l =
      rw (distinct-own i (omega arith), sym (unstored i (omega arith)))
      (sym (distinct_append (table i f) (f i)))
