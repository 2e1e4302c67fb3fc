-- A stamp told by its slot: an empty slot says that it is none of those marked, its own stamp there
-- that it is one.
use mathlib.Core.Bool.{true, false, not}
use mathlib.Core.List.{List, [], ◌∷◌, ◌++◌}
use mathlib.Core.Logic.{◌≢◌, inl, ⊎_elim}
use mathlib.Core.Path.{◌≡◌, refl, sym, ap, ◌∙◌, subst}
use Prim.Native.Nat.{ℕ, ◌<◌}
use lib.Dec.{eqb, ltb}
use lib.ListN.{get_or, set, replicate, length-set, length-replicate, get_or-replicate}
use lib.ListN.{get_or-eq_default}
use lib.Seq.{get_or-set_same, get_or-set_other}
use native.Mathlib.Omega.{arith}
use borrow.Author.Tests.{eqb-true, eqb-false, ne_eqb, ltb-true, ltb-false}
use Rattle.std.specs.List.{list_all}
use Rattle.basics.proofs.Cases.{by-test, not-both, eqb_same}
use Rattle.basics.specs.Lists.{In, all}
use Rattle.basics.proofs.Lists.{in_left, in_right, in-append, all_in, in_all}
use Rattle.clear.specs.Stamps.{absent, most_slots, slot_of, marked, Marks}

-- ---- marking

blank : (n p : ℕ) → ◌≡◌ {A = ℕ} (get_or (replicate n 0) p 0) 0
blank n p =
    by-test (ltb p n) (λ e. get_or-replicate n p 0 0 (ltb-true p n e))
    (λ e. get_or-eq_default (replicate n 0) 0
    (omega (arith, ltb-false p n e, length-replicate {A = ℕ} n 0)))

pub marks-none : Marks [] (replicate most_slots 0)
marks-none = record {
  long = length-replicate {A = ℕ} most_slots 0;
  holds = λ p n. absurd (n (blank most_slots p));
  filled = λ s i n. absurd i;
}

slot-in : (s : ℕ) → slot_of s < most_slots
slot-in s = omega arith

pub marks-next : (stamps slots : List ℕ) (s : ℕ) → Marks stamps slots
    → Marks (stamps ++ s ∷ []) (marked slots s)
unfolding marked
marks-next stamps slots s m =
    by-test (eqb s 0)
    (λ e. rw e (record {
      long = m.long;
      holds = λ p n. in_left (get_or slots p 0) stamps (s ∷ []) (m.holds p n);
      filled = λ r i n. ⊎_elim (λ j. m.filled r j n)
          (⊎_elim (λ same. absurd (n (same ∙ eqb-true s 0 e))) (λ none. absurd none))
          (in-append r stamps (s ∷ []) i);
    }))
    (λ e. rw e (record {
      long = length-set slots (slot_of s) s ∙ m.long;
      holds = λ p n. by-test (eqb p (slot_of s)) (λ here. holds-here p (eqb-true p (slot_of s) here))
          (λ there. holds-there p n (eqb-false p (slot_of s) there));
      filled = λ r i n. by-test (eqb (slot_of r) (slot_of s))
          (λ here. filled-here r (eqb-true (slot_of r) (slot_of s) here) (eqb-false s 0 e))
          (λ there. filled-there r i n (eqb-false (slot_of r) (slot_of s) there));
    }))
  where
    after : List ℕ
    after = set slots (slot_of s) s

    here-is : get_or after (slot_of s) 0 ≡ s
    here-is = get_or-set_same slots (slot_of s) s 0 (omega (arith, slot-in s, m.long))

    there-is : (p : ℕ) → p ≢ slot_of s → get_or after p 0 ≡ get_or slots p 0
    there-is p n = get_or-set_other slots (slot_of s) p s 0 n

    holds-here : (p : ℕ) → p ≡ slot_of s → In (get_or after p 0) (stamps ++ s ∷ [])
    holds-here p same = in_right (get_or after p 0) stamps (s ∷ [])
        (inl (ap (λ (q : ℕ). get_or after q 0) same ∙ here-is))

    holds-there : (p : ℕ) → get_or after p 0 ≢ 0 → p ≢ slot_of s
        → In (get_or after p 0) (stamps ++ s ∷ [])
    holds-there p n other =
        subst (λ (x : ℕ). In x (stamps ++ s ∷ [])) (sym (there-is p other))
        (in_left (get_or slots p 0) stamps (s ∷ [])
        (m.holds p (λ none. n (there-is p other ∙ none))))

    filled-here : (r : ℕ) → slot_of r ≡ slot_of s → s ≢ 0 → get_or after (slot_of r) 0 ≢ 0
    filled-here r same n none =
        n (sym (ap (λ (q : ℕ). get_or after q 0) same ∙ here-is) ∙ none)

    filled-there : (r : ℕ) → In r (stamps ++ s ∷ []) → r ≢ 0 → slot_of r ≢ slot_of s
        → get_or after (slot_of r) 0 ≢ 0
    filled-there r i n other none =
        ⊎_elim (λ j. m.filled r j n (sym (there-is (slot_of r) other) ∙ none))
        (⊎_elim (λ same. other (ap slot_of same)) (λ j. j))
        (in-append r stamps (s ∷ []) i)

-- ---- asking

absent-in : (stamps : List ℕ) (s : ℕ) → In s stamps → absent stamps s ≡ false
absent-in stamps s i =
    by-test (absent stamps s)
    (λ e. not-both (rw (eqb_same s) at (all_in (λ r. not (eqb r s)) stamps e s i)) refl)
    (λ e. e)

module _ (stamps slots : List ℕ) (s : ℕ) (m : Marks stamps slots) (some : s ≢ 0) where
  pub slot-empty : get_or slots (slot_of s) 0 ≡ 0 → true ≡ absent stamps s
  slot-empty e =
      sym (in_all (λ r. not (eqb r s)) stamps (λ r i. rw (ne_eqb r s (λ same.
      m.filled s (subst (λ (x : ℕ). In x stamps) same i) some e)) refl))

  pub slot_same : get_or slots (slot_of s) 0 ≡ s → false ≡ absent stamps s
  slot_same e =
      sym (absent-in stamps s (subst (λ (x : ℕ). In x stamps) e
      (m.holds (slot_of s) (λ none. some (sym e ∙ none)))))

-- ---- looking at each

pub absent_listed : (stamps : List ℕ) (s : ℕ)
    → list_all (λ r. not (eqb r s)) stamps ≡ absent stamps s
unfolding all
absent_listed [] s = refl
absent_listed (x ∷ xs) s =
    by-test (eqb x s) (λ e. rw e refl) (λ e. rw e (absent_listed xs s))
