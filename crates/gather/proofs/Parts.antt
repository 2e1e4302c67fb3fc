-- A stamp by its parts: initial or with both in range, and one that is not initial.
use Rattle.std.proofs.Common.{◌≡◌, ℕ, zero, suc, Bool, true, false, not, ◌&&◌, ◌||◌, eqb, leb, refl, arith, eq-eqb, ne_eqb, eqb-true, le-leb}
use mathlib.Core.Bool.{beq}
use Rattle.basics.proofs.Cases.{test-ext, and_left, and_right}
use Rattle.protocol.specs.Tables.{number_of, writer_of}
use Rattle.protocol.specs.Range.{fits, not_initial, stamp_in_range}
use Rattle.gather.specs.Sized.{sized}

-- number and writer are both 0 or neither, and the writer is a client
abbrev pub parts_test : ℕ → ℕ → Bool
parts_test clients stamp = beq (eqb (writer_of stamp) 0) (eqb (number_of stamp) 0)
    && leb (writer_of stamp) clients

not-one : (n : ℕ) → leb 1 n ≡ not (eqb n 0)
not-one zero = refl
not-one (suc n) = rw (le-leb 1 (suc n) (omega arith), ne_eqb (suc n) 0 (omega arith))

both-none : (stamp : ℕ) → eqb stamp 0 ≡ (eqb (writer_of stamp) 0 && eqb (number_of stamp) 0)
both-none stamp =
    test-ext _ _
    (λ e. rw (eqb-true stamp 0 e))
    (λ e. eq-eqb stamp 0
    (omega (
      arith,
      eqb-true (writer_of stamp) 0 (and_left _ _ e),
      eqb-true (number_of stamp) 0
          (and_right (eqb (writer_of stamp) 0) _ e),
    )))

parts : (w n f l : Bool) → (w ≡ true → l ≡ true) → (n ≡ true → f ≡ true)
    → ((w && n) || (not n && f && (not w && l))) ≡ (beq w n && l && f)
parts true true f l p q = rw (p refl, q refl)
parts true false true l p q = refl
parts true false false l p q = refl
parts false true f l p q = refl
parts false false true true p q = refl
parts false false true false p q = refl
parts false false false true p q = refl
parts false false false false p q = refl

pub stamp-parts : (clients items stamp : ℕ)
    → stamp_in_range (sized clients items) stamp ≡ (parts_test clients stamp && fits (number_of stamp))
unfolding stamp_in_range
stamp-parts clients items stamp =
    rw (both-none stamp, not-one (number_of stamp), not-one (writer_of stamp))
    (parts (eqb (writer_of stamp) 0) (eqb (number_of stamp) 0) (fits (number_of stamp))
    (leb (writer_of stamp) clients)
    (λ e. le-leb (writer_of stamp) clients (omega (arith, eqb-true (writer_of stamp) 0 e)))
    (λ e. rw (eqb-true (number_of stamp) 0 e)))

-- ---- One that is not initial

later : (z n f c : Bool) → (z ≡ true → n ≡ false) → ((z || (n && f && c)) && not z) ≡ (n && c && f)
later true n f c h = rw (h refl)
later false false f c h = refl
later false true true true h = refl
later false true true false h = refl
later false true false true h = refl
later false true false false h = refl

pub later-parts : (clients items stamp : ℕ)
    → (stamp_in_range (sized clients items) stamp && not_initial stamp)
    ≡ (leb 1 (number_of stamp) && (leb 1 (writer_of stamp) && leb (writer_of stamp) clients)
    && fits (number_of stamp))
unfolding stamp_in_range
later-parts clients items stamp =
    later (eqb stamp 0) (leb 1 (number_of stamp)) (fits (number_of stamp))
    (leb 1 (writer_of stamp) && leb (writer_of stamp) clients)
    (λ e. rw (eqb-true stamp 0 e))
