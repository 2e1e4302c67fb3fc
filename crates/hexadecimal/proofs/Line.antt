-- Lines of a text, each ended by byte 0a (document 01: frames). The laws say that a line's end is
-- the first such byte.
use mathlib.Core.Bool.{true}
use mathlib.Core.List.{List, [], ◌∷◌}
use mathlib.Core.Path.{◌≡◌, sym, ap, ◌∙◌}
use Prim.Native.Nat.{ℕ, zero, suc, ◌+◌, ◌-◌, ◌≤◌, ◌<◌}
use native.Mathlib.Nat.{add-zero, not-suc-le-zero, le_of_suc-le-suc}
use native.Mathlib.Numerals.{add-one}
use native.Mathlib.Omega.{arith}
use lib.Dec.{eqb, ltb}
use lib.ListN.{length, get_or, drop, length-drop, drop_of_length-le}
use lib.Seq.{get_or-drop, drop-cons}
use borrow.Author.Tests.{eqb-true, eq-eqb, ne_eqb, ltb-true, ltb-false, lt-ltb}
use Rattle.basics.proofs.Cases.{by-test}
use Rattle.hexadecimal.specs.Line.{line_length, line_end, is_ended}

-- ---- line_length

pub line_length-le : (s : List ℕ) → line_length s ≤ length s
unfolding line_length
line_length-le [] = omega arith
line_length-le (c ∷ s) =
    by-test (eqb c 10) (λ e. rw e (omega arith)) (λ e. rw e (omega (arith, line_length-le s)))

pub line_length-none : (s : List ℕ) (i : ℕ) → i < line_length s → get_or s i 0 ≡ 10 → ⊥
unfolding line_length
line_length-none [] i h e = not-suc-le-zero h
line_length-none (c ∷ s) zero h e = not-suc-le-zero (rw (eq-eqb c 10 e) at h)
line_length-none (c ∷ s) (suc i) h e =
    let rest : i < line_length s → ⊥ = λ l. line_length-none s i l e in
    by-test (eqb c 10)
    (λ t. not-suc-le-zero (rw t at h))
    (λ t. rest (le_of_suc-le-suc (rw t at h)))

pub line_length-at : (s : List ℕ) → line_length s < length s → get_or s (line_length s) 0 ≡ 10
unfolding line_length
line_length-at [] h = absurd (not-suc-le-zero h)
line_length-at (c ∷ s) h =
    let rest : line_length s < length s → get_or s (line_length s) 0 ≡ 10 = λ l. line_length-at s l in
    by-test (eqb c 10)
    (λ t. rw t (eqb-true c 10 t))
    (λ t. rw t (rest (le_of_suc-le-suc (rw t at h))))

-- ---- line_end

pub line_end-ge : (s : List ℕ) (at : ℕ) → at ≤ line_end s at
unfolding line_end
line_end-ge s at = omega arith

pub line_end-le : (s : List ℕ) (at : ℕ) → at ≤ length s → line_end s at ≤ length s
unfolding line_end
line_end-le s at h = omega (arith, line_length-le (drop at s), length-drop at s)

-- no 0a before it
pub line_end-none : (s : List ℕ) (at i : ℕ) → at ≤ i → i < line_end s at → get_or s i 0 ≡ 10 → ⊥
unfolding line_end
line_end-none s at i p q e =
    line_length-none (drop at s) (i - at) (omega arith)
    (get_or-drop at s (i - at) 0 ∙ ap (λ (j : ℕ). get_or s j 0) (omega arith) ∙ e)

-- a 0a at it, where the line is ended
pub line_end-at : (s : List ℕ) (at : ℕ) → is_ended s at ≡ true → get_or s (line_end s at) 0 ≡ 10
unfolding line_end
line_end-at s at e =
    sym (get_or-drop at s (line_length (drop at s)) 0)
    ∙ line_length-at (drop at s) (omega (
      arith,
      ltb-true (line_end s at)
          (length s) e,
      length-drop at s,
    ))

-- past the text it is where the search began
pub line_end-past : (s : List ℕ) (at : ℕ) → length s ≤ at → line_end s at ≡ at
unfolding line_end line_length
line_end-past s at h = rw (drop_of_length-le s h) (add-zero at)

-- at a 0a it is there
pub line_end-here : (s : List ℕ) (at : ℕ) → at < length s → get_or s at 0 ≡ 10 → line_end s at ≡ at
unfolding line_end line_length
line_end-here s at h e = rw (drop-cons s at 0 h, eq-eqb (get_or s at 0) 10 e) (add-zero at)

-- at another byte it is the next place's
pub line_end-next : (s : List ℕ) (at : ℕ) → at < length s → (get_or s at 0 ≡ 10 → ⊥)
    → line_end s at ≡ line_end s (at + 1)
unfolding line_end line_length
line_end-next s at h e =
    rw (drop-cons s at 0 h, ne_eqb (get_or s at 0) 10 e, add-one) (omega arith)

-- a 0a with none between it and `at` is it
pub line_end-first : (s : List ℕ) (at e : ℕ) → at ≤ e → e < length s → get_or s e 0 ≡ 10
    → ((i : ℕ) → at ≤ i → i < e → get_or s i 0 ≡ 10 → ⊥) → line_end s at ≡ e
line_end-first s at e p q t none =
    by-test (ltb (line_end s at) e)
    (λ f.
    let l = ltb-true (line_end s at) e f in
    absurd (none (line_end s at) (line_end-ge s at) l
    (line_end-at s at (lt-ltb (line_end s at) (length s) (omega arith)))))
    (λ f.
    let l = ltb-false (line_end s at) e f in
    by-test (ltb e (line_end s at))
    (λ g. absurd (line_end-none s at e p (ltb-true e (line_end s at) g) t))
    (λ g. omega (arith, ltb-false e (line_end s at) g)))
