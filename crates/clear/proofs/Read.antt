-- What the code reads, test by test, is what the definitions say.
use mathlib.Core.Bool.{Bool, false, not, ◌&&◌, ◌||◌}
use mathlib.Core.List.{List, [], ◌∷◌, ◌++◌}
use mathlib.Core.Path.{◌≡◌, refl, sym, ap₂, ◌∙◌}
use Prim.Native.Nat.{ℕ, ◌+◌, ◌<◌}
use native.Mathlib.Numerals.{add-one}
use native.Mathlib.Omega.{arith}
use lib.Dec.{eqb}
use lib.ListN.{length, get_or, set, take}
use lib.Seq.{take-suc, take-suc-set}
use Rattle.basics.specs.Lists.{table}
use Rattle.basics.proofs.Cases.{by-test, not-both}
use Rattle.basics.proofs.Lists.{every-at}
use Rattle.itemset.specs.Set.{has}
use Rattle.protocol.specs.Range.{has_first}
use Rattle.layout.specs.Layout.{header, scalars, at}
use Rattle.layout.specs.Layout.{clients_at, mode_at, set_at, awaited_at}
use Rattle.layout.specs.Layout.{stage_of}
use Rattle.layout.specs.Decode.{read_in}
use Rattle.layout.proofs.FirstWords.{stage-first, stage-second}
use Rattle.clear.specs.Stamps.{none_fast, marked, Marks}
use Rattle.clear.proofs.Slots.{marks-next}

-- a client that is in either part of a fast read
pub one-fast : (b : List ℕ) (n i mode : ℕ) → n ≡ at b header clients_at → i < n
    → mode ≡ at b scalars (mode_at (i + 1)) → eqb (stage_of mode) 0 ≡ false → false ≡ none_fast b
unfolding none_fast
one-fast b n i mode e l m fast =
    sym (by-test (none_fast b)
    (λ t. not-both (every-at (at b header clients_at) _ t i (omega (arith, e))) (rw m at fast))
    (λ f. f))

pub come-read : (b : List ℕ) (d k : ℕ) {mode s a : ℕ} {own left : Bool}
    → mode ≡ at b scalars (mode_at d) → s ≡ at b scalars (set_at d) → a ≡ at b scalars (awaited_at d)
    → own ≡ has s k → left ≡ not (has a k)
    → (own && (eqb mode 4 || (eqb mode 3 && left))) ≡ has_first (read_in b d) k
unfolding has_first
come-read b d k m s a p q =
    let mode = at b scalars (mode_at d) in
    rw (p, q, s, a, m, stage-first mode, stage-second mode) refl

-- ---- the stamps, one after another

pub gathered_next : (f : ℕ → ℕ) (l : List ℕ) (p v : ℕ) → p < length l → take p l ≡ table p f
    → v ≡ f p → take (p + 1) (set l p v) ≡ table (p + 1) f
unfolding table
gathered_next f l p v h e g =
    rw add-one (take-suc-set l p v h ∙ ap₂ (λ (xs : List ℕ) (x : ℕ). xs ++ x ∷ []) e g)

-- ---- the marks, one after another

pub marks-step : (stamps slots after : List ℕ) (p : ℕ) → p < length stamps
    → Marks (take p stamps) slots → after ≡ marked slots (get_or stamps p 0)
    → Marks (take (p + 1) stamps) after
marks-step stamps slots after p l m e =
    rw (add-one, take-suc stamps p 0 l, e)
    (marks-next (take p stamps) slots (get_or stamps p 0) m)
