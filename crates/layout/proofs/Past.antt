-- Changes that keep the block's length, and every word past the length that a block needs.
use mathlib.Core.Bool.{Bool, cond}
use mathlib.Core.List.{List}
use mathlib.Core.Path.{◌≡◌, refl, ◌∙◌}
use Prim.Native.Nat.{ℕ, ◌+◌, ◌*◌, ◌≤◌, ◌<◌}
use native.Mathlib.Omega.{arith}
use lib.ListN.{length, get_or}
use lib.Seq.{get_or-set_other}
use Rattle.basics.specs.Fold.{up_to}
use Rattle.basics.proofs.Fold.{up_to-all}
use Rattle.protocol.specs.declared.Entry.{Entry}
use Rattle.protocol.proofs.Put.{by_cond}
use Rattle.layout.specs.Layout.{entry_words, Section, firsts, base, needed, store, first_at}
use Rattle.layout.specs.Store.{store_entry, store_first}
use Rattle.layout.proofs.At.{length-store}
use Rattle.layout.proofs.Sections.{section-end, row_width, row_at, row_in}

pub record SamePast (b c : List ℕ) : Type 0 where
  pub long : length c ≡ length b
  pub past : (j : ℕ) → needed ≤ j → get_or c j 0 ≡ get_or b j 0

pub past-none : (b : List ℕ) → SamePast b b
past-none b = record { long = refl; past = λ j l. refl }

pub past-trans : {a b c : List ℕ} → SamePast a b → SamePast b c → SamePast a c
past-trans p q = record { long = q.long ∙ p.long; past = λ j l. q.past j l ∙ p.past j l }

-- a change under a test, and one for each number below n
pub past-when : (b c : List ℕ) (t : Bool) → SamePast b c → SamePast b (cond t c b)
past-when b c t p = by_cond (SamePast b) t c b (λ e. p) (λ e. past-none b)

pub past-each : (f : List ℕ → ℕ → List ℕ) (b : List ℕ) (n : ℕ)
    → ((k : ℕ) (c : List ℕ) → k < n → SamePast c (f c k)) → SamePast b (up_to f b n)
past-each f b n turn = up_to-all (λ k c. SamePast b c) f b n (past-none b)
    (λ k c l p. past-trans p (turn k c l))

-- ---- stores

pub past-store : (b : List ℕ) (s : Section) (i v : ℕ) → base s + i < needed
    → SamePast b (store b s i v)
past-store b s i v l = record {
  long = length-store b s i v;
  past = λ j g. get_or-set_other b (base s + i) j v 0 (omega arith);
}

pub past-entry : (b : List ℕ) (s : Section) (i : ℕ) (e : Entry) → base s + (i + 1) < needed
    → SamePast b (store_entry b s i e)
past-entry b s i e l =
    past-trans (past-store b s i e.stamp (omega arith))
    (past-store (store b s i e.stamp) s (i + 1) e.set l)

-- a word of client d
pub past-put : (d : ℕ) → 1 ≤ d → d ≤ 8 → (b : List ℕ) (s : Section) (k v : ℕ) → k < row_width s
    → SamePast b (store b s (row_at s d k) v)
past-put d first last b s k v l =
    past-store b s (row_at s d k) v (omega (arith, row_in s d k first last l, section-end s))

-- a first reply that it keeps
pub past_first : (d : ℕ) → 1 ≤ d → d ≤ 8 → (b : List ℕ) (k : ℕ) (e : Entry) → k < 64
    → SamePast b (store_first b d k e)
past_first d first last b k e l =
    past-trans (past-put d first last b firsts (entry_words * k + 0) e.stamp (omega arith))
    (past-put d first last (store b firsts (first_at d k 0) e.stamp) firsts (entry_words * k + 1)
    e.set (omega arith))
