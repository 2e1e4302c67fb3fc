-- Sums that a loop counts up, over the places of a table and over clients.
use mathlib.Core.Bool.{Bool, true, cond}
use mathlib.Core.Path.{◌≡◌, refl, sym, ap, ◌∙◌}
use Prim.Native.Nat.{ℕ, ◌+◌, ◌≤◌}
use native.Mathlib.Numerals.{add-one}
use native.Mathlib.Omega.{arith}
use lib.Dec.{leb}
use borrow.Author.Tests.{le-leb}
use Rattle.basics.specs.Lists.{counted, table}
use Rattle.basics.proofs.Lists.{counted-le, length-table}
use Rattle.protocol.specs.Range.{total}
use Rattle.encoding.proofs.Folds.{counted-table}

pub counted_none : {A : Type 0} (p : A → Bool) (f : ℕ → A) → counted p (table 0 f) ≡ 0
unfolding table counted
counted_none p f = refl

pub counted_next : {A : Type 0} (p : A → Bool) (f : ℕ → A) (i sum here : ℕ)
    → sum ≡ counted p (table i f) → here ≡ cond (p (f i)) 1 0
    → sum + here ≡ counted p (table (i + 1) f)
counted_next p f i sum here e h = rw (e, h, add-one i) (sym (counted-table p i f))

-- no more are counted than there are
pub counted-few : {A : Type 0} (p : A → Bool) (f : ℕ → A) (n m most : ℕ) → n + m ≤ most
    → true ≡ leb (n + counted p (table m f)) most
counted-few p f n m most l =
    sym (le-leb (n + counted p (table m f)) most
    (omega (arith, counted-le p (table m f), length-table m f)))

pub total-none : (f : ℕ → ℕ) → total 0 f ≡ 0
unfolding total
total-none f = refl

pub total-next : (f : ℕ → ℕ) (i sum here : ℕ) → sum ≡ total i f → here ≡ f (i + 1)
    → sum + here ≡ total (i + 1) f
unfolding total
total-next f i sum here e h = rw (e, h, add-one i)

-- a sum that is counted to its end
pub at-end : (whole : ℕ → ℕ) {n i sum : ℕ} → i ≤ n → n ≤ i → sum ≡ whole i → sum ≡ whole n
at-end whole {n = n} {i = i} l h e = let same : i ≡ n = omega arith in e ∙ ap whole same
