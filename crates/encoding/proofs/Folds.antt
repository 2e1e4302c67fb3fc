-- Tests and sums over the places of a table and over clients: what they take from each.
use mathlib.Core.Bool.{Bool, true, cond}
use mathlib.Core.List.{List, [], ◌∷◌}
use mathlib.Core.Path.{◌≡◌, refl, ap, ◌∙◌}
use Prim.Native.Nat.{ℕ, zero, suc, ◌+◌, ◌≤◌, ◌<◌}
use native.Mathlib.Omega.{arith}
use lib.ListN.{length, get_or}
use lib.Seq.{ext_get_or}
use Rattle.basics.proofs.Cases.{test-ext}
use Rattle.basics.specs.Lists.{all, counted, every, table}
use Rattle.basics.proofs.Lists.{all_in, in_all, counted-append, every-at, at_every, length-table}
use Rattle.basics.proofs.Lists.{table_at, in_table}
use Rattle.protocol.specs.Range.{total}
use Rattle.protocol.proofs.Each.{Each, each_none, each-one, each_append}

-- ---- Tables

-- one that has a list's length and elements is the list
pub table_of : {A : Type 0} (n : ℕ) (f : ℕ → A) (xs : List A) (none : A) → n ≡ length xs
    → ((i : ℕ) → i < length xs → f i ≡ get_or xs i none)
    → table n f ≡ xs
table_of n f xs none e h = ext_get_or none (table n f) xs (length-table n f ∙ e) (λ i l.
    let below : i < n = omega (arith, length-table n f) in
    table_at n f i none below ∙ h i (omega arith))

pub each-table : {A : Type 0} (P : A → Type 0) (n : ℕ) (f : ℕ → A) → ((i : ℕ) → i < n → P (f i))
    → Each P (table n f)
unfolding table
each-table P zero f h = each_none P
each-table P (suc n) f h =
    each_append P (table n f) (f n ∷ []) (each-table P n f (λ i l. h i (omega arith)))
    (each-one P (f n) (h n (omega arith)))

pub all-table : {A : Type 0} (p : A → Bool) (n : ℕ) (f : ℕ → A)
    → all p (table n f) ≡ every n (λ i. p (f i))
all-table p n f =
    test-ext _ _
    (λ e. at_every n _ (λ i l. all_in p (table n f) e (f i) (in_table n f i l)))
    (λ e. in_all p (table n f) (each-table (λ x. p x ≡ true) n f (λ i l. every-at n _ e i l)))

pub counted-table : {A : Type 0} (p : A → Bool) (n : ℕ) (f : ℕ → A)
    → counted p (table (suc n) f) ≡ counted p (table n f) + cond (p (f n)) 1 0
unfolding table counted
counted-table p n f = counted-append p (table n f) (f n ∷ []) ∙ omega arith

-- places that pass the same tests
pub counted_same : {A : Type 0} (p : A → Bool) (n : ℕ) (f g : ℕ → A)
    → ((i : ℕ) → i < n → p (f i) ≡ p (g i))
    → counted p (table n f) ≡ counted p (table n g)
unfolding table
counted_same p zero f g h = refl
counted_same p (suc n) f g h =
    let last = ap {B = ℕ} (λ (b : Bool). cond b 1 0) (h n (omega arith)) in
    omega (
      arith,
      counted-table p n f,
      counted-table p n g,
      counted_same p n f g
          (λ i l. h i (omega arith)),
      last,
    )

pub counted-list : {A : Type 0} (p : A → Bool) (n : ℕ) (f : ℕ → A) (xs : List A) (none : A)
    → n ≡ length xs
    → ((i : ℕ) → i < length xs → p (f i) ≡ p (get_or xs i none))
    → counted p (table n f) ≡ counted p xs
counted-list p n f xs none e h =
    counted_same p n f (λ i. get_or xs i none) (λ i l. h i (omega arith))
    ∙ ap (counted p) (table_of n (λ i. get_or xs i none) xs none e (λ i l. refl))

-- ---- Clients

pub total-same : (n : ℕ) (f g : ℕ → ℕ) → ((d : ℕ) → 1 ≤ d → d ≤ n → f d ≡ g d)
    → total n f ≡ total n g
unfolding total
total-same zero f g h = refl
total-same (suc n) f g h = omega (
  arith,
  total-same n f g (λ d l m. h d l (omega arith)),
  h (suc n)
      (omega arith) (omega arith),
)
