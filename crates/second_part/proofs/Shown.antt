-- The stamps that one pass chooses from the first replies are those that they show.
use mathlib.Core.Bool.{Bool, true, false, ◌&&◌}
use mathlib.Core.List.{List}
use mathlib.Core.Path.{◌≡◌, refl, sym, ap, ◌∙◌}
use Prim.Native.Nat.{ℕ, zero, suc, ◌+◌, ◌-◌, ◌*◌, ◌≤◌, ◌<◌}
use native.Mathlib.Omega.{arith}
use lib.Dec.{ltb}
use lib.ListN.{get_or}
use Rattle.basics.specs.Fold.{up_to}
use Rattle.basics.proofs.Cases.{by-test}
use Rattle.basics.proofs.Fold.{up_to-all, up_to-suc, turn-first}
use Rattle.itemset.specs.Set.{has, set_of}
use Rattle.layout.specs.Layout.{most_items, entry_words, firsts, base}
use Rattle.layout.specs.Decode.{first_in}
use Rattle.start.specs.Choice.{entries_from, ChosenAfter}
use Rattle.start.proofs.Choice.{choice-ext, chosen-all}
use Rattle.second_part.specs.SecondPart.{replies_in, shown, older_than, ask_again}

-- where the row of client d's first replies starts
abbrev pub first_from : ℕ → ℕ
first_from d = base firsts + entry_words * most_items * (d - 1)

entries-first : (b : List ℕ) (d s i : ℕ)
    → entries_from b (first_from d) false s i ≡ replies_in b d s i
entries-first b d s i =
    by-test (has s i)
    (λ e. rw e (λ x. record { stamp = get_or b (place 0 x) 0; set = get_or b (place 1 x) 0 }))
    (λ e. rw e refl)
  where
    place : (f : ℕ) → first_from d + (entry_words * i + f)
        ≡ base firsts + (entry_words * most_items * (d - 1) + (entry_words * i + f))
    place f = omega arith

pub chosen-first : (b : List ℕ) (d s items : ℕ) (stamps : List ℕ)
    → ChosenAfter (entries_from b (first_from d) false s) s items stamps → items ≤ most_items
    → (j : ℕ) → j < items → has s j ≡ true → get_or stamps j 0 ≡ shown b d s items j
chosen-first b d s items stamps h narrow j l e =
    chosen-all _ s items stamps h narrow j l e
    ∙ choice-ext _ (replies_in b d s) j items (entries-first b d s j)
    (λ i g. entries-first b d s i)

-- ---- the stamps of the set's items alone count

pub set_of-ext : (n : ℕ) (p q : ℕ → Bool) → ((k : ℕ) → k < n → p k ≡ q k) → set_of n p ≡ set_of n q
unfolding set_of
set_of-ext zero p q h = refl
set_of-ext (suc n) p q h =
    rw (set_of-ext n p q (λ k l. h k (omega arith)), h n (omega arith)) refl

pub older-same : (b : List ℕ) (d s : ℕ) (stamps other : ℕ → ℕ) (n : ℕ)
    → ((k : ℕ) → k < n → has s k ≡ true → stamps k ≡ other k)
    → older_than b d s stamps n ≡ older_than b d s other n
unfolding older_than
older-same b d s stamps other n h =
    set_of-ext n _ _ (λ k l. by-test (has s k)
    (λ e. ap (λ (x : ℕ). has s k && ltb (first_in b d k).stamp x) (h k l e))
    (λ e. rw e refl))

pub again-same : (b : List ℕ) (d s : ℕ) (stamps other : ℕ → ℕ) (n : ℕ)
    → ((k : ℕ) → k < n → has s k ≡ true → stamps k ≡ other k)
    → up_to (ask_again d s stamps) b n ≡ up_to (ask_again d s other) b n
again-same b d s stamps other n h =
    up_to-all (λ k x. x ≡ up_to (ask_again d s other) b k) (ask_again d s stamps) b n
    (turn-first (ask_again d s other) b)
    (λ k x l e.
    by-test (has s k) (λ f. rw (f, h k l f) refl) (λ f. rw f refl)
    ∙ ap (λ (y : List ℕ). ask_again d s other y k) e
    ∙ sym (up_to-suc (ask_again d s other) b k))
