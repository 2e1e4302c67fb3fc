-- The searches over numbers are the library's over a range.
use Rattle.std.proofs.Common.{◌≡◌, ℕ, zero, suc, ◌+◌, Bool, ◌&&◌, ◌||◌, refl, sym, ap, ◌∙◌, add-one, arith}
use Rattle.std.proofs.Common.{true, false, List, Option, MatchOption}
use Rattle.std.proofs.iter.Yields.{nat_range_steps}
use Rattle.std.proofs.lemmas.Iterator.{YieldsList-from_range}
use Rattle.std.proofs.lemmas.Iterator.Search.{any_from_yields_List}
use Rattle.std.specs.Fn.{Called}
use Rattle.std.specs.Iterator.{YieldsThen}
use Rattle.std.specs.List.{FoldsTo}
use Rattle.std.specs.declared.ops.Range.{Range}
use denote.Param.Members.{Mut}
use Rattle.std.specs.List.{list_any, list_all, range_with_len}
use Rattle.basics.specs.Lists.{every}
use Rattle.basics.proofs.Cases.{by-test}
use Rattle.log_format.specs.Some.{some_from}

pub some_from-range : (d k : ℕ) (p : ℕ → Bool) → some_from d k p ≡ list_any p (range_with_len k d)
unfolding some_from
some_from-range zero k p = refl
some_from-range (suc d) k p =
    ap (λ (b : Bool). p k || b)
    (ap (λ (j : ℕ). some_from d j p) (sym (add-one k)) ∙ some_from-range d (k + 1) p)

-- a range's last number
last : (n k : ℕ) (p : ℕ → Bool)
    → (list_all p (range_with_len k n) && p (k + n)) ≡ list_all p (range_with_len k (suc n))
last zero k p =
    let e : k + 0 ≡ k = omega arith in
    rw e (by-test (p k) (λ t. rw t) (λ t. rw t))
last (suc n) k p =
    let e : k + suc n ≡ k + 1 + n = omega arith in
    by-test (p k) (λ t. rw (t, e) (last n (k + 1) p)) (λ t. rw t)

pub every-range : (n : ℕ) (p : ℕ → Bool) → every n p ≡ list_all p (range_with_len 0 n)
unfolding every
every-range zero p = refl
every-range (suc n) p =
    ap (λ (b : Bool). b && p n) (every-range n p)
    ∙ ap (λ (j : ℕ). list_all p (range_with_len 0 n) && p j) (omega arith)
    ∙ last n 0 p

-- what `any` over the numbers below n answers, where the closure computes the test
pub any-numbers : {F : Type 0} {g : Mut F (ℕ × Unit {0}) Bool} {s u : Range ℕ} (n : ℕ)
    (test : ℕ → Bool) (f : F) (r : Bool) → s ≡ record { start = 0; end = n }
    → (xs : List ℕ) × (o : Option ℕ) × (j : F) × YieldsThen nat_range_steps s xs o u
    × FoldsTo (λ p x q. Called g p (x, tt) false q) f xs j
    × MatchOption o (r ≡ false) (λ x. (r ≡ true) × ((h : F) × Called g j (x, tt) true h))
    → ((x : ℕ) (b : Bool) (q : F) → Called g f (x, tt) b q → (q ≡ f) × (b ≡ test x))
    → r ≡ some_from n 0 test
any-numbers {u = u} n test f r e ran computes =
    any_from_yields_List test u f r ran (YieldsList-from_range 0 n n e (omega arith)) computes
    ∙ sym (some_from-range n 0 test)
