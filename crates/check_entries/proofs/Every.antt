-- What `all` over the numbers below a bound tells of a test of each.
use mathlib.Core.Bool.{Bool, true, false}
use mathlib.Core.List.{List}
use mathlib.Core.Path.{◌≡◌, refl, sym, subst, ◌∙◌}
use Prim.Native.Nat.{ℕ, ◌<◌, zero-le}
use denote.Param.Members.{Mut}
use lib.ListN.{length, get_or}
use native.Mathlib.Omega.{arith}
use Rattle.std.proofs.Common.{zero-add}
use Rattle.std.specs.Prelude.{Option, slice_index_or}
use Rattle.std.specs.Bool.{MatchBool}
use Rattle.std.specs.Fn.{Called}
use Rattle.std.specs.Iterator.{YieldsThen}
use Rattle.std.specs.List.{range_with_len, AllWithin, HoldsAt, FoldsTo}
use Rattle.std.specs.Option.{MatchOption}
use Rattle.std.specs.declared.ops.Range.{Range}
use Rattle.std.proofs.iter.Yields.{nat_range_steps}
use Rattle.std.proofs.lemmas.Iterator.{cases_from_all, YieldsList-from_range}
use Rattle.std.proofs.lemmas.List.FromFn.{length-range_with_len, get_or-range_with_len}
use Rattle.basics.proofs.Cases.{by-test, not-both}
use Rattle.basics.specs.Lists.{every}
use Rattle.basics.proofs.Lists.{every-at, at_every}

module _ (n : ℕ) (p : ℕ → Bool) where
  abbrev pub Passes : Bool → ℕ → Type 0
  Passes t k = p k ≡ t

  number : (k : ℕ) → k < n → slice_index_or (range_with_len 0 n) k 0 ≡ k
  number k l = get_or-range_with_len 0 n k 0 l ∙ zero-add k

  every-all : {r : Bool}
      → MatchBool r (AllWithin (Passes true) (range_with_len 0 n) 0 (length (range_with_len 0 n)))
      ((k : ℕ) × (k < length (range_with_len 0 n)) × HoldsAt (Passes false) (range_with_len 0 n) k)
      → r ≡ every n p
  every-all {r = true} h =
      sym (at_every n p (λ k l. subst (Passes true) (number k l)
      (h k 0 zero-le (omega (arith, l, length-range_with_len 0 n)))))
  every-all {r = false} h =
      let l : h.0 < n = omega (arith, h.1, length-range_with_len 0 n) in
      by-test (every n p)
      (λ t. not-both (every-at n p t h.0 l) (subst (Passes false) (number h.0 l) (h.2 0)))
      (λ t. sym t)

  -- what a call of `all` says of its run, and what the closure's answers tell, as a test of each
  pub every-of_all : {F : Type 0} {g : Mut F (ℕ × Unit {0}) Bool} {u : Range ℕ} {f : F} {r : Bool}
      → (xs : List ℕ) × (o : Option ℕ) × (j : F)
      × YieldsThen nat_range_steps (record { start = 0; end = n }) xs o u
      × FoldsTo (λ h x q. Called g h (x, tt) true q) f xs j
      × MatchOption o (r ≡ true) (λ x. (r ≡ false) × ((h : F) × Called g j (x, tt) false h))
      → ((x : ℕ) (q : F) → Called g f (x, tt) true q → (q ≡ f) × (p x ≡ true))
      → ((x : ℕ) (q : F) → Called g f (x, tt) false q → p x ≡ false) → r ≡ every n p
  every-of_all {u = u} {f = f} {r = r} ran passes fails =
      every-all (cases_from_all u f r (Passes true) (Passes false) ran
      (YieldsList-from_range 0 n n refl (omega arith)) passes fails)
