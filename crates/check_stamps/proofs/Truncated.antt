-- A ghost field keeps its fact truncated, since the links of one key may be reached by more than one
-- count of turns. The fact itself is had again: the least such count is only one.
use mathlib.Core.Bool.{Bool, true, false}
use mathlib.Core.HLevel.{Σ_prop_path}
use mathlib.Core.List.{List}
use mathlib.Core.Logic.{◌⊎◌, inl, inr, ⊎_elim, ∥∥₁_elim, ∥∥₁_map}
use mathlib.Core.Path.{◌≡◌, sym, subst}
use Prim.Native.Nat.{ℕ, zero, suc, ◌≤◌, ◌<◌}
use lib.Dec.{eqb, ltb}
use lib.ListN.{get_or}
use native.Mathlib.Omega.{arith}
use borrow.Author.Tests.{eqb-true, eqb-false, eq-eqb, ltb-true, ltb-false}
use Rattle.std.proofs.Props.{props}
use Rattle.basics.proofs.Cases.{by-test, not-both}
use Rattle.index.specs.Index.{place, link_at, Links, Reached, Index}
use Rattle.check_stamps.specs.Stamps.{Keyed, Held}

-- ---- the least number that passes a test

module _ (q : ℕ → Bool) where
  abbrev NoneBelow : ℕ → Type 0
  NoneBelow m = (j : ℕ) → j < m → q j ≡ false

  abbrev Least : Type 0
  Least = (m : ℕ) × ((q m ≡ true) × NoneBelow m)

  at_most : (a b : Least) → a.0 ≤ b.0
  at_most a b =
      by-test (ltb b.0 a.0)
      (λ t. not-both b.1.0 (a.1.1 b.0 (ltb-true b.0 a.0 t)))
      (λ t. ltb-false b.0 a.0 t)

  Least-prop : IsProp Least
  Least-prop a b =
      Σ_prop_path {B = λ (m : ℕ). (q m ≡ true) × NoneBelow m}
      (λ m. Prim.hlevel props) (omega (arith, at_most a b, at_most b a))

  -- of the numbers below n, the least, or none passes
  sought : (n : ℕ) → Least ⊎ NoneBelow n
  sought zero = inr (λ j l. absurd (omega (arith, l)))
  sought (suc n) =
      ⊎_elim inl
      (λ none. by-test (q n) (λ t. inl (n, (t, none)))
      (λ f. inr (λ j l. by-test (eqb j n)
      (λ same. subst (λ (i : ℕ). q i ≡ false) (sym (eqb-true j n same)) f)
      (λ other. none j (omega (arith, l, eqb-false j n other))))))
      (sought n)

  pub least : (n : ℕ) → q n ≡ true → Least
  least n e =
      ⊎_elim (λ x. x) (λ none. not-both e (none n (omega arith))) (sought (suc n))

-- ---- a walk that reaches a key

module _ (keys links : List ℕ) (key : ℕ) where
  abbrev arrived : ℕ → Bool
  arrived n = eqb (get_or links (link_at links key n) 0) (suc (place keys key))

  arrives : (r : Reached keys links key) → arrived r.0 ≡ true
  arrives r = eq-eqb (get_or links (link_at links key r.0) 0) (suc (place keys key)) r.1

  not-past : (m : Least arrived) (r : Reached keys links key) → m.0 ≤ r.0
  not-past m r =
      by-test (ltb r.0 m.0)
      (λ t. not-both (arrives r) (m.1.1 r.0 (ltb-true r.0 m.0 t)))
      (λ t. ltb-false r.0 m.0 t)

  reached-of : ∥ Reached keys links key ∥₁ → Reached keys links key
  reached-of h =
      let m : Least arrived = ∥∥₁_elim h (Least-prop arrived) (λ r. least arrived r.0 (arrives r)) in (
        m.0,
        eqb-true (get_or links (link_at links key m.0) 0) (suc (place keys key)) m.1.0,
        ∥∥₁_elim h (Prim.hlevel props) (λ r j l. r.2 j (omega (arith, l, not-past m r))),
      )

-- ---- the links, and the tables

module _ (keys links : List ℕ) (h : ∥ Index keys links ∥₁) where
  links-of : Links keys links
  links-of = record {
    few = ∥∥₁_elim h (Prim.hlevel props) (λ i. i.rise.few);
    long = ∥∥₁_elim h (Prim.hlevel props) (λ i. i.rise.long);
    within = ∥∥₁_elim h (Prim.hlevel props) (λ i. i.rise.within);
    rising = ∥∥₁_elim h (Prim.hlevel props) (λ i. i.rise.rising);
  }

  index-of : Index keys links
  index-of = record {
    rise = links-of;
    among = ∥∥₁_elim h (Prim.hlevel props) (λ i. i.among);
    names = ∥∥₁_elim h (Prim.hlevel props) (λ i. i.names);
    once = ∥∥₁_elim h (Prim.hlevel props) (λ i. i.once);
    reached = λ p l. reached-of keys links (get_or keys p 0) (∥∥₁_map h (λ i. i.reached p l));
  }

pub keyed-of : (b keys links : List ℕ) → ∥ Keyed b keys links ∥₁ → Keyed b keys links
keyed-of b keys links h = record {
  valid = ∥∥₁_elim h (Prim.hlevel props) (λ k. k.valid);
  gathered = ∥∥₁_elim h (Prim.hlevel props) (λ k. k.gathered);
  index = index-of keys links (∥∥₁_map h (λ k. k.index));
}

pub held-of : (b stamps links : List ℕ) → ∥ Held b stamps links ∥₁ → Held b stamps links
held-of b stamps links h = record {
  valid = ∥∥₁_elim h (Prim.hlevel props) (λ k. k.valid);
  gathered = ∥∥₁_elim h (Prim.hlevel props) (λ k. k.gathered);
  index = index-of stamps links (∥∥₁_map h (λ k. k.index));
}
