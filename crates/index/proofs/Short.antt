-- No walk has more turns than keys have digits: a key that a walk meets after d turns has the same
-- d lowest digits as the walk's own key.
use mathlib.Core.List.{List}
use mathlib.Core.Logic.{◌≢◌}
use mathlib.Core.Path.{◌≡◌, refl, sym, ap, ◌∙◌}
use Prim.Native.Nat.{ℕ, zero, suc, ◌-◌, ◌/◌, ◌^◌, ◌≤◌, ◌<◌}
use lib.Dec.{ltb}
use lib.ListN.{length, get_or}
use native.Mathlib.Nat.{pow-suc}
use native.Mathlib.Omega.{arith}
use borrow.Author.Tests.{ltb-true, ltb-false}
use Rattle.basics.proofs.Cases.{by-test}
use Rattle.index.specs.Index.{base, rest_at, link_at, Leads, Walked, Indexed}

-- ---- digits

rest_from : (key n : ℕ) → rest_at key (suc n) ≡ rest_at (key / base) n
unfolding rest_at
rest_from key zero = refl
rest_from key (suc n) = ap (λ (r : ℕ). r / base) (rest_from key n)

-- d turns leave no digit of a key below base ^ d
rest-none : (key d : ℕ) → key < base ^ d → rest_at key d ≡ 0
unfolding rest_at
rest-none key zero l = omega (arith, l)
rest-none key (suc d) l =
    rest_from key d ∙ rest-none (key / base) d (omega (arith, l, pow-suc base d))

-- ---- walks

module _ (keys links : List ℕ) (n : ℕ) (i : Indexed keys links n) where
  -- walks that come to the same link have made as many turns, by the same digits
  same-walk : (a b m j : ℕ) → Leads links a m → Leads links b j
      → link_at links a m ≡ link_at links b j → (m ≡ j) × (rest_at a m ≡ rest_at b j → a ≡ b)
  unfolding link_at rest_at
  same-walk a b zero zero la lb e = (refl, λ r. r)
  same-walk a b zero (suc j) la lb e = absurd (omega (arith, e))
  same-walk a b (suc m) zero la lb e = absurd (omega (arith, e))
  same-walk a b (suc m) (suc j) la lb e =
      let h = link_at links a m in
      let g = link_at links b j in
      let some : get_or links h 0 ≢ 0 = la m (omega arith) in
      let same : get_or links h 0 ≡ get_or links g 0 = omega (arith, e, some, lb j (omega arith)) in
      let before =
      same-walk a b m j (λ k l. la k (omega arith)) (λ k l. lb k (omega arith))
      (i.once h g some same) in
      (ap suc before.0, λ r. before.1 (omega (arith, e, same, r)))

  module _ (d : ℕ) (low : (p : ℕ) → p < length keys → get_or keys p 0 < base ^ d) (key : ℕ)
      (l : key < base ^ d) where
    -- the key that is met after d turns is the walk's own
    met-own : Leads links key (suc d)
        → get_or keys (get_or links (link_at links key d) 0 - 1) 0 ≡ key
    met-own led =
        let h = link_at links key d in
        let p = get_or links h 0 - 1 in
        let met = get_or keys p 0 in
        let some : get_or links h 0 ≢ 0 = led d (omega arith) in
        let r = i.reached p (omega (arith, some, i.among h)) in
        let g = link_at links met r.0 in
        let named : get_or links h 0 ≡ get_or links g 0 = omega (arith, some, r.1, i.names h some) in
        let same =
        same-walk key met d r.0 (λ m k. led m (omega arith)) r.2 (i.once h g some named) in
        let none : rest_at met d ≡ 0 =
        rest-none met d (low p (omega (arith, some, i.rise.within h))) in
        sym (same.1 (rest-none key d l ∙ sym none ∙ ap (rest_at met) same.0))

    -- all keys and the walk's own are below base ^ d: at most d turns, so at most d + 1 links
    pub walk-short : {at rest : ℕ} → (w : Walked keys links key at rest) → w.turns ≤ d
    walk-short w =
        by-test (ltb d w.turns)
        (λ t. let more : d < w.turns = ltb-true d w.turns t in
        absurd (w.others d more (met-own (λ m k. w.leads m (omega arith)))))
        (λ t. omega (arith, ltb-false d w.turns t))
