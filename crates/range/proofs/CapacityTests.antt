-- The replies that have come to a client and count in the load, and whether a message is a prepare,
-- read off the words.
use mathlib.Core.Bool.{Bool, true, false, cond}
use mathlib.Core.List.{List}
use mathlib.Core.Logic.{◌≢◌}
use mathlib.Core.Path.{◌≡◌, refl, sym, ap, ◌∙◌}
use Prim.Native.Nat.{ℕ, ◌-◌, ◌≤◌, ◌<◌}
use native.Mathlib.Omega.{arith}
use lib.Dec.{eqb, leb}
use mir.Val.{bool_byte}
use borrow.Author.Tests.{leb-true, leb-false, eqb-true, eqb-false, ne_eqb}
use Rattle.basics.proofs.Cases.{by-test}
use Rattle.itemset.specs.Set.{count}
use Rattle.itemset.proofs.Counts.{count-empty}
use Rattle.protocol.specs.Message.{kinds, is_prepare}
use Rattle.protocol.specs.Range.{arrived}
use Rattle.layout.specs.Layout.{at, scalars, mode_at, set_at, awaited_at, write_set_at, write_awaited_at}
use Rattle.layout.specs.Decode.{client_in, kind_in, message_of, message_in}
use Rattle.layout.proofs.Held.{kind-read, last-kind}

module _ (b : List ℕ) (d : ℕ) where
  abbrev mode : ℕ
  mode = at b scalars (mode_at d)

  arrived-none : mode ≢ 2 → mode ≢ 3 → mode ≢ 5 → arrived (client_in b d) ≡ 0
  unfolding arrived client_in
  arrived-none n m x =
      rw (ne_eqb mode 2 n, ne_eqb mode 3 m, ne_eqb mode 5 x)
      (by-test (eqb mode 4) (λ e. rw e (omega (arith, count-empty)))
      (λ e. rw e (omega (arith, count-empty))))

  pub arrived-other : mode ≢ 2 → mode ≢ 3 → mode ≢ 5 → 0 ≡ arrived (client_in b d)
  arrived-other n m x = sym (arrived-none n m x)

  -- of a write, and of the first part of a fast read
  pub arrived-come : (s a : ℕ) → s ≡ at b scalars (set_at d) → a ≡ at b scalars (awaited_at d)
      → 2 ≤ mode → mode ≤ 3 → count s - count a ≡ arrived (client_in b d)
  unfolding arrived client_in
  arrived-come s a p q l h =
      by-test (eqb mode 2)
      (λ e. rw (eqb-true mode 2 e, p, q) (omega arith))
      (λ e. let first : mode ≡ 3 = omega (arith, eqb-false mode 2 e) in
      rw (first, p, q) (omega (arith, count-empty)))

  -- of a mixed transaction
  pub arrived-mixed : (s a : ℕ) → s ≡ at b scalars (write_set_at d)
      → a ≡ at b scalars (write_awaited_at d)
      → mode ≡ 5 → count s - count a ≡ arrived (client_in b d)
  unfolding arrived client_in
  arrived-mixed s a p q e = rw (e, p, q) (omega arith)

cond-byte : (t : Bool) → bool_byte t ≡ cond t 1 0
cond-byte true = refl
cond-byte false = refl

prepare-kind : (b : List ℕ) (i : ℕ) → is_prepare (message_in b i) ≡ eqb (kind_in b i) 1
unfolding message_in message_of
prepare-kind b i =
    let n = kind_in b i in
    by-test (eqb n 0) (λ z. rw (eqb-true n 0 z) refl)
    (λ z. by-test (leb n kinds)
    (λ l. ap (λ (kind : ℕ). eqb kind 1)
    (kind-read b i (omega (arith, eqb-false n 0 z)) (leb-true n kinds l)))
    (λ l. let past : kinds < n = leb-false n kinds l in
    ap is_prepare (last-kind n _ _ _ _ _ _ (omega arith)) ∙ sym (ne_eqb n 1 (omega arith))))

pub prepare-byte : (b : List ℕ) (i : ℕ) {kind : ℕ} → kind ≡ kind_in b i
    → bool_byte (eqb kind 1) ≡ cond (is_prepare (message_in b i)) 1 0
prepare-byte b i e = rw (e, prepare-kind b i) (cond-byte (eqb (kind_in b i) 1))
