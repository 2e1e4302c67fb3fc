-- What `below` gives: a number that is below, or none.
use mathlib.Core.Path.{◌≡◌}
use Prim.Native.Nat.{ℕ, ◌≤◌, ◌<◌}
use native.Mathlib.Omega.{arith}
use lib.Dec.{ltb}
use borrow.Author.Tests.{ltb-true, ltb-false}
use Rattle.std.specs.Prelude.{Some, None}
use Rattle.basics.proofs.Cases.{by-test}
use Rattle.hexadecimal.specs.Digit.{below}

pub below-is : (n x y : ℕ) → Some y ≡ below n x → (y < n) × (y ≡ x)
below-is n x y e =
    by-test (ltb x n)
    (λ t. let f : Some y ≡ Some x = rw t at e in
    let g : y ≡ x = cc in
    (rw g (ltb-true x n t), g))
    (λ t. let f : Some y ≡ None = rw t at e in
    let z : ◌≡◌ {A = ℕ} 0 1 = cc in
    absurd (omega arith))

pub below-is-none : (n x : ℕ) → None ≡ below n x → n ≤ x
below-is-none n x e =
    by-test (ltb x n)
    (λ t. let f : None ≡ Some x = rw t at e in
    let z : ◌≡◌ {A = ℕ} 0 1 = cc in
    absurd (omega arith))
    (λ t. ltb-false x n t)
