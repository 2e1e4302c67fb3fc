-- What decoding a line answers (document 01: frames).
use mathlib.Core.Bool.{true, false}
use mathlib.Core.List.{List}
use mathlib.Core.Path.{◌≡◌}
use Prim.Native.Nat.{ℕ, ◌/◌}
use native.Mathlib.Omega.{arith}
use lib.ListN.{length}
use Rattle.std.specs.Prelude.{Some, None}
use Rattle.basics.proofs.Cases.{by-test}
use Rattle.hexadecimal.specs.Text.{is_hex}
use Rattle.hexadecimal.specs.Decode.{decoded}

-- what an answer tells of the line
pub decoded-bytes : (line : List ℕ) (n : ℕ) → Some n ≡ decoded line → (is_hex line ≡ true)
    × (n ≡ length line / 2)
decoded-bytes line n e =
    by-test (is_hex line)
    (λ t. (t, (let f : Some n ≡ Some (length line / 2) = rw t at e in cc)))
    (λ t.
    let f : Some n ≡ None = rw t at e in
    let z : ◌≡◌ {A = ℕ} 0 1 = cc in
    absurd (omega arith))

pub decoded-malformed : (line : List ℕ) → None ≡ decoded line → is_hex line ≡ false
decoded-malformed line e =
    by-test (is_hex line)
    (λ t.
    let f : None ≡ Some (length line / 2) = rw t at e in
    let z : ◌≡◌ {A = ℕ} 0 1 = cc in
    absurd (omega arith))
    (λ t. t)
