-- `hexadecimal::put_bytes` meets its contract: the last byte is written first.
use mathlib.Core.List.{List, [], ◌∷◌}
use mathlib.Core.Path.{◌≡◌, sym, ap, ◌∙◌}
use Prim.Native.Nat.{ℕ, zero, suc, ◌+◌, ◌-◌, ◌/◌, ◌%◌, ◌≤◌, ◌<◌}
use native.Mathlib.Nat.{not-suc-le-zero}
use native.Mathlib.Omega.{arith}
use lib.Arith.{le-zero}
use lib.ListN.{length, set}
use lib.Seq.{sets}
use Rattle.hexadecimal.specs.Number.{big_endian}
use Rattle.hexadecimal.proofs.Number.{length-big_endian}
use Rattle.hexadecimal.proofs.Stores.{sets-append, sets-set}
use Rattle.hexadecimal.proofs.put_bytes.Goals as goal

-- nothing is left to write
ends : (out : List ℕ) (at left upper : ℕ) → left ≤ 0 → out ≡ sets out at (big_endian left upper)
unfolding big_endian
ends out at left upper h = rw (le-zero h)

-- a turn writes the last byte, and what is left to write is the bytes before it
turn : (out : List ℕ) (at left upper : ℕ) → 0 < left
    → sets (set out (at + (left - 1)) (upper % 256)) at
    (big_endian (left - 1) (upper / 256)) ≡ sets out at (big_endian left upper)
unfolding big_endian
turn out at zero upper h = absurd (not-suc-le-zero h)
turn out at (suc m) upper h =
    let less : suc m - 1 ≡ m = omega arith in
    let front = big_endian m (upper / 256) in
    let long : length front ≡ m = length-big_endian m (upper / 256) in
    rw less
    (sets-set out at (at + m) front (upper % 256) (omega arith)
    ∙ ap (λ (k : ℕ). set (sets out at front) (at + k) (upper % 256)) (sym long)
    ∙ sym (sets-append out at front (upper % 256 ∷ [])))

pub loop-k-preserved : goal.loop-k-preserved
loop-k-preserved c = turn _ _ _ _ c.loop-k-test.true ∙ c.loop-k.invariant

pub returns : goal.returns
returns c = ends _ _ _ _ c.loop-k-test.false ∙ c.loop-k.invariant
