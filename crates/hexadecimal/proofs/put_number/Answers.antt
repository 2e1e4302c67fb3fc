-- `hexadecimal::put_number` meets its contract: the last byte is written first.
use mathlib.Core.List.{List, [], ◌∷◌}
use mathlib.Core.Path.{◌≡◌, sym, ap, ◌∙◌}
use Prim.Native.Nat.{ℕ, zero, suc, ◌+◌, ◌-◌, ◌*◌, ◌/◌, ◌%◌, ◌≤◌, ◌<◌}
use native.Mathlib.Nat.{not-suc-le-zero}
use native.Mathlib.Omega.{arith}
use lib.Arith.{le-zero}
use lib.ListN.{length}
use lib.Seq.{sets}
use Rattle.hexadecimal.specs.Digit.{hex_byte}
use Rattle.hexadecimal.specs.Number.{big_endian}
use Rattle.hexadecimal.proofs.Number.{length-big_endian}
use Rattle.hexadecimal.proofs.Stores.{sets-append, sets-sets}
use Rattle.hexadecimal.specs.Text.{hex_text}
use Rattle.hexadecimal.proofs.Text.{hex_text-append, length-hex_text}
use Rattle.hexadecimal.proofs.put_number.Goals as goal

-- nothing is left to write
ends : (out : List ℕ) (at left rest : ℕ) → left ≤ 0
    → out ≡ sets out at (hex_text (big_endian left rest))
unfolding big_endian hex_text
ends out at left rest h = rw (le-zero h)

-- a turn writes the last byte's digits, and what is left to write is the bytes before it
turn : (out written : List ℕ) (at left rest : ℕ) → 0 < left
    → written ≡ sets out (at + 2 * (left - 1)) (hex_byte (rest % 256))
    → sets written at (hex_text (big_endian (left - 1) (rest / 256))) ≡ sets out at
    (hex_text (big_endian left rest))
unfolding big_endian hex_text
turn out written at zero rest h e = absurd (not-suc-le-zero h)
turn out written at (suc m) rest h e =
    let less : suc m - 1 ≡ m = omega arith in
    let front = hex_text (big_endian m (rest / 256)) in
    let long : length front ≡ 2 * m =
    length-hex_text (big_endian m (rest / 256))
    ∙ ap (λ (k : ℕ). 2 * k) (length-big_endian m (rest / 256)) in
    rw (e, less, hex_text-append (big_endian m (rest / 256)) (rest % 256 ∷ []))
    (sets-sets out at (at + 2 * m) front (hex_byte (rest % 256)) (omega arith)
    ∙ ap (λ (k : ℕ). sets (sets out at front) (at + k) (hex_byte (rest % 256))) (sym long)
    ∙ sym (sets-append out at front (hex_byte (rest % 256))))

pub loop-k-preserved : goal.loop-k-preserved
loop-k-preserved c =
    turn _ _ _ _ _ c.loop-k-test.true c.put_byte.ensures ∙ c.loop-k.invariant

pub returns : goal.returns
returns c = ends _ _ _ _ c.loop-k-test.false ∙ c.loop-k.invariant
