-- A line written to the front of an output: the digits of its first byte, those of the others and
-- then 0a, stored one behind the other.
use mathlib.Core.List.{List, [], ◌∷◌}
use mathlib.Core.Path.{◌≡◌, refl, ap₂, ◌∙◌}
use Prim.Native.Nat.{ℕ, ◌+◌, ◌*◌}
use native.Mathlib.Omega.{arith}
use lib.ListN.{length, set, length-append}
use lib.Seq.{sets}
use Rattle.hexadecimal.specs.Digit.{hex_byte}
use Rattle.hexadecimal.proofs.Stores.{sets-join}
use Rattle.hexadecimal.specs.Text.{hex_text}
use Rattle.hexadecimal.proofs.Text.{length-hex_text}
use Rattle.store_frames.specs.Answers.{line_of}

pub length-line_of : (bytes : List ℕ) → length (line_of bytes) ≡ 2 * length bytes + 1
length-line_of bytes =
    length-append (hex_text bytes) (0x0a ∷ []) ∙ omega (arith, length-hex_text bytes)

pub line-stored : (status : ℕ) (bytes out : List ℕ)
    → set (sets (sets out 0 (hex_byte status)) 2 (hex_text bytes)) (2 * length bytes + 2) 0x0a
    ≡ sets out 0 (line_of (status ∷ bytes))
unfolding hex_text
line-stored status bytes out =
    ap₂ (λ (l : List ℕ) (i : ℕ). set l i 0x0a)
    (sets-join out 0 2 (hex_byte status) (hex_text bytes) refl)
    (omega arith)
    ∙ sets-join out 0 (2 * length (status ∷ bytes)) (hex_text (status ∷ bytes)) (0x0a ∷ [])
    (omega (arith, length-hex_text (status ∷ bytes)))
