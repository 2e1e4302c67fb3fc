-- `hexadecimal::encode` meets its contract.
use mathlib.Core.List.{List}
use mathlib.Core.Path.{◌≡◌, ◌∙◌}
use Prim.Native.Nat.{ℕ, suc, ◌+◌, ◌*◌, ◌≤◌, ◌<◌}
use native.Mathlib.Numerals.{add-one}
use native.Mathlib.Omega.{arith}
use lib.ListN.{length, get_or, drop, drop_of_length-le}
use lib.Seq.{sets, drop-cons}
use Rattle.hexadecimal.specs.Digit.{hex_byte}
use Rattle.hexadecimal.specs.Text.{hex_text}
use Rattle.hexadecimal.proofs.encode.Goals as goal

-- nothing is left to write
ends : (out bytes : List ℕ) (i k : ℕ) → length bytes ≤ k → out ≡ sets out i (hex_text (drop k bytes))
unfolding hex_text
ends out bytes i k h = rw (drop_of_length-le bytes h)

-- a turn writes the next byte's digits, and what is left to write is the rest
turn : (out written bytes : List ℕ) (at k : ℕ) → k < length bytes
    → written ≡ sets out (at + 2 * k) (hex_byte (get_or bytes k 0))
    → sets written (at + 2 * (k + 1)) (hex_text (drop (k + 1) bytes)) ≡ sets out (at + 2 * k)
    (hex_text (drop k bytes))
unfolding hex_text
turn out written bytes at k h e =
    let next : at + 2 * (k + 1) ≡ suc (suc (at + 2 * k)) = omega arith in
    rw (next, add-one, e, drop-cons bytes k 0 h)

pub loop-k-preserved : goal.loop-k-preserved
loop-k-preserved c =
    let lies : c.loop-k.k < length c.args.bytes.now = omega arith in
    turn _ _ _ _ _ lies c.put_byte.ensures ∙ c.loop-k.invariant

pub returns : goal.returns
returns c =
    let past : length c.args.bytes.now ≤ c.loop-k.k = omega arith in
    ends _ _ _ _ past ∙ c.loop-k.invariant
