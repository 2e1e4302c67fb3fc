-- A verdict's bytes as one number, and its line in a buffer: the laws that the driver's proofs
-- cite.
use mathlib.Core.List.{List, [], ◌∷◌, ◌++◌}
use mathlib.Core.Path.{◌≡◌, ap, ◌∙◌}
use Prim.Native.Nat.{ℕ, ◌+◌, ◌*◌, ◌/◌, ◌%◌, ◌≤◌, ◌<◌}
use native.Mathlib.Numerals.{add-one}
use native.Mathlib.Omega.{arith}
use lib.ListN.{length, take, drop, set}
use lib.Seq.{sets, sets-eq, take-suc-set, take_at, length-sets}
use Rattle.hexadecimal.specs.Number.{big_endian}

pub malformed-number : (line : ℕ) → line < 65536
    → big_endian 3 (983040 + line) ≡ 0x0f ∷ big_endian 2 line
unfolding big_endian
malformed-number line h =
    let high : (983040 + line) / 256 / 256 % 256 ≡ 15 = omega arith in
    let mid : (983040 + line) / 256 % 256 ≡ line / 256 % 256 = omega arith in
    let low : (983040 + line) % 256 ≡ line % 256 = omega arith in
    rw (high, mid, low)

pub judged-number : (finding line : ℕ) → finding < 256 → line < 65536
    → big_endian 4 (finding * 65536 + line) ≡ 0x00 ∷ big_endian 1 finding ++ big_endian 2 line
unfolding big_endian
judged-number finding line f h =
    let top : (finding * 65536 + line) / 256 / 256 / 256 % 256 ≡ 0 = omega arith in
    let high : (finding * 65536 + line) / 256 / 256 % 256 ≡ finding % 256 = omega arith in
    let mid : (finding * 65536 + line) / 256 % 256 ≡ line / 256 % 256 = omega arith in
    let low : (finding * 65536 + line) % 256 ≡ line % 256 = omega arith in
    rw (top, high, mid, low)

-- a text stored at the front of a buffer, and a byte behind it
pub line-stored : (vs out : List ℕ) (n c : ℕ) → length vs ≡ n → n + 1 ≤ length out
    → take (n + 1) (set (sets out 0 vs) n c) ≡ vs ++ c ∷ []
line-stored vs out n c e h =
    let front : take n (sets out 0 vs) ≡ vs =
    ap (take n) (sets-eq vs out 0 (omega arith)) ∙ take_at vs (drop (0 + length vs) out) n e in
    ap (λ (m : ℕ). take m (set (sets out 0 vs) n c)) (add-one n)
    ∙ take-suc-set (sets out 0 vs) n c (omega (arith, length-sets out 0 vs))
    ∙ ap (λ (l : List ℕ). l ++ c ∷ []) front
