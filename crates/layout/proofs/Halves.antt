-- The two values in a word of a mixed transaction: each comes back as it was written, and an answer
-- leaves the value written as it is.
use mathlib.Core.Bool.{Bool, true, false}
use mathlib.Core.Path.{◌≡◌, refl}
use Prim.Native.Nat.{ℕ, ◌^◌, ◌<◌}
use native.Mathlib.Omega.{arith}
use Rattle.layout.specs.Layout.{low_half, high_half, both_halves, read_value, written_value}
use Rattle.layout.specs.Layout.{written_word, with_answer}

pub low_below : (w : ℕ) → low_half w < 2 ^ 32
low_below w = omega arith

pub high-below : (w : ℕ) → high_half w < 2 ^ 32
high-below w = omega arith

pub low-both : (low high : ℕ) → low < 2 ^ 32 → low_half (both_halves low high) ≡ low
low-both low high l = omega arith

pub high-both : (low high : ℕ) → high < 2 ^ 32 → high_half (both_halves low high) ≡ high
high-both low high h = omega arith

-- a value to be written
pub written-word : (mixed : Bool) (v : ℕ) → v < 2 ^ 32 → written_value mixed (written_word mixed v) ≡ v
written-word true v l = high-both 0 v l
written-word false v l = refl

-- an answer
pub answer-read : (mixed : Bool) (w v : ℕ) → v < 2 ^ 32 → read_value mixed (with_answer mixed w v) ≡ v
answer-read true w v l = low-both v (high_half w) l
answer-read false w v l = refl

pub answer-written : (w v : ℕ) → written_value true (with_answer true w v) ≡ written_value true w
answer-written w v = high-both v (high_half w) (high-below w)
