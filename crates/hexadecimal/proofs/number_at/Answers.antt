-- `hexadecimal::number_at` meets its contract: the number of `k` bytes is below 256 ^ k.
use mathlib.Core.List.{List}
use mathlib.Core.Path.{◌≡◌, refl, sym, ◌∙◌}
use Prim.Native.Nat.{ℕ, ◌+◌, ◌-◌, ◌*◌, ◌^◌, ◌≤◌, ◌<◌}
use native.Mathlib.Nat.{pow-le-pow_right}
use native.Mathlib.Omega.{arith}
use lib.Dec.{lit<}
use lib.ListN.{length, get_or, take, drop}
use lib.Seq.{get_or-drop, get_or-take}
use Rattle.std.proofs.Common.{length-take}
use Rattle.hexadecimal.specs.Bytes.{EachByte}
use Rattle.hexadecimal.specs.Number.{number_at}
use Rattle.hexadecimal.proofs.Number.{number_at-lt, number_at-next}
use Rattle.hexadecimal.proofs.number_at.Goals as goal

-- so many bytes are passed at most
within-n : (s : List ℕ) (at n : ℕ) → length (take (at + n - at) (drop at s)) ≤ n
within-n s at n = simp (length-take) (omega arith)

-- byte k of the n that begin at `at`
byte-k : (s : List ℕ) (at n k : ℕ) → k < n
    → get_or (take (at + n - at) (drop at s)) k 0 ≡ get_or s (at + k) 0
byte-k s at n k h = get_or-take (at + n - at) (drop at s) k 0 (omega arith) ∙ get_or-drop at s k 0

turn : (s : List ℕ) (at n k number : ℕ) → k < n → number ≡ number_at k s at
    → number * 256 + get_or (take (at + n - at) (drop at s)) k 0 ≡ number_at (k + 1) s at
turn s at n k number h e = rw (byte-k s at n k h, e) (sym (number_at-next k s at))

fits : (s : List ℕ) (at n k number : ℕ) → EachByte s → k < n → n ≤ 8 → number ≡ number_at k s at
    → number * 256 + get_or (take (at + n - at) (drop at s)) k 0 < 256 ^ 8
fits s at n k number b h m e =
    omega (
      arith,
      turn s at n k number h e,
      number_at-lt (k + 1) s at b,
      pow-le-pow_right {n = 256} (lit< tt) {i = k + 1} {j = 8} (omega arith),
    )

pub loop-byte-init : goal.loop-byte-init
unfolding number_at
loop-byte-init c = refl

pub overflow_mul-number : goal.overflow_mul-number
overflow_mul-number c =
    let within : c.loop-byte.byte-index < c.args.n = omega (arith, within-n c.args.s.now c.args.at c.args.n) in
    omega (
      arith,
      fits c.args.s.now c.args.at c.args.n c.loop-byte.byte-index c.loop-byte.number
          (λ i. (c.type_inv.s i).fits) within c.requires.0 c.loop-byte.invariant,
    )

pub overflow_add-number : goal.overflow_add-number
overflow_add-number c =
    let within : c.loop-byte.byte-index < c.args.n = omega (arith, within-n c.args.s.now c.args.at c.args.n) in
    omega (
      arith,
      fits c.args.s.now c.args.at c.args.n c.loop-byte.byte-index c.loop-byte.number
          (λ i. (c.type_inv.s i).fits) within c.requires.0 c.loop-byte.invariant,
    )

pub loop-byte-preserved : goal.loop-byte-preserved
loop-byte-preserved c =
    let within : c.loop-byte.byte-index < c.args.n = omega (arith, within-n c.args.s.now c.args.at c.args.n) in
    turn c.args.s.now c.args.at c.args.n c.loop-byte.byte-index c.loop-byte.number within
    c.loop-byte.invariant
