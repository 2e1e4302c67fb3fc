-- `judge_frames::fields::number` meets its contract: the number of `k` bytes is below 256 ^ k.
use Rattle.std.proofs.Common.{◌≡◌, ℕ, ◌+◌, ◌*◌, ◌^◌, ◌<◌, List, get_or, refl, sym, arith}
use native.Mathlib.Nat.{pow-le-pow_right}
use lib.Dec.{lit<}
use Rattle.hexadecimal.specs.Bytes.{EachByte}
use Rattle.hexadecimal.specs.Number.{number_at}
use Rattle.hexadecimal.proofs.Number.{number_at-lt, number_at-next}
use Rattle.judge_frames.proofs.fields.number.Goals as goal

turn : (f : List ℕ) (at k number byte : ℕ) → number ≡ number_at k f at → byte ≡ get_or f (at + k) 0
    → number * 256 + byte ≡ number_at (k + 1) f at
turn f at k number byte e b = rw (e, b) (sym (number_at-next k f at))

fits : (f : List ℕ) (at k number byte : ℕ) → EachByte f → k < 8 → number ≡ number_at k f at
    → byte ≡ get_or f (at + k) 0 → number * 256 + byte < 256 ^ 8
fits f at k number byte h l e b =
    omega (
      arith,
      turn f at k number byte e b,
      number_at-lt (k + 1) f at h,
      pow-le-pow_right {n = 256} (lit< tt) {i = k + 1} {j = 8} (omega arith),
    )

pub loop-k-init : goal.loop-k-init
unfolding number_at
loop-k-init c = refl

pub overflow_mul-number : goal.overflow_mul-number
overflow_mul-number c =
    let bytes : EachByte c.args.f.now = λ i. (c.type_inv.f i).fits in
    let byte = c.byte-next.ensures.value in
    omega (arith, fits _ c.args.at c.loop-k.k _ _ bytes (omega arith) c.loop-k.invariant byte)

pub overflow_add-number : goal.overflow_add-number
overflow_add-number c =
    let bytes : EachByte c.args.f.now = λ i. (c.type_inv.f i).fits in
    let byte = c.byte-next.ensures.value in
    omega (arith, fits _ c.args.at c.loop-k.k _ _ bytes (omega arith) c.loop-k.invariant byte)

pub loop-k-preserved : goal.loop-k-preserved
loop-k-preserved c =
    turn c.args.f.now c.args.at c.loop-k.k _ _ c.loop-k.invariant c.byte-next.ensures.value
