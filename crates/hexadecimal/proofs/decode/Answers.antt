-- `hexadecimal::decode` meets its contract.
use mathlib.Core.Bool.{true, false}
use mathlib.Core.List.{List}
use mathlib.Core.Path.{◌≡◌, refl, sym, ◌∙◌}
use Prim.Native.Nat.{ℕ, ◌+◌, ◌*◌, ◌/◌, ◌≤◌, ◌<◌}
use native.Mathlib.Omega.{arith}
use lib.ListN.{length}
use Rattle.std.specs.Prelude.{Some, None}
use Rattle.hexadecimal.specs.Decode.{decoded}
use Rattle.hexadecimal.specs.Text.{is_hex}
use Rattle.hexadecimal.proofs.Checked.{below-is, below-is-none}
use Rattle.hexadecimal.proofs.Pairs.{is_hex-digits, is_hex-other, is_hex-even, is_hex-odd}
use Rattle.hexadecimal.proofs.Pairs.{bytes_of-digits, bytes_of-other, bytes_of-even, bytes_of-odd}
use Rattle.hexadecimal.proofs.decode.Goals as goal

whole : (line : List ℕ) → is_hex line ≡ true → Some (length line / 2) ≡ decoded line
whole line e = rw e

malformed : (line : List ℕ) → is_hex line ≡ false → None ≡ decoded line
malformed line e = rw e

pub returns-in_err-out : goal.returns-in_err-out
returns-in_err-out c =
    let line = c.args.line.now in
    let k = c.loop-k.k in
    let lies : 2 * k + 1 < length line = omega arith in
    let none = below-is-none 256 _ (sym (c.in_err-out.was) ∙ c.pair.ensures) in
    record {
      answer = c.from_residual.ensures ∙ malformed line (sym c.loop-k.invariant.0 ∙ is_hex-other line k _ lies refl none);
      stores = bytes_of-other line k _ lies refl c.loop-k.out none ∙ c.loop-k.invariant.1;
    }

pub loop-k-preserved : goal.loop-k-preserved
loop-k-preserved c =
    let line = c.args.line.now in
    let k = c.loop-k.k in
    let lies : 2 * k + 1 < length line = omega arith in
    let some = below-is 256 _ _ (sym (c.in_ok-out.was) ∙ c.pair.ensures) in (
      is_hex-digits line k c.in_ok-out.field-0 lies some.1 some.0 ∙ c.loop-k.invariant.0,
      bytes_of-digits line k c.in_ok-out.field-0 lies some.1 c.loop-k.out some.0 ∙ c.loop-k.invariant.1,
    )

pub returns-then-line-eq0 : goal.returns-then-line-eq0
returns-then-line-eq0 c =
    let line = c.args.line.now in
    let past : length line ≤ 2 * c.loop-k.k = omega arith in
    record {
      answer = whole line (sym c.loop-k.invariant.0 ∙ is_hex-even line _ past);
      stores = bytes_of-even line _ c.loop-k.out past ∙ c.loop-k.invariant.1;
    }

pub returns-else-line-eq0 : goal.returns-else-line-eq0
returns-else-line-eq0 c =
    let line = c.args.line.now in
    let last : length line ≡ 2 * c.loop-k.k + 1 = omega arith in
    record {
      answer = malformed line (sym c.loop-k.invariant.0 ∙ is_hex-odd line _ last);
      stores = bytes_of-odd line _ c.loop-k.out last ∙ c.loop-k.invariant.1;
    }
