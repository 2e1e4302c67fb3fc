-- `hexadecimal::line_end` meets its contract.
use mathlib.Core.Path.{◌≡◌, sym, ◌∙◌}
use mathlib.Core.List.{List}
use Prim.Native.Nat.{ℕ, ◌≤◌, max}
use mathlib.Core.Logic.{inl, inr}
use lib.ListN.{length}
use Rattle.std.proofs.lemmas.Bool.{cases_lt}
use Rattle.hexadecimal.specs.Line.{line_end}
use native.Mathlib.Omega.{arith}
use Rattle.hexadecimal.proofs.Line.{line_end-here, line_end-next, line_end-past}
use Rattle.hexadecimal.proofs.line_end.Goals as goal

pub returns-then-s-i-eq10 : goal.returns-then-s-i-eq10
returns-then-s-i-eq10 c = sym (line_end-here c.args.s.now c.loop-i.i (omega arith) c.if-s-i-eq10.true) ∙ c.loop-i.invariant

pub loop-i-preserved : goal.loop-i-preserved
loop-i-preserved c = sym (line_end-next c.args.s.now c.loop-i.i (omega arith) c.if-s-i-eq10.false) ∙ c.loop-i.invariant

-- the loop ends at the end of the text, or where it began past that
past : (s : List ℕ) (at i : ℕ) → at ≤ i → (at ≤ length s → i ≤ length s) → length s ≤ i
    → line_end s i ≡ line_end s at → max (length s) at ≡ line_end s at
past s at i l h g e =
    elim (cases_lt at (length s)) [
      | inl u ↦ let same : i ≤ length s = h (omega arith) in omega (arith, line_end-past s i g, e)
      | inr v ↦ omega (arith, line_end-past s at v)
    ]

pub returns : goal.returns
returns c =
    c.max.ensures
    ∙ past c.args.s.now c.args.at c.loop-i.i c.loop-i.auto.i c.loop-i.auto.i-end c.loop-i-test.false
    c.loop-i.invariant
