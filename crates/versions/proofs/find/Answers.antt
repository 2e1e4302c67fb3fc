-- `versions::find` meets its contract: by the laws of the first that passes.
use mathlib.Core.Path.{sym, ◌∙◌}
use native.Mathlib.Numerals.{add-one}
use native.Mathlib.Omega.{arith}
use borrow.Author.Rules.{rules}
use Rattle.versions.specs.Found.{first}
use Rattle.versions.proofs.First.{first-here, first_next}
use Rattle.versions.proofs.find.Goals as goal

pub loop-i-init : goal.loop-i-init
unfolding first
loop-i-init c = search rules

pub returns-then-is_alike : goal.returns-then-is_alike
returns-then-is_alike c = let l = c.loop-i in
    sym (first-here _ l.i _ l.invariant (sym c.is_alike.ensures ∙ c.if-is_alike.true)
    (omega arith))

pub loop-i-preserved : goal.loop-i-preserved
loop-i-preserved c = rw add-one (first_next _ c.loop-i.i c.loop-i.invariant
    (sym c.is_alike.ensures ∙ c.if-is_alike.false))
