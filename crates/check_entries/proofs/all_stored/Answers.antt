use native.Mathlib.Omega.{arith}
use mathlib.Core.Bool.{true}
use mathlib.Core.Path.{◌≡◌, sym, ◌∙◌, subst}
use Prim.Native.Nat.{ℕ, ◌+◌, ◌-◌}
use Rattle.itemset.specs.Set.{has}
use Rattle.itemset.proofs.Least.{least-ge, least-has}
use Rattle.layout.specs.Decode.{tables_of}
use Rattle.check_stamps.proofs.Truncated.{keyed-of}
use Rattle.check_entries.proofs.Good.{few-items, through-none, through-next, through-all, through_not}
use Rattle.check_entries.proofs.all_stored.Goals as goal

pub loop-k-init : goal.loop-k-init
loop-k-init c = (
  through-none _ _ c.least_from-k.ensures,
  (λ l. subst (λ (k : ℕ). has c.args.set k ≡ true) (sym c.least_from-k.ensures)
      (least-has 64 c.args.set 0 (omega (arith, c.least_from-k.ensures, l)))),
)

pub is_stored-requires : goal.is_stored-requires
is_stored-requires c = (
  omega (
    arith,
    c.items-items.ensures,
    few-items _ (keyed-of _ _ _ c.args.versions.now.keyed).valid,
    c.loop-k-test.true,
  ),
  c.requires,
)

pub returns-then-not-is_stored : goal.returns-then-not-is_stored
unfolding tables_of
returns-then-not-is_stored c =
    through_not _ _ _ (omega (arith, c.loop-k-test.true, c.items-items.ensures))
    (c.loop-k.invariant.1 (omega (
      arith,
      c.items-items.ensures,
      few-items _ (keyed-of _ _ _ c.args.versions.now.keyed).valid,
      c.loop-k-test.true,
    )))
    (sym c.is_stored.ensures ∙ c.if-not-is_stored.true)

pub loop-k-smaller : goal.loop-k-smaller
loop-k-smaller c =
    let k = c.loop-k.k in
    omega (
      arith,
      c.least_from-k-in-loop-k.ensures,
      least-ge (64 - (k + 1)) c.args.set (k + 1),
      c.loop-k-test.true,
    )

pub loop-k-preserved : goal.loop-k-preserved
loop-k-preserved c =
    let k = c.loop-k.k in
    let set = c.args.set in (
      through-next _ _ c.loop-k.invariant.0 (sym c.is_stored.ensures ∙ c.if-not-is_stored.false)
          c.least_from-k-in-loop-k.ensures,
      (λ l. subst (λ (j : ℕ). has set j ≡ true) (sym c.least_from-k-in-loop-k.ensures)
          (least-has (64 - (k + 1)) set (k + 1)
          (omega (arith, c.least_from-k-in-loop-k.ensures, l)))),
    )

pub returns : goal.returns
unfolding tables_of
returns c =
    through-all _ _ c.loop-k.invariant.0 (omega (arith, c.loop-k-test.false, c.items-items.ensures))
