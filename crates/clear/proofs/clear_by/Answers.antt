-- `clear::clear_by` meets its contract: the stamps gathered are those in use, and of a valid block
-- the versions with one of them are those that the protocol's clearing keeps.
use Rattle.std.proofs.Common.{ℕ, List, ap, ◌∙◌, arith}
use lib.ListN.{length-replicate}
use Rattle.basics.specs.Lists.{table}
use Rattle.clear.specs.Stamps.{stamp_in}
use Rattle.clear.proofs.Slots.{marks-none}
use Rattle.clear.proofs.Gathered.{count-least, count_most}
use Rattle.clear.proofs.Staying.{staying-below}
use Rattle.clear.proofs.Cleared.{long, few, none-initial, cleared-given}
use Rattle.clear.proofs.clear_by.Goals as goal

pub gather-requires : goal.gather-requires
gather-requires g c =
    let b = c.args.b.now in (
      omega (arith, c.requires.1, count-least b),
      omega (arith, c.requires.1, count_most b),
      long b c.requires.0,
    )

pub mark_all-requires : goal.mark_all-requires
mark_all-requires g c = marks-none

pub keep_all-kept-requires : goal.keep_all-kept-requires
keep_all-kept-requires g c =
    let b = c.args.b.now in (
      omega (arith, c.version_count-n.ensures, few b c.requires.0),
      long b c.requires.0,
      c.mark_all.ensures,
      none-initial b c.requires.0 c.version_count-n.ensures,
    )

pub overflow_sub-result : goal.overflow_sub-result
overflow_sub-result g c = staying-below _ _ _ _ c.keep_all-kept.ensures.value

pub returns : goal.returns
returns g c =
    let b : List ℕ = c.args.b.now in
    let cleared = cleared-given b c.requires.0
    (c.gather.ensures
    ∙ ap (λ (n : ℕ). table n (stamp_in b)) (length-replicate {A = ℕ} _ 0 ∙ c.requires.1))
    c.version_count-n.ensures c.keep_all-kept.ensures.value c.keep_all-kept.ensures.b_after
    c.put_version_count.ensures in
    record { value = cleared.0; b_after = cleared.1 }
