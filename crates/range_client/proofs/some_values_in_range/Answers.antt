-- `some_values_in_range` meets its contract: item after item, a value of the set's.
use Rattle.std.proofs.Common.{◌+◌, ◌^◌, not, ◌||◌, ltb, get_or, ◌∙◌, refl, rules, tests, arith}
use Rattle.std.proofs.lemmas.Iterator.{YieldsList-from_range}
use Rattle.std.proofs.lemmas.Iterator.Search.{all_from_yields_List}
use Rattle.itemset.specs.Set.{has}
use Rattle.layout.specs.Layout.{item_at}
use Rattle.range_client.proofs.Chains.{all-range}
use Rattle.range_client.proofs.some_values_in_range.Goals as goal

pub returns : goal.returns
returns c =
    let a = c.args in
    all_from_yields_List
    (λ k. not (has a.set k) || ltb (get_or a.b.now (a.start + item_at a.d k) 0) (2 ^ 32))
    _ _ _ c.all.ensures.ran
    (YieldsList-from_range 0 a.items a.items refl (omega arith))
    (λ x r q k. search (rules, tests, k))
    ∙ all-range _ a.items
