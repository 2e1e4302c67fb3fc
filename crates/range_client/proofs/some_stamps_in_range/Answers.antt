-- `some_stamps_in_range` meets its contract: item after item, a stamp of the set's.
use Rattle.std.proofs.Common.{◌+◌, not, ◌||◌, get_or, Bool, ap, ◌∙◌, refl, rules, tests, arith}
use Rattle.std.proofs.lemmas.Iterator.{YieldsList-from_range}
use Rattle.std.proofs.lemmas.Iterator.Search.{all_from_yields_List}
use Rattle.itemset.specs.Set.{has}
use Rattle.protocol.specs.Range.{stamp_in_range}
use Rattle.layout.specs.Layout.{item_at}
use Rattle.gather.specs.Sized.{sized}
use Rattle.gather.proofs.Tested.{every-same}
use Rattle.gather.proofs.Sizes.{stamp-sized}
use Rattle.range_client.proofs.Chains.{all-range}
use Rattle.range_client.proofs.some_stamps_in_range.Goals as goal

pub returns : goal.returns
returns c =
    let a = c.args in
    all_from_yields_List
    (λ k. not (has a.set k) || stamp_in_range (sized a.clients 0)
    (get_or a.b.now (a.start + item_at a.d k) 0))
    _ _ _ c.all.ensures.ran
    (YieldsList-from_range 0 a.items a.items refl (omega arith))
    (λ x r q k. search (rules, tests, k))
    ∙ all-range _ a.items
    ∙ every-same a.items _ _
    (λ k l. ap (λ (t : Bool). not (has a.set k) || t) (stamp-sized a.clients 0 a.items _))
