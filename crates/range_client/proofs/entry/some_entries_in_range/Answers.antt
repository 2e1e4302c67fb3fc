-- `entry::some_entries_in_range` meets its contract: item after item, an entry of the set's that
-- isn't left out.
use Rattle.std.proofs.Common.{not, ◌||◌, ◌∙◌, refl, rules, tests, arith}
use Rattle.std.proofs.lemmas.Iterator.{YieldsList-from_range}
use Rattle.std.proofs.lemmas.Iterator.Search.{all_from_yields_List}
use Rattle.itemset.specs.Set.{has}
use Rattle.protocol.specs.Range.{entry_in_range}
use Rattle.gather.specs.Sized.{sized}
use Rattle.range_client.specs.Entries.{entry_from}
use Rattle.range_client.proofs.Chains.{all-range}
use Rattle.range_client.proofs.FirstTests.{entry-tested}
use Rattle.range_client.proofs.entry.some_entries_in_range.Goals as goal

pub returns : goal.returns
returns c =
    let a = c.args in
    all_from_yields_List
    (λ k. not (has a.set k) || has a.but k
    || entry_in_range (sized a.clients a.items) (entry_from a.b.now a.start k))
    _ _ _ c.all.ensures.ran
    (YieldsList-from_range 0 a.items a.items refl (omega arith))
    (λ x r q k. search (rules, tests, k))
    ∙ all-range _ a.items
