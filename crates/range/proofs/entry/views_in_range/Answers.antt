-- `entry::views_in_range` meets its contract: latest, and one view after another.
use Rattle.std.proofs.Common.{suc, ◌+◌, add-one, refl, ap, ◌∙◌, rules, tests, ℕ, Bool, arith}
use Rattle.std.proofs.lemmas.Iterator.{YieldsList-from_range}
use Rattle.std.proofs.lemmas.Iterator.Search.{all_from_yields_List}
use Rattle.basics.specs.Lists.{every}
use Rattle.protocol.specs.Range.{entry_in_range}
use Rattle.gather.specs.Sized.{sized}
use Rattle.range_client.specs.Entries.{entry_from}
use Rattle.range_client.proofs.Chains.{all-range}
use Rattle.range.specs.Entries.{entries_at}
use Rattle.range.proofs.entry.views_in_range.Goals as goal

pub returns : goal.returns
returns c =
    let a = c.args in
    let passes : ℕ → Bool = λ i. every a.items
    (λ k. entry_in_range (sized a.clients a.items) (entry_from a.b.now (entries_at i) k)) in
    all_from_yields_List passes _ _ _ c.all.ensures.ran
    (YieldsList-from_range 0 (a.clients + 1) (a.clients + 1) refl (omega arith))
    (λ x r q k. search (rules, tests, k))
    ∙ all-range passes (a.clients + 1) ∙ ap (λ n. every n passes) (add-one a.clients)
