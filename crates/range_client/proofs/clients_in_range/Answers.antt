-- `clients_in_range` meets its contract: one client after another, from client 1 on.
use Rattle.std.proofs.Common.{ℕ, Bool, suc, ◌+◌, ap, ◌∙◌, refl, rules, tests, add-one, arith}
use Rattle.std.proofs.lemmas.Iterator.{YieldsList-from_range}
use Rattle.std.proofs.lemmas.Iterator.Search.{all_from_yields_List}
use Rattle.gather.proofs.Tested.{every-same}
use Rattle.range_client.specs.Clients.{client_test}
use Rattle.range_client.proofs.Chains.{all-range}
use Rattle.range_client.proofs.clients_in_range.Goals as goal

pub returns : goal.returns
returns c =
    let a = c.args in
    let passes : ℕ → Bool = λ d. client_test a.b.now d a.clients a.items in
    all_from_yields_List (λ i. passes (i + 1)) _ _ _ c.all.ensures.ran
    (YieldsList-from_range 0 a.clients a.clients refl (omega arith))
    (λ x r q k. search (rules, tests, k))
    ∙ all-range (λ i. passes (i + 1)) a.clients
    ∙ every-same a.clients (λ i. passes (i + 1)) (λ i. passes (suc i))
    (λ i l. ap passes (add-one i))
