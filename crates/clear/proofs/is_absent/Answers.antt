-- `clear::is_absent` meets its contract: all that are looked at are others.
use Rattle.std.proofs.Common.{not, eqb, ◌∙◌, rules, tests}
use Rattle.std.proofs.lemmas.Iterator.{YieldsList-from_slice}
use Rattle.std.proofs.lemmas.Iterator.Search.{all_from_yields_List}
use Rattle.clear.proofs.Slots.{absent_listed}
use Rattle.clear.proofs.is_absent.Goals as goal

pub returns : goal.returns
returns c =
    all_from_yields_List (λ r. not (eqb r c.args.stamp)) _ _ c.all.result c.all.ensures.ran
    (YieldsList-from_slice c.args.stamps.now c.iter.ensures.rest) (λ x b q k. search (rules, tests))
    ∙ absent_listed c.args.stamps.now c.args.stamp
