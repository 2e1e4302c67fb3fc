-- `judge_form::entries_whole` meets its contract: `every` is the library's `all` over the places.
use Rattle.std.proofs.Common.{◌≡◌, sym, ap, ◌∙◌, ℕ, arith, rules, tests}
use Rattle.std.proofs.lemmas.Iterator.{YieldsList-from_range}
use Rattle.std.proofs.lemmas.Iterator.Search.{all_from_yields_List}
use Rattle.std.specs.List.{list_all, range_with_len}
use Rattle.basics.specs.Lists.{every}
use Rattle.log_format.proofs.Ranges.{every-range}
use Rattle.log_format.specs.Log.{is_whole, entry_number, entry_writer, entries_whole}
use Rattle.judge_form.proofs.entries_whole.Goals as goal

pub returns : goal.returns
unfolding entries_whole
returns c =
    let f = c.args.f.now in
    let n = c.shown_count.result in
    let all : c.all.result
    ≡ list_all (λ i. is_whole (entry_number f i) (entry_writer f i)) (range_with_len 0 n) =
    all_from_yields_List (λ i. is_whole (entry_number f i) (entry_writer f i)) _ _ c.all.result
    c.all.ensures.ran (YieldsList-from_range 0 n n (cc) (omega arith)) (λ x b q k. search (rules, tests)) in
    all ∙ sym (every-range n (λ i. is_whole (entry_number f i) (entry_writer f i)))
    ∙ ap (λ (m : ℕ). every m (λ i. is_whole (entry_number f i) (entry_writer f i)))
    c.shown_count.ensures.value
