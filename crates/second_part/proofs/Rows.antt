-- What a row of calls leaves, from what each of them leaves.
use mathlib.Core.Bool.{false}
use mathlib.Core.List.{List}
use mathlib.Core.Path.{◌≡◌, sym, ap, ◌∙◌}
use Prim.Native.Nat.{ℕ, ◌≤◌}
use lib.ListN.{get_or}
use borrow.Author.Tests.{eq-eqb, ne_eqb}
use Rattle.basics.specs.Fold.{up_to}
use Rattle.layout.specs.Layout.{most_items, scalars, at, set_at}
use Rattle.slots.proofs.Chosen.{when, unless}
use Rattle.start.specs.Choice.{entries_from, ChosenAfter}
use Rattle.ends.specs.Ends.{read_ended}
use Rattle.second_part.specs.SecondPart.{shown, older_than, ask_again, fetched, second_begun}
use Rattle.second_part.proofs.Shown.{first_from, chosen-first, older-same, again-same}

module _ (b : List ℕ) (items d s : ℕ) (stamps : List ℕ) (stale : ℕ) (x y : List ℕ)
    (set : s ≡ at b scalars (set_at d)) (narrow : items ≤ most_items)
    (chosen : ChosenAfter (entries_from b (first_from d) false s) s items stamps)
    (older : stale ≡ older_than b d s (λ j. get_or stamps j 0) items)
    (asks : x ≡ up_to (ask_again d s (λ j. get_or stamps j 0)) b items) where
  stale-shown : stale ≡ older_than b d s (shown b d s items) items
  stale-shown = older ∙ older-same b d s _ _ items
      (chosen-first b d s items stamps chosen narrow)

  asks-shown : x ≡ up_to (ask_again d s (shown b d s items)) b items
  asks-shown = asks ∙ again-same b d s _ _ items (chosen-first b d s items stamps chosen narrow)

  pub second-ends : stale ≡ 0 → y ≡ read_ended x items d → y ≡ second_begun b items d
  unfolding second_begun
  second-ends z h =
      rw (← set)
      (when _ _ _ _ (eq-eqb _ _ (sym stale-shown ∙ z))
      (h ∙ ap (λ (u : List ℕ). read_ended u items d) asks-shown))

  pub second-fetches : (stale ≡ 0 → ⊥) → y ≡ fetched x items d stale
      → y ≡ second_begun b items d
  unfolding second_begun
  second-fetches z h =
      rw (← set)
      (unless _ _ _ _ (ne_eqb _ _ (λ u. z (stale-shown ∙ u)))
      (h ∙ ap (λ (u : List ℕ). fetched u items d stale) asks-shown
      ∙ ap (fetched (up_to (ask_again d s (shown b d s items)) b items) items d) stale-shown))
