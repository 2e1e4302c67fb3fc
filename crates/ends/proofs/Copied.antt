-- The last ended transaction takes over words of a client, item by item: the values, and a read's
-- stamps beside them.
use mathlib.Core.List.{List}
use mathlib.Core.Path.{refl, sym, subst}
use Prim.Native.Nat.{ℕ, ◌≤◌}
use native.Mathlib.Omega.{arith}
use Rattle.basics.specs.Fold.{up_to}
use Rattle.itemset.proofs.Pass.{filled, pass-fills, pass-fills-two}
use Rattle.layout.specs.Layout.{asked, values, last_stamps, last_values, at, item_at}
use Rattle.layout.proofs.ClientWords.{Words, with_row, row_same, rows_same}
use Rattle.layout.proofs.Changed.{Changed, changed_row, changed-rows}
use Rattle.ends.specs.Ends.{keep_value, keep_answer}

module _ {d : ℕ} {a b : List ℕ} {w : Words} (s : ℕ) (c : Changed d a b w) (items : ℕ)
    (room : items ≤ 64) where
  pub values-taken : Changed d a (up_to (keep_value d s) b items)
      (with_row w last_values (filled s items (w last_values) (w values)))
  values-taken =
      pass-fills s items (λ taken x. Changed d a x (with_row w last_values taken)) _ b
      (w last_values) (w values) (subst (Changed d a b) (sym (row_same w last_values)) c)
      (λ k x taken l e h.
      rw (← h.words.row values k (omega arith))
      (changed_row w last_values taken h k (at x values (item_at d k)) (omega arith)))

  pub answers-taken : Changed d a (up_to (keep_answer d s) b items)
      (with_row (with_row w last_stamps (filled s items (w last_stamps) (w asked))) last_values
      (filled s items (w last_values) (w values)))
  answers-taken =
      pass-fills-two s items
      (λ stamps taken x. Changed d a x (with_row (with_row w last_stamps stamps) last_values taken)) _ b
      (w last_stamps) (w asked) (w last_values) (w values)
      (subst (Changed d a b) (sym (rows_same w last_stamps last_values)) c)
      (λ k x stamps taken l e h.
      rw (← h.words.row asked k (omega arith), ← h.words.row values k (omega arith))
      (changed-rows w last_stamps stamps last_values taken refl h k (at x asked (item_at d k))
      (at x values (item_at d k)) (omega arith) (omega arith)))
