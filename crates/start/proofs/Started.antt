-- The starts step by step: what the calls in a row leave is what the definitions say.
use mathlib.Core.Bool.{true, false}
use mathlib.Core.List.{List}
use mathlib.Core.Path.{◌≡◌, ap, ◌∙◌}
use Prim.Native.Nat.{ℕ, suc}
use Rattle.basics.specs.Fold.{up_to}
use Rattle.protocol.specs.Tables.{stamp_of}
use Rattle.layout.specs.Layout.{header, scalars, at, store, items_at, count_at, stamp_at}
use Rattle.layout.specs.Layout.{reading, writing, in_first_part}
use Rattle.start.specs.Start.{busy, ask_for, ask_item, begun, read_started}
use Rattle.start.specs.Start.{fast_read_started, greatest_on, value_item, send_prepare}
use Rattle.start.specs.Start.{write_started, busy_mixed, mixed_begun, mixed_started}

module _ (b : List ℕ) (d s items : ℕ) where
  module _ (i : items ≡ at b header items_at) (asked sent : List ℕ) where
    pub read-started : asked ≡ up_to (ask_item d s items) b items
        → sent ≡ begun asked d s reading false items → sent ≡ read_started b d s
    unfolding read_started
    read-started p r = rw (← i) (r ∙ ap (λ (x : List ℕ). begun x d s reading false items) p)

    pub fast-read-started : asked ≡ up_to (ask_for d s 0) b items
        → sent ≡ begun asked d s in_first_part true items → sent ≡ fast_read_started b d s
    unfolding fast_read_started
    fast-read-started p r = rw (← i) (r ∙ ap (λ (x : List ℕ). begun x d s in_first_part true items) p)

  -- the write has the number after the greatest that its client knows
  pub write-started : items ≡ at b header items_at → (bytes : List ℕ)
      (number : ℕ) (kept set counted stamped sent : List ℕ)
      → number ≡ suc (greatest_on b d items)
      → kept ≡ up_to (value_item false d s bytes) b items → set ≡ busy kept d writing s
      → counted ≡ store set scalars (count_at d) number
      → stamped ≡ store counted scalars (stamp_at d) (stamp_of number d)
      → sent ≡ up_to (send_prepare false d s (stamp_of number d)) stamped items
      → sent ≡ write_started b d s bytes
  unfolding write_started
  write-started i bytes number kept set counted stamped sent e p q r u v =
      rw (← i, ← e)
      (v
      ∙ ap (λ (x : List ℕ). up_to (send_prepare false d s (stamp_of number d)) x items)
      (u
      ∙ ap (λ (x : List ℕ). store x scalars (stamp_at d) (stamp_of number d))
      (r ∙ ap (λ (x : List ℕ). store x scalars (count_at d) number)
      (q ∙ ap (λ (x : List ℕ). busy x d writing s) p))))

  -- of a mixed transaction, whose read set is s
  pub mixed-started : (w : ℕ) → items ≡ at b header items_at
      → (bytes : List ℕ) (number : ℕ) (asked kept set sent : List ℕ)
      → number ≡ suc (greatest_on b d items)
      → asked ≡ up_to (ask_item d s items) b items
      → kept ≡ up_to (value_item true d w bytes) asked items
      → set ≡ busy_mixed kept d s w number (stamp_of number d)
      → sent ≡ mixed_begun set d s w (stamp_of number d) items
      → sent ≡ mixed_started b d s w bytes
  unfolding mixed_started
  mixed-started w i bytes number asked kept set sent e p q r u =
      rw (← i, ← e)
      (u
      ∙ ap (λ (x : List ℕ). mixed_begun x d s w (stamp_of number d) items)
      (r ∙ ap (λ (x : List ℕ). busy_mixed x d s w number (stamp_of number d))
      (q ∙ ap (λ (x : List ℕ). up_to (value_item true d w bytes) x items) p)))
