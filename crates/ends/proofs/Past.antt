-- The ends of transactions keep the block's length, and every word past the length that a block
-- needs.
use mathlib.Core.List.{List}
use Prim.Native.Nat.{ℕ, ◌≤◌, ◌<◌}
use native.Mathlib.Omega.{arith}
use lib.Dec.{lit<}
use Rattle.basics.specs.Fold.{up_to}
use Rattle.itemset.specs.Set.{has}
use Rattle.protocol.specs.declared.Message.TheVariants.{Commit}
use Rattle.layout.specs.Layout.{client_words, scalars, views, last_stamps, last_values, at, store}
use Rattle.layout.specs.Layout.{scalar_at, mode_at, set_at, stamp_at, write_set_at, view_at, item_at}
use Rattle.layout.proofs.Past.{SamePast, past-trans, past-when, past-each, past-store}
use Rattle.layout.proofs.Past.{past-entry, past-put}
use Rattle.slots.proofs.PastLists.{past-send}
use Rattle.ends.specs.Ends.{ended, keep_answer, keep_value, see_item, send_commit, touched}
use Rattle.ends.specs.Ends.{read_kind, read_ended, write_kept, write_ended, mixed_kept, mixed_ended}

-- ---- ends of transactions

module _ (d : ℕ) (first : 1 ≤ d) (last : d ≤ 8) where
  pub past-scalar : (b : List ℕ) (f v : ℕ) → f < client_words
      → SamePast b (store b scalars (scalar_at d f) v)
  past-scalar b f v l = past-put d first last b scalars f v l

  past-ended : (b : List ℕ) (kind s : ℕ) → SamePast b (ended b d kind s)
  past-ended b kind s =
      past-trans (past-scalar b 5 kind (lit< tt))
      (past-trans (past-scalar _ 6 s (lit< tt))
      (past-trans (past-scalar _ 0 0 (lit< tt))
      (past-trans (past-scalar _ 2 0 (lit< tt)) (past-scalar _ 3 0 (lit< tt)))))

  -- the passes over the items of a set
  past-answers : (b : List ℕ) (items s : ℕ) → items ≤ 64
      → SamePast b (up_to (keep_answer d s) b items)
  past-answers b items s h =
      past-each (keep_answer d s) b items (λ k c l.
      past-when c _ (has s k)
      (past-trans (past-store c last_stamps (item_at d k) _ (omega arith))
      (past-store _ last_values (item_at d k) _ (omega arith))))

  past-values : (b : List ℕ) (items s : ℕ) → items ≤ 64 → SamePast b (up_to (keep_value d s) b items)
  past-values b items s h =
      past-each (keep_value d s) b items
      (λ k c l. past-when c _ (has s k) (past-store c last_values (item_at d k) _ (omega arith)))

  past-seen : (b : List ℕ) (items s stamp : ℕ) → items ≤ 64
      → SamePast b (up_to (see_item d s stamp) b items)
  past-seen b items s stamp h =
      past-each (see_item d s stamp) b items
      (λ k c l. past-when c _ (has s k) (past-entry c views (view_at d k) _ (omega arith)))

  past-commits : (b : List ℕ) (ps stamp partitions : ℕ)
      → SamePast b (up_to (send_commit ps stamp) b partitions)
  past-commits b ps stamp partitions =
      past-each (send_commit ps stamp) b partitions
      (λ p c l. past-when c _ (has ps p) (past-send c (Commit p stamp)))

  pub past-read-ended : (b : List ℕ) (items : ℕ) → items ≤ 64 → SamePast b (read_ended b items d)
  unfolding read_ended
  past-read-ended b items h =
      past-trans (past-answers b items (at b scalars (set_at d)) h)
      (past-ended _ (read_kind (at b scalars (mode_at d))) (at b scalars (set_at d)))

  past-write-kept : (b : List ℕ) (items s stamp : ℕ) → items ≤ 64
      → SamePast b (write_kept b items d s stamp)
  unfolding write_kept
  past-write-kept b items s stamp h =
      past-trans (past-seen b items s stamp h)
      (past-trans (past-values _ items s h)
      (past-trans (past-ended _ 2 s) (past-scalar _ 7 stamp (lit< tt))))

  pub past-write-ended : (b : List ℕ) (partitions items stamp : ℕ) → items ≤ 64
      → SamePast b (write_ended b partitions items d stamp)
  unfolding write_ended
  past-write-ended b partitions items stamp h =
      past-trans (past-write-kept b items (at b scalars (set_at d)) stamp h)
      (past-commits _ (touched partitions (at b scalars (set_at d)) items) stamp partitions)

  pub past-mixed-ended : (b : List ℕ) (partitions items : ℕ) → items ≤ 64
      → SamePast b (mixed_ended b partitions items d)
  unfolding mixed_ended mixed_kept
  past-mixed-ended b partitions items h =
      let r = at b scalars (set_at d) in
      let s = at b scalars (write_set_at d) in
      let stamp = at b scalars (stamp_at d) in
      past-trans
      (past-trans (past-answers b items r h)
      (past-trans (past-values _ items s h)
      (past-trans (past-ended _ 4 r)
      (past-trans (past-scalar _ 7 stamp (lit< tt))
      (past-trans (past-scalar _ 10 s (lit< tt)) (past-seen _ items s stamp h))))))
      (past-commits _ (touched partitions s items) stamp partitions)
