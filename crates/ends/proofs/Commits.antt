-- Messages that join partition by partition: one for each partition that passes.
use mathlib.Core.Bool.{Bool, true}
use mathlib.Core.List.{List, ◌++◌, map}
use mathlib.Core.Path.{◌≡◌}
use Prim.Native.Nat.{ℕ, ◌≤◌, ◌<◌}
use native.Mathlib.Omega.{arith}
use lib.ListN.{length}
use Rattle.basics.specs.Fold.{up_to}
use Rattle.itemset.specs.Set.{has, rank, upto}
use Rattle.itemset.proofs.Members.{upto-ext, length-members-rank, length-upto-lt}
use Rattle.itemset.proofs.Pass.{pass-grows, length-grown}
use Rattle.protocol.specs.declared.Message.{Message}
use Rattle.protocol.specs.declared.Message.TheVariants.{Commit}
use Rattle.protocol.specs.Tables.{Tables, with_messages}
use Rattle.layout.specs.Encodes.{Encodes}
use Rattle.layout.specs.Layout.{most_messages}
use Rattle.layout.proofs.Room.{HasRoom, room-messages}
use Rattle.slots.proofs.EncodesRoom.{encodes-send}
use Rattle.ends.specs.Ends.{send_commit}

module _ (t : Tables) (ps stamp partitions : ℕ) where
  abbrev commit : ℕ → Message
  commit p = Commit p stamp

  -- a partition of the set leaves room for its message
  rank_below : (p : ℕ) → p < partitions → has ps p ≡ true → rank ps p < rank ps partitions
  rank_below p l e = omega (
    arith,
    length-upto-lt (has ps) p partitions l e,
    length-members-rank ps p,
    length-members-rank ps partitions,
  )

  pub encodes-commits : {b : List ℕ} (q : ℕ → Bool)
      → ((p : ℕ) → p < partitions → has ps p ≡ q p) → HasRoom t
      → length (t.messages ++ map (λ p. Commit p stamp) (upto partitions q)) ≤ most_messages
      → Encodes b t
      → Encodes (up_to (send_commit ps stamp) b partitions)
      (with_messages t (t.messages ++ map (λ p. Commit p stamp) (upto partitions q)))
  encodes-commits {b} q same r room n =
      rw (← upto-ext partitions (has ps) q same)
      (pass-grows ps partitions (λ ms x. Encodes x (with_messages t ms)) _ b commit t.messages n
      (λ p x ms l e long h.
      let few : length ms < most_messages =
      omega (
        arith,
        rank_below p l e,
        length-grown commit ps t.messages partitions,
        rw (← upto-ext partitions (has ps) q same) at room,
      )
      in
      encodes-send (commit p) h (room-messages t ms r (omega arith)) few))
