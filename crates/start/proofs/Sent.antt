-- The passes that send: one message for each item of the set, ascending, joins those that the
-- tables have.
use mathlib.Core.Bool.{true}
use mathlib.Core.List.{List, ◌++◌, map}
use mathlib.Core.Path.{◌≡◌, subst}
use Prim.Native.Nat.{ℕ, ◌≤◌, ◌<◌}
use native.Mathlib.Omega.{arith}
use lib.ListN.{length}
use Rattle.basics.specs.Fold.{up_to}
use Rattle.itemset.specs.Set.{has, members}
use Rattle.itemset.proofs.Counts.{rank-count}
use Rattle.itemset.proofs.Members.{length-members-rank, length-upto-lt}
use Rattle.itemset.proofs.Pass.{pass-keeps, pass-grows, length-grown}
use Rattle.protocol.specs.declared.Message.{Message}
use Rattle.protocol.specs.Tables.{Tables, Client, with_client, with_messages}
use Rattle.protocol.specs.Range.{capacities, load}
use Rattle.protocol.proofs.Put.{put_same}
use Rattle.protocol.proofs.Refusals.{AcceptedStart}
use Rattle.layout.specs.Layout.{most_messages}
use Rattle.layout.specs.Encodes.{Encodes, HoldsClient}
use Rattle.layout.proofs.Room.{HasRoom, NarrowClient, room-valid, room-client, room-messages}
use Rattle.layout.proofs.Past.{SamePast, past-none, past-trans}
use Rattle.slots.proofs.EncodesRoom.{encodes-send}
use Rattle.slots.proofs.PastLists.{past-send}
use Rattle.start.specs.Start.{send_item}

-- whatever the messages are
pub past-sends : (b : List ℕ) (s items : ℕ) (made : List ℕ → ℕ → Message)
    → SamePast b (up_to (λ x k. send_item s (made x k) x k) b items)
past-sends b s items made =
    pass-keeps s items (SamePast b) _ b (past-none b)
    (λ k x l e h. past-trans h (past-send x (made x k)))

-- the message for item k, as made at its turn from what the block holds of client d, is g k
module _ (b : List ℕ) (t : Tables) (d s : ℕ) (c : Client) (made : List ℕ → ℕ → Message)
    (g : ℕ → Message)
    (same : (x : List ℕ) → HoldsClient x d c → (k : ℕ) → has s k ≡ true → made x k ≡ g k)
    (n : Encodes b (with_client t d c)) (narrow : NarrowClient c) where
  abbrev items : ℕ
  items = t.sizes.items

  abbrev sent : Tables
  sent = with_messages (with_client t d c) (t.messages ++ map g (members items s))

  pub encodes-sends : 1 ≤ d → d ≤ t.sizes.clients → HasRoom t
      → length sent.messages ≤ most_messages
      → Encodes (up_to (λ x k. send_item s (made x k) x k) b items) sent
  encodes-sends first last r room =
      pass-grows s items (λ ms x. Encodes x (with_messages (with_client t d c) ms)) _ b g
      t.messages n
      (λ k x ms l e long h.
      let few : length ms < most_messages =
      omega (
        arith,
        length-upto-lt (has s) k items l e,
        length-members-rank s k,
        length-members-rank s items,
        length-grown g s t.messages items,
      ) in
      let held : HoldsClient x d c =
      subst (HoldsClient x d) (put_same t.client d c) (h.client d first last) in
      rw (same x held k e)
      (encodes-send (g k) h
      (room-messages (with_client t d c) ms (room-client t d c r narrow) (omega arith)) few))

  -- a start that is accepted has room for a message for each of its items
  pub encodes-started : AcceptedStart capacities t d s
      → Encodes (up_to (λ x k. send_item s (made x k) x k) b items) sent
  unfolding load
  encodes-started a =
      encodes-sends a.client.0 a.client.1 (room-valid t a.valid)
      (omega (arith, a.load, length-grown g s t.messages items, rank-count s items))
