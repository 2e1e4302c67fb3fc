-- A delivery on the block is the delivery in the tables: the message is taken out, does its work,
-- and its new messages join at the end.
use mathlib.Core.List.{List}
use mathlib.Core.Path.{◌≡◌, refl, sym, ap, subst, ◌∙◌}
use Prim.Native.Nat.{ℕ}
use native.Mathlib.Omega.{arith}
use Rattle.std.specs.Prelude.{Option, Some, None, Ok, unwrap_or}
use Rattle.basics.specs.Lists.{without}
use Rattle.basics.proofs.Lists.{length_without}
use Rattle.protocol.specs.declared.Version.{Version}
use Rattle.protocol.specs.declared.Message.{Message}
use Rattle.protocol.specs.declared.Message.TheVariants.{Prepare, Prepared, Commit, Get, Got}
use Rattle.protocol.specs.declared.Message.TheVariants.{FirstGet, FirstReply}
use Rattle.protocol.specs.Tables.{Tables, with_messages}
use Rattle.protocol.specs.Steps.{message_at, delivered, delivered_at}
use Rattle.protocol.specs.Calls.{effect}
use Rattle.protocol.proofs.Refusals.{AcceptedDeliver, accepted-message}
use Rattle.protocol.proofs.Load.{load-deliver}
use Rattle.protocol.proofs.Occupied.{occupied-deliver}
use Rattle.protocol.proofs.Kept.Deliveries.{range-delivered}
use Rattle.protocol.specs.Range.{capacities, load, occupied}
use Rattle.layout.specs.Layout.{header, at, messages_at, versions_at}
use Rattle.layout.specs.Decode.{message_in}
use Rattle.layout.specs.Store.{take_out}
use Rattle.layout.specs.Encodes.{Encodes}
use Rattle.layout.proofs.Room.{HasRoom, narrow-client, room-valid}
use Rattle.layout.proofs.Held.{message-held}
use Rattle.messages.proofs.EncodesTakeOut.{encodes-take-out}
use Rattle.deliver.specs.declared.Counts.{Counts}
use Rattle.deliver_tests.specs.Tests.{Tested, none, unstored, answer_in, tested_in}
use Rattle.deliver.specs.Deliver.{get_delivered, first_get_delivered, message_delivered, counts_in}
use Rattle.deliver.specs.Deliver.{delivered_block}
use Rattle.deliver.proofs.Worked.{counts_of, encodes-work}
use Rattle.deliver_tests.proofs.TestedTables.{answer_of, tested-tables}

-- room for what an accepted delivery leaves
room_after : (t : Tables) (i : ℕ) → AcceptedDeliver capacities t i → HasRoom (delivered_at t i)
unfolding effect load occupied
room_after t i a =
    let m = message_at t i in
    let r = range-delivered t m a.valid.in_range (accepted-message capacities t i a)
    a.expected in
    let z = r.sizes in
    record {
      clients = z.clients;
      items = z.items;
      versions = omega (arith, occupied-deliver capacities t i a, a.valid.occupied);
      messages = omega (arith, load-deliver capacities t i a, a.valid.load);
      client = λ d l h. narrow-client (delivered t m).sizes z.items ((delivered t m).client d)
          (r.client d (l, h));
    }

counts-held : {b : List ℕ} {t : Tables} → Encodes b t → counts_in b ≡ counts_of t
counts-held n = rw (n.partitions, n.items, n.version_count) refl

module _ {b : List ℕ} {t : Tables} (i : ℕ) (n : Encodes b t)
    (a : AcceptedDeliver capacities t i) where
  room : HasRoom t
  room = room-valid t a.valid

  -- the message that is read is the one at its place
  message-read : message_in b i ≡ message_at t i
  message-read = message-held b i (message_at t i) (n.messages i a.place (Commit 0 0))

  -- taken out
  taken : Encodes (take_out b (at b header messages_at) i) (with_messages t (without i t.messages))
  taken =
      encodes-take-out (at b header messages_at) i n room n.message_count
      (omega (arith, n.message_count, a.place))
      (omega (arith, n.message_count, room.messages))

  room-taken : HasRoom (with_messages t (without i t.messages))
  room-taken =
      record {
        clients = room.clients;
        items = room.items;
        versions = room.versions;
        messages = omega (arith, length_without i t.messages a.place, room.messages);
        client = room.client;
      }

  abbrev answer : Message → Version
  answer m = answer_in (unstored b m) (tested_in b (at b header versions_at) m)

  found-read : answer (message_at t i) ≡ answer_of t (message_at t i)
  found-read =
      (tested-tables (message_at t i) n a.valid.in_range (accepted-message capacities t i a)).found

  pub encodes-deliver : Encodes (delivered_block b i) (delivered_at t i)
  unfolding delivered_block
  encodes-deliver =
      let after = room_after t i a in
      subst
      (λ (m : Message).
      Encodes (message_delivered (take_out b (at b header messages_at) i) (counts_in b)
      (answer m) m) (delivered_at t i))
      (sym message-read)
      (subst
      (λ (c : Counts).
      Encodes (message_delivered (take_out b (at b header messages_at) i) c
      (answer (message_at t i)) (message_at t i)) (delivered_at t i))
      (sym (counts-held n))
      (encodes-work t (without i t.messages) taken room-taken (message_at t i)
      (answer (message_at t i))
      a.valid.in_range (accepted-message capacities t i a) a.expected found-read
      after.versions after.messages))

-- of the version that answers a message only value and set are used, and the initial one's are 0
initial-work : (b after : List ℕ) (counts : Counts) (m : Message)
    → message_delivered after counts none m ≡ message_delivered after counts (unstored b m) m
unfolding message_delivered get_delivered first_get_delivered
initial-work b after counts (Prepare v) = refl
initial-work b after counts (Prepared k stamp) = refl
initial-work b after counts (Commit p stamp) = refl
initial-work b after counts (Get d k stamp) = refl
initial-work b after counts (Got d v latest) = refl
initial-work b after counts (FirstGet d k) = refl
initial-work b after counts (FirstReply d v latest) = refl

found-work : (b after : List ℕ) (counts : Counts) (found : Option Version) (m : Message)
    → message_delivered after counts (unwrap_or found none) m
    ≡ message_delivered after counts (answer_in (unstored b m) (Ok found)) m
found-work b after counts (Some v) m = refl
found-work b after counts None m = initial-work b after counts m

-- what the code does, from its copies of the block's words, is the delivery of the message at place
-- i
pub delivered-block : (b : List ℕ) (n i : ℕ) (counts : Counts) (found : Option Version) (m : Message)
    → n ≡ at b header messages_at → counts ≡ counts_in b
    → m ≡ message_in b i → Ok found ≡ tested_in b (at b header versions_at) m
    → message_delivered (take_out b n i) counts (unwrap_or found none) m ≡ delivered_block b i
unfolding delivered_block
delivered-block b n i counts found m e c r v =
    found-work b (take_out b n i) counts found m
    ∙ ap (λ (x : Tested). message_delivered (take_out b n i) counts (answer_in (unstored b m) x) m) v
    ∙ rw (e, c, r) refl
