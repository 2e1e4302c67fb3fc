-- A version or a message that joins keeps the block's length and the words past what a block needs.
use mathlib.Core.List.{List}
use Prim.Native.Nat.{ℕ, ◌+◌, ◌<◌}
use native.Mathlib.Omega.{arith}
use lib.Dec.{ltb}
use borrow.Author.Tests.{ltb-true}
use Rattle.protocol.specs.declared.Version.{Version}
use Rattle.protocol.specs.declared.Message.{Message}
use Rattle.protocol.proofs.Put.{by_cond}
use Rattle.layout.specs.Layout.{most_versions, most_messages, header, versions, messages, base, at}
use Rattle.layout.specs.Layout.{versions_at, messages_at, version_at, message_at}
use Rattle.layout.specs.Store.{words_of_version, words_of_message, store_version, store_message}
use Rattle.layout.specs.Store.{append_version, append_message}
use Rattle.layout.proofs.Past.{SamePast, past-none}
use Rattle.slots.specs.Room.{keep, send}
use Rattle.slots.proofs.Runs.{run_length, run-behind}
use Rattle.slots.proofs.EncodesAppend.{length-words}

pub past-append-version : (b : List ℕ) (n : ℕ) (v : Version) → n < most_versions
    → SamePast b (append_version b n v)
unfolding append_version store_version
past-append-version b n v l =
    let from = base versions + version_at n 0 in
    record {
      long = run_length b from (words_of_version v) versions_at (n + 1) 0;
      past = λ j g. run-behind b from (words_of_version v) versions_at (n + 1) 0 j (omega arith)
          (omega arith);
    }

pub past-append-message : (b : List ℕ) (n : ℕ) (m : Message) → n < most_messages
    → SamePast b (append_message b n m)
unfolding append_message store_message
past-append-message b n m l =
    let from = base messages + message_at n 0 in
    record {
      long = run_length b from (words_of_message m) messages_at (n + 1) 0;
      past = λ j g. run-behind b from (words_of_message m) messages_at (n + 1) 0 j
          (omega (arith, length-words m)) (omega arith);
    }

-- ---- where there is room

pub past-keep : (b : List ℕ) (v : Version) → SamePast b (keep b v)
unfolding keep
past-keep b v =
    let n = at b header versions_at in
    by_cond (SamePast b) (ltb n most_versions) (append_version b n v) b
    (λ e. past-append-version b n v (ltb-true n most_versions e)) (λ e. past-none b)

pub past-send : (b : List ℕ) (m : Message) → SamePast b (send b m)
unfolding send
past-send b m =
    let n = at b header messages_at in
    by_cond (SamePast b) (ltb n most_messages) (append_message b n m) b
    (λ e. past-append-message b n m (ltb-true n most_messages e)) (λ e. past-none b)
