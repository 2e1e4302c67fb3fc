-- The load and the versions in use, counted on the words, are those of the tables that the words
-- are.
use mathlib.Core.Bool.{cond}
use mathlib.Core.List.{List}
use mathlib.Core.Path.{◌≡◌, ap}
use Prim.Native.Nat.{ℕ, ◌+◌, ◌≤◌, min}
use native.Mathlib.Omega.{arith}
use Rattle.basics.specs.Lists.{counted, table}
use Rattle.basics.proofs.Lists.{length-table}
use Rattle.protocol.specs.Tables.{nothing, resting}
use Rattle.protocol.specs.Message.{is_prepare}
use Rattle.protocol.specs.Range.{is_client, arrived, total, load, occupied}
use Rattle.layout.specs.Layout.{most_versions, most_messages}
use Rattle.layout.specs.Layout.{at, header, versions_at, messages_at}
use Rattle.layout.specs.Decode.{sizes_in, client_in, version_in, message_in}
use Rattle.layout.specs.Decode.{tables_of}
use Rattle.encoding.proofs.Folds.{total-same}
use Rattle.encoding.proofs.WellFormed.{client-test}
use Rattle.encoding.proofs.Folds.{total-same}
use Rattle.encoding.proofs.WellFormed.{client-test}

pub load-words : (b : List ℕ) → at b header messages_at ≤ most_messages
    → at b header messages_at + total (sizes_in b).clients (λ d. arrived (client_in b d)) ≡ load
    (tables_of b)
unfolding tables_of load
load-words b l =
    let come = total-same (sizes_in b).clients (λ d. arrived (client_in b d))
    (λ d. arrived (cond (is_client (sizes_in b) d) (client_in b d) (resting 0 nothing)))
    (λ d p q. rw (client-test (sizes_in b) d (p, q))) in
    omega (arith, come, length-table (min (at b header messages_at) most_messages) (message_in b))

pub occupied-words : (b : List ℕ) → at b header versions_at ≤ most_versions
    → at b header messages_at ≤ most_messages
    → at b header versions_at + counted is_prepare
    (table (at b header messages_at) (message_in b)) ≡ occupied (tables_of b)
unfolding tables_of occupied
occupied-words b l h =
    let few : at b header messages_at ≡ min (at b header messages_at) most_messages = omega arith in
    omega (
      arith,
      length-table (min (at b header versions_at) most_versions) (version_in b),
      ap
          (λ (n : ℕ). counted is_prepare (table n (message_in b))) few,
    )
