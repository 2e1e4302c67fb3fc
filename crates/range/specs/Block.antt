-- The test of a block past its sizes and counts, as `range` goes through it.
use Rattle.std.specs.Prelude.{Bool, ◌&&◌, List, ℕ, suc, ◌+◌, leb}
use Rattle.basics.specs.Lists.{every, counted, table}
use Rattle.protocol.specs.Range.{capacities, entry_in_range, version_in_range, arrived, total}
use Rattle.protocol.specs.Message.{is_prepare}
use Rattle.layout.specs.Decode.{latest_in, view_in, client_in, version_in, message_in}
use Rattle.gather.specs.Sized.{sized}
use Rattle.range_client.specs.Clients.{client_test}
use Rattle.range_message.specs.Messages.{message_test}

unfoldable pub tables_test : List ℕ → ℕ → ℕ → ℕ → ℕ → ℕ → Bool
tables_test b clients partitions items versions messages =
    every items (λ k. entry_in_range (sized clients items) (latest_in b k))
    && every clients (λ i. every items (λ k. entry_in_range (sized clients items)
    (view_in b (suc i) k)))
    && every clients (λ i. client_test b (suc i) clients items)
    && every versions (λ i. version_in_range (sized clients items) (version_in b i))
    && every messages (λ i. message_test b i clients partitions items)
    && leb (messages + total clients (λ d. arrived (client_in b d))) capacities.load
    && leb (versions + counted is_prepare (table messages (message_in b))) capacities.versions
