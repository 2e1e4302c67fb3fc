-- The sizes that a test looks at: the number of partitions matters to messages alone.
use Rattle.std.specs.Prelude.{ℕ}
use Rattle.protocol.specs.Tables.{Sizes}

abbrev pub sizes : ℕ → ℕ → ℕ → Sizes
sizes clients partitions items = record
    { clients = clients; partitions = partitions; items = items }

abbrev pub sized : ℕ → ℕ → Sizes
sized clients items = sizes clients 0 items
