-- Tables with one fault each (document 01, 'Tables'): a field out of range, in the order of that
-- sentence, or too much in all.
use mathlib.Core.List.{List, [], ◌∷◌}
use lib.ListN.{replicate}
use Rattle.protocol.specs.declared.Version.{Version}
use Rattle.protocol.specs.declared.Entry.{Entry}
use Rattle.protocol.specs.declared.Message.{Message}
use Rattle.protocol.specs.declared.Message.TheVariants.{Prepare, Prepared, Commit, Get, Got}
use Rattle.protocol.specs.declared.Message.TheVariants.{FirstGet, FirstReply}
use Rattle.protocol.specs.Tables.{Sizes, Tables, Client, Ended, no_read, no_write, nothing}
use Rattle.protocol.specs.Tables.{fresh, initial, resting, stamp_of, put, with_client, with_view}
use Rattle.protocol.specs.Tables.{with_latest, with_versions, with_messages}
use Rattle.protocol.proofs.Examples.Begin.{sizes, entry, version, reader, writer, loaded}
use Rattle.protocol.proofs.Examples.Begin.{read_of, fast_of, write_of, mixed_of, holding, both}
use Rattle.protocol.proofs.Examples.Begin.{fast_part, fast_reader, first_part, second_part}

-- ---- Fresh tables of two clients, partitions and items, but for one field

abbrev pub pair : Sizes
pair = sizes 2 2 2

abbrev pub with_latest_of : Entry → Tables
with_latest_of e = with_latest (fresh pair) (put (λ k. initial) 1 e)

abbrev pub with_view_of : Entry → Tables
with_view_of e = with_view (fresh pair) 2 (put (λ k. initial) 1 e)

abbrev pub with_busy : Client → Tables
with_busy c = with_client (fresh pair) 2 c

abbrev pub with_last : Ended → Tables
with_last last = with_busy (resting 0 last)

abbrev pub with_stored : Version → Tables
with_stored v = with_versions (fresh pair) (v ∷ [])

abbrev pub with_message : Message → Tables
with_message m = with_messages (fresh pair) (m ∷ [])

-- ---- The faults

abbrev pub faults : List Tables
faults =
    -- sizes
    fresh (sizes 0 2 2) ∷ fresh (sizes 9 2 2) ∷ fresh (sizes 2 0 2) ∷ fresh (sizes 2 9 2)
    ∷ fresh (sizes 2 2 0) ∷ fresh (sizes 2 2 65)
    -- clients, items and partitions that don't exist
    ∷ with_message (Get 0 1 0) ∷ with_message (Get 3 1 0)
    ∷ with_message (Got 0 (version 1 0 0 0 0) initial)
    ∷ with_message (Got 3 (version 1 0 0 0 0) initial)
    ∷ with_stored (version 2 0 1 1 7) ∷ with_message (Prepare (version 2 0 1 1 7))
    ∷ with_message (Prepared 2 (stamp_of 1 1))
    ∷ with_message (Get 1 2 0) ∷ with_message (Got 1 (version 2 0 0 0 0) initial)
    ∷ with_message (Commit 2 (stamp_of 1 1))
    ∷ with_message (FirstGet 0 1) ∷ with_message (FirstGet 3 1) ∷ with_message (FirstGet 1 2)
    ∷ with_message (FirstReply 0 (version 1 0 0 0 0) initial)
    ∷ with_message (FirstReply 3 (version 1 0 0 0 0) initial)
    ∷ with_message (FirstReply 1 (version 2 0 0 0 0) initial)
    -- counts and values
    ∷ with_busy (resting 4294967296 nothing)
    ∷ with_stored (version 1 4294967296 1 1 2) ∷ with_message (Prepare (version 1 4294967296 1 1 2))
    ∷ with_message (Got 1 (version 1 4294967296 0 0 0) initial)
    ∷ with_message (FirstReply 1 (version 1 4294967296 0 0 0) initial)
    ∷ with_busy (reader 2 2 0 4294967296) ∷ with_busy (writer 2 2 (stamp_of 1 2) 4294967296)
    ∷ with_last (read_of 2 (λ k. 0) (λ k. 4294967296))
    ∷ with_last (write_of 2 (stamp_of 1 1) (λ k. 4294967296))
    -- sets
    ∷ with_latest_of (entry 1 1 6) ∷ with_view_of (entry 1 1 6)
    ∷ with_message (Got 1 (version 1 0 0 0 6) initial)
    ∷ with_message (Got 1 (version 1 0 0 0 0) (entry 1 1 6))
    ∷ with_message (FirstReply 1 (version 1 0 0 0 6) initial)
    ∷ with_message (FirstReply 1 (version 1 0 0 0 0) (entry 1 1 6))
    ∷ with_busy (first_part 3 2 (λ k. entry 1 1 6) 0)
    ∷ with_busy (second_part 3 2 (λ k. 0) (λ k. entry 1 1 6) 0)
    ∷ with_stored (version 1 0 1 1 6) ∷ with_message (Prepare (version 1 0 1 1 6))
    ∷ with_busy (reader 6 2 0 0) ∷ with_busy (writer 6 2 (stamp_of 1 2) 0)
    ∷ with_busy (reader 2 6 0 0)
    ∷ with_last (read_of 6 (λ k. 0) (λ k. 0)) ∷ with_last (write_of 6 (stamp_of 1 1) (λ k. 0))
    -- stamps
    ∷ with_latest_of (entry 0 1 2) ∷ with_latest_of (entry 1 0 2) ∷ with_latest_of (entry 1 3 2)
    ∷ with_latest_of (entry 4294967296 1 2)
    ∷ with_view_of (entry 0 1 2) ∷ with_view_of (entry 1 3 2) ∷ with_stored (version 1 0 1 3 2)
    ∷ with_message (Prepare (version 1 0 1 3 2))
    ∷ with_message (Prepared 1 (stamp_of 1 3)) ∷ with_message (Commit 1 (stamp_of 1 3))
    ∷ with_message (Get 1 1 (stamp_of 1 3))
    ∷ with_message (Got 1 (version 1 0 1 3 0) initial)
    ∷ with_message (Got 1 (version 1 0 0 0 0) (entry 1 3 2))
    ∷ with_message (FirstReply 1 (version 1 0 1 3 0) initial)
    ∷ with_message (FirstReply 1 (version 1 0 0 0 0) (entry 1 3 2))
    ∷ with_busy (first_part 3 2 (put (λ k. initial) 0 (entry 1 3 1)) 0)
    ∷ with_busy (second_part 3 2 (λ k. 0) (put (λ k. initial) 0 (entry 1 3 1)) 0)
    ∷ with_busy (second_part 3 2 (λ k. 0) (put (λ k. initial) 1 (entry 1 3 1)) 0)
    ∷ with_last (fast_of 2 (λ k. stamp_of 1 3) (λ k. 0))
    ∷ with_busy (reader 2 2 (stamp_of 1 3) 0) ∷ with_busy (writer 2 2 (stamp_of 1 3) 0)
    ∷ with_last (read_of 2 (λ k. stamp_of 1 3) (λ k. 0)) ∷ with_last (write_of 2 (stamp_of 1 3) (λ k. 0))
    ∷ with_last (mixed_of 2 (λ k. stamp_of 1 3) 1 (stamp_of 1 2) (λ k. 0))
    ∷ with_last (mixed_of 2 (λ k. 0) 1 (stamp_of 1 3) (λ k. 0))
    -- versions and prepares of the initial stamp, or with a set that lacks their item
    ∷ with_stored (version 1 0 0 0 2) ∷ with_message (Prepare (version 1 0 0 0 2))
    ∷ with_stored (version 1 0 1 1 1) ∷ with_message (Prepare (version 1 0 1 1 1))
    -- a prepared reply or commit of the initial stamp
    ∷ with_message (Prepared 1 0) ∷ with_message (Commit 1 0)
    -- awaited items outside the set; a write that awaits none, alone or with a read beside it
    ∷ with_busy (reader 2 3 0 0) ∷ with_busy (writer 2 1 (stamp_of 1 2) 0) ∷ with_busy (reader 0 2 0 0)
    ∷ with_busy (writer 0 2 (stamp_of 1 2) 0) ∷ with_busy (writer 2 0 (stamp_of 1 2) 0)
    ∷ with_busy (both (reader 2 0 0 0) (writer 1 0 (stamp_of 1 2) 0))
    ∷ with_busy (both (reader 2 2 0 0) (writer 0 2 (stamp_of 1 2) 0))
    -- a fast read that awaits none, in either part; a third part; a fast read and a write at once
    ∷ with_busy (first_part 2 0 (λ k. initial) 0) ∷ with_busy (first_part 0 0 (λ k. initial) 0)
    ∷ with_busy (second_part 2 0 (λ k. 0) (λ k. initial) 0)
    ∷ with_busy (fast_reader (fast_part 3 2 2 (λ k. 0) (λ k. initial) (λ k. 0)))
    ∷ with_busy (both (first_part 2 2 (λ k. initial) 0) (writer 1 1 (stamp_of 1 2) 0))
    ∷ with_busy (both (second_part 2 2 (λ k. 0) (λ k. initial) 0) (writer 1 1 (stamp_of 1 2) 0))
    -- a last transaction of no kind
    ∷ with_last (record { kind = 5; read = no_read; write = no_write })
    -- load 129; 513 versions; 512 and a prepare
    ∷ loaded 101
    ∷ with_messages (with_busy (first_part 3 2 (λ k. initial) 0))
    (replicate 128 (Commit 0 (stamp_of 1 1)))
    ∷ holding 513 ∷ with_messages (holding 512) (Prepare (version 1 7 1 2 2) ∷ [])
    ∷ []
