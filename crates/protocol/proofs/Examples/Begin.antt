-- The tables that rows of the examples begin on, all of them in range.
use mathlib.Core.List.{List, [], ◌∷◌, ◌++◌, map}
use Prim.Native.Nat.{ℕ, zero, suc}
use lib.ListN.{replicate}
use Rattle.protocol.specs.declared.Version.{Version}
use Rattle.protocol.specs.declared.Entry.{Entry}
use Rattle.protocol.specs.declared.Message.TheVariants.{Prepare, Prepared, Commit, Get, Got}
use Rattle.protocol.specs.Tables.{Sizes, Tables, Client, ReadPart, Ended, no_read, no_write}
use Rattle.protocol.specs.Tables.{nothing, fresh, initial, resting, stamp_of, put, with_client}
use Rattle.protocol.specs.Tables.{with_view, with_versions, with_messages, with_write}

abbrev pub sizes : ℕ → ℕ → ℕ → Sizes
sizes clients partitions items = record
    { clients = clients; partitions = partitions; items = items }

abbrev pub entry : ℕ → ℕ → ℕ → Entry
entry number writer set = record { stamp = stamp_of number writer; set = set }

abbrev pub version : ℕ → ℕ → ℕ → ℕ → ℕ → Version
version k value number writer set =
    record { item = k; value = value; stamp = stamp_of number writer; set = set }

-- of an ordinary read
abbrev pub read_part : ℕ → ℕ → (ℕ → ℕ) → (ℕ → ℕ) → ReadPart
read_part set awaited asked values =
    record {
      set = set;
      awaited = awaited;
      asked = asked;
      values = values;
      stage = 0;
      firsts = λ k. initial;
    }

-- of a fast read at this stage
abbrev pub fast_part : ℕ → ℕ → ℕ → (ℕ → ℕ) → (ℕ → Entry) → (ℕ → ℕ) → ReadPart
fast_part stage set awaited asked firsts values =
    record {
      set = set;
      awaited = awaited;
      asked = asked;
      values = values;
      stage = stage;
      firsts = firsts;
    }

-- an ended read, fast read or write of these items
abbrev pub read_of : ℕ → (ℕ → ℕ) → (ℕ → ℕ) → Ended
read_of set stamps values =
    record {
      kind = 1;
      read = read_part set 0 stamps values;
      write = no_write;
    }

abbrev pub fast_of : ℕ → (ℕ → ℕ) → (ℕ → ℕ) → Ended
fast_of set stamps values = record { kind = 3; read = read_part set 0 stamps values; write = no_write }

abbrev pub write_of : ℕ → ℕ → (ℕ → ℕ) → Ended
write_of set stamp values =
    record {
      kind = 2;
      read = no_read;
      write = record { set = set; awaited = 0; stamp = stamp; values = values };
    }

-- an ended mixed transaction: the items read with their stamps, those written with their stamp, and
-- the value of each item, read or written
abbrev pub mixed_of : ℕ → (ℕ → ℕ) → ℕ → ℕ → (ℕ → ℕ) → Ended
mixed_of reads stamps set stamp values =
    record {
      kind = 4;
      read = read_part reads 0 stamps values;
      write = record { set = set; awaited = 0; stamp = stamp; values = values };
    }

-- a client with count 5: of its one part the items, those awaited, the stamps asked for or the
-- stamp written, and the value of each item
abbrev pub reader : ℕ → ℕ → ℕ → ℕ → Client
reader set awaited asked value =
    record {
      count = 5;
      read = read_part set awaited (λ k. asked) (λ k. value);
      write = no_write;
      last = nothing;
    }

abbrev pub writer : ℕ → ℕ → ℕ → ℕ → Client
writer set awaited stamp value =
    record {
      count = 5;
      read = no_read;
      write = record { set = set; awaited = awaited; stamp = stamp; values = λ k. value };
      last = nothing;
    }

-- and one in the first or the second part of a fast read
abbrev pub fast_reader : ReadPart → Client
fast_reader p = record { count = 5; read = p; write = no_write; last = nothing }

abbrev pub first_part : ℕ → ℕ → (ℕ → Entry) → ℕ → Client
first_part set awaited firsts value =
    fast_reader (fast_part 1 set awaited (λ k. 0) firsts (λ k. value))

abbrev pub second_part : ℕ → ℕ → (ℕ → ℕ) → (ℕ → Entry) → ℕ → Client
second_part set awaited asked firsts value =
    fast_reader (fast_part 2 set awaited asked firsts (λ k. value))

-- the read part of one client and the write part of another
abbrev pub both : Client → Client → Client
both r w = with_write r w.write

-- ---- Load

abbrev pub stored_by : ℕ → List Version
stored_by d = version 0 7 1 d 15 ∷ version 1 7 1 d 15 ∷ version 2 7 1 d 15 ∷ version 3 7 1 d 15 ∷ []

-- Of eight clients 1 to 7 write {0, 1, 2, 3} and still await the reply for 3: 21 replies have come,
-- the other 7 are in flight. Beside those there are n commits of client 8, which is idle; that it
-- has a set adds nothing. The load is 28 + n.
abbrev pub loaded : ℕ → Tables
loaded n =
    record {
      sizes = sizes 8 4 4;
      latest = λ k. initial;
      view = λ d k. initial;
      client = put (λ d. writer 15 8 (stamp_of 1 d) 7) 8 (reader 15 0 0 0);
      versions = stored_by 1 ++ stored_by 2 ++ stored_by 3 ++ stored_by 4 ++ stored_by 5 ++ stored_by
          6 ++ stored_by 7;
      messages = map (λ d. Prepared 3 (stamp_of 1 d)) (1 ∷ 2 ∷ 3 ∷ 4 ∷ 5 ∷ 6 ∷ 7 ∷ []) ++ replicate n
          (Commit 0 (stamp_of 1 8));
    }

-- ---- Versions

-- n writes of item 0 by client 1
abbrev pub writes_of : ℕ → List Version
writes_of zero = []
writes_of (suc n) = version 0 7 (suc n) 1 1 ∷ writes_of n

-- n versions stored and nothing in flight
abbrev pub holding : ℕ → Tables
holding n = with_versions (with_client (fresh (sizes 2 1 2)) 1 (resting n nothing)) (writes_of n)

-- ---- Views

-- client 3 has seen these entries of items 0 and 1
abbrev pub seeing : Entry → Entry → Tables
seeing e f = with_view (fresh (sizes 3 1 2)) 3 (put (put (λ k. initial) 0 e) 1 f)

-- ---- Counts

-- client 1 has count 5
abbrev pub ahead : Tables
ahead = with_client (fresh (sizes 2 1 1)) 1 (resting 5 nothing)

-- client 1 can start no more writes
abbrev pub spent : Tables
spent = with_client (fresh (sizes 2 2 2)) 1 (resting 4294967295 nothing)

-- nor can client 2 here, with 511 versions stored and 127 commits in flight
abbrev pub crowded : Tables
crowded = with_messages (with_client (holding 511) 2 (resting 4294967295 nothing))
    (replicate 127 (Commit 0 (stamp_of 1 1)))

-- ---- Strays

-- Client 1 writes {0, 1} and still awaits the reply for 1; client 2 reads {0}. Two versions are
-- alike, an entry's set lacks its item, an initial entry has a set, and in flight are messages that
-- no run of calls would leave there: in range all the same.
abbrev pub strayed : Tables
strayed =
    record {
      sizes = sizes 2 1 2;
      latest = put (put (λ k. initial) 0 (entry 1 1 1)) 1 (entry 0 0 3);
      view = put (λ d k. initial) 2 (put (put (λ k. initial) 0 (entry 1 1 1)) 1 (entry 2 1 1));
      client =
          put (put (λ d. resting 0 nothing) 1 (writer 3 2 (stamp_of 1 1) 7)) 2
          (reader 1 1 (stamp_of 1 2) 0);
      versions = version 0 7 1 1 3 ∷ version 0 9 1 1 1 ∷ [];
      messages =
          Prepare (version 0 7 1 1 3)
          ∷ Prepared 0 (stamp_of 1 1)
          ∷ Prepared 1 (stamp_of 2 1)
          ∷ Prepared 0 (stamp_of 1 2)
          ∷ Got 1 (version 1 7 1 1 0) initial
          ∷ Got 2 (version 1 7 1 2 0) initial
          ∷ Got 2 (version 0 7 1 1 0) initial
          ∷ Get 2 1 (stamp_of 1 1)
          ∷ Get 1 1 0
          ∷ Get 2 0 (stamp_of 1 1)
          ∷ Commit 0 (stamp_of 2 2)
          ∷ Commit 0 (stamp_of 1 1)
          ∷ Got 2 (version 0 8 1 2 1) (entry 1 1 3)
          ∷ Prepared 1 (stamp_of 1 1)
          ∷ [];
    }
