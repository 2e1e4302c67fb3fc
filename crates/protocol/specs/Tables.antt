-- The store's tables (document 01, 'Tables'), as values with no word of a block in them: a client
-- is document 01's desk, a partition its cabinet, an item its line, the messages its pile.
use Rattle.std.specs.Prelude.{Bool, cond, ◌||◌, List, [], ℕ, ◌+◌, ◌*◌, ◌/◌, ◌%◌, eqb, ltb}
use Rattle.protocol.specs.declared.Version.{Version}
use Rattle.protocol.specs.declared.Entry.{Entry}
use Rattle.protocol.specs.declared.Message.{Message}

-- ---- Stamp: a number and a writing client (desk), kept as one number

-- The initial stamp is 0. Later is greater: the greater number, and with equal numbers the greater
-- client (`stamp-order`, proofs/Stamp.antt).
abbrev pub stamp_of : ℕ → ℕ → ℕ
stamp_of number client = number * 16 + client

abbrev pub number_of : ℕ → ℕ
number_of stamp = stamp / 16

abbrev pub writer_of : ℕ → ℕ
writer_of stamp = stamp % 16

-- ---- Entry: a stamp and a write set, of a view or of a latest

abbrev pub initial : Entry
initial = record { stamp = 0; set = 0 }

-- the later of two; at equal stamps the one already there stays
abbrev pub later_of : Entry → Entry → Entry
later_of present other = cond (ltb present.stamp other.stamp) other present

-- the stamp and the write set of a version
abbrev pub entry_of : Version → Entry
entry_of v = record { stamp = v.stamp; set = v.set }

-- ---- Client (desk)

-- The transaction under way has a read part and a write part: a mixed one (document 02, P8) has
-- both. Either may be empty: an ordinary read has no write part, an ordinary write no read part,
-- and an idle client has neither.

-- its items, those whose reply is still awaited, the stamps asked for, and the answers so far; its
-- stage, 0 of an ordinary read, 1 and 2 in the first and the second part of a fast read (document
-- 02, P7), and the first replies that have come
pub record ReadPart : Type 0 where
  pub set : ℕ
  pub awaited : ℕ
  pub asked : ℕ → ℕ
  pub values : ℕ → ℕ
  pub stage : ℕ
  pub firsts : ℕ → Entry

abbrev pub is_first_part : ReadPart → Bool
is_first_part p = eqb p.stage 1

abbrev pub is_second_part : ReadPart → Bool
is_second_part p = eqb p.stage 2

-- its items, those whose reply is still awaited, the one stamp, and the values
pub record WritePart : Type 0 where
  pub set : ℕ
  pub awaited : ℕ
  pub stamp : ℕ
  pub values : ℕ → ℕ

abbrev pub no_read : ReadPart
no_read =
    record {
      set = 0;
      awaited = 0;
      asked = λ k. 0;
      values = λ k. 0;
      stage = 0;
      firsts = λ k. initial;
    }

abbrev pub no_write : WritePart
no_write = record { set = 0; awaited = 0; stamp = 0; values = λ k. 0 }

-- The last ended transaction: its kind, 0 none yet, 1 a read, 2 a write, 3 a fast read, 4 a mixed
-- transaction, and its parts as they ended, with nothing awaited and no first reply.
pub record Ended : Type 0 where
  pub kind : ℕ
  pub read : ReadPart
  pub write : WritePart

abbrev pub nothing : Ended
nothing = record { kind = 0; read = no_read; write = no_write }

-- the kinds that there are, and which parts each shows; a later kind joins here
unfoldable pub is_kind : ℕ → Bool
is_kind kind = ltb kind 5

abbrev pub shows_read : ℕ → Bool
shows_read kind = eqb kind 1 || eqb kind 3 || eqb kind 4

abbrev pub shows_write : ℕ → Bool
shows_write kind = eqb kind 2 || eqb kind 4

pub record Client : Type 0 where
  -- the number of its last write started, 0 before the first
  pub count : ℕ
  pub read : ReadPart
  pub write : WritePart
  pub last : Ended

-- one of the two parts
pub data Side : Type 0 where
  of_read of_write : Side

abbrev pub awaited_of : Side → Client → ℕ
awaited_of of_read c = c.read.awaited
awaited_of of_write c = c.write.awaited

-- ---- Tables

pub record Sizes : Type 0 where
  pub clients : ℕ
  pub partitions : ℕ
  pub items : ℕ

pub record Tables : Type 0 where
  pub sizes : Sizes
  -- of an item, at its partition (cabinet)
  pub latest : ℕ → Entry
  -- of a client and an item
  pub view : ℕ → ℕ → Entry
  -- of a client, 1 to `clients`
  pub client : ℕ → Client
  pub versions : List Version
  -- the messages in flight (pile)
  pub messages : List Message

-- the partition of an item
abbrev pub partition_of : Tables → ℕ → ℕ
partition_of t k = k % t.sizes.partitions

-- a client that hasn't begun a transaction since a fresh start or the last end: idle, with neither
-- part
abbrev pub resting : ℕ → Ended → Client
resting count last = record { count = count; read = no_read; write = no_write; last = last }

-- what a fresh start makes
abbrev pub fresh : Sizes → Tables
fresh sizes =
    record {
      sizes = sizes;
      latest = λ k. initial;
      view = λ d k. initial;
      client = λ d. resting 0 nothing;
      versions = [];
      messages = [];
    }

-- ---- changes: a client with one field another

abbrev pub with_count : Client → ℕ → Client
with_count c count = record { count = count; read = c.read; write = c.write; last = c.last }

abbrev pub with_read : Client → ReadPart → Client
with_read c part = record { count = c.count; read = part; write = c.write; last = c.last }

abbrev pub with_write : Client → WritePart → Client
with_write c part = record { count = c.count; read = c.read; write = part; last = c.last }

abbrev pub with_last : Client → Ended → Client
with_last c last = record { count = c.count; read = c.read; write = c.write; last = last }

-- as the end of its transaction leaves it: resting, with this one as its last
abbrev pub rested : Client → Ended → Client
rested c last = with_last (with_write (with_read c no_read) no_write) last

-- ---- changes: the tables with one field another

-- the function f, but v at k
abbrev pub put : {A : Type 0} → (ℕ → A) → ℕ → A → ℕ → A
put f k v j = cond (eqb j k) v (f j)

abbrev pub with_client : Tables → ℕ → Client → Tables
with_client t d c =
    record {
      sizes = t.sizes;
      latest = t.latest;
      view = t.view;
      client = put t.client d c;
      versions = t.versions;
      messages = t.messages;
    }

-- the whole view of client d
abbrev pub with_view : Tables → ℕ → (ℕ → Entry) → Tables
with_view t d entries =
    record {
      sizes = t.sizes;
      latest = t.latest;
      view = put t.view d entries;
      client = t.client;
      versions = t.versions;
      messages = t.messages;
    }

abbrev pub with_latest : Tables → (ℕ → Entry) → Tables
with_latest t entries =
    record {
      sizes = t.sizes;
      latest = entries;
      view = t.view;
      client = t.client;
      versions = t.versions;
      messages = t.messages;
    }

abbrev pub with_versions : Tables → List Version → Tables
with_versions t versions =
    record {
      sizes = t.sizes;
      latest = t.latest;
      view = t.view;
      client = t.client;
      versions = versions;
      messages = t.messages;
    }

abbrev pub with_messages : Tables → List Message → Tables
with_messages t messages =
    record {
      sizes = t.sizes;
      latest = t.latest;
      view = t.view;
      client = t.client;
      versions = t.versions;
      messages = messages;
    }
