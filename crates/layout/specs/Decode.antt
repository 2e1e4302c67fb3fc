-- The decoder: the tables that the words of a block are, initial outside the sizes, the counts and
-- the sets; and which blocks are valid.
use Rattle.std.specs.Prelude.{Bool, cond, not, ◌&&◌, ◌||◌, List, ℕ, zero, suc, ◌+◌, min, leb, ltb, eqb, length}
use Rattle.std.specs.Bool.{beq}
use Rattle.basics.specs.Lists.{every, table}
use Rattle.itemset.specs.Set.{has}
use Rattle.protocol.specs.declared.Version.{Version}
use Rattle.protocol.specs.declared.Entry.{Entry}
use Rattle.protocol.specs.declared.Message.{Message}
use Rattle.protocol.specs.declared.Message.TheVariants.{Prepare, Prepared, Commit, Get, Got}
use Rattle.protocol.specs.declared.Message.TheVariants.{FirstGet, FirstReply}
use Rattle.protocol.specs.Tables.{Sizes, Tables, Client, ReadPart, WritePart, no_read, no_write}
use Rattle.protocol.specs.Tables.{Ended, nothing, is_kind, shows_read, shows_write, initial, resting}
use Rattle.protocol.specs.Steps.{version}
use Rattle.protocol.specs.Message.{kinds}
use Rattle.protocol.specs.Range.{capacities, valid, sizes_in_range, is_client, is_item, every_client}
use Rattle.protocol.specs.Range.{has_first}
use Rattle.layout.specs.Layout.{most_versions, most_messages, header, scalars, latest, views}
use Rattle.layout.specs.Layout.{asked, values, last_stamps, last_values, firsts, versions}
use Rattle.layout.specs.Layout.{messages, needed, at, clients_at, partitions_at, items_at}
use Rattle.layout.specs.Layout.{versions_at, messages_at, mode_at, count_at, set_at, awaited_at}
use Rattle.layout.specs.Layout.{stamp_at, last_kind_at, last_set_at, last_stamp_at, latest_at, view_at}
use Rattle.layout.specs.Layout.{write_set_at, write_awaited_at, last_write_set_at, item_at, first_at}
use Rattle.layout.specs.Layout.{version_at, message_at, modes, is_write_mode, is_mixed_mode}
use Rattle.layout.specs.Layout.{is_mixed_kind, idle, stage_of, read_value, written_value}

-- ---- parts and messages

-- only the items of s count
abbrev pub within : ℕ → (ℕ → ℕ) → ℕ → ℕ
within s f k = cond (has s k) (f k) 0

-- and of the first replies those that have come
abbrev pub come_of : ReadPart → ℕ → Entry
come_of p k = cond (has_first p k) (p.firsts k) initial

-- the parts that these words are
abbrev pub read_of : ℕ → ℕ → ℕ → (ℕ → ℕ) → (ℕ → ℕ) → (ℕ → Entry) → ReadPart
read_of s awaited stage stamps vs replies =
    record {
      set = s;
      awaited = awaited;
      asked = within s stamps;
      values = within s vs;
      stage = stage;
      firsts = come_of (record {
        set = s;
        awaited = awaited;
        asked = stamps;
        values = vs;
        stage = stage;
        firsts = replies;
      });
    }

abbrev pub write_of : ℕ → ℕ → ℕ → (ℕ → ℕ) → WritePart
write_of s awaited stamp vs =
    record { set = s; awaited = awaited; stamp = stamp; values = within s vs }

-- the message of this kind, from its seven other words
unfoldable pub message_of : ℕ → ℕ → ℕ → ℕ → ℕ → ℕ → Entry → Message
message_of zero who k v stamp s e = Commit 0 0
message_of (suc zero) who k v stamp s e = Prepare (version k v stamp s)
message_of (suc (suc zero)) who k v stamp s e = Prepared k stamp
message_of (suc (suc (suc zero))) who k v stamp s e = Commit who stamp
message_of (suc (suc (suc (suc zero)))) who k v stamp s e = Get who k stamp
message_of (suc (suc (suc (suc (suc zero))))) who k v stamp s e = Got who (version k v stamp s) e
message_of (suc (suc (suc (suc (suc (suc zero)))))) who k v stamp s e = FirstGet who k
message_of (suc (suc (suc (suc (suc (suc (suc n))))))) who k v stamp s e =
    FirstReply who (version k v stamp s) e

-- ---- field by field

abbrev pub sizes_in : List ℕ → Sizes
sizes_in b = record {
  clients = at b header clients_at;
  partitions = at b header partitions_at;
  items =
      at b header items_at;
}

abbrev pub latest_in : List ℕ → ℕ → Entry
latest_in b k = record { stamp = at b latest (latest_at k); set = at b latest (latest_at k + 1) }

abbrev pub view_in : List ℕ → ℕ → ℕ → Entry
view_in b d k = record { stamp = at b views (view_at d k); set = at b views (view_at d k + 1) }

abbrev pub first_in : List ℕ → ℕ → ℕ → Entry
first_in b d k = record { stamp = at b firsts (first_at d k 0); set = at b firsts (first_at d k 1) }

-- the words of the transaction under way, as a read part and as a write part: a mixed one's write
-- part has its set and awaited items apart from the read part's
abbrev pub read_in : List ℕ → ℕ → ReadPart
read_in b d =
    let mode = at b scalars (mode_at d) in
    read_of (at b scalars (set_at d)) (at b scalars (awaited_at d)) (stage_of mode)
    (λ j. at b asked (item_at d j)) (λ j. read_value (is_mixed_mode mode) (at b values (item_at d j)))
    (first_in b d)

abbrev pub write_in : List ℕ → ℕ → WritePart
write_in b d =
    let mixed = is_mixed_mode (at b scalars (mode_at d)) in
    write_of (cond mixed (at b scalars (write_set_at d)) (at b scalars (set_at d)))
    (cond mixed (at b scalars (write_awaited_at d)) (at b scalars (awaited_at d)))
    (at b scalars (stamp_at d)) (λ j. written_value mixed (at b values (item_at d j)))

-- and those of the last ended one, of which nothing is awaited and no first reply kept
abbrev pub last_read_in : List ℕ → ℕ → ReadPart
last_read_in b d =
    let mixed = is_mixed_kind (at b scalars (last_kind_at d)) in
    read_of (at b scalars (last_set_at d)) 0 0 (λ j. at b last_stamps (item_at d j))
    (λ j. read_value mixed (at b last_values (item_at d j))) (λ j. initial)

abbrev pub last_write_in : List ℕ → ℕ → WritePart
last_write_in b d =
    let mixed = is_mixed_kind (at b scalars (last_kind_at d)) in
    write_of (cond mixed (at b scalars (last_write_set_at d)) (at b scalars (last_set_at d))) 0
    (at b scalars (last_stamp_at d)) (λ j. written_value mixed (at b last_values (item_at d j)))

-- it has the parts that its kind shows, and no others
abbrev pub ended_in : List ℕ → ℕ → Ended
ended_in b d =
    let kind = at b scalars (last_kind_at d) in
    record {
      kind = kind;
      read = cond (shows_read kind) (last_read_in b d) no_read;
      write = cond (shows_write kind) (last_write_in b d) no_write;
    }

-- of a writing client the words of the transaction under way are those of a write part, of one in a
-- mixed transaction those of both parts, of any other those of a read part
unfoldable pub client_in : List ℕ → ℕ → Client
client_in b d =
    let mode = at b scalars (mode_at d) in
    record {
      count = at b scalars (count_at d);
      read = cond (is_write_mode mode) no_read (read_in b d);
      write = cond (is_write_mode mode || is_mixed_mode mode) (write_in b d) no_write;
      last = ended_in b d;
    }

abbrev pub version_in : List ℕ → ℕ → Version
version_in b i =
    version (at b versions (version_at i 0)) (at b versions (version_at i 1))
    (at b versions (version_at i 2)) (at b versions (version_at i 3))

abbrev pub kind_in : List ℕ → ℕ → ℕ
kind_in b i = at b messages (message_at i 0)

-- the message whose words these are
abbrev pub message_from : (ℕ → ℕ) → Message
message_from w =
    message_of (w 0) (w 1) (w 2) (w 3) (w 4) (w 5) (record { stamp = w 6; set = w 7 })

unfoldable pub message_in : List ℕ → ℕ → Message
message_in b i = message_from (λ f. at b messages (message_at i f))

-- ---- the whole

unfoldable pub tables_of : List ℕ → Tables
tables_of b =
    let z = sizes_in b in
    record {
      sizes = z;
      latest = λ k. cond (is_item z k) (latest_in b k) initial;
      view = λ d k. cond (is_client z d && is_item z k) (view_in b d k) initial;
      client = λ d. cond (is_client z d) (client_in b d) (resting 0 nothing);
      versions = table (min (at b header versions_at) most_versions) (version_in b);
      messages = table (min (at b header messages_at) most_messages) (message_in b);
    }

-- nothing is awaited, of a mixed transaction in neither part
abbrev pub awaits_none : List ℕ → ℕ → Bool
awaits_none b d =
    eqb (at b scalars (awaited_at d)) 0
    && (not (is_mixed_mode (at b scalars (mode_at d))) || eqb (at b scalars (write_awaited_at d)) 0)

-- a mixed transaction has both parts
unfoldable pub has_parts : List ℕ → ℕ → Bool
has_parts b d =
    not (is_mixed_mode (at b scalars (mode_at d)))
    || (not (eqb (at b scalars (set_at d)) 0) && not (eqb (at b scalars (write_set_at d)) 0))

-- the mode is one that there is, with its parts, and idle exactly when no item is awaited
abbrev pub mode_fits : List ℕ → ℕ → Bool
mode_fits b d =
    let mode = at b scalars (mode_at d) in
    ltb mode modes && beq (eqb mode idle) (awaits_none b d) && has_parts b d

-- modes, kinds and counts are the numbers of some
unfoldable pub well_formed : List ℕ → Bool
well_formed b =
    leb needed (length b) && sizes_in_range (sizes_in b) && leb (at b header versions_at) most_versions
    && leb (at b header messages_at) most_messages
    && every_client (sizes_in b) (λ d. mode_fits b d && is_kind (at b scalars (last_kind_at d)))
    && every (at b header messages_at) (λ i. leb 1 (kind_in b i) && leb (kind_in b i) kinds)

-- not refused by 1: the words are those of tables that are in range and within the capacities
unfoldable pub valid_block : List ℕ → Bool
valid_block b = well_formed b && valid capacities (tables_of b)
