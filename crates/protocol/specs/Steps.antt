-- The steps (document 01, 'Steps'): what each call does to the tables once it is accepted.
use Rattle.std.specs.Prelude.{Bool, false, cond, ◌&&◌, ◌||◌, List, [], ◌∷◌, ◌++◌, map, ℕ, zero, suc, ◌*◌, ◌%◌, ◌^◌, max, eqb, get_or}
use Rattle.basics.specs.Lists.{without}
use Rattle.hexadecimal.specs.Number.{number_at}
use Rattle.itemset.specs.Set.{has, rank, remove, upto, members}
use Rattle.protocol.specs.declared.Version.{Version}
use Rattle.protocol.specs.declared.Entry.{Entry}
use Rattle.protocol.specs.declared.Message.{Message}
use Rattle.protocol.specs.declared.Message.TheVariants.{Prepare, Prepared, Commit, Get, Got}
use Rattle.protocol.specs.declared.Message.TheVariants.{FirstGet, FirstReply}
use Rattle.protocol.specs.Tables.{Tables, Client, ReadPart, WritePart, Ended, Side, of_read}
use Rattle.protocol.specs.Tables.{of_write, no_read, no_write, stamp_of, number_of, writer_of}
use Rattle.protocol.specs.Tables.{later_of, entry_of, rested, partition_of, put, with_client}
use Rattle.protocol.specs.Tables.{with_view, with_latest, with_versions, with_messages, with_count}
use Rattle.protocol.specs.Tables.{with_read, with_write, initial}
use Rattle.protocol.specs.FastRead.{first_replied, second_gets}
unfoldable pub use Rattle.protocol.specs.Choice.{choice}

-- ---- Start a read

-- the stamp that client d asks for
abbrev pub asks : Tables → ℕ → ℕ → ℕ
asks t d k = choice (t.view d) k t.sizes.items

abbrev pub reader : Tables → ℕ → ℕ → Client
reader t d s =
    with_write (with_read (t.client d) (record {
      set = s;
      awaited = s;
      asked = λ k. cond (has s k) (asks t d k) 0;
      values = λ k. 0;
      stage = 0;
      firsts = λ k. initial;
    })) no_write

-- one get for each item, ascending
abbrev pub gets : Tables → ℕ → ℕ → List Message
gets t d s = map (λ k. Get d k (asks t d k)) (members t.sizes.items s)

abbrev pub started_read : Tables → ℕ → ℕ → Tables
started_read t d s = with_messages (with_client t d (reader t d s)) (t.messages ++ gets t d s)

-- ---- Start a write

-- the greatest number among the first n entries of a view
unfoldable pub greatest_in : (ℕ → Entry) → ℕ → ℕ
greatest_in view zero = 0
greatest_in view (suc n) = max (greatest_in view n) (number_of (view n).stamp)

-- 'the greatest among the desk's own count and all numbers in its view' (document 02, P1)
abbrev pub greatest_of : Tables → ℕ → ℕ
greatest_of t d = max (t.client d).count (greatest_in (t.view d) t.sizes.items)

-- the stamp that client d's next write makes: 'a write's number is 1 more than the greatest'
abbrev pub next_stamp : Tables → ℕ → ℕ
next_stamp t d = stamp_of (suc (greatest_of t d)) d

-- the value of item k: four bytes for each item of the set, ascending, most significant first. (Of
-- bytes the remainder is the number itself.)
abbrev pub value_of : ℕ → List ℕ → ℕ → ℕ
value_of s bytes k = cond (has s k) (number_at 4 bytes (4 * rank s k) % 2 ^ 32) 0

-- 'and the count becomes that number'
abbrev pub writer : Tables → ℕ → ℕ → List ℕ → Client
writer t d s bytes =
    let c = t.client d in
    with_write (with_read (with_count c (suc (greatest_of t d))) no_read)
    (record { set = s; awaited = s; stamp = next_stamp t d; values = value_of s bytes })

abbrev pub version : ℕ → ℕ → ℕ → ℕ → Version
version k value stamp s = record { item = k; value = value; stamp = stamp; set = s }

-- one prepare for each item, ascending, holding the version
abbrev pub prepares : Tables → ℕ → ℕ → List ℕ → List Message
prepares t d s bytes = map (λ k. Prepare (version k (value_of s bytes k) (next_stamp t d) s))
    (members t.sizes.items s)

abbrev pub started_write : Tables → ℕ → ℕ → List ℕ → Tables
started_write t d s bytes = with_messages (with_client t d (writer t d s bytes))
    (t.messages ++ prepares t d s bytes)

-- ---- Start a mixed transaction (document 02, P8)

-- 'A mixed start takes a read set and a write set with values'. 'Its reads show the entries chosen
-- at the start, also for lines it writes': its parts are those of a read and of a write, started at
-- once.
abbrev pub mixer : Tables → ℕ → ℕ → ℕ → List ℕ → Client
mixer t d r s bytes = with_read (writer t d s bytes) (reader t d r).read

-- 'its gets join first, then its prepares'
abbrev pub mixed_messages : Tables → ℕ → ℕ → ℕ → List ℕ → List Message
mixed_messages t d r s bytes = gets t d r ++ prepares t d s bytes

abbrev pub started_mixed : Tables → ℕ → ℕ → ℕ → List ℕ → Tables
started_mixed t d r s bytes = with_messages (with_client t d (mixer t d r s bytes))
    (t.messages ++ mixed_messages t d r s bytes)

-- ---- Stored versions

-- of item k, with exactly this stamp
abbrev pub alike : ℕ → ℕ → Version → Bool
alike k stamp v = eqb v.item k && eqb v.stamp stamp

unfoldable pub stored : List Version → ℕ → ℕ → Bool
stored [] k stamp = false
stored (v ∷ vs) k stamp = alike k stamp v || stored vs k stamp

-- the first alike; where there is none, the initial version (value 0, empty set)
unfoldable pub found : List Version → ℕ → ℕ → Version
found [] k stamp = version k 0 stamp 0
found (v ∷ vs) k stamp = cond (alike k stamp v) v (found vs k stamp)

-- the version that the partition of item k answers with: the one of this stamp
abbrev pub answer_of : Tables → ℕ → ℕ → Version
answer_of t k stamp =
    let v = found t.versions k stamp in
    version k v.value stamp v.set

-- ---- The seven deliveries

-- item k is struck from those that the read part awaits, and its answer is kept
abbrev pub answered : Client → ℕ → ℕ → Client
answered c k value =
    with_read c (record {
      set = c.read.set;
      awaited = remove c.read.awaited k;
      asked = c.read.asked;
      values = put c.read.values k value;
      stage = c.read.stage;
      firsts = c.read.firsts;
    })

-- item k is struck from those that the write part awaits
abbrev pub struck : Client → ℕ → Client
struck c k =
    with_write c (record {
      set = c.write.set;
      awaited = remove c.write.awaited k;
      stamp = c.write.stamp;
      values = c.write.values;
    })

-- item k is the last that c awaits, of either part
abbrev pub is_last : Side → Client → ℕ → Bool
is_last of_read c k = eqb (remove c.read.awaited k) 0 && eqb c.write.awaited 0
is_last of_write c k = eqb c.read.awaited 0 && eqb (remove c.write.awaited k) 0

-- a part as it ended
abbrev pub ended_read : ReadPart → ReadPart
ended_read p =
    record {
      set = p.set;
      awaited = 0;
      asked = p.asked;
      values = p.values;
      stage = 0;
      firsts = λ k. initial;
    }

abbrev pub ended_write : WritePart → WritePart
ended_write p =
    record { set = p.set; awaited = 0; stamp = p.stamp; values = p.values }

-- the kind of a transaction with these parts: a mixed one has both, a write has a write part alone,
-- and a read or a fast read has a read part alone
abbrev pub kind_ended : ReadPart → WritePart → ℕ
kind_ended p w =
    cond (eqb w.set 0) (cond (eqb p.stage 0) 1 3) (cond (eqb p.set 0) 2 4)

-- the transaction of c, as an ended one
abbrev pub ended : Client → Ended
ended c =
    record {
      kind = kind_ended c.read c.write;
      read = ended_read c.read;
      write = ended_write c.write;
    }

-- Prepared: with the last reply the client is idle. A mixed transaction 'ends, with outcome 02,
-- when all replies of both kinds are in' (document 02, P8), so with a prepared reply or with a got.
abbrev pub prepared : Client → ℕ → Client
prepared c k = cond (is_last of_write c k) (rested c (ended c)) (struck c k)

-- Got: the version is kept as the answer for its item; with the last reply the client is idle
abbrev pub got : Client → ℕ → ℕ → Client
got c k value = cond (is_last of_read c k) (rested c (ended (answered c k value)))
    (answered c k value)

-- First reply: the version is kept; with the last one the client is idle, where no item is fetched
-- again
abbrev pub got_first : ℕ → Client → Version → Client
got_first n c v =
    let p = first_replied n c.read v in
    cond (eqb p.awaited 0) (rested c (ended (with_read c p))) (with_read c p)

-- and its item's view entry 'becomes the latest of three (at a tie its own before the reply's
-- latest, that before the version)' (document 02, P2)
abbrev pub offered : Entry → Version → Entry → Entry
offered present v latest = later_of (later_of present latest) (entry_of v)

-- At the end of a transaction with a write part its commits join, and each written item's view
-- entry becomes the later of itself and this write: 'written lines enter the view and commits go
-- then' (document 02, P8)
abbrev pub seen : (ℕ → Entry) → ℕ → ℕ → ℕ → Entry
seen view s stamp k = cond (has s k) (later_of (view k) (record { stamp = stamp; set = s })) (view k)

-- Commit: each item of that partition with a stored version of that stamp takes it as latest, if it
-- is later
abbrev pub committed : Tables → ℕ → ℕ → ℕ → Entry
committed t p stamp k =
    cond (eqb (partition_of t k) p && stored t.versions k stamp)
    (later_of (t.latest k) (record { stamp = stamp; set = (found t.versions k stamp).set }))
    (t.latest k)

-- some item of s lies in partition p, of the first n items
unfoldable pub touches : Tables → ℕ → ℕ → ℕ → Bool
touches t s p zero = false
touches t s p (suc n) = touches t s p n || (has s n && eqb (partition_of t n) p)

-- one commit for each partition touched, ascending
abbrev pub commits : Tables → ℕ → ℕ → List Message
commits t s stamp = map (λ p. Commit p stamp)
    (upto t.sizes.partitions (λ p. touches t s p t.sizes.items))

-- What the delivery of a message does, said once for each kind
pub record Delivery : Type 0 where
  -- the tables after it, beside the messages in flight
  pub tables : Tables
  -- the messages that join
  pub joins : List Message
  -- 0 none ended, 1 a read ended, 2 a transaction with a write part ended
  pub outcome : ℕ

abbrev pub delivering : Tables → List Message → ℕ → Delivery
delivering after joins outcome = record { tables = after; joins = joins; outcome = outcome }

abbrev pub delivery_of : Tables → Message → Delivery
delivery_of t (Prepare v) =
    delivering (with_versions t (t.versions ++ v ∷ [])) (Prepared v.item v.stamp ∷ []) 0
delivery_of t (Prepared k stamp) =
    let d = writer_of stamp in
    let c = t.client d in
    let last = is_last of_write c k in
    let view = cond last (seen (t.view d) c.write.set stamp) (t.view d) in
    delivering (with_view (with_client t d (prepared c k)) d view)
    (cond last (commits t c.write.set stamp) [])
    (cond last 2 0)
delivery_of t (Commit p stamp) = delivering (with_latest t (committed t p stamp)) [] 0
-- 'A got reply now also carries its version's write set' (document 02, P2)
delivery_of t (Get d k stamp) =
    delivering t (Got d (answer_of t k stamp) (t.latest k) ∷ []) 0
delivery_of t (Got d v latest) =
    let c = t.client d in
    let k = v.item in
    let last = is_last of_read c k in
    let grown = put (t.view d) k (offered (t.view d k) v latest) in
    let view = cond last (seen grown c.write.set c.write.stamp) grown in
    delivering (with_view (with_client t d (got c k v.value)) d view)
    (cond last (commits t c.write.set c.write.stamp) [])
    (cond last (cond (eqb c.write.set 0) 1 2) 0)
delivery_of t (FirstGet d k) =
    delivering t (FirstReply d (answer_of t k (t.latest k).stamp) (t.latest k) ∷ []) 0
delivery_of t (FirstReply d v latest) =
    let c = t.client d in
    let k = v.item in
    let n = t.sizes.items in
    let p = first_replied n c.read v in
    let view = put (t.view d) k (offered (t.view d k) v latest) in
    delivering (with_view (with_client t d (got_first n c v)) d view) (second_gets n d p)
    (cond (eqb p.awaited 0) 1 0)

unfoldable pub delivered : Tables → Message → Tables
delivered t m = (delivery_of t m).tables

unfoldable pub joined : Tables → Message → List Message
joined t m = (delivery_of t m).joins

-- the message at a place
abbrev pub message_at : Tables → ℕ → Message
message_at t i = get_or t.messages i (Commit 0 0)

-- the message is taken out, later ones move up by one, new ones join at the end
abbrev pub delivered_at : Tables → ℕ → Tables
delivered_at t i = with_messages (delivered t (message_at t i))
    (without i t.messages ++ joined t (message_at t i))
