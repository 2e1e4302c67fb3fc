-- A block that the check accepts (document 02, P9), as the world that a list of calls begins from:
-- 'an entry may also be of a write that the block then held, whole or under way, and what it held
-- stored counts as delivered'.
use Rattle.std.specs.Prelude.{Bool, true, cond, ◌&&◌, ◌||◌, List, ◌++◌, map, ◌≡◌, ℕ, suc, ◌^◌, eqb}
use Rattle.basics.specs.Lists.{In}
use Rattle.itemset.specs.Set.{upto}
use Rattle.protocol.specs.declared.Message.{Message}
use Rattle.protocol.specs.Tables.{Tables, writer_of}
use Rattle.protocol.specs.Message.{parts_of, owner_of}
use Rattle.protocol.specs.Range.{Capacities, is_writing}
use Rattle.protocol.specs.Check.{write_set, is_whole, stored_value}
use Rattle.protocol.specs.Calls.{Call}
use Rattle.condition3.specs.World.{World, Labelled, Write, Store, labelled, after}
use Rattle.condition3.specs.Condition3.{StoredBefore, Condition3}

-- ---- The writes that the tables hold

-- stamp s is of its client's write under way
abbrev pub under_way : Tables → ℕ → Bool
under_way t s =
    let c = t.client (writer_of s) in
    is_writing c && eqb c.write.stamp s

-- what a stamp's write put on item k: of a write under way its own values, else the stored ones,
-- and 0 of the initial stamp
unfoldable pub held_value : Tables → ℕ → ℕ → ℕ
held_value t s k =
    cond (eqb s 0) 0 (cond (under_way t s) ((t.client (writer_of s)).write.values k)
    (stored_value t k s))

-- The write of stamp s, started before all calls: its start's time is a number of its own, the
-- stamp.
abbrev pub held_write : Tables → ℕ → Write
held_write t s = record { start = s; stamp = s; set = write_set t s; values = held_value t s }

-- of every stored version and every write under way
unfoldable pub held_writes : Tables → List Write
held_writes t =
    map (λ v. held_write t v.stamp) t.versions
    ++ map (λ i. held_write t (t.client (suc i)).write.stamp)
    (upto t.sizes.clients (λ i. is_writing (t.client (suc i))))

-- ---- What they hold stored and in flight

-- what is stored counts as delivered, at time 0
unfoldable pub held_stores : Tables → List Store
held_stores t = map (λ v. record { start = v.stamp; item = v.item; time = 0 }) t.versions

-- a message is its own client's and goes back to its stamp's start; a got or first reply counts as
-- answered after what is held stored, at time 1
abbrev pub held_message : Message → Labelled
held_message m = labelled (owner_of m) (parts_of m).stamp 1 m

-- the calls begin at a time above every stamp
abbrev pub held : Tables → World
held t =
    record {
      time = 2 ^ 40;
      tables = t;
      in_flight = map held_message t.messages;
      writes = held_writes t;
      stores = held_stores t;
    }

-- ---- What is promised of a list of calls from such tables

pub record Promised (caps : Capacities) (t : Tables) (calls : List Call) : Type 0 where
  -- 'all promises from a fresh start hold of reads and writes begun from then on'
  pub condition3 : Condition3 caps (held t) calls
  -- Every entry shown is of a write that was stored in all its partitions (`written`); of those
  -- that the block held only the ones 'whole or under way' ever are.
  pub entries : (a : Write) → In a (held_writes t) → (n : ℕ)
      → StoredBefore (after caps (held t) calls).stores a n
      → (is_whole t a.stamp || under_way t a.stamp) ≡ true
