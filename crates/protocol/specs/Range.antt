-- What is in range, and the load (document 01, 'Tables'): the fields that a block's words are held
-- to.
use Rattle.std.specs.Prelude.{Bool, cond, not, ◌&&◌, ◌||◌, ℕ, zero, suc, ◌+◌, ◌-◌, ◌^◌, eqb, ltb, leb, length}
use Rattle.basics.specs.Lists.{every, all, counted}
use Rattle.itemset.specs.Set.{has, count, all_below}
use Rattle.protocol.specs.declared.Version.{Version}
use Rattle.protocol.specs.declared.Entry.{Entry}
use Rattle.protocol.specs.declared.Message.{Message}
use Rattle.protocol.specs.Tables.{Sizes, Tables, Client, ReadPart, WritePart, Ended, is_kind}
use Rattle.protocol.specs.Tables.{is_first_part, is_second_part, shows_read, shows_write, number_of}
use Rattle.protocol.specs.Tables.{writer_of}
use Rattle.protocol.specs.Message.{parts_of, is_prepare, names_client}

-- counts are at most 4,294,967,295 and values of 32 bits
abbrev pub fits : ℕ → Bool
fits n = ltb n (2 ^ 32)

-- the sizes are ones that 2 allows
unfoldable pub sizes_in_range : Sizes → Bool
sizes_in_range z =
    leb 1 z.clients && leb z.clients 8 && leb 1 z.partitions && leb z.partitions 8
    && leb 1 z.items && leb z.items 64

-- clients, items and partitions exist
abbrev pub is_client : Sizes → ℕ → Bool
is_client z d = leb 1 d && leb d z.clients

abbrev pub is_item : Sizes → ℕ → Bool
is_item z k = ltb k z.items

abbrev pub is_partition : Sizes → ℕ → Bool
is_partition z p = ltb p z.partitions

-- a stamp is initial or has both parts in range
unfoldable pub stamp_in_range : Sizes → ℕ → Bool
stamp_in_range z stamp =
    eqb stamp 0 || (leb 1 (number_of stamp) && fits (number_of stamp) && is_client z (writer_of stamp))

-- sets hold only existing items
unfoldable pub entry_in_range : Sizes → Entry → Bool
entry_in_range z e = stamp_in_range z e.stamp && all_below e.set z.items

abbrev pub not_initial : ℕ → Bool
not_initial stamp = not (eqb stamp 0)

-- stored versions and prepares have a later stamp than the initial one and a set with their item
unfoldable pub version_in_range : Sizes → Version → Bool
version_in_range z v =
    is_item z v.item && fits v.value && stamp_in_range z v.stamp && not_initial v.stamp
    && all_below v.set z.items && has v.set v.item

-- every part of a message is in range, the place as a client or as a partition; a prepare, prepared
-- reply or commit isn't of the initial stamp, and a prepare's set has its item
unfoldable pub message_in_range : Sizes → Message → Bool
message_in_range z m =
    let p = parts_of m in
    cond (names_client m) (is_client z p.place) (is_partition z p.place)
    && is_item z p.item && fits p.value && stamp_in_range z p.stamp
    && all_below p.set z.items && entry_in_range z p.latest
    && (names_client m || not_initial p.stamp)
    && (not (is_prepare m) || has p.set p.item)

-- every item of s has p
abbrev pub each : Sizes → ℕ → (ℕ → Bool) → Bool
each z s p = every z.items (λ k. not (has s k) || p k)

-- a client is idle exactly when it awaits no item, of either part
abbrev pub is_idle : Client → Bool
is_idle c = eqb c.read.awaited 0 && eqb c.write.awaited 0

abbrev pub is_writing : Client → Bool
is_writing c = not (eqb c.write.set 0)

-- the first reply for item k has come: a fast read keeps it until it ends, in its first part for
-- the items no longer awaited, in its second for all
unfoldable pub has_first : ReadPart → ℕ → Bool
has_first p k = has p.set k && (is_second_part p || (is_first_part p && not (has p.awaited k)))

-- awaited items lie in their part's set; a write part has one stamp for all its items
unfoldable pub read_part_in_range : Sizes → ReadPart → Bool
read_part_in_range z p =
    all_below p.set z.items && all_below p.awaited z.items
    && each z p.awaited (has p.set)
    && each z p.set (λ k. stamp_in_range z (p.asked k) && fits (p.values k))
    && leb p.stage 2
    && every z.items (λ k. not (has_first p k) || entry_in_range z (p.firsts k))

unfoldable pub write_part_in_range : Sizes → WritePart → Bool
write_part_in_range z p =
    all_below p.set z.items && all_below p.awaited z.items
    && each z p.awaited (has p.set)
    && stamp_in_range z p.stamp
    && each z p.set (λ k. fits (p.values k))

-- a last ended transaction is of a kind that there is, with the parts that it shows in range
unfoldable pub ended_in_range : Sizes → Ended → Bool
ended_in_range z e =
    let kind = e.kind in
    is_kind kind && (not (shows_read kind) || read_part_in_range z e.read)
    && (not (shows_write kind) || write_part_in_range z e.write)

-- a client with a write part awaits an item, of that or of a read part beside it; so does a fast
-- read, which has no write part beside it
unfoldable pub client_in_range : Sizes → Client → Bool
client_in_range z c =
    fits c.count && read_part_in_range z c.read && write_part_in_range z c.write
    && (eqb c.write.set 0 || not (is_idle c))
    && (eqb c.read.stage 0 || (eqb c.write.set 0 && not (eqb c.read.awaited 0)))
    && ended_in_range z c.last

-- p holds of every client
abbrev pub every_client : Sizes → (ℕ → Bool) → Bool
every_client z p = every z.clients (λ i. p (suc i))

unfoldable pub in_range : Tables → Bool
in_range t =
    let z = t.sizes in
    sizes_in_range z
    && every z.items (λ k. entry_in_range z (t.latest k))
    && every_client z (λ d. every z.items (λ k. entry_in_range z (t.view d k)))
    && every_client z (λ d. client_in_range z (t.client d))
    && all (version_in_range z) t.versions
    && all (message_in_range z) t.messages

-- ---- Load

-- 'First replies that have come count in the load until the first part is over' (document 02, P7)
abbrev pub arrived_first : ReadPart → ℕ
arrived_first p = cond (is_first_part p) (count p.set - count p.awaited) 0

-- the prepared replies that have come, the items of the write part no longer awaited, and the first
-- replies. Of a mixed transaction 'its prepared replies count until it ends' (document 02, P8);
-- gots that have come count never.
unfoldable pub arrived : Client → ℕ
arrived c = count c.write.set - count c.write.awaited + arrived_first c.read

-- f, added up over the clients
unfoldable pub total : ℕ → (ℕ → ℕ) → ℕ
total zero f = 0
total (suc n) f = total n f + f (suc n)

unfoldable pub load : Tables → ℕ
load t = length t.messages + total t.sizes.clients (λ d. arrived (t.client d))

-- stored versions + prepares in flight
unfoldable pub occupied : Tables → ℕ
occupied t = length t.versions + counted is_prepare t.messages

-- the most versions and the greatest load that a block takes, and how many items the widest write
-- has
pub record Capacities : Type 0 where
  pub versions : ℕ
  pub load : ℕ
  pub widest : ℕ

-- those of this store
abbrev pub capacities : Capacities
capacities = record { versions = 512; load = 128; widest = 12 }

-- not refused by 1, a block's length apart
unfoldable pub valid : Capacities → Tables → Bool
valid caps t = in_range t && leb (load t) caps.load && leb (occupied t) caps.versions
