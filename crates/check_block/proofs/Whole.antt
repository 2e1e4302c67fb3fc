-- The tests of a valid block's places, each an equation, are together the check of its tables.
use mathlib.Core.Bool.{Bool, true, ◌&&◌}
use mathlib.Core.List.{List}
use mathlib.Core.Path.{◌≡◌, refl, sym, ap}
use Prim.Native.Nat.{ℕ, suc, ◌≤◌, ◌<◌}
use Rattle.basics.specs.Lists.{every, all}
use Rattle.protocol.specs.Tables.{Tables, Client, of_read, of_write, awaited_of}
use Rattle.protocol.specs.Range.{each}
use Rattle.protocol.specs.Check.{is_stamped, one_each, sound}
use Rattle.layout.specs.Layout.{header, at, clients_at, items_at}
use Rattle.layout.specs.Decode.{client_in, tables_of, valid_block}
use Rattle.encoding.proofs.WellFormed.{client-range, tells-valid-block}
use Rattle.check_entries.proofs.Good.{client-is}
use Rattle.check_stamps.specs.Parts.{good_entries, good_holders, good_first, good_item}
use Rattle.check_stamps.specs.Parts.{good_client, good_message, parts}
use Rattle.check_stamps.proofs.Parts.{parts-sound}

-- ---- of any tables, with so many clients and items

pub client-passes : (t : Tables) (d items s : ℕ) → items ≡ t.sizes.items
    → s ≡ (t.client d).write.set
    → {firsts stamp stored reads writes : Bool} → firsts ≡ every items (good_first t d)
    → stamp ≡ is_stamped (t.client d) d
    → stored ≡ each t.sizes s (good_item t d)
    → reads ≡ one_each t of_read d → writes ≡ one_each t of_write d
    → (firsts && stamp && stored && reads && writes) ≡ good_client t d
unfolding good_client
client-passes t d items s i e f p q r w = rw (f, p, q, r, w, i, e) refl

pub all_sound : (t : Tables) (clients : ℕ) → clients ≡ t.sizes.clients
    → {entries holders ended sent : Bool} → entries ≡ good_entries t → holders ≡ good_holders t
    → ended ≡ every clients (λ i. good_client t (suc i))
    → sent ≡ all (good_message t) t.messages
    → (entries && holders && ended && sent) ≡ sound t
unfolding parts
all_sound t clients c g h e s = rw (g, h, e, s, c) (parts-sound t)

-- ---- of a block's

module _ (b : List ℕ) where
  pub clients-are : at b header clients_at ≡ (tables_of b).sizes.clients
  unfolding tables_of
  clients-are = refl

  pub items-are : at b header items_at ≡ (tables_of b).sizes.items
  unfolding tables_of
  items-are = refl

module _ (b : List ℕ) (d : ℕ) (low : 1 ≤ d) (high : d ≤ at b header clients_at) where
  pub count_fits : valid_block b ≡ true → (client_in b d).count < 4294967296
  count_fits v = (client-range b ((tells-valid-block b).0 v) d (low, high)).count

  pub set_is : (client_in b d).write.set ≡ ((tables_of b).client d).write.set
  set_is = ap (λ (c : Client). c.write.set) (sym (client-is b d low high))

  pub read-awaits : {awaited : ℕ} → awaited ≡ (client_in b d).read.awaited
      → awaited ≡ awaited_of of_read ((tables_of b).client d)
  read-awaits e = rw (client-is b d low high) e

  pub write-awaits : {awaited : ℕ} → awaited ≡ (client_in b d).write.awaited
      → awaited ≡ awaited_of of_write ((tables_of b).client d)
  write-awaits e = rw (client-is b d low high) e
