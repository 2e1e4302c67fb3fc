-- A check by the places that it looks at, in place of the rules: entries of views and latest, the
-- holders of sets, clients, messages. Together they are the check (`parts-sound`, proofs/Parts).
use Rattle.std.specs.Prelude.{Bool, not, ◌&&◌, ◌||◌, ℕ}
use Rattle.basics.specs.Lists.{every, all}
use Rattle.protocol.specs.declared.Entry.{Entry}
use Rattle.protocol.specs.declared.Message.{Message}
use Rattle.protocol.specs.Tables.{Tables, of_read, of_write}
use Rattle.protocol.specs.Message.{parts_of, is_prepare, is_prepared, is_commit, is_get, is_any_got}
use Rattle.protocol.specs.Message.{item_of, owner_of}
use Rattle.protocol.specs.Range.{each, has_first, every_client}
use Rattle.protocol.specs.Steps.{stored}
use Rattle.protocol.specs.Check.{entry_in, sets_held, whole_or_initial, writes, agrees, distinct}
use Rattle.protocol.specs.Check.{reply_held, first_held, is_stamped, item_held, is_counted, fits_client}
use Rattle.protocol.specs.Check.{one_each}

-- rules 1, 2 and 6 of a stamp of item k, the rule for gets: it is whole or initial, has the item in
-- its set, and its number isn't above its client's count
unfoldable pub good_ask : Tables → ℕ → ℕ → Bool
good_ask t k s = writes t k s && whole_or_initial t s && is_counted t s

-- with rule 3 that of item k's entry: its set is that of its stamp
unfoldable pub good_entry : Tables → ℕ → Entry → Bool
good_entry t k e = agrees t e && good_ask t k e.stamp

-- latest and views
unfoldable pub good_entries : Tables → Bool
good_entries t =
    every t.sizes.items (λ k. good_entry t k (t.latest k)
    && every_client t.sizes (λ d. good_entry t k (t.view d k)))

-- holders of a stamp's set, and stored versions
unfoldable pub good_holders : Tables → Bool
good_holders t =
    all (λ e. agrees t e && is_counted t e.stamp) (sets_held t) && distinct t.versions

-- a first reply that client d keeps of item k
unfoldable pub good_first : Tables → ℕ → ℕ → Bool
good_first t d k =
    let p = (t.client d).read in
    not (has_first p k) || (good_entry t k (p.firsts k) && first_held t p k)

-- item k of client d's write under way
unfoldable pub good_item : Tables → ℕ → ℕ → Bool
good_item t d k = item_held t (t.client d).write k

unfoldable pub good_client : Tables → ℕ → Bool
good_client t d =
    let c = t.client d in
    every t.sizes.items (good_first t d) && is_stamped c d
    && each t.sizes c.write.set (good_item t d) && one_each t of_read d && one_each t of_write d

unfoldable pub good_message : Tables → Message → Bool
good_message t m =
    (not (is_any_got m) || (good_entry t (item_of m) (entry_in m)
    && good_entry t (item_of m) (parts_of m).latest
    && reply_held t m))
    && (not (is_commit m) || whole_or_initial t (parts_of m).stamp)
    && (not (is_get m) || good_ask t (item_of m) (parts_of m).stamp)
    && (not (is_prepare m) || agrees t (entry_in m))
    && (not (is_prepared m) || stored t.versions (item_of m) (parts_of m).stamp)
    && is_counted t (parts_of m).stamp
    && fits_client t (t.client (owner_of m)) m

unfoldable pub parts : Tables → Bool
parts t =
    good_entries t && good_holders t && every_client t.sizes (good_client t)
    && all (good_message t) t.messages
