-- Checking a block (document 02, P9): it 'tests a block that our own calls may not have made'. The
-- ticket's rules in its order, each a test of the tables; `sound` is all of them.
use Rattle.std.specs.Prelude.{Bool, true, cond, not, ◌&&◌, ◌||◌, List, [], ◌∷◌, ◌++◌, map, ℕ, zero, suc, eqb, leb}
use Rattle.basics.specs.Lists.{every, all, counted}
use Rattle.itemset.specs.Set.{has}
use Rattle.protocol.specs.declared.Version.{Version}
use Rattle.protocol.specs.declared.Entry.{Entry}
use Rattle.protocol.specs.declared.Message.{Message}
use Rattle.protocol.specs.declared.Message.TheVariants.{Prepare, Prepared, Commit, Get, Got}
use Rattle.protocol.specs.declared.Message.TheVariants.{FirstGet, FirstReply}
use Rattle.protocol.specs.Tables.{Tables, Client, ReadPart, WritePart, is_first_part}
use Rattle.protocol.specs.Tables.{is_second_part, shows_write, stamp_of, number_of, writer_of}
use Rattle.protocol.specs.Tables.{entry_of, Side, of_read, of_write, awaited_of}
use Rattle.protocol.specs.Message.{parts_of, is_prepare, is_prepared, is_commit, is_get, is_any_got}
use Rattle.protocol.specs.Message.{item_of, owner_of, is_for}
use Rattle.protocol.specs.Range.{each, is_writing, has_first, every_client}
use Rattle.protocol.specs.Steps.{stored, found}

-- ---- The places that hold an entry, of an item each

-- the entry that a message brings: the stamp and the write set of its version
abbrev pub entry_in : Message → Entry
entry_in m = record { stamp = (parts_of m).stamp; set = (parts_of m).set }

-- p holds of the item and the entry of every view, of every latest, of every first reply 'kept by a
-- read under way', and of each got and first reply in the pile: its version's and its latest
unfoldable pub every_entry : Tables → (ℕ → Entry → Bool) → Bool
every_entry t p =
    let z = t.sizes in
    every_client z (λ d. every z.items (λ k. p k (t.view d k)))
    && every z.items (λ k. p k (t.latest k))
    && every_client z (λ d. every z.items (λ k. not (has_first (t.client d).read k)
    || p k ((t.client d).read.firsts k)))
    && all (λ m. not (is_any_got m) || (p (item_of m) (entry_in m) && p (item_of m) (parts_of m).latest))
    t.messages

-- ---- A stamp's write set

abbrev pub written_by : WritePart → Entry
written_by p = record { stamp = p.stamp; set = p.set }

-- of a client's write under way and of its last ended write
unfoldable pub client_sets : Client → List Entry
client_sets c =
    cond (is_writing c) (written_by c.write ∷ []) []
    ++ cond (shows_write c.last.kind) (written_by c.last.write ∷ []) []

unfoldable pub clients_sets : ℕ → (ℕ → Client) → List Entry
clients_sets zero client = []
clients_sets (suc n) client = clients_sets n client ++ client_sets (client (suc n))

-- who holds a stamp's set of its own: the stored versions, the writes under way, the last ended
-- writes; by rule 1 every entry's stamp occurs here or is initial (`entries-held`,
-- proofs/Checks.antt), by rule 9 every prepare's
unfoldable pub sets_held : Tables → List Entry
sets_held t = map entry_of t.versions ++ clients_sets t.sizes.clients t.client

unfoldable pub first_set : List Entry → ℕ → ℕ
first_set [] s = 0
first_set (e ∷ es) s = cond (eqb e.stamp s) e.set (first_set es s)

-- the write set of stamp s, by the first that holds it; 'the initial one's being empty'
unfoldable pub write_set : Tables → ℕ → ℕ
write_set t s = cond (eqb s 0) 0 (first_set (sets_held t) s)

-- ---- 1: whole or initial

-- 'Call a stamp whole if at least one version of it is stored, and all of its write set'
unfoldable pub is_whole : Tables → ℕ → Bool
is_whole t s =
    not (all (λ v. not (eqb v.stamp s)) t.versions)
    && each t.sizes (write_set t s) (λ k. stored t.versions k s)

abbrev pub whole_or_initial : Tables → ℕ → Bool
whole_or_initial t s = eqb s 0 || is_whole t s

-- 'Whole or initial is every stamp in a view, a latest, a commit, a get or a got in the pile, or a
-- first reply in the pile or kept by a read under way (answers kept from gots, or by a read that
-- has ended, are free)'
unfoldable pub all_whole : Tables → Bool
all_whole t =
    every_entry t (λ k e. whole_or_initial t e.stamp)
    && all (λ m. not (is_commit m || is_get m) || whole_or_initial t (parts_of m).stamp) t.messages

-- ---- 2: the line is in the set

abbrev pub writes : Tables → ℕ → ℕ → Bool
writes t k s = eqb s 0 || has (write_set t s) k

-- 'each not initial, a commit's apart, has its line in that set'
unfoldable pub lines_written : Tables → Bool
lines_written t =
    every_entry t (λ k e. writes t k e.stamp)
    && all (λ m. not (is_get m) || writes t (item_of m) (parts_of m).stamp) t.messages

-- ---- 3: sets agree

abbrev pub agrees : Tables → Entry → Bool
agrees t e = eqb e.set (write_set t e.stamp)

-- 'All copies of one stamp's set agree, the initial one's being empty': those of stored versions,
-- views, latest, prepares, gots and first replies, of first replies kept, of writes under way and
-- of last ended writes
unfoldable pub sets_agree : Tables → Bool
sets_agree t =
    every_entry t (λ k e. agrees t e)
    && all (agrees t) (sets_held t)
    && all (λ m. not (is_prepare m) || agrees t (entry_in m)) t.messages

-- ---- 4: none alike

-- 'No two stored versions are alike in line and stamp'
unfoldable pub distinct : List Version → Bool
distinct [] = true
distinct (v ∷ vs) = not (stored vs v.item v.stamp) && distinct vs

-- ---- 5: values

-- the value of item k's version with stamp s; 'the initial one's is 0'
abbrev pub stored_value : Tables → ℕ → ℕ → ℕ
stored_value t k s = (found t.versions k s).value

-- The second answer for item k has come, in place of its first reply's value: a fast read's second
-- part asked for another stamp than its first reply had, and no longer awaits it.
unfoldable pub answered_again : ReadPart → ℕ → Bool
answered_again p k =
    is_second_part p && not (has p.awaited k) && not (eqb (p.asked k) (p.firsts k).stamp)

-- a got or first reply in the pile holds its version's value
abbrev pub reply_held : Tables → Message → Bool
reply_held t m = eqb (parts_of m).value (stored_value t (item_of m) (parts_of m).stamp)

-- a first reply of item k that is kept does, until its item's second answer has come
abbrev pub first_held : Tables → ReadPart → ℕ → Bool
first_held t p k = answered_again p k || eqb (p.values k) (stored_value t k (p.firsts k).stamp)

-- 'Each such got or first reply holds its version's value'
unfoldable pub values_held : Tables → Bool
values_held t =
    all (λ m. not (is_any_got m) || reply_held t m) t.messages
    && every_client t.sizes (λ d.
    let p = (t.client d).read in
    every t.sizes.items (λ k. not (has_first p k) || first_held t p k))

-- ---- 6: numbers

abbrev pub is_counted : Tables → ℕ → Bool
is_counted t s = leb (number_of s) (t.client (writer_of s)).count

-- 'No stamp's number is above its desk's count'; answers of reads are free
unfoldable pub all_counted : Tables → Bool
all_counted t =
    every_entry t (λ k e. is_counted t e.stamp)
    && all (λ e. is_counted t e.stamp) (sets_held t)
    && all (λ m. is_counted t (parts_of m).stamp) t.messages

-- ---- 7 and 8: writes under way

-- 'A write under way is stamped with its own desk and count', of client d
abbrev pub is_stamped : Client → ℕ → Bool
is_stamped c d = not (is_writing c) || eqb c.write.stamp (stamp_of c.count d)

unfoldable pub writes_stamped : Tables → Bool
writes_stamped t = every_client t.sizes (λ d. is_stamped (t.client d) d)

-- item k of a write is stored or still awaited, and holds the write's value if it is stored
abbrev pub item_held : Tables → WritePart → ℕ → Bool
item_held t p k =
    (has p.awaited k || stored t.versions k p.stamp)
    && (not (stored t.versions k p.stamp) || eqb (stored_value t k p.stamp) (p.values k))

-- 'its lines no longer awaited, or with a prepared reply in the pile, are stored, and stored ones
-- hold its values'
unfoldable pub writes_stored : Tables → Bool
writes_stored t =
    every_client t.sizes (λ d.
    let p = (t.client d).write in
    each t.sizes p.set (item_held t p))
    && all (λ m. not (is_prepared m) || stored t.versions (item_of m) (parts_of m).stamp)
    t.messages

-- ---- 9: messages

-- the message 'fits the desk's transaction in kind, stamp, set and value, a prepare being not yet
-- stored'
unfoldable pub fits_client : Tables → Client → Message → Bool
fits_client t c (Prepare v) =
    eqb v.stamp c.write.stamp && eqb v.set c.write.set
    && eqb v.value (c.write.values v.item)
    && not (stored t.versions v.item v.stamp)
fits_client t c (Prepared k stamp) = eqb stamp c.write.stamp
fits_client t c (Commit p stamp) = true
fits_client t c (Get d k stamp) = not (is_first_part c.read) && eqb stamp (c.read.asked k)
fits_client t c (Got d v latest) =
    not (is_first_part c.read) && eqb v.stamp (c.read.asked v.item)
fits_client t c (FirstGet d k) = is_first_part c.read
fits_client t c (FirstReply d v latest) = is_first_part c.read

-- one message for each item that side σ of client d awaits, and none for any other
abbrev pub one_each : Tables → Side → ℕ → Bool
one_each t σ d =
    every t.sizes.items (λ k. eqb (counted (is_for σ d k) t.messages)
    (cond (has (awaited_of σ (t.client d)) k) 1 0))

-- 'Each line awaited, of either kind, has exactly one message, which fits .. ; every other message
-- is a commit'
unfoldable pub messages_fit : Tables → Bool
messages_fit t =
    every_client t.sizes (λ d. one_each t of_read d && one_each t of_write d)
    && all (λ m. fits_client t (t.client (owner_of m)) m) t.messages

-- ---- The test

unfoldable pub sound : Tables → Bool
sound t =
    all_whole t && lines_written t && sets_agree t && distinct t.versions && values_held t
    && all_counted t && writes_stamped t && writes_stored t && messages_fit t
