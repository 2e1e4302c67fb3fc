-- Fast reads, mixed transactions and checks of items from 32 on, over three partitions (document
-- 02, P7 to P9). Where it is computed, a count takes as many turns as its set's number says. So
-- these are the steps of accepted calls and the rules of a check alone, without the refusals, which
-- count.
use mathlib.Core.Bool.{Bool, not, ◌&&◌}
use mathlib.Core.List.{List, [], ◌∷◌, ◌++◌}
use Prim.Native.Nat.{ℕ, ◌+◌, ◌^◌}
use Prim.Native.String.{String, ◌++◌ as append}
use lib.Count.{ones_in}
use lib.ListN.{take, drop}
use lib.Text.{eqt}
use Rattle.basics.specs.Lists.{every, all, counted, without, dropped}
use Rattle.hexadecimal.specs.Number.{big_endian, number_at}
use Rattle.itemset.specs.Set.{has, upto, insert, remove, set_of}
use Rattle.protocol.specs.declared.Entry.{Entry}
use Rattle.protocol.specs.declared.Version.{Version}
use Rattle.protocol.specs.declared.Message.{Message}
use Rattle.protocol.specs.declared.Message.TheVariants.{Prepare, Commit, Get, Got}
use Rattle.protocol.specs.Tables.{Tables, Client, initial, is_kind, fresh, put, stamp_of}
use Rattle.protocol.specs.Tables.{with_client, with_view, with_versions, with_messages, with_count}
use Rattle.protocol.specs.Tables.{resting, nothing}
use Rattle.protocol.specs.Range.{in_range, stamp_in_range, sizes_in_range, entry_in_range}
use Rattle.protocol.specs.Range.{version_in_range, message_in_range, ended_in_range, client_in_range}
use Rattle.protocol.specs.Range.{has_first, read_part_in_range, write_part_in_range}
use Rattle.protocol.specs.Steps.{greatest_in, choice, stored, found, delivered, joined}
use Rattle.protocol.specs.Steps.{touches}
use Rattle.protocol.specs.Clear.{mentions, unused}
use Rattle.protocol.specs.LogFrame.{listed, read_bytes, write_bytes, frame}
use Rattle.protocol.specs.Calls.{Call, start_fast_read, start_write, start_mixed, deliver, clear}
use Rattle.protocol.specs.Calls.{effect}
use Rattle.protocol.proofs.Examples.Table.{value, digits, messages_are, versions_are, entry_is}
use Rattle.protocol.proofs.Examples.Table.{same}
use Rattle.protocol.proofs.Examples.Begin.{sizes, entry, version, first_part, second_part}
use Rattle.protocol.proofs.Examples.Begin.{reader, writer, write_of, fast_part, fast_reader}
use Rattle.protocol.proofs.Examples.Checked.{failing}

-- the tables after these calls, each accepted
unfoldable pub done : Tables → List Call → Tables
unfolding effect delivered joined greatest_in choice stored found touches mentions unused has_first
    every all counted without dropped has upto insert remove set_of ones_in big_endian number_at
done t [] = t
done t (c ∷ cs) = done (effect t c) cs

-- the digits of what client d's last transaction shows
unfoldable pub shows : Tables → ℕ → String
unfolding listed read_bytes write_bytes frame has upto ones_in big_endian digits
shows t d = digits (frame d (t.client d).last)

unfoldable pub ranged : Tables → Bool
unfolding in_range sizes_in_range stamp_in_range entry_in_range version_in_range message_in_range is_kind
    ended_in_range client_in_range has_first read_part_in_range write_part_in_range every all has
ranged t = in_range t

-- ---- Items 1, 32 and 63, of partitions 1, 2 and 0

abbrev three : ℕ
three = 2 ^ 1 + 2 ^ 32 + 2 ^ 63

-- Client 1 has written them, and its commit of item 32 has come, the other two are in flight; the
-- first replies of client 2's fast read come in descending order.
abbrev first_over : Tables
first_over =
    done (fresh (sizes 2 3 64))
    (start_write 1 three (value 5 ++ value 6 ++ value 7) ∷ deliver 0 ∷ deliver 0 ∷ deliver 0
    ∷ deliver 0 ∷ deliver 0 ∷ deliver 0 ∷ deliver 2 ∷ start_fast_read 2 three
    ∷ deliver 2 ∷ deliver 2 ∷ deliver 2 ∷ deliver 4 ∷ deliver 3 ∷ deliver 2 ∷ [])

-- Item 32's first reply has entered the view, and has items 1 and 63 fetched again.
abbrev far_sibling : Bool
far_sibling =
    messages_are first_over.messages
    ((3 ∷ 0 ∷ 1 ∷ 1 ∷ []) ∷ (3 ∷ 1 ∷ 1 ∷ 1 ∷ []) ∷ (4 ∷ 2 ∷ 1 ∷ 1 ∷ 1 ∷ [])
    ∷ (4 ∷ 2 ∷ 63 ∷ 1 ∷ 1 ∷ []) ∷ [])
    && entry_is (first_over.view 2 32) 1 1 three

-- The read ends with their gots, and shows the write whole.
abbrev ended : Tables
ended = done first_over (deliver 3 ∷ deliver 2 ∷ deliver 2 ∷ deliver 2 ∷ [])

abbrev far_shown : Bool
far_shown = eqt (shows ended 2)
    "23028000000100000002000000010100000005000000010100000006000000010100000007"

-- Then the commit of item 63 comes too, and of items 1 and 63 its first reply has item 1 fetched
-- again.
abbrev far_last : Bool
far_last =
    let first = done ended (deliver 0 ∷ start_fast_read 2 (2 ^ 1 + 2 ^ 63) ∷ deliver 1 ∷ deliver 1
    ∷ deliver 1 ∷ deliver 1 ∷ []) in
    messages_are first.messages ((3 ∷ 1 ∷ 1 ∷ 1 ∷ []) ∷ (4 ∷ 2 ∷ 1 ∷ 1 ∷ 1 ∷ []) ∷ [])
    && eqt (shows (done first (deliver 1 ∷ deliver 1 ∷ [])) 2)
    "23028000000000000002000000010100000005000000010100000007"

-- ---- What is kept

-- item 32's first reply is of number 1, item 63's of number 2
abbrev keeping : Client → Tables
keeping c =
    with_versions (with_client (fresh (sizes 2 3 64)) 2 c)
    (version 32 6 1 1 (2 ^ 32) ∷ version 63 7 2 1 (2 ^ 63) ∷ version 63 8 4 1 (2 ^ 63) ∷ [])

abbrev come : ℕ → Entry
come = put (put (λ k. initial) 32 (entry 1 1 (2 ^ 32))) 63 (entry 2 1 (2 ^ 63))

-- Both are spared, in either part, item 63's also where it is fetched again.
abbrev far_spared : Bool
far_spared =
    all (λ c. versions_are (done (keeping c) (clear ∷ [])).versions
    ((32 ∷ 6 ∷ 1 ∷ 1 ∷ 2 ^ 32 ∷ []) ∷ (63 ∷ 7 ∷ 2 ∷ 1 ∷ 2 ^ 63 ∷ []) ∷ []))
    (first_part three (2 ^ 1) come 7 ∷ second_part three (2 ^ 63) (λ k. stamp_of 4 1) come 7 ∷ [])

-- And both have to be in range, in the first part once they have come.
abbrev far_range : Bool
far_range =
    let wrong : ℕ → ℕ → Entry = λ k. put (λ j. initial) k (entry 1 3 0) in
    ranged (keeping (first_part three three (wrong 63) 7))
    && all (λ k. not (ranged (keeping (first_part three (2 ^ 1) (wrong k) 7)))
    && not (ranged (keeping (second_part three (2 ^ 63) (λ j. 0) (wrong k) 7))))
    (32 ∷ 63 ∷ [])

-- ---- A mixed transaction: items 34 and 63 are read, 32 and 63 written, of partitions 1, 2 and 0

abbrev old : ℕ
old = 2 ^ 34 + 2 ^ 63

abbrev new : ℕ
new = 2 ^ 32 + 2 ^ 63

-- Client 2 has seen client 1's write of items 34 and 63 at item 63 alone.
abbrev mixed_over : Tables
mixed_over =
    done (with_versions (with_view (fresh (sizes 2 3 64)) 2 (put (λ k. initial) 63 (entry 1 1 old)))
    (version 34 5 1 1 old ∷ version 32 9 1 2 (2 ^ 32) ∷ version 63 6 1 1 old ∷ []))
    (start_mixed 2 old new (value 7 ++ value 8) ∷ [])

-- Both gets are for that write.
abbrev far_mixed : Bool
far_mixed =
    messages_are mixed_over.messages
    ((4 ∷ 2 ∷ 34 ∷ 1 ∷ 1 ∷ []) ∷ (4 ∷ 2 ∷ 63 ∷ 1 ∷ 1 ∷ []) ∷ (1 ∷ 32 ∷ 7 ∷ 2 ∷ 2 ∷ new ∷ [])
    ∷ (1 ∷ 63 ∷ 8 ∷ 2 ∷ 2 ∷ new ∷ []) ∷ [])
    && ranged mixed_over

-- It ends with item 63's got, or with its prepared reply. The written items have entered the view,
-- the commits go to partitions 0 and 2, and item 63 is shown as it was read and as it was written.
abbrev ends_far : Tables → Bool
ends_far t =
    messages_are t.messages ((3 ∷ 0 ∷ 2 ∷ 2 ∷ []) ∷ (3 ∷ 2 ∷ 2 ∷ 2 ∷ []) ∷ [])
    && entry_is (t.view 2 34) 1 1 old && entry_is (t.view 2 32) 2 2 new
    && entry_is (t.view 2 63) 2 2 new
    && eqt (shows t 2) (append "24028000000400000000000000010100000005000000010100000006"
    "8000000100000000000000020000000700000008")

-- The got of item 63 alone is awaited, and a clearing spares the versions of this write.
abbrev far_mixed_got : Bool
far_mixed_got =
    let t = done mixed_over (deliver 2 ∷ deliver 2 ∷ deliver 2 ∷ deliver 2 ∷ deliver 0 ∷ deliver 1
    ∷ clear ∷ []) in
    versions_are t.versions
    ((34 ∷ 5 ∷ 1 ∷ 1 ∷ old ∷ []) ∷ (63 ∷ 6 ∷ 1 ∷ 1 ∷ old ∷ []) ∷ (32 ∷ 7 ∷ 2 ∷ 2 ∷ new ∷ [])
    ∷ (63 ∷ 8 ∷ 2 ∷ 2 ∷ new ∷ []) ∷ [])
    && ranged t && ends_far (done t (deliver 0 ∷ deliver 0 ∷ []))

abbrev far_mixed_prepared : Bool
far_mixed_prepared =
    ends_far (done mixed_over (deliver 0 ∷ deliver 0 ∷ deliver 0 ∷ deliver 0 ∷ deliver 0 ∷ deliver 0
    ∷ deliver 0 ∷ deliver 0 ∷ []))

-- ---- A block to be checked: eight clients, items 1, 33, 34 and 63

-- Client 8's write of items 1, 33 and 63 has ended. Client 6 writes items 34 and 63: item 34 is
-- stored, item 63's prepare is in flight.
abbrev whole : ℕ
whole = 2 ^ 1 + 2 ^ 33 + 2 ^ 63

abbrev partly : ℕ
partly = 2 ^ 34 + 2 ^ 63

abbrev stock : List Version
stock = version 1 5 1 8 whole ∷ version 33 6 1 8 whole ∷ version 63 7 1 8 whole
    ∷ version 34 3 2 6 partly ∷ []

abbrev writing : Client
writing = with_count (writer partly (2 ^ 63) (stamp_of 2 6) 3) 2

abbrev rested : ℕ → Client
rested s = resting 1 (write_of s (stamp_of 1 8) (λ k. 7))

-- Client 7 reads item 63, and its got is in flight. Client 2 is in the second part of a fast read
-- of client 8's items, with these values: item 1 is fetched again, the other two are not.
abbrev fetching : (ℕ → ℕ) → Client
fetching values =
    fast_reader (fast_part 2 whole (2 ^ 1) (λ k. stamp_of 1 8)
    (put (λ k. entry 1 8 whole) 1 initial) values)

abbrev fetched : ℕ → ℕ
fetched = put (put (λ k. 0) 33 6) 63 7

abbrev flying : List Message
flying =
    Commit 1 (stamp_of 1 8)
    ∷ Get 2 1 (stamp_of 1 8)
    ∷ Prepare (version 63 3 2 6 partly)
    ∷ Got 7 (version 63 7 1 8 whole) initial
    ∷ []

abbrev busy_far : Tables
busy_far =
    record {
      sizes = sizes 8 3 64;
      latest = put (λ k. initial) 63 (entry 1 8 whole);
      view = put (λ d k. initial) 8 (put (λ k. initial) 63 (entry 1 8 whole));
      client =
          put (put (put (put (λ d. resting 0 nothing) 2 (fetching fetched)) 6 writing) 7
          (reader (2 ^ 63) (2 ^ 63) (stamp_of 1 8) 0)) 8 (rested whole);
      versions = stock;
      messages = flying;
    }

-- the tables break these rules of the check, and no other
abbrev breaking : List ℕ → List Tables → Bool
breaking rules ts = all (λ t. same (failing t) rules) ts

-- The block breaks none. Its commit goes to partition 1.
abbrev far_sound : Bool
far_sound = breaking [] (busy_far ∷ [])

-- A commit of client 6's write, of which item 63 isn't stored, goes to partition 1.
-- Wrong: the commits to partition 0 alone are looked at; a write is whole without item 63.
abbrev far_commit : Bool
far_commit =
    breaking (1 ∷ []) (with_messages busy_far (Commit 1 (stamp_of 2 6) ∷ drop 1 flying) ∷ [])

-- Another set: of client 8's last ended write; in client 8's view of item 63.
-- Wrong: the writes of clients 1 to 7 alone are looked at; so are their views; so are views of
-- items below 63.
abbrev far_sets : Bool
far_sets =
    breaking (3 ∷ [])
    (with_client busy_far 8 (rested partly)
    ∷ with_view busy_far 8 (put (λ k. initial) 63 (entry 1 8 partly)) ∷ [])

-- Two versions of item 63 with one stamp.
-- Wrong: versions of items below 63 alone are compared.
abbrev far_alike : Bool
far_alike = breaking (4 ∷ []) (with_versions busy_far (stock ++ (version 63 7 1 8 whole ∷ [])) ∷ [])

-- Another value than the version's: of item 33 or 63 in the second part, not awaited and not
-- fetched again; of item 63's got.
-- Wrong: from item 3 on the values that a fast read keeps are free; from item 32 on a got's are.
abbrev far_values : Bool
far_values =
    breaking (5 ∷ [])
    (with_client busy_far 2 (fetching (put fetched 33 9))
    ∷ with_client busy_far 2 (fetching (put fetched 63 9))
    ∷ with_messages busy_far (take 3 flying ++ (Got 7 (version 63 9 1 8 whole) initial ∷ [])) ∷ [])

-- No message for item 63, which client 7 awaits in its read, and client 6 in its write.
-- Wrong: items below 63 alone need their message.
abbrev far_messages : Bool
far_messages =
    breaking (9 ∷ [])
    (with_messages busy_far (take 3 flying) ∷ with_messages busy_far (take 2 flying ++ drop 3 flying)
    ∷ [])

abbrev pub far : List Bool
far =
    far_sibling ∷ far_shown ∷ far_last ∷ far_spared ∷ far_range ∷ far_mixed ∷ far_mixed_got
    ∷ far_mixed_prepared ∷ far_sound ∷ far_commit ∷ far_sets ∷ far_alike ∷ far_values ∷ far_messages ∷ []
