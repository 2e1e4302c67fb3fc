-- Rows on what a got offers to the view (document 02, P2): its item's entry becomes the latest of
-- its own, the reply's latest and the version.
use mathlib.Core.Bool.{◌&&◌}
use mathlib.Core.List.{List, [], ◌∷◌}
use Prim.Native.Nat.{ℕ}
use Rattle.protocol.specs.declared.Version.{Version}
use Rattle.protocol.specs.declared.Entry.{Entry}
use Rattle.protocol.specs.declared.Message.TheVariants.{Got}
use Rattle.protocol.specs.Tables.{Tables, initial, with_client, with_messages}
use Rattle.protocol.specs.Calls.{start_read, start_write, deliver, show}
use Rattle.protocol.proofs.Examples.Table.{Row, freshly, on, ◌⇒◌, value, room}
use Rattle.protocol.proofs.Examples.Table.{messages_are, entry_is}
use Rattle.protocol.proofs.Examples.Begin.{sizes, entry, version, reader, seeing}

-- ---- An entry once shown doesn't go back

-- Desk 1 writes lines 0 and 1, and its commit at line 1's cabinet stays in flight. Desk 2, which
-- has read line 0, reads line 1 and is shown that write, because line 0's entry, whose set has line
-- 1, asks for it. Then desk 1 writes line 0 alone, desk 2 reads line 0, and that entry is replaced
-- by the later write, which doesn't touch line 1: line 1 is shown as before.
abbrev cart : Row
cart =
    record {
      start = freshly (sizes 2 2 2) "00";
      lines =
          start_write 1 3 (0 ∷ 0 ∷ 0 ∷ 7 ∷ value 8) ⇒ "000002"
          ∷ deliver 0 ⇒ "0001000200"
          ∷ deliver 0 ⇒ "0001000200"
          ∷ deliver 0 ⇒ "0002000100"
          ∷ deliver 0 ⇒ "0002000202"
          ∷ deliver 0 ⇒ "0003000100"
          ∷ start_read 2 1 ⇒ "000002"
          ∷ deliver 1 ⇒ "0004000200"
          ∷ deliver 1 ⇒ "0005000101"
          ∷ start_read 2 2 ⇒ "000002"
          ∷ deliver 1 ⇒ "0004000200"
          ∷ deliver 1 ⇒ "0005000101"
          ∷ show 2 (room 19) ⇒ "0021020000000000000002000000010100000008"
          ∷ start_write 1 1 (value 9) ⇒ "000002"
          ∷ deliver 1 ⇒ "0001000200"
          ∷ deliver 1 ⇒ "0002000202"
          ∷ deliver 1 ⇒ "0003000100"
          ∷ start_read 2 1 ⇒ "000002"
          ∷ deliver 1 ⇒ "0004000200"
          ∷ deliver 1 ⇒ "0005000101"
          ∷ start_read 2 2 ⇒ "000002"
          ∷ deliver 1 ⇒ "0004000200"
          ∷ deliver 1 ⇒ "0005000101"
          ∷ show 2 (room 19) ⇒ "0021020000000000000002000000010100000008"
          ∷ [];
      after = λ t. entry_is (t.latest 1) 0 0 0 && entry_is (t.view 2 0) 2 1 1
          && entry_is (t.view 2 1) 1 1 3;
    }

-- ---- The latest of three

-- desk 3 reads lines 0 and 1 with this entry of line 0 in its view; line 0's got is in flight, with
-- this latest and version, and isn't the last
abbrev offering : Entry → Entry → Version → Tables
offering own latest v = with_messages
    (with_client (seeing own initial) 3 (reader 3 3 v.stamp 0)) (Got 3 v latest ∷ [])

-- it is delivered, line 0's entry has this number, writing desk and set, and line 1's is initial
abbrev becomes : Entry → Entry → Version → ℕ → ℕ → ℕ → Row
becomes own latest v number writer set =
    record {
      start = on (offering own latest v);
      lines = deliver 0 ⇒ "0005000000" ∷ [];
      after = λ t. entry_is (t.view 3 0) number writer set && entry_is (t.view 3 1) 0 0 0;
    }

-- each of them as the latest, with its set
abbrev own_latest : Row
own_latest = becomes (entry 5 2 1) (entry 5 1 2) (version 0 7 4 3 3) 5 2 1

abbrev replys_latest : Row
replys_latest = becomes (entry 4 3 1) (entry 5 2 2) (version 0 7 5 1 3) 5 2 2

abbrev version_latest : Row
version_latest = becomes (entry 4 3 1) (entry 5 1 2) (version 0 7 5 2 3) 5 2 3

-- At a tie its own stays before the reply's latest and before the version, and the reply's latest
-- before the version: sets tell them apart.
abbrev own_and_latest : Row
own_and_latest = becomes (entry 5 2 1) (entry 5 2 2) (version 0 7 4 1 3) 5 2 1

abbrev own_and_version : Row
own_and_version = becomes (entry 5 2 1) (entry 4 1 2) (version 0 7 5 2 3) 5 2 1

abbrev latest_and_version : Row
latest_and_version = becomes (entry 4 1 1) (entry 5 2 2) (version 0 7 5 2 3) 5 2 2

abbrev all_alike : Row
all_alike = becomes (entry 5 2 1) (entry 5 2 2) (version 0 7 5 2 3) 5 2 1

-- ---- The initial version

-- its got has the empty set
abbrev initial_got : Row
initial_got =
    record {
      start = on (seeing initial (entry 5 2 2));
      lines = start_read 3 3 ⇒ "000002" ∷ deliver 0 ⇒ "0004000200" ∷ [];
      after = λ t. messages_are t.messages
          ((4 ∷ 3 ∷ 1 ∷ 5 ∷ 2 ∷ []) ∷ (5 ∷ 3 ∷ 0 ∷ 0 ∷ 0 ∷ 0 ∷ 0 ∷ 0 ∷ 0 ∷ 0 ∷ []) ∷ []);
    }

-- and is no later than any entry: an initial one stays too, on damaged tables with its set
abbrev initial_offered : Row
initial_offered = becomes (entry 0 0 3) initial (version 0 0 0 0 0) 0 0 3

abbrev pub falls : List Row
falls =
    cart
    ∷ own_latest
    ∷ replys_latest
    ∷ version_latest
    ∷ own_and_latest
    ∷ own_and_version
    ∷ latest_and_version
    ∷ all_alike
    ∷ initial_got
    ∷ initial_offered
    ∷ []
