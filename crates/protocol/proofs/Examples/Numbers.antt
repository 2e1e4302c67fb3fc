-- Rows on the number of a write (document 02, P1): 1 more than the greatest among its client's
-- count and all numbers in its view.
use mathlib.Core.Bool.{Bool, ◌&&◌}
use mathlib.Core.List.{List, [], ◌∷◌}
use Prim.Native.Nat.{ℕ}
use lib.Dec.{eqb}
use Rattle.protocol.specs.declared.Entry.{Entry}
use Rattle.protocol.specs.Tables.{Tables, nothing, fresh, initial, resting, with_client}
use Rattle.protocol.specs.Tables.{with_view, with_latest, with_versions}
use Rattle.protocol.specs.Calls.{start_read, start_write, deliver, show}
use Rattle.protocol.proofs.Examples.Table.{Row, on, on_each, ◌⇒◌, anything, messages_are}
use Rattle.protocol.proofs.Examples.Table.{room, entry_is}
use Rattle.protocol.proofs.Examples.Begin.{sizes, entry, version, seeing}

-- the bytes of value 7
abbrev seven : List ℕ
seven = 0 ∷ 0 ∷ 0 ∷ 7 ∷ []

-- ---- An edit that follows a reading wins

-- Desk 2 writes its ninth edit, desk 1 reads it and corrects it: though it has written nothing so
-- far, its correction has number 10, and is what desk 2 reads next but one.
abbrev correction : Row
correction =
    record {
      start = on (with_client (fresh (sizes 2 1 1)) 2 (resting 8 nothing));
      lines =
          start_write 2 1 (0 ∷ 0 ∷ 0 ∷ 6 ∷ []) ⇒ "000001"
          ∷ deliver 0 ⇒ "0001000100"
          ∷ deliver 0 ⇒ "0002000102"
          ∷ deliver 0 ⇒ "0003000000"
          ∷ start_read 1 1 ⇒ "000001"
          ∷ deliver 0 ⇒ "0004000100"
          ∷ deliver 0 ⇒ "0005000001"
          ∷ start_read 1 1 ⇒ "000001"
          ∷ deliver 0 ⇒ "0004000100"
          ∷ deliver 0 ⇒ "0005000001"
          ∷ show 1 (room 19) ⇒ "0021010000000000000001000000090200000006"
          ∷ start_write 1 1 seven ⇒ "000001"
          ∷ deliver 0 ⇒ "0001000100"
          ∷ deliver 0 ⇒ "0002000102"
          ∷ deliver 0 ⇒ "0003000000"
          ∷ show 1 (room 18) ⇒ "00200100000000000000010000000a00000007"
          ∷ start_read 2 1 ⇒ "000001"
          ∷ deliver 0 ⇒ "0004000100"
          ∷ deliver 0 ⇒ "0005000001"
          ∷ start_read 2 1 ⇒ "000001"
          ∷ deliver 0 ⇒ "0004000100"
          ∷ deliver 0 ⇒ "0005000001"
          ∷ show 2 (room 19) ⇒ "00210200000000000000010000000a0100000007"
          ∷ [];
      after = λ t. eqb (t.client 1).count 10 && eqb (t.client 2).count 9
          && entry_is (t.latest 0) 10 1 1;
    }

-- ---- Which numbers count

-- desk 3 writes line 0, with these entries of lines 0 and 1 in its view and this count
abbrev writing : Entry → Entry → ℕ → Tables
writing e f count = with_client (seeing e f) 3 (resting count nothing)

-- its prepare has this number, and so has its count
abbrev numbered : ℕ → Tables → Bool
numbered n t = messages_are t.messages ((1 ∷ 0 ∷ 7 ∷ n ∷ 3 ∷ 1 ∷ []) ∷ [])
    && eqb (t.client 3).count n

-- each entry counts, whoever wrote it, and though its line isn't in the write set
abbrev any_entry : Row
any_entry =
    record {
      start = on_each (writing (entry 4 3 1) (entry 9 1 2) 5
          ∷ writing (entry 9 1 1) (entry 4 3 2) 5 ∷ []);
      lines = start_write 3 1 seven ⇒ "000001" ∷ [];
      after = numbered 10;
    }

-- the count is the greatest
abbrev count_greater : Row
count_greater =
    record {
      start = on (writing (entry 9 3 1) (entry 9 1 2) 12);
      lines = start_write 3 1 seven ⇒ "000001" ∷ [];
      after = numbered 13;
    }

-- what desk 1 has counted and seen doesn't count, nor what is committed and stored
abbrev others_numbers : Row
others_numbers =
    let other = with_view (with_client (writing initial (entry 4 1 2) 5) 1 (resting 9 nothing)) 1
    (λ k. entry 9 1 3) in
    record {
      start = on (with_versions (with_latest other (λ k. entry 9 1 3)) (version 0 7 9 1 3 ∷ []));
      lines = start_write 3 1 seven ⇒ "000001" ∷ [];
      after = numbered 6;
    }

-- ---- The last number

abbrev last_of_view : Row
last_of_view =
    record {
      start = on (writing initial (entry 4294967295 1 2) 0);
      lines = start_write 3 1 seven ⇒ "07" ∷ [];
      after = anything;
    }

abbrev last_but_one : Row
last_but_one =
    record {
      start = on (writing initial (entry 4294967294 1 2) 0);
      lines = start_write 3 1 seven ⇒ "000001" ∷ [];
      after = numbered 4294967295;
    }

abbrev pub numbers : List Row
numbers =
    correction ∷ any_entry ∷ count_greater ∷ others_numbers ∷ last_of_view ∷ last_but_one ∷ []
