-- Fast reads (document 02, P7): 'RAMP-Fast reading as in Algorithm 1 of source document 002, from
-- the same cabinets'. The first part asks for each item's latest committed version; the second
-- fetches those items again that a sibling's first reply shows to be older than they should be.
use Rattle.std.specs.Prelude.{cond, List, [], ◌++◌, map, ℕ, eqb, ltb}
use Rattle.itemset.specs.Set.{has, remove, set_of, members}
use Rattle.protocol.specs.declared.Version.{Version}
use Rattle.protocol.specs.declared.Entry.{Entry}
use Rattle.protocol.specs.declared.Message.{Message}
use Rattle.protocol.specs.declared.Message.TheVariants.{Get, FirstGet}
use Rattle.protocol.specs.Tables.{Tables, Client, ReadPart, is_second_part, no_write, initial}
use Rattle.protocol.specs.Tables.{entry_of, put, with_client, with_messages, with_read, with_write}
use Rattle.protocol.specs.Choice.{choice}

-- ---- Start

-- nothing is asked for by its stamp yet
abbrev pub fast_reader : Tables → ℕ → ℕ → Client
fast_reader t d s =
    with_write (with_read (t.client d) (record {
      set = s;
      awaited = s;
      asked = λ k. 0;
      values = λ k. 0;
      stage = 1;
      firsts = λ k. initial;
    })) no_write

-- one first get for each item, ascending
abbrev pub first_gets : Tables → ℕ → ℕ → List Message
first_gets t d s = map (FirstGet d) (members t.sizes.items s)

abbrev pub started_fast_read : Tables → ℕ → ℕ → Tables
started_fast_read t d s =
    with_messages (with_client t d (fast_reader t d s)) (t.messages ++ first_gets t d s)

-- ---- What the first replies show

-- the first replies as a view, initial outside the set
abbrev pub replies_of : ReadPart → ℕ → Entry
replies_of p k = cond (has p.set k) (p.firsts k) initial

-- the latest stamp of item k that a first reply shows, its own or a sibling's, of n items
abbrev pub freshest : ℕ → ReadPart → ℕ → ℕ
freshest n p k = cond (has p.set k) (choice (replies_of p) k n) 0

-- 'lines found older than a sibling shows'
abbrev pub stale : ℕ → ReadPart → ℕ
stale n p = set_of n (λ k. ltb (p.firsts k).stamp (freshest n p k))

-- ---- A first reply

-- its item is struck from those awaited, its stamp and set are kept, and its value as the answer so
-- far
abbrev pub first_kept : ReadPart → Version → ReadPart
first_kept p v =
    record {
      set = p.set;
      awaited = remove p.awaited v.item;
      asked = p.asked;
      values = put p.values v.item v.value;
      stage = p.stage;
      firsts = put p.firsts v.item (entry_of v);
    }

-- The second part: lines found older 'are fetched by stamp', and awaited again. Of every other item
-- the stamp asked for is its first reply's, which is shown.
abbrev pub second_part : ℕ → ReadPart → ReadPart
second_part n p =
    record {
      set = p.set;
      awaited = stale n p;
      asked = freshest n p;
      values = p.values;
      stage = 2;
      firsts = p.firsts;
    }

-- with the last first reply the first part is over
abbrev pub first_replied : ℕ → ReadPart → Version → ReadPart
first_replied n p v =
    let kept = first_kept p v in
    cond (eqb kept.awaited 0) (second_part n kept) kept

-- 'in a second set of gets, ascending': those of a second part that begins
abbrev pub second_gets : ℕ → ℕ → ReadPart → List Message
second_gets n d p =
    cond (is_second_part p) (map (λ k. Get d k (p.asked k)) (members n p.awaited)) []
