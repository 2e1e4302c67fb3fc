-- What a message is (document 01, 'Tables' and 'Steps'): its parts, said once for each kind. All
-- that is asked of a message as such goes by them.
use Rattle.std.specs.Prelude.{Bool, cond, ◌&&◌, ◌||◌, ℕ, eqb, leb}
use Rattle.protocol.specs.declared.Entry.{Entry}
use Rattle.protocol.specs.declared.Message.{Message}
use Rattle.protocol.specs.declared.Message.TheVariants.{Prepare, Prepared, Commit, Get, Got}
use Rattle.protocol.specs.declared.Message.TheVariants.{FirstGet, FirstReply}
use Rattle.protocol.specs.Tables.{Side, of_read, of_write, initial, writer_of}

pub record Parts : Type 0 where
  pub kind : ℕ
  -- the client of a get, got, first get or first reply, the partition of a commit
  pub place : ℕ
  pub item : ℕ
  pub value : ℕ
  pub stamp : ℕ
  pub set : ℕ
  pub latest : Entry

abbrev pub parts : (kind place item value stamp set : ℕ) → Entry → Parts
parts kind place item value stamp set latest =
    record {
      kind = kind;
      place = place;
      item = item;
      value = value;
      stamp = stamp;
      set = set;
      latest = latest;
    }

-- a part that a kind doesn't have is 0
abbrev pub parts_of : Message → Parts
parts_of (Prepare v) = parts 1 0 v.item v.value v.stamp v.set initial
parts_of (Prepared k stamp) = parts 2 0 k 0 stamp 0 initial
parts_of (Commit p stamp) = parts 3 p 0 0 stamp 0 initial
parts_of (Get d k stamp) = parts 4 d k 0 stamp 0 initial
parts_of (Got d v e) = parts 5 d v.item v.value v.stamp v.set e
parts_of (FirstGet d k) = parts 6 d k 0 0 0 initial
parts_of (FirstReply d v e) = parts 7 d v.item v.value v.stamp v.set e

-- the kinds are 1 to 7
abbrev pub kinds : ℕ
kinds = 7

abbrev pub kind_of : Message → ℕ
kind_of m = (parts_of m).kind

abbrev pub is_prepare : Message → Bool
is_prepare m = eqb (kind_of m) 1

abbrev pub is_prepared : Message → Bool
is_prepared m = eqb (kind_of m) 2

abbrev pub is_commit : Message → Bool
is_commit m = eqb (kind_of m) 3

abbrev pub is_get : Message → Bool
is_get m = eqb (kind_of m) 4

abbrev pub is_got : Message → Bool
is_got m = eqb (kind_of m) 5

abbrev pub is_first_get : Message → Bool
is_first_get m = eqb (kind_of m) 6

abbrev pub is_first_reply : Message → Bool
is_first_reply m = eqb (kind_of m) 7

-- 'kinds 6 and 7 are gets and gots' (document 02, P7)
abbrev pub is_any_get : Message → Bool
is_any_get m = is_get m || is_first_get m

abbrev pub is_any_got : Message → Bool
is_any_got m = is_got m || is_first_reply m

-- of a message that is about one item: any but a commit
abbrev pub item_of : Message → ℕ
item_of m = (parts_of m).item

-- a get or got, of either kind, names its client; any other message is its stamp's client's
abbrev pub names_client : Message → Bool
names_client m = leb 4 (kind_of m)

abbrev pub owner_of : Message → ℕ
owner_of m = cond (names_client m) (parts_of m).place (writer_of (parts_of m).stamp)

-- of a read part the gets and gots, of either kind, of a write part the prepares and prepared
-- replies
abbrev pub of_side : Side → Message → Bool
of_side of_read m = names_client m
of_side of_write m = leb (kind_of m) 2

-- for item k of that part of client d
abbrev pub is_for : Side → ℕ → ℕ → Message → Bool
is_for σ d k m = of_side σ m && (eqb (owner_of m) d && eqb (item_of m) k)
