-- The holders of a stamp's set and the stored versions, each at a place of its own, so that they
-- are found by an index: 0 or initial where there is none.
use Rattle.std.specs.Prelude.{true, cond, List, ◌≡◌, ℕ, ◌+◌, ◌-◌, ◌*◌, ◌/◌, ◌%◌, eqb, ltb}
use Rattle.basics.specs.Lists.{table}
use Rattle.protocol.specs.declared.Entry.{Entry}
use Rattle.protocol.specs.Tables.{Client, initial, entry_of}
use Rattle.protocol.specs.Range.{is_writing}
use Rattle.protocol.specs.Check.{written_by}
use Rattle.layout.specs.Layout.{most_clients, most_items, most_versions, header, at, clients_at}
use Rattle.layout.specs.Layout.{versions_at}
use Rattle.layout.specs.Decode.{client_in, version_in, valid_block}
use Rattle.index.specs.Index.{Index}

-- ---- versions by item and stamp

-- both in one number, never 0
abbrev pub key_of : ℕ → ℕ → ℕ
key_of k stamp = most_items * stamp + k + 1

-- of stored version i
unfoldable pub key_in : List ℕ → ℕ → ℕ
key_in b i =
    let v = version_in b i in
    cond (ltb i (at b header versions_at)) (key_of v.item v.stamp) 0

-- ---- holders of a stamp's set, in their order (`sets_held`)

-- of a client's write under way
unfoldable pub under_way : Client → Entry
under_way c = cond (is_writing c) (written_by c.write) initial

-- of two for each client the q-th: its write under way, its last ended write
unfoldable pub side_of : (ℕ → Client) → ℕ → Entry
side_of client q =
    let c = client (q / 2 + 1) in
    cond (eqb (q % 2) 0) (under_way c) (written_by c.last.write)

unfoldable pub client_held : List ℕ → ℕ → Entry
client_held b q = cond (ltb (q / 2) (at b header clients_at)) (side_of (client_in b) q) initial

unfoldable pub version_held : List ℕ → ℕ → Entry
version_held b p = cond (ltb p (at b header versions_at)) (entry_of (version_in b p)) initial

abbrev pub most_held : ℕ
most_held = most_versions + 2 * most_clients

unfoldable pub held_in : List ℕ → ℕ → Entry
held_in b p =
    cond (ltb p most_versions) (version_held b p) (client_held b (p - most_versions))

abbrev pub held_stamp : List ℕ → ℕ → ℕ
held_stamp b p = (held_in b p).stamp

-- ---- the tables of a valid block, with their links

pub record Keyed (b keys links : List ℕ) : Type 0 where
  pub valid : valid_block b ≡ true
  pub gathered : keys ≡ table most_versions (key_in b)
  pub index : Index keys links

pub record Held (b stamps links : List ℕ) : Type 0 where
  pub valid : valid_block b ≡ true
  pub gathered : stamps ≡ table most_held (held_stamp b)
  pub index : Index stamps links

-- greater than every stamp in range
abbrev pub stamps_end : ℕ
stamps_end = 68719476736
