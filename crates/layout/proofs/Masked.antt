-- Tables that are initial outside their sizes and sets: what a decoder can give.
use mathlib.Core.Bool.{true, false}
use mathlib.Core.Path.{◌≡◌}
use Prim.Native.Nat.{ℕ}
use Rattle.itemset.specs.Set.{has}
use Rattle.protocol.specs.Tables.{Tables, Client, ReadPart, no_read, no_write, Ended, nothing}
use Rattle.protocol.specs.Tables.{shows_read, shows_write, initial, resting}
use Rattle.protocol.specs.Range.{is_client, is_item, is_writing, has_first}
use Rattle.layout.specs.Encodes.{writes_alone}

-- 0 outside s
abbrev pub Only : ℕ → (ℕ → ℕ) → Type 0
Only s f = (k : ℕ) → has s k ≡ false → f k ≡ 0

-- a first reply that hasn't come is initial
abbrev pub OnlyCome : ReadPart → Type 0
OnlyCome p = (k : ℕ) → has_first p k ≡ false → p.firsts k ≡ initial

-- a part that isn't shown is empty
pub record MaskedEnded (e : Ended) : Type 0 where
  pub asked : Only e.read.set e.read.asked
  pub answers : Only e.read.set e.read.values
  pub firsts : OnlyCome e.read
  pub values : Only e.write.set e.write.values
  pub hidden_read : shows_read e.kind ≡ false → e.read ≡ no_read
  pub hidden_write : shows_write e.kind ≡ false → e.write ≡ no_write

-- a part that a client hasn't is empty
pub record MaskedClient (c : Client) : Type 0 where
  pub asked : Only c.read.set c.read.asked
  pub answers : Only c.read.set c.read.values
  pub firsts : OnlyCome c.read
  pub values : Only c.write.set c.write.values
  pub writing : writes_alone c ≡ true → c.read ≡ no_read
  pub others : is_writing c ≡ false → c.write ≡ no_write
  pub last : MaskedEnded c.last

pub record Masked (t : Tables) : Type 0 where
  pub latest : (k : ℕ) → is_item t.sizes k ≡ false → t.latest k ≡ initial
  pub client_view : (d k : ℕ) → is_client t.sizes d ≡ false → t.view d k ≡ initial
  pub item_view : (d k : ℕ) → is_item t.sizes k ≡ false → t.view d k ≡ initial
  pub absent : (d : ℕ) → is_client t.sizes d ≡ false → t.client d ≡ resting 0 nothing
  pub client : (d : ℕ) → MaskedClient (t.client d)
