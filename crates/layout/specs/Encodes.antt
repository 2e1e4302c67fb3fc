-- When a block holds tables, word by word, with no mention of the decoder.
use Rattle.std.specs.Prelude.{Bool, true, false, cond, not, ◌&&◌, List, ◌≡◌, ℕ, zero, suc, ◌+◌, ◌^◌, ◌≤◌, ◌<◌, eqb, length, get_or}
use Rattle.itemset.specs.Set.{has}
use Rattle.protocol.specs.declared.Version.{Version}
use Rattle.protocol.specs.declared.Entry.{Entry}
use Rattle.protocol.specs.declared.Message.{Message}
use Rattle.protocol.specs.Tables.{Tables, Client, ReadPart, WritePart, Ended, initial, shows_read}
use Rattle.protocol.specs.Tables.{shows_write}
use Rattle.protocol.specs.Message.{kind_of}
use Rattle.protocol.specs.Range.{is_idle, is_writing, has_first}
use Rattle.layout.specs.Layout.{Section, header, scalars, latest, views, asked, values}
use Rattle.layout.specs.Layout.{last_stamps, last_values, firsts, versions, messages, needed}
use Rattle.layout.specs.Layout.{at}
use Rattle.layout.specs.Layout.{clients_at, partitions_at, items_at, versions_at, messages_at}
use Rattle.layout.specs.Layout.{mode_at, count_at, set_at, awaited_at, stamp_at, last_kind_at}
use Rattle.layout.specs.Layout.{last_set_at, last_stamp_at, write_set_at, write_awaited_at}
use Rattle.layout.specs.Layout.{last_write_set_at, latest_at, view_at, item_at, version_at, first_at}
use Rattle.layout.specs.Layout.{message_words, message_at, idle, writing, mixing, is_mixed_mode}
use Rattle.layout.specs.Layout.{is_mixed_kind, stage_of, read_mode, read_value, written_value}
use Rattle.layout.specs.Store.{word_of}

-- ---- the numbers

-- with a write part alone, and with a read part beside it
abbrev pub writes_alone : Client → Bool
writes_alone c = is_writing c && eqb c.read.set 0

abbrev pub is_mixed : Client → Bool
is_mixed c = is_writing c && not (eqb c.read.set 0)

abbrev pub number_of_mode : Client → ℕ
number_of_mode c =
    cond (is_idle c) idle
    (cond (is_writing c) (cond (eqb c.read.set 0) writing mixing) (read_mode c.read.stage))

-- ---- field by field

pub record HoldsEntry (b : List ℕ) (s : Section) (i : ℕ) (e : Entry) : Type 0 where
  pub stamp : at b s i ≡ e.stamp
  pub set : at b s (i + 1) ≡ e.set

pub record HoldsVersion (b : List ℕ) (i : ℕ) (v : Version) : Type 0 where
  pub item : at b versions (version_at i 0) ≡ v.item
  pub value : at b versions (version_at i 1) ≡ v.value
  pub stamp : at b versions (version_at i 2) ≡ v.stamp
  pub set : at b versions (version_at i 3) ≡ v.set

abbrev pub word : List ℕ → ℕ → ℕ → ℕ
word b i f = at b messages (message_at i f)

-- all eight words of a message: those that a got or a first reply uses
abbrev all_used : ℕ
all_used = 2 ^ 0 + 2 ^ 1 + 2 ^ 2 + 2 ^ 3 + 2 ^ 4 + 2 ^ 5 + 2 ^ 6 + 2 ^ 7

-- the words of a message that its kind uses, as a set, one row a kind: 0 is its kind, 1 the client
-- or partition, 2 the item, 3 the value, 4 the stamp, 5 the set, 6 and 7 the latest's stamp and set
unfoldable pub used : ℕ → ℕ
used zero = 0
used (suc zero) = 2 ^ 0 + 2 ^ 2 + 2 ^ 3 + 2 ^ 4 + 2 ^ 5
used (suc (suc zero)) = 2 ^ 0 + 2 ^ 2 + 2 ^ 4
used (suc (suc (suc zero))) = 2 ^ 0 + 2 ^ 1 + 2 ^ 4
used (suc (suc (suc (suc zero)))) = 2 ^ 0 + 2 ^ 1 + 2 ^ 2 + 2 ^ 4
used (suc (suc (suc (suc (suc zero))))) = all_used
used (suc (suc (suc (suc (suc (suc zero)))))) = 2 ^ 0 + 2 ^ 1 + 2 ^ 2
used (suc (suc (suc (suc (suc (suc (suc n))))))) = all_used

-- message i has the words of m that m's kind uses
abbrev pub HoldsMessage : List ℕ → ℕ → Message → Type 0
HoldsMessage b i m = (f : ℕ) → f < message_words → has (used (kind_of m)) f ≡ true
    → word b i f ≡ word_of m f

-- these words are a read part's and a write part's: for the items of its set, and no others; first
-- replies for those whose first reply has come
pub record HeldRead (s awaits n : ℕ) (stamps vs : ℕ → ℕ) (replies : ℕ → Entry) (p : ReadPart)
    : Type 0 where
  pub set : s ≡ p.set
  pub awaited : awaits ≡ p.awaited
  pub stage : n ≡ p.stage
  pub asked : (k : ℕ) → has p.set k ≡ true → stamps k ≡ p.asked k
  pub values : (k : ℕ) → has p.set k ≡ true → vs k ≡ p.values k
  pub firsts : (k : ℕ) → has_first p k ≡ true → replies k ≡ p.firsts k

pub record HeldWrite (s awaits σ : ℕ) (vs : ℕ → ℕ) (p : WritePart) : Type 0 where
  pub set : s ≡ p.set
  pub awaited : awaits ≡ p.awaited
  pub stamp : σ ≡ p.stamp
  pub values : (k : ℕ) → has p.set k ≡ true → vs k ≡ p.values k

-- and an ended transaction's: its kind and the parts that it shows, with nothing awaited and no
-- first reply kept; r is the set of a mixed one's write part
pub record HeldEnded (n s r σ : ℕ) (stamps vs : ℕ → ℕ) (e : Ended) : Type 0 where
  pub kind : n ≡ e.kind
  pub read : shows_read e.kind ≡ true
      → HeldRead s 0 0 stamps (λ k. read_value (is_mixed_kind n) (vs k)) (λ k. initial) e.read
  pub write : shows_write e.kind ≡ true
      → HeldWrite (cond (is_mixed_kind n) r s) 0 σ (λ k. written_value (is_mixed_kind n) (vs k))
      e.write

-- the last ended transaction of client d
abbrev pub HoldsEnded : List ℕ → ℕ → Ended → Type 0
HoldsEnded b d e =
    HeldEnded (at b scalars (last_kind_at d)) (at b scalars (last_set_at d))
    (at b scalars (last_write_set_at d)) (at b scalars (last_stamp_at d))
    (λ k. at b last_stamps (item_at d k)) (λ k. at b last_values (item_at d k)) e

-- the words of the transaction under way, as a read part and as a write part of client d
abbrev pub HoldsRead : List ℕ → ℕ → ReadPart → Type 0
HoldsRead b d p =
    let mode = at b scalars (mode_at d) in
    HeldRead (at b scalars (set_at d)) (at b scalars (awaited_at d)) (stage_of mode)
    (λ k. at b asked (item_at d k)) (λ k. read_value (is_mixed_mode mode) (at b values (item_at d k)))
    (λ k. record { stamp = at b firsts (first_at d k 0); set = at b firsts (first_at d k 1) }) p

abbrev pub HoldsWrite : List ℕ → ℕ → WritePart → Type 0
HoldsWrite b d p =
    let mixed = is_mixed_mode (at b scalars (mode_at d)) in
    HeldWrite (cond mixed (at b scalars (write_set_at d)) (at b scalars (set_at d)))
    (cond mixed (at b scalars (write_awaited_at d)) (at b scalars (awaited_at d)))
    (at b scalars (stamp_at d)) (λ k. written_value mixed (at b values (item_at d k))) p

-- they are those of the write part, where there is one, and of the read part unless the write part
-- is alone
pub record HoldsClient (b : List ℕ) (d : ℕ) (c : Client) : Type 0 where
  pub mode : at b scalars (mode_at d) ≡ number_of_mode c
  pub count : at b scalars (count_at d) ≡ c.count
  pub read : writes_alone c ≡ false → HoldsRead b d c.read
  pub write : is_writing c ≡ true → HoldsWrite b d c.write
  pub last : HoldsEnded b d c.last

-- ---- the whole

pub record Encodes (b : List ℕ) (t : Tables) : Type 0 where
  pub long : needed ≤ length b
  pub clients : at b header clients_at ≡ t.sizes.clients
  pub partitions : at b header partitions_at ≡ t.sizes.partitions
  pub items : at b header items_at ≡ t.sizes.items
  pub version_count : at b header versions_at ≡ length t.versions
  pub message_count : at b header messages_at ≡ length t.messages
  pub latest : (k : ℕ) → k < t.sizes.items → HoldsEntry b latest (latest_at k) (t.latest k)
  pub view : (d : ℕ) → 1 ≤ d → d ≤ t.sizes.clients → (k : ℕ) → k < t.sizes.items
      → HoldsEntry b views (view_at d k) (t.view d k)
  pub client : (d : ℕ) → 1 ≤ d → d ≤ t.sizes.clients → HoldsClient b d (t.client d)
  pub versions : (i : ℕ) → i < length t.versions → (none : Version)
      → HoldsVersion b i (get_or t.versions i none)
  pub messages : (i : ℕ) → i < length t.messages → (none : Message)
      → HoldsMessage b i (get_or t.messages i none)
