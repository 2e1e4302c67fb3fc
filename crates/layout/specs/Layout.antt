-- The sections of the block and the place of each field in its section (docs/LAYOUT.md).
use Rattle.std.specs.Prelude.{Bool, cond, List, ℕ, ◌+◌, ◌-◌, ◌*◌, ◌/◌, ◌%◌, ◌^◌, eqb, get_or, set}
use Rattle.protocol.specs.Range.{capacities}

-- ---- limits

-- the most clients, items, stored versions and messages in flight that there are words for
abbrev pub most_clients : ℕ
most_clients = 8

abbrev pub most_items : ℕ
most_items = 64

abbrev pub most_versions : ℕ
most_versions = capacities.versions

abbrev pub most_messages : ℕ
most_messages = capacities.load

-- the most items that a write has; no word depends on it
abbrev pub most_write_items : ℕ
most_write_items = capacities.widest

-- the words of the header, of a client's scalars, of an entry, a version and a message
abbrev pub header_words : ℕ
header_words = 16

abbrev pub client_words : ℕ
client_words = 16

abbrev pub entry_words : ℕ
entry_words = 2

abbrev pub version_words : ℕ
version_words = 4

abbrev pub message_words : ℕ
message_words = 8

-- ---- sections

pub data Section : Type 0 where
  header scalars latest views asked values last_stamps last_values firsts versions messages : Section

-- how many words a section has
abbrev pub size : Section → ℕ
size header = header_words
size scalars = client_words * most_clients
size latest = entry_words * most_items
size views = entry_words * most_items * most_clients
size asked = most_items * most_clients
size values = most_items * most_clients
size last_stamps = most_items * most_clients
size last_values = most_items * most_clients
size firsts = entry_words * most_items * most_clients
size versions = version_words * most_versions
size messages = message_words * most_messages

-- where each section after the header starts: where the one before it ends
abbrev scalars_base : ℕ
scalars_base = size header

abbrev latest_base : ℕ
latest_base = scalars_base + size scalars

abbrev views_base : ℕ
views_base = latest_base + size latest

abbrev asked_base : ℕ
asked_base = views_base + size views

abbrev values_base : ℕ
values_base = asked_base + size asked

abbrev last_stamps_base : ℕ
last_stamps_base = values_base + size values

abbrev last_values_base : ℕ
last_values_base = last_stamps_base + size last_stamps

abbrev firsts_base : ℕ
firsts_base = last_values_base + size last_values

abbrev versions_base : ℕ
versions_base = firsts_base + size firsts

abbrev messages_base : ℕ
messages_base = versions_base + size versions

abbrev pub base : Section → ℕ
base header = 0
base scalars = scalars_base
base latest = latest_base
base views = views_base
base asked = asked_base
base values = values_base
base last_stamps = last_stamps_base
base last_values = last_values_base
base firsts = firsts_base
base versions = versions_base
base messages = messages_base

-- the length that a block needs
abbrev pub needed : ℕ
needed = base messages + size messages

-- a word of a section, 0 past the block's end; and the block with another word there, the same
-- block past its end
abbrev pub at : List ℕ → Section → ℕ → ℕ
at b s i = get_or b (base s + i) 0

abbrev pub store : List ℕ → Section → ℕ → ℕ → List ℕ
store b s i v = set b (base s + i) v

-- ---- places within a section

-- header: the three sizes, and how many versions and messages there are
abbrev pub clients_at : ℕ
clients_at = 0

abbrev pub partitions_at : ℕ
partitions_at = 1

abbrev pub items_at : ℕ
items_at = 2

abbrev pub versions_at : ℕ
versions_at = 3

abbrev pub messages_at : ℕ
messages_at = 4

-- scalars: sixteen words for each client, from client 1 on, of which eleven are fields
abbrev pub scalar_at : ℕ → ℕ → ℕ
scalar_at d f = client_words * (d - 1) + f

abbrev pub mode_at : ℕ → ℕ
mode_at d = scalar_at d 0

abbrev pub count_at : ℕ → ℕ
count_at d = scalar_at d 1

abbrev pub set_at : ℕ → ℕ
set_at d = scalar_at d 2

abbrev pub awaited_at : ℕ → ℕ
awaited_at d = scalar_at d 3

abbrev pub stamp_at : ℕ → ℕ
stamp_at d = scalar_at d 4

abbrev pub last_kind_at : ℕ → ℕ
last_kind_at d = scalar_at d 5

abbrev pub last_set_at : ℕ → ℕ
last_set_at d = scalar_at d 6

abbrev pub last_stamp_at : ℕ → ℕ
last_stamp_at d = scalar_at d 7

-- of a mixed transaction: its write part's set and awaited items, and the last one's set
abbrev pub write_set_at : ℕ → ℕ
write_set_at d = scalar_at d 8

abbrev pub write_awaited_at : ℕ → ℕ
write_awaited_at d = scalar_at d 9

abbrev pub last_write_set_at : ℕ → ℕ
last_write_set_at d = scalar_at d 10

-- latest and views: stamp and set of an entry
abbrev pub latest_at : ℕ → ℕ
latest_at k = entry_words * k

abbrev pub view_at : ℕ → ℕ → ℕ
view_at d k = entry_words * most_items * (d - 1) + entry_words * k

-- asked, values, last_stamps, last_values: a word for each client and item
abbrev pub item_at : ℕ → ℕ → ℕ
item_at d k = most_items * (d - 1) + k

-- firsts: stamp and set of the first reply for each client and item
abbrev pub first_at : ℕ → ℕ → ℕ → ℕ
first_at d k f = entry_words * most_items * (d - 1) + (entry_words * k + f)

-- versions: item, value, stamp, set; messages: kind, client or partition, item, value, stamp, set,
-- latest's stamp, latest's set
abbrev pub version_at : ℕ → ℕ → ℕ
version_at i f = version_words * i + f

abbrev pub message_at : ℕ → ℕ → ℕ
message_at i f = message_words * i + f

-- ---- modes

-- what a client's transaction under way is: none, a read, a write, a fast read in its first and in
-- its second part, and a mixed one, with a read and a write part
abbrev pub idle : ℕ
idle = 0

abbrev pub reading : ℕ
reading = 1

abbrev pub writing : ℕ
writing = 2

abbrev pub in_first_part : ℕ
in_first_part = 3

abbrev pub in_second_part : ℕ
in_second_part = 4

abbrev pub mixing : ℕ
mixing = 5

-- how many there are
abbrev pub modes : ℕ
modes = 6

abbrev pub is_write_mode : ℕ → Bool
is_write_mode mode = eqb mode writing

abbrev pub is_mixed_mode : ℕ → Bool
is_mixed_mode mode = eqb mode mixing

-- and what the last ended one was
abbrev pub is_mixed_kind : ℕ → Bool
is_mixed_kind kind = eqb kind 4

-- the stage of the read part in a mode that isn't a write's, 0 where that isn't a fast read's
abbrev pub stage_of : ℕ → ℕ
stage_of mode = cond (eqb mode in_first_part) 1 (cond (eqb mode in_second_part) 2 0)

-- the mode of a read part of this stage
abbrev pub read_mode : ℕ → ℕ
read_mode stage = cond (eqb stage 0) reading (stage + 2)

-- ---- values

-- a mixed transaction's word for an item holds two values: the answer read in its low 32 bits, and
-- the value written in its high 32 bits
abbrev pub low_half : ℕ → ℕ
low_half w = w % 2 ^ 32

abbrev pub high_half : ℕ → ℕ
high_half w = w / 2 ^ 32 % 2 ^ 32

abbrev pub both_halves : ℕ → ℕ → ℕ
both_halves low high = high % 2 ^ 32 * 2 ^ 32 + low % 2 ^ 32

-- the answer read and the value written that a word is; any other transaction's word is one value
abbrev pub read_value : Bool → ℕ → ℕ
read_value mixed w = cond mixed (low_half w) w

abbrev pub written_value : Bool → ℕ → ℕ
written_value mixed w = cond mixed (high_half w) w

-- the word of a value to be written: a mixed transaction's has no answer yet
abbrev pub written_word : Bool → ℕ → ℕ
written_word mixed v = cond mixed (both_halves 0 v) v

-- the word with this answer: a mixed transaction's keeps the value written
abbrev pub with_answer : Bool → ℕ → ℕ → ℕ
with_answer mixed w v = cond mixed (both_halves v (high_half w)) v
