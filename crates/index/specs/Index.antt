-- The first place of a key among keys, and the links that lead to that place. A key's walk begins
-- at the key's slot. A link that isn't 0 names a place, as one more than the place. Where another
-- key lies there, the walk goes on below that place, by the key's lowest digit that is left. Where
-- all keys and the walk's own are below base ^ d, the walk has at most d turns (`walk-short`,
-- proofs/Short.antt), and so meets at most d + 1 links.
use Rattle.std.specs.Prelude.{cond, List, [], ◌∷◌, ◌≢◌, ◌≡◌, ℕ, zero, suc, ◌+◌, ◌-◌, ◌*◌, ◌/◌, ◌%◌, ◌≤◌, ◌<◌, eqb, length, get_or}

-- the first place of a key; the number of keys where the key is none of them
unfoldable pub place : List ℕ → ℕ → ℕ
place [] key = 0
place (x ∷ xs) key = let rest = place xs key in cond (eqb x key) 0 (suc rest)

abbrev pub most_slots : ℕ
most_slots = 512

-- the base of a walk's digits: below each place lie so many links, one for each digit
abbrev pub base : ℕ
base = 8

abbrev pub most_keys : ℕ
most_keys = 528

-- the slots, and the links below each place
abbrev pub most_links : ℕ
most_links = most_slots + base * most_keys

abbrev pub slot_of : ℕ → ℕ
slot_of key = key % 4294967296 * 2654435769 / 8388608 % most_slots

-- ---- a key's walk

-- the digits that n turns leave of a key; each turn takes the lowest digit
unfoldable pub rest_at : ℕ → ℕ → ℕ
rest_at key zero = key
rest_at key (suc n) = rest_at key n / base

abbrev pub below : ℕ → ℕ → ℕ
below p rest = most_slots + base * p + rest % base

-- the link after n turns
unfoldable pub link_at : List ℕ → ℕ → ℕ → ℕ
link_at links key zero = slot_of key
link_at links key (suc n) = below (get_or links (link_at links key n) 0 - 1) (rest_at key n)

-- the first n links name a place each
abbrev pub Leads : List ℕ → ℕ → ℕ → Type 0
Leads links key n = (m : ℕ) → m < n → get_or links (link_at links key m) 0 ≢ 0

-- some turn names the first place of the key
abbrev pub Reached : List ℕ → List ℕ → ℕ → Type 0
Reached keys links key =
    (n : ℕ) × (get_or links (link_at links key n) 0 ≡ suc (place keys key)) × Leads links key n

-- after some turns, all of which met another key, the walk is at this link with these digits left
pub record Walked (keys links : List ℕ) (key at rest : ℕ) : Type 0 where
  pub turns : ℕ
  pub link : at ≡ link_at links key turns
  pub left : rest ≡ rest_at key turns
  pub leads : Leads links key turns
  pub others : (m : ℕ) → m < turns
      → get_or keys (get_or links (link_at links key m) 0 - 1) 0 ≢ key

-- and the walk ends there: the link names a place of the key, or none
pub record Ends (keys links : List ℕ) (key at : ℕ) : Type 0 where
  pub rest : ℕ
  pub walked : Walked keys links key at rest
  pub inside : at < length links
  pub ends : get_or links at 0 ≢ 0 → get_or keys (get_or links at 0 - 1) 0 ≡ key

-- ---- links

-- each link names a place behind the place that the link lies below, so that every walk ends
pub record Links (keys links : List ℕ) : Type 0 where
  pub few : length keys ≤ most_keys
  pub long : length links ≡ most_links
  pub within : (h : ℕ) → get_or links h 0 ≤ length keys
  pub rising : (h : ℕ) → get_or links h 0 ≢ 0 → h < most_slots + base * (get_or links h 0 - 1)

-- the links name first places of the first n keys, no place twice, and the walk of each of these
-- keys reaches the key's first place
pub record Indexed (keys links : List ℕ) (n : ℕ) : Type 0 where
  pub rise : Links keys links
  pub among : (h : ℕ) → get_or links h 0 ≤ n
  pub names : (h : ℕ) → get_or links h 0 ≢ 0
      → place keys (get_or keys (get_or links h 0 - 1) 0) ≡ get_or links h 0 - 1
  pub once : (h j : ℕ) → get_or links h 0 ≢ 0 → get_or links h 0 ≡ get_or links j 0 → h ≡ j
  pub reached : (p : ℕ) → p < n → Reached keys links (get_or keys p 0)

abbrev pub Index : List ℕ → List ℕ → Type 0
Index keys links = Indexed keys links (length keys)
