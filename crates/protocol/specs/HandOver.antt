-- Handing over (document 02, P6): 'At shift change the afternoon desk takes over what the morning
-- desk has seen'; and how one client's view stands to another's.
use Rattle.std.specs.Prelude.{Bool, cond, ℕ, leb}
use Rattle.basics.specs.Lists.{every}
use Rattle.protocol.specs.declared.Entry.{Entry}
use Rattle.protocol.specs.Tables.{Tables, later_of, with_view}

-- 'For each line its view becomes the later of the two entries; the giving desk is unchanged': at
-- equal stamps the receiver's own entry stays
abbrev pub taken_over : Tables → ℕ → ℕ → ℕ → Entry
taken_over t giver receiver k = later_of (t.view receiver k) (t.view giver k)

abbrev pub handed_over : Tables → ℕ → ℕ → Tables
handed_over t giver receiver = with_view t receiver (taken_over t giver receiver)

-- no entry of client d is later than client e's
abbrev pub no_later : Tables → ℕ → ℕ → Bool
no_later t d e = every t.sizes.items (λ k. leb (t.view d k).stamp (t.view e k).stamp)

-- by whether no entry of a view is later than another's, and none is earlier: 0 same, 1 behind (no
-- entry later, one earlier), 2 ahead, 3 neither
abbrev pub standing_by : Bool → Bool → ℕ
standing_by below above = cond below (cond above 0 1) (cond above 2 3)

-- 'how the first desk's view stands to the second's, by stamps alone'
unfoldable pub standing : Tables → ℕ → ℕ → ℕ
standing t d e = standing_by (no_later t d e) (no_later t e d)
