-- What a loop gathers of stamps and versions, and the one test of what was gathered.
use Rattle.std.specs.Prelude.{ℕ, ◌+◌, ◌-◌, ◌/◌, ◌%◌, ◌^◌, Bool, cond, not, ◌&&◌, ◌||◌, bit_or, bit_xor, nat_le, nat_lt}
use Rattle.itemset.specs.Set.{has, all_below}

-- ---- Stamps

-- a stamp in range has a number of 32 bits and a writer of 4
abbrev pub stamp_bits : ℕ
stamp_bits = 36

-- raised by 2 ^ 36 - 9: bit 36 tells whether the stamp is 9 or more, and bit 3 whether its writer
-- is one of 1 to 8
abbrev pub raising : ℕ
raising = 68719476727

abbrev pub raised : ℕ → ℕ
raised stamp = (stamp + raising) % 2 ^ 64

-- bit 3: those two differ
abbrev pub mixed : ℕ → ℕ
mixed stamp = bit_xor (raised stamp / 2 ^ 33) (raised stamp)

-- raised by what the clients lack of 7: bit 3 tells whether a writer of 0 to 8 is above the
-- clients, where these are below 8
abbrev pub roomed : ℕ → ℕ → ℕ
roomed clients stamp = (stamp + (7 - clients)) % 2 ^ 64

-- the test of stamps, `mixed` and `roomed`, each gathered by `|`; and of entries, with their sets
unfoldable pub stamps_test : ℕ → ℕ → ℕ → ℕ → Bool
stamps_test clients stamps mixes rooms =
    nat_lt stamps (2 ^ stamp_bits) && not (has mixes 3) && (nat_le 8 clients || not (has rooms 3))

abbrev pub entries_test : ℕ → ℕ → ℕ → ℕ → ℕ → ℕ → Bool
entries_test clients items stamps mixes rooms sets =
    stamps_test clients stamps mixes rooms && all_below sets items

-- ---- Stamps that are not to be initial, and versions

-- lowered by 17 (raised by 2 ^ 64 - 17), and that raised by what the clients lack of 24, in one
-- word: bits 36 and up tell whether either is negative or the number too great, and bit 3 whether
-- the writer is no client
abbrev pub lowering : ℕ
lowering = 18446744073709551599

abbrev pub lowered : ℕ → ℕ
lowered stamp = (stamp + lowering) % 2 ^ 64

abbrev pub owned : ℕ → ℕ → ℕ
owned clients stamp = bit_or (lowered stamp) ((lowered stamp + (24 - clients)) % 2 ^ 64)

-- 7 less the clients, of 64 bits
abbrev pub rest_of : ℕ → ℕ
rest_of clients = cond (nat_lt clients 8) (7 - clients) 18446744073709551615

-- the test of `owned` stamps gathered by `|`
unfoldable pub owns_test : ℕ → Bool
owns_test owns = nat_lt owns (2 ^ stamp_bits) && not (has owns 3)

-- the test of versions, by their items, values, `owned` stamps and sets, each gathered by `|`, and
-- by sets shifted by items, gathered by `&`
unfoldable pub versions_test : ℕ → ℕ → ℕ → ℕ → ℕ → ℕ → Bool
versions_test items ks values owns sets shifts =
    nat_lt ks (2 ^ 6) && nat_lt values (2 ^ 32) && owns_test owns && all_below sets items && has shifts 0
