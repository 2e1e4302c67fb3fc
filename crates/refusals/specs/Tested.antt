-- What a test of the refusal table answers, and the tests of a write that follow those of its set.
use Rattle.std.specs.Prelude.{Bool, true, false, not, ◌≡◌, List, [], ◌∷◌, ℕ, ◌+◌, ◌*◌, eqb, ltb}
use Rattle.std.specs.Prelude.{length, Result, Ok, Err}
use Rattle.itemset.specs.Set.{count}
use Rattle.protocol.specs.declared.refusal.Refusal.{Refusal}
use Rattle.protocol.specs.Range.{load, occupied}
use Rattle.protocol.specs.Calls.{Test, test}
use Rattle.layout.specs.Layout.{most_versions, most_messages, most_write_items, header, at, items_at}
use Rattle.layout.specs.Decode.{tables_of}
use Rattle.start.specs.Start.{greatest_on}

-- refused by r exactly where the test applies
abbrev pub Tested : {A : Type 0} → Bool → Refusal → Result A Refusal → Type 0
Tested applies r (Ok a) = applies ≡ false
Tested applies r (Err e) = (applies ≡ true) × (e ≡ r)

-- of a write of s, alone or in a mixed transaction
abbrev pub later_write_tests : List ℕ → ℕ → ℕ → List ℕ → ℕ → List Test
later_write_tests b d s bytes joining =
    test 6 (not (eqb (length bytes) (4 * count s)))
    ∷ test 17 (ltb most_write_items (count s))
    ∷ test 7 (eqb (greatest_on b d (at b header items_at)) 4294967295)
    ∷ test 8 (ltb most_messages (load (tables_of b) + joining))
    ∷ test 9 (ltb most_versions (occupied (tables_of b) + count s))
    ∷ []
