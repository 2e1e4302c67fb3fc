-- The pass that keeps a write's values: each item of the set gets the number of its four bytes, as
-- the word that its transaction has for it.
use mathlib.Core.Bool.{Bool}
use mathlib.Core.List.{List}
use mathlib.Core.Path.{sym, subst}
use Prim.Native.Nat.{ℕ, ◌*◌, ◌%◌, ◌^◌, ◌≤◌}
use native.Mathlib.Omega.{arith}
use Rattle.basics.specs.Fold.{up_to}
use Rattle.hexadecimal.specs.Number.{number_at}
use Rattle.itemset.specs.Set.{rank}
use Rattle.layout.specs.Layout.{values, written_word}
use Rattle.layout.proofs.ClientWords.{Words, with_row, row_same}
use Rattle.layout.proofs.Changed.{Changed, changed_row}
use Rattle.start.specs.Start.{value_item}
use Rattle.itemset.proofs.Pass.{filled, pass-fills}

-- the four bytes of item k
abbrev pub bytes_of : ℕ → List ℕ → ℕ → ℕ
bytes_of s bytes k = number_at 4 bytes (4 * rank s k) % 2 ^ 32

-- the words w with these values
abbrev pub valued_words : Bool → Words → ℕ → List ℕ → ℕ → Words
valued_words mixed w s bytes items =
    with_row w values (filled s items (w values) (λ k. written_word mixed (bytes_of s bytes k)))

-- from the block x, whose words of client d are w
pub valued-changed : (mixed : Bool) (b x : List ℕ) (w : Words) (d s : ℕ) (bytes : List ℕ) (items : ℕ)
    → items ≤ 64 → Changed d b x w
    → Changed d b (up_to (value_item mixed d s bytes) x items) (valued_words mixed w s bytes items)
valued-changed mixed b x w d s bytes items narrow changed =
    pass-fills s items (λ row y. Changed d b y (with_row w values row)) _ x (w values) _
    (subst (Changed d b x) (sym (row_same w values)) changed)
    (λ k y row l e c. changed_row w values row c k (written_word mixed (bytes_of s bytes k))
    (omega arith))
