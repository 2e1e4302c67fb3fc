-- What the driver does with the bytes that it reads: each is fed, in order, to the block, the line
-- begun and the replies that the byte before it left. What a read gives is assumed, and so is that
-- a write prints what it is handed.
use Rattle.std.specs.Prelude.{Bool, true, false, List, ◌≡◌, ℕ, ◌≤◌, length, take}
use Rattle.std.specs.Prelude.{Result, Ok, OnOk}
use Rattle.lines.specs.Input.{Lent, fed_all, closed}

-- so many bytes of the input were taken: all of them, unless a reply couldn't be written
pub record TookOf {E : Type 0} (before after : Lent) (input : List ℕ)
    (result : Result (Unit {0}) E) : Type 0 where
  pub taken : ℕ
  pub within : taken ≤ length input
  pub whole : OnOk result (taken ≡ length input)
  pub folded : after ≡ fed_all before (take taken input)

-- these bytes, in order, and then the end of the input where it was reached
unfoldable pub turned : Bool → Lent → List ℕ → Lent
turned true s bytes = closed (fed_all s bytes)
turned false s bytes = fed_all s bytes

-- one read, with what it left in the buffer of reads: of that so many bytes were taken; the driver
-- goes on only where it took some, and where it stops without a failure the input was ended
pub record TurnOf {E : Type 0} (before after : Lent) (chunk : List ℕ) (result : Result Bool E)
    : Type 0 where
  pub taken : ℕ
  pub ended : Bool
  pub goes : result ≡ Ok true → ended ≡ false
  pub some : result ≡ Ok true → 1 ≤ taken
  pub stops : result ≡ Ok false → ended ≡ true
  pub folded : after ≡ turned ended before (take taken chunk)

-- all reads: the bytes taken, in order, and whether the end of the input was reached
pub record ServedBy (before after : Lent) : Type 0 where
  pub input : List ℕ
  pub ended : Bool
  pub folded : after ≡ turned ended before input
