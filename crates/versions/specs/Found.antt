-- The first stored version alike in item and stamp.
use Rattle.std.specs.Prelude.{Option, Some, None, Bool, cond, List, ℕ, zero, suc}
use Rattle.std.specs.Option.{option_or}
use Rattle.protocol.specs.Steps.{alike}
use Rattle.layout.specs.Decode.{version_in}

-- the first number below n that passes
unfoldable pub first : (ℕ → Bool) → ℕ → Option ℕ
first p zero = None
first p (suc n) = option_or (first p n) (cond (p n) (Some n) None)

-- of n stored versions, the first of item k with exactly this stamp
abbrev pub first_alike : List ℕ → ℕ → ℕ → ℕ → Option ℕ
first_alike b n k stamp = first (λ i. alike k stamp (version_in b i)) n
