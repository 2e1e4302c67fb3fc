-- The refusals' numbers, in the refusal table's order (document 01; from 17 on document 02).
use Rattle.std.specs.Prelude.{ℕ, Result, Ok, Err}
use Rattle.protocol.specs.declared.refusal.Refusal.{Refusal}
use Rattle.protocol.specs.declared.refusal.Refusal.TheVariants.{InvalidBlock, BadSizes}
use Rattle.protocol.specs.declared.refusal.Refusal.TheVariants.{NoSuchClient, ClientBusy, BadSet}
use Rattle.protocol.specs.declared.refusal.Refusal.TheVariants.{BadValues, NumbersSpent}
use Rattle.protocol.specs.declared.refusal.Refusal.TheVariants.{MessagesFull, VersionsFull}
use Rattle.protocol.specs.declared.refusal.Refusal.TheVariants.{NoSuchPlace, Unexpected, Missing}
use Rattle.protocol.specs.declared.refusal.Refusal.TheVariants.{NothingEnded, OutputShort}
use Rattle.protocol.specs.declared.refusal.Refusal.TheVariants.{Malformed, TooManyItems}
use Rattle.protocol.specs.declared.refusal.Refusal.TheVariants.{GiverIsReceiver, NotSound}

abbrev pub number_of_refusal : Refusal → ℕ
number_of_refusal InvalidBlock = 1
number_of_refusal BadSizes = 2
number_of_refusal NoSuchClient = 3
number_of_refusal ClientBusy = 4
number_of_refusal BadSet = 5
number_of_refusal BadValues = 6
number_of_refusal NumbersSpent = 7
number_of_refusal MessagesFull = 8
number_of_refusal VersionsFull = 9
number_of_refusal NoSuchPlace = 10
number_of_refusal Unexpected = 11
number_of_refusal Missing = 12
number_of_refusal NothingEnded = 13
number_of_refusal OutputShort = 14
number_of_refusal Malformed = 15
number_of_refusal TooManyItems = 17
number_of_refusal GiverIsReceiver = 18
number_of_refusal NotSound = 19

-- the number of the refusal of a call's tests, 0 where they accept it
abbrev pub refused_by : {A : Type 0} → Result A Refusal → ℕ
refused_by (Ok a) = 0
refused_by (Err r) = number_of_refusal r
