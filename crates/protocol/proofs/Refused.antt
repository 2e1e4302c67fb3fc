-- A refusal's number is none of an accepted call.
use Prim.Native.Nat.{◌<◌}
use native.Mathlib.Omega.{arith}
use Rattle.protocol.specs.declared.refusal.Refusal.{Refusal}
use Rattle.protocol.specs.declared.refusal.Refusal.TheVariants.{InvalidBlock, BadSizes}
use Rattle.protocol.specs.declared.refusal.Refusal.TheVariants.{NoSuchClient, ClientBusy, BadSet}
use Rattle.protocol.specs.declared.refusal.Refusal.TheVariants.{BadValues, NumbersSpent}
use Rattle.protocol.specs.declared.refusal.Refusal.TheVariants.{MessagesFull, VersionsFull}
use Rattle.protocol.specs.declared.refusal.Refusal.TheVariants.{NoSuchPlace, Unexpected, Missing}
use Rattle.protocol.specs.declared.refusal.Refusal.TheVariants.{NothingEnded, OutputShort}
use Rattle.protocol.specs.declared.refusal.Refusal.TheVariants.{Malformed, TooManyItems}
use Rattle.protocol.specs.declared.refusal.Refusal.TheVariants.{GiverIsReceiver, NotSound}
use Rattle.protocol.specs.Refusal.{number_of_refusal}

pub some_number : (r : Refusal) → 0 < number_of_refusal r
some_number InvalidBlock = omega arith
some_number BadSizes = omega arith
some_number NoSuchClient = omega arith
some_number ClientBusy = omega arith
some_number BadSet = omega arith
some_number BadValues = omega arith
some_number NumbersSpent = omega arith
some_number MessagesFull = omega arith
some_number VersionsFull = omega arith
some_number NoSuchPlace = omega arith
some_number Unexpected = omega arith
some_number Missing = omega arith
some_number NothingEnded = omega arith
some_number OutputShort = omega arith
some_number Malformed = omega arith
some_number TooManyItems = omega arith
some_number GiverIsReceiver = omega arith
some_number NotSound = omega arith
