-- The first versions pass exactly if what was gathered of them does.
use Rattle.protocol.specs.Range.{version_in_range}
use Rattle.layout.specs.Decode.{version_in}
use Rattle.gather.specs.Sized.{sized}
use Rattle.gather.specs.Words.{versions_test}
use Rattle.gather.proofs.Tested.{SoFar}
use Rattle.range_message.proofs.versions_in_range.Given as goal

abbrev pub invariant-loop-i : goal.invariant-loop-i
invariant-loop-i l =
    SoFar l.n (λ i. version_in_range (sized l.clients l.items) (version_in l.b i)) l.i
    (versions_test l.items l.ks l.values l.owns l.sets l.shifts)
