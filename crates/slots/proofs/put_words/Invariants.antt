-- `slots::put_words` meets its contract. The invariant: the words passed are stored.
use mathlib.Core.Path.{◌≡◌}
use lib.ListN.{take}
use lib.Seq.{sets}
use Rattle.slots.proofs.put_words.Given as goal

abbrev pub invariant-loop-k : goal.invariant-loop-k
invariant-loop-k g l = l.b ≡ sets l.initial.b l.place (take l.k l.word-items)
