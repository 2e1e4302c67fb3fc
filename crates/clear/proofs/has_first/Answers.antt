-- `clear::has_first` meets its contract: it is the definition, test by test.
use Rattle.clear.proofs.Read.{come-read}
use Rattle.clear.proofs.has_first.Goals as goal

pub returns : goal.returns
returns c = let a = c.args in
    come-read a.b.now a.d a.k c.mode-mode.ensures
    c.set_of-set.ensures c.awaited-awaited.ensures c.has.ensures
    c.lacks.ensures
