-- `versions::is_stored` meets its contract: a version is stored where the search finds a place.
use Rattle.layout.specs.Decode.{version_in}
use Rattle.versions.proofs.First.{stored-first}
use Rattle.versions.proofs.is_stored.Goals as goal

pub returns : goal.returns
returns c = let a = c.args in
    let e = stored-first a.n (version_in a.b.now) a.item a.stamp in
    cc
