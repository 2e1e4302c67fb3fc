-- `capacity::occupied_fits` meets its contract: no more are counted than there are.
use Rattle.std.proofs.Common.{le-leb, ◌∙◌, arith}
use Rattle.protocol.specs.Message.{is_prepare}
use Rattle.layout.specs.Layout.{most_versions}
use Rattle.layout.specs.Decode.{message_in}
use Rattle.range.proofs.Sums.{counted-few}
use Rattle.range.proofs.capacity.occupied_fits.Goals as goal

pub returns-then-versions-messages-le-MOST_VERSIONS : goal.returns-then-versions-messages-le-MOST_VERSIONS
returns-then-versions-messages-le-MOST_VERSIONS c =
    let a = c.args in
    le-leb _ _ c.if-versions-messages-le-MOST_VERSIONS.true
    ∙ counted-few is_prepare (message_in a.b.now) a.versions a.messages most_versions (omega arith)
