-- `client_parts::read_awaited` meets its contract: by the mode.
use mathlib.Core.Path.{refl}
use Rattle.protocol.specs.Tables.{ReadPart}
use Rattle.client_parts.proofs.Words.{read-field}
use Rattle.client_parts.proofs.read_awaited.Goals as goal

pub returns : goal.returns
returns c = read-field _ _ (λ (p : ReadPart). p.awaited) refl c.read.ensures c.mode.ensures
    c.awaited.ensures
