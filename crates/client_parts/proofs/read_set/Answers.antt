-- `client_parts::read_set` meets its contract: by the mode.
use mathlib.Core.Path.{refl}
use Rattle.protocol.specs.Tables.{ReadPart}
use Rattle.client_parts.proofs.Words.{read-field}
use Rattle.client_parts.proofs.read_set.Goals as goal

pub returns : goal.returns
returns c = read-field _ _ (λ (p : ReadPart). p.set) refl c.read.ensures c.mode.ensures
    c.set_of.ensures
