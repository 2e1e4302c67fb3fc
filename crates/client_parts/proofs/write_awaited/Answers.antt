-- `client_parts::write_awaited` meets its contract: by the mode.
use mathlib.Core.Path.{refl}
use Rattle.protocol.specs.Tables.{WritePart}
use Rattle.client_parts.proofs.Words.{write-field}
use Rattle.client_parts.proofs.write_awaited.Goals as goal

pub returns : goal.returns
returns c = write-field _ _ (λ (p : WritePart). p.awaited) refl c.written.ensures
    c.mode-mode.ensures c.awaited-word.ensures c.write_awaited-other.ensures refl
