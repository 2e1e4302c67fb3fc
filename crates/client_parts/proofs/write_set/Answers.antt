-- `client_parts::write_set` meets its contract: by the mode.
use mathlib.Core.Path.{refl}
use Rattle.protocol.specs.Tables.{WritePart}
use Rattle.client_parts.proofs.Words.{write-field}
use Rattle.client_parts.proofs.write_set.Goals as goal

pub returns : goal.returns
returns c = write-field _ _ (λ (p : WritePart). p.set) refl c.written.ensures
    c.mode-mode.ensures c.set_of-word.ensures c.write_set-other.ensures refl
