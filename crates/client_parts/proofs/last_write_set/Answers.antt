-- `client_parts::last_write_set` meets its contract: by the kind.
use mathlib.Core.Path.{refl}
use Rattle.protocol.specs.Tables.{WritePart}
use Rattle.client_parts.proofs.Words.{last-field}
use Rattle.client_parts.proofs.last_write_set.Goals as goal

pub returns : goal.returns
returns c = last-field _ _ (λ (p : WritePart). p.set) refl c.written.ensures
    c.last_kind-kind.ensures c.last_set-word.ensures c.last_write_set-other.ensures refl
