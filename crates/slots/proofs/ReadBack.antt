-- The lists that a block holds are what is read at the first places of their sections.
use mathlib.Core.List.{List}
use mathlib.Core.Path.{◌≡◌}
use Prim.Native.Nat.{ℕ, ◌<◌}
use lib.ListN.{length, get_or}
use Rattle.basics.specs.Lists.{table}
use Rattle.protocol.specs.declared.Version.{Version}
use Rattle.protocol.specs.declared.Message.{Message}
use Rattle.protocol.specs.Tables.{Tables}
use Rattle.layout.specs.Decode.{version_in, message_in}
use Rattle.layout.specs.Encodes.{Encodes}
use Rattle.layout.proofs.Held.{version-held, message-held}
use Rattle.slots.proofs.Each.{table-each}

pub read-version : {b : List ℕ} {t : Tables} → Encodes b t → (i : ℕ) → i < length t.versions
    → (none : Version)
    → version_in b i ≡ get_or t.versions i none
read-version {b} {t} e i l none = version-held b i (get_or t.versions i none)
    (e.versions i l none)

pub table-versions : {b : List ℕ} {t : Tables} → Encodes b t
    → table (length t.versions) (version_in b) ≡ t.versions
table-versions {b} {t} e = table-each (version_in b) t.versions (read-version e)

pub read-message : {b : List ℕ} {t : Tables} → Encodes b t → (i : ℕ) → i < length t.messages
    → (none : Message)
    → message_in b i ≡ get_or t.messages i none
read-message {b} {t} e i l none = message-held b i (get_or t.messages i none)
    (e.messages i l none)

pub table-messages : {b : List ℕ} {t : Tables} → Encodes b t
    → table (length t.messages) (message_in b) ≡ t.messages
table-messages {b} {t} e = table-each (message_in b) t.messages (read-message e)
