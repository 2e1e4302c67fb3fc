-- A version is stored, or a message joins: where there is room for it, the block holds the tables
-- with it at the end.
use mathlib.Core.List.{List, [], ◌∷◌, ◌++◌}
use Prim.Native.Nat.{ℕ, ◌<◌}
use native.Mathlib.Omega.{arith}
use lib.ListN.{length}
use borrow.Author.Tests.{lt-ltb}
use Rattle.protocol.specs.declared.Version.{Version}
use Rattle.protocol.specs.declared.Message.{Message}
use Rattle.protocol.specs.Tables.{Tables, with_versions, with_messages}
use Rattle.layout.specs.Layout.{most_versions, most_messages, header, at, versions_at, messages_at}
use Rattle.layout.specs.Encodes.{Encodes}
use Rattle.layout.proofs.Room.{HasRoom}
use Rattle.slots.proofs.EncodesAppend.{encodes-append-version, encodes-append-message}
use Rattle.slots.specs.Room.{keep, send}

pub encodes-keep : {b : List ℕ} {t : Tables} (v : Version) → Encodes b t → HasRoom t
    → length t.versions < most_versions
    → Encodes (keep b v) (with_versions t (t.versions ++ v ∷ []))
unfolding keep
encodes-keep {b} {t} v n r l =
    let room : at b header versions_at < most_versions = omega (arith, n.version_count) in
    rw (lt-ltb (at b header versions_at) most_versions room)
    (encodes-append-version (at b header versions_at) v n r n.version_count room)

pub encodes-send : {b : List ℕ} {t : Tables} (m : Message) → Encodes b t → HasRoom t
    → length t.messages < most_messages
    → Encodes (send b m) (with_messages t (t.messages ++ m ∷ []))
unfolding send
encodes-send {b} {t} m n r l =
    let room : at b header messages_at < most_messages = omega (arith, n.message_count) in
    rw (lt-ltb (at b header messages_at) most_messages room)
    (encodes-append-message (at b header messages_at) m n r n.message_count room)
