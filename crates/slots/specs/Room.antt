-- A version is stored, or a message joins, at the end: a change of the block where there is room,
-- none where there isn't.
use Rattle.std.specs.Prelude.{cond, List, ℕ, ltb}
use Rattle.protocol.specs.declared.Version.{Version}
use Rattle.protocol.specs.declared.Message.{Message}
use Rattle.layout.specs.Layout.{most_versions, most_messages, header, at, versions_at, messages_at}
use Rattle.layout.specs.Store.{append_version, append_message}

unfoldable pub keep : List ℕ → Version → List ℕ
keep b v = cond (ltb (at b header versions_at) most_versions)
    (append_version b (at b header versions_at) v) b

unfoldable pub send : List ℕ → Message → List ℕ
send b m = cond (ltb (at b header messages_at) most_messages)
    (append_message b (at b header messages_at) m) b
