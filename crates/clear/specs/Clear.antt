-- A clearing on the block (document 02, P5): the words of the versions that stay move down, in
-- their order, and the count of versions falls.
use Rattle.std.specs.Prelude.{List, [], ◌∷◌, ◌++◌, ℕ, length}
use Rattle.std.proofs.lemmas.List.Edits.{sets}
use Rattle.protocol.specs.declared.Version.{Version}
use Rattle.protocol.specs.Clear.{cleared}
use Rattle.layout.specs.Layout.{header, versions, base, store, versions_at}
use Rattle.layout.specs.Decode.{tables_of}
use Rattle.layout.specs.Store.{words_of_version}

-- the words of versions, one behind the other
unfoldable pub words_of_versions : List Version → List ℕ
words_of_versions [] = []
words_of_versions (v ∷ vs) = words_of_version v ++ words_of_versions vs

-- every word after a clearing; the words past those that stay are as they were
unfoldable pub cleared_block : List ℕ → List ℕ
cleared_block b =
    let kept = (cleared (tables_of b)).versions in
    store (sets b (base versions) (words_of_versions kept)) header versions_at (length kept)
