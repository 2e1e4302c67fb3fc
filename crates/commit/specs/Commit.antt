-- A commit delivered as a change of the block: one pass over the stored versions.
use Rattle.std.specs.Prelude.{cond, ◌&&◌, List, ℕ, ◌%◌, eqb, ltb}
use Rattle.basics.specs.Fold.{up_to}
use Rattle.protocol.specs.declared.Version.{Version}
use Rattle.protocol.specs.Tables.{later_of}
use Rattle.layout.specs.Decode.{latest_in, version_in}
use Rattle.layout.specs.Store.{store_latest}

-- the first alike counts, since at equal stamps the latest already there stays
abbrev pub commit_item : ℕ → ℕ → List ℕ → Version → List ℕ
commit_item partitions p b v =
    cond (eqb (v.item % partitions) p && ltb v.item 64)
    (store_latest b v.item (later_of (latest_in b v.item)
    (record { stamp = v.stamp; set = v.set }))) b

abbrev pub commit_version : ℕ → ℕ → ℕ → List ℕ → ℕ → List ℕ
commit_version partitions p stamp b i =
    cond (eqb (version_in b i).stamp stamp) (commit_item partitions p b (version_in b i)) b

unfoldable pub commit_delivered : List ℕ → ℕ → ℕ → ℕ → ℕ → List ℕ
commit_delivered b partitions versions p stamp = up_to (commit_version partitions p stamp) b versions
