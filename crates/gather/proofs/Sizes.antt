-- The tests look only at those sizes that they speak of.
use Rattle.std.proofs.Common.{◌≡◌, ℕ, refl}
use Rattle.protocol.specs.declared.Entry.{Entry}
use Rattle.protocol.specs.declared.Version.{Version}
use Rattle.protocol.specs.Tables.{Client}
use Rattle.protocol.specs.Range.{stamp_in_range, entry_in_range, version_in_range, ended_in_range}
use Rattle.protocol.specs.Range.{read_part_in_range, write_part_in_range, client_in_range}
use Rattle.gather.specs.Sized.{sizes, sized}

pub stamp-sized : (clients partitions items stamp : ℕ)
    → stamp_in_range (sized clients 0) stamp ≡ stamp_in_range (sizes clients partitions items) stamp
unfolding stamp_in_range
stamp-sized clients partitions items stamp = refl

module _ (clients partitions items : ℕ) where
  pub entry-sized : (e : Entry) → entry_in_range (sized clients items) e ≡ entry_in_range
      (sizes clients partitions items) e
  unfolding entry_in_range stamp_in_range
  entry-sized e = refl

  pub version-sized : (v : Version)
      → version_in_range (sized clients items) v ≡ version_in_range (sizes clients partitions items) v
  unfolding version_in_range stamp_in_range
  version-sized v = refl

  pub client-sized : (c : Client) → client_in_range (sized clients items) c ≡ client_in_range
      (sizes clients partitions items) c
  unfolding client_in_range ended_in_range read_part_in_range write_part_in_range entry_in_range stamp_in_range
  client-sized c = refl
