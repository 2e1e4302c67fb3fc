-- The tables that a check looks in: stamps with their links, which of them are whole, and the keys of
-- versions with theirs, the paths.
use Rattle.std.specs.Prelude.{true, cond, List, ◌≡◌, ℕ, eqb}
use Rattle.basics.specs.Lists.{table}
use Rattle.protocol.specs.Range.{stamp_in_range}
use Rattle.protocol.specs.Check.{is_whole}
use Rattle.layout.specs.Layout.{most_versions}
use Rattle.layout.specs.Decode.{tables_of}
use Rattle.index.specs.Index.{place}
use Rattle.check_stamps.specs.Stamps.{most_held, held_stamp, Keyed, Held}

-- 1 where the stamp of the holder at place p is whole and this is its first place, 0 elsewhere: each
-- stamp is told once
unfoldable pub whole_mark : List ℕ → ℕ → ℕ
whole_mark b p =
    let s = held_stamp b p in
    cond (eqb s 0) 0
    (cond (eqb (place (table most_held (held_stamp b)) s) p) (cond (is_whole (tables_of b) s) 1 0) 0)

-- the stamps that are looked among, and which of them are whole
pub record Known (b stamps links wholes : List ℕ) : Type 0 where
  pub held : Held b stamps links
  pub whole : wholes ≡ table most_versions (whole_mark b)

-- these, and the versions
pub record Looks (b stamps links wholes keys paths : List ℕ) : Type 0 where
  pub known : Known b stamps links wholes
  pub keyed : Keyed b keys paths

abbrev pub Ranged : List ℕ → ℕ → Type 0
Ranged b stamp = stamp_in_range (tables_of b).sizes stamp ≡ true
