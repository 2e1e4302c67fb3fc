-- A comparison of two views by the words of a block is that of the tables that they are.
use mathlib.Core.Bool.{Bool}
use mathlib.Core.List.{List}
use mathlib.Core.Path.{◌≡◌, refl, ap, ap₂, ◌∙◌}
use Prim.Native.Nat.{ℕ, ◌≤◌, ◌<◌}
use lib.Dec.{leb}
use borrow.Author.Tests.{lt-ltb, le-leb}
use Rattle.basics.specs.Lists.{every}
use Rattle.protocol.specs.HandOver.{no_later, standing_by, standing}
use Rattle.gather.proofs.Tested.{every-same}
use Rattle.layout.specs.Layout.{header, at, clients_at, items_at}
use Rattle.layout.specs.Decode.{view_in, tables_of}

-- client d's entry of item k isn't later than client e's
abbrev pub no_later_at : List ℕ → ℕ → ℕ → ℕ → Bool
no_later_at b d e k = leb (view_in b d k).stamp (view_in b e k).stamp

-- ---- the tables' views, of clients that exist

module _ (b : List ℕ) where
  stamp-read : (d k : ℕ) → 1 ≤ d → d ≤ at b header clients_at → k < at b header items_at
      → (view_in b d k).stamp ≡ ((tables_of b).view d k).stamp
  unfolding tables_of
  stamp-read d k first last l =
      rw (le-leb 1 d first, le-leb d (at b header clients_at) last, lt-ltb k (at b header items_at) l)
      refl

  no-later-read : (d e : ℕ) → 1 ≤ d → d ≤ at b header clients_at → 1 ≤ e → e ≤ at b header clients_at
      → (items : ℕ) → items ≡ at b header items_at
      → every items (no_later_at b d e) ≡ no_later (tables_of b) d e
  unfolding tables_of
  no-later-read d e p q p' q' items same =
      ap (λ (n : ℕ). every n (no_later_at b d e)) same
      ∙ every-same (at b header items_at) _ _
      (λ k l. ap₂ leb (stamp-read d k p q l) (stamp-read e k p' q' l))

  pub standing-read : (d e : ℕ) → 1 ≤ d → d ≤ at b header clients_at → 1 ≤ e
      → e ≤ at b header clients_at → (items : ℕ) → items ≡ at b header items_at → {below above : Bool}
      → below ≡ every items (no_later_at b d e) → above ≡ every items (no_later_at b e d)
      → standing_by below above ≡ standing (tables_of b) d e
  unfolding standing
  standing-read d e p q p' q' items same l h =
      rw (l ∙ no-later-read d e p q p' q' items same, h ∙ no-later-read e d p' q' p q items same)
      refl
