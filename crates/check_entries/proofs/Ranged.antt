-- A holder's stamp is in range; what the code reads of it is what the definitions say.
use mathlib.Core.Bool.{Bool, true, false, ◌&&◌}
use mathlib.Core.List.{List}
use mathlib.Core.Path.{◌≡◌, refl, sym, ap, ◌∙◌, subst}
use Prim.Native.Nat.{ℕ, ◌+◌, ◌-◌, ◌/◌, ◌%◌, ◌<◌, zero-le}
use lib.Dec.{eqb, ltb, leb}
use lib.ListN.{length, get_or}
use native.Mathlib.Omega.{arith}
use borrow.Author.Tests.{ltb-true, le-leb}
use Rattle.basics.proofs.Cases.{by-test}
use Rattle.basics.specs.Lists.{every, all}
use Rattle.basics.proofs.Lists.{in_table, length-table, table_at}
use Rattle.protocol.specs.declared.Entry.{Entry}
use Rattle.protocol.specs.Tables.{Tables, initial, shows_write}
use Rattle.protocol.specs.Range.{stamp_in_range, is_writing}
use Rattle.protocol.specs.Check.{write_set, agrees, is_counted, sets_held, distinct, written_by}
use Rattle.protocol.proofs.Ranges.Values.{tells-stamp}
use Rattle.protocol.proofs.Ranges.Clients.{ClientInRange}
use Rattle.layout.specs.Layout.{most_versions, header, at, clients_at, versions_at}
use Rattle.layout.specs.Decode.{client_in, version_in, sizes_in, tables_of, valid_block}
use Rattle.encoding.proofs.WellFormed.{tells-valid-block, client-range}
use Rattle.index.specs.Index.{place}
use Rattle.check_stamps.specs.Stamps.{key_in, under_way, side_of, client_held, version_held, held_in}
use Rattle.check_stamps.specs.Stamps.{most_held, Keyed}
use Rattle.check_stamps.proofs.Block.{the-versions, block_held, block-distinct}
use Rattle.check_entries.specs.Entries.{Ranged}

module _ (t : Tables) (e : Entry) where
  pub holder-initial : e.stamp ≡ 0 → eqb e.set 0 ≡ (agrees t e && is_counted t e.stamp)
  unfolding write_set
  holder-initial z =
      let low : leb 0 (t.client 0).count ≡ true = le-leb 0 (t.client 0).count zero-le in
      sym (rw (z, low) (trues (eqb e.set 0)))
    where
      trues : (x : Bool) → (x && true) ≡ x
      trues true = refl
      trues false = refl

  pub holder-some : {own : ℕ} {c : Bool} → own ≡ write_set t e.stamp
      → c ≡ is_counted t e.stamp
      → (eqb e.set own && c) ≡ (agrees t e && is_counted t e.stamp)
  holder-some o c = rw (o, c) refl

module _ (t : Tables) (x e : Entry) (same : x ≡ e) where
  abbrev asks : Entry → Bool
  asks y = agrees t y && is_counted t y.stamp

  pub read-initial : x.stamp ≡ 0 → eqb x.set 0 ≡ asks e
  read-initial z = holder-initial t x z ∙ ap asks same

  pub read_some : {own : ℕ} {c : Bool} → own ≡ write_set t x.stamp
      → c ≡ is_counted t x.stamp → (eqb x.set own && c) ≡ asks e
  read_some o c = holder-some t x o c ∙ ap asks same

-- ---- in range

module _ (b : List ℕ) (v : valid_block b ≡ true) where
  abbrev R : Entry → Type 0
  R e = Ranged b e.stamp

  initial-ranged : R initial
  unfolding stamp_in_range
  initial-ranged = refl

  pub version-ranged : (i : ℕ) → i < at b header versions_at → Ranged b (version_in b i).stamp
  version-ranged i l =
      let here = in_table (at b header versions_at) (version_in b) i l in
      (tells-stamp (tables_of b).sizes (version_in b i).stamp).1
      (λ n. (((tells-valid-block b).0 v).valid.in_range.versions (version_in b i)
      (rw (the-versions b v) here)).stamp)

  module _ (i : ℕ) (l : i < at b header clients_at) where
    range : ClientInRange (sizes_in b) (client_in b (i + 1))
    range = client-range b ((tells-valid-block b).0 v) (i + 1) (omega arith, omega arith)

    way-ranged : R (under_way (client_in b (i + 1)))
    unfolding under_way tables_of
    way-ranged =
        by-test (is_writing (client_in b (i + 1)))
        (λ e. rw e ((tells-stamp (sizes_in b) (client_in b (i + 1)).write.stamp).1
        range.write.stamp))
        (λ e. rw e initial-ranged)

    hidden : shows_write (client_in b (i + 1)).last.kind ≡ false
        → written_by (client_in b (i + 1)).last.write ≡ initial
    unfolding client_in
    hidden e = rw e refl

    last-ranged : R (written_by (client_in b (i + 1)).last.write)
    unfolding tables_of
    last-ranged =
        by-test (shows_write (client_in b (i + 1)).last.kind)
        (λ e. (tells-stamp (sizes_in b) (client_in b (i + 1)).last.write.stamp).1
        (range.last.write e).stamp)
        (λ e. subst R (sym (hidden e)) initial-ranged)

  pub held-ranged : (p : ℕ) → R (held_in b p)
  unfolding held_in version_held client_held side_of
  held-ranged p =
      let q = p - most_versions in
      by-test (ltb p most_versions)
      (λ e. rw e (by-test (ltb p (at b header versions_at))
      (λ f. rw f (version-ranged p (ltb-true p (at b header versions_at) f)))
      (λ f. rw f initial-ranged)))
      (λ e. rw e (by-test (ltb (q / 2) (at b header clients_at))
      (λ f. rw f (by-test (eqb (q % 2) 0)
      (λ g. rw g (way-ranged (q / 2) (ltb-true (q / 2) (at b header clients_at) f)))
      (λ g. rw g (last-ranged (q / 2) (ltb-true (q / 2) (at b header clients_at) f)))))
      (λ f. rw f initial-ranged)))

  pub holders-all : every most_held (λ p. agrees (tables_of b) (held_in b p)
      && is_counted (tables_of b) (held_in b p).stamp)
      ≡ all (λ e. agrees (tables_of b) e && is_counted (tables_of b) e.stamp)
      (sets_held (tables_of b))
  holders-all =
      block_held b v (λ e. agrees (tables_of b) e && is_counted (tables_of b) e.stamp)
      (sym (holder-initial (tables_of b) initial refl))

pub long-keys : (b keys paths : List ℕ) → Keyed b keys paths → length keys ≡ most_versions
long-keys b keys paths k = ap length k.gathered ∙ length-table most_versions (key_in b)

pub read-ranged : (b : List ℕ) (v : valid_block b ≡ true) (p : ℕ) (x : Entry) → x ≡ held_in b p
    → Ranged b x.stamp
read-ranged b v p x e = subst (λ (y : Entry). Ranged b y.stamp) (sym e) (held-ranged b v p)

pub own_key : (b keys paths : List ℕ) (k : Keyed b keys paths) (i : ℕ) → i < most_versions
    → get_or keys i 0 ≡ key_in b i
own_key b keys paths k i l =
    ap (λ (xs : List ℕ). get_or xs i 0) k.gathered ∙ table_at most_versions (key_in b) i 0 l

pub distinct-keys : (b keys paths : List ℕ) (k : Keyed b keys paths)
    → every (at b header versions_at) (λ i. eqb (place keys (key_in b i)) i)
    ≡ distinct (tables_of b).versions
distinct-keys b keys paths k =
    ap (λ (xs : List ℕ). every (at b header versions_at) (λ i. eqb (place xs (key_in b i)) i))
    k.gathered ∙ block-distinct b k.valid
