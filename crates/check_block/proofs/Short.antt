-- No look of a check is long. In every valid block, own or damaged, a look among the stamps meets
-- at most 13 links, and a look among the versions' keys at most 15.
--
-- The cost of a check is made of these looks. The laws below bound the links of a look. The number
-- of looks is read off the loops of the code, and is no law. There are at most so many:
--   looks                             stamps    keys
--   to build the table                   528     512
--   to tell which stamps are whole       512   1,024
--   for holders                          528
--   for versions, none alike                     512
--   for views and latest                 576
--   for first replies kept               512     512
--   for items of writes under way                512
--   for 128 messages                     256     128
--   together                           2,912   3,200
-- Of the 1,024 looks 512 find a version each, and one for each of 512 stamps finds none. All looks
-- together meet fewer than 86,000 links.
use mathlib.Core.Bool.{true}
use mathlib.Core.List.{List}
use mathlib.Core.Path.{◌≡◌, ap, ◌∙◌}
use Prim.Native.Nat.{ℕ, ◌^◌, ◌≤◌, ◌<◌}
use lib.Dec.{eqb, ltb}
use lib.ListN.{length, get_or}
use native.Mathlib.Omega.{arith}
use borrow.Author.Tests.{eqb-true, eqb-false, ltb-true}
use Rattle.basics.proofs.Cases.{by-test}
use Rattle.basics.specs.Lists.{table}
use Rattle.basics.proofs.Lists.{length-table, table_at}
use Rattle.layout.specs.Layout.{most_items, most_versions, header, at, versions_at}
use Rattle.layout.specs.Decode.{version_in, valid_block}
use Rattle.index.specs.Index.{base, Walked, Indexed}
use Rattle.index.proofs.Short.{walk-short}
use Rattle.check_stamps.specs.Stamps.{most_held, held_stamp, key_of, key_in, Held, Keyed}
use Rattle.check_stamps.specs.Stamps.{stamps_end}
use Rattle.check_stamps.proofs.Block.{few-clients, small}
use Rattle.check_entries.specs.Entries.{Ranged}
use Rattle.check_entries.proofs.Good.{stamp-small, writer-is}
use Rattle.check_entries.proofs.Ranged.{held-ranged, version-ranged}

-- to base 8, as the index has it
abbrev pub stamp_digits : ℕ
stamp_digits = 12

abbrev pub key_digits : ℕ
key_digits = 14

-- ---- the stamps and keys of a valid block

module _ (b : List ℕ) (v : valid_block b ≡ true) where
  held_below : (p : ℕ) → held_stamp b p < base ^ stamp_digits
  held_below p = stamp-small b (held_stamp b p) (held-ranged b v p)

  -- a stamp ends in its client, which is at most 8: no key reaches base ^ key_digits
  key_below : (k s : ℕ) → k < most_items → Ranged b s → key_of k s < base ^ key_digits
  key_below k s l r =
      by-test (eqb s 0) (λ e. omega (arith, eqb-true s 0 e, l))
      (λ e. let client = (writer-is b s r (eqb-false s 0 e)).1 in
      omega (arith, stamp-small b s r, client, few-clients b v, l))

  key_in-below : (i : ℕ) → key_in b i < base ^ key_digits
  unfolding key_in
  key_in-below i =
      let n = at b header versions_at in
      let u = version_in b i in
      by-test (ltb i n)
      (λ e. let l : i < n = ltb-true i n e in
      rw e (key_below u.item u.stamp (small b v i l) (version-ranged b v i l)))
      (λ e. rw e (omega arith))

-- ---- walks

-- of a table, also while it is built and only its first n keys have links
pub table-walks : (keys links : List ℕ) (most n d : ℕ) (f : ℕ → ℕ) → keys ≡ table most f
    → ((p : ℕ) → p < most → f p < base ^ d) → Indexed keys links n → (key : ℕ) → key < base ^ d
    → {at rest : ℕ} → (w : Walked keys links key at rest) → w.turns ≤ d
table-walks keys links most n d f e low i key l w =
    walk-short keys links n i d (λ p h.
    let inside : p < most = omega (arith, h, ap length e, length-table most f) in
    let is : get_or keys p 0 ≡ f p =
    ap (λ (xs : List ℕ). get_or xs p 0) e ∙ table_at most f p 0 inside in
    omega (arith, is, low p inside)) key l w

pub stamp-walks : (b stamps links : List ℕ) → Held b stamps links → (s : ℕ) → s < stamps_end
    → {at rest : ℕ} → (w : Walked stamps links s at rest) → w.turns ≤ stamp_digits
stamp-walks b stamps links h s l w =
    table-walks stamps links most_held (length stamps) stamp_digits (held_stamp b) h.gathered
    (λ p l. held_below b h.valid p) h.index s l w

pub key_walks : (b keys links : List ℕ) → Keyed b keys links → (k s : ℕ) → k < most_items
    → Ranged b s → {at rest : ℕ} → (w : Walked keys links (key_of k s) at rest)
    → w.turns ≤ key_digits
key_walks b keys links h k s l r w =
    table-walks keys links most_versions (length keys) key_digits (key_in b) h.gathered
    (λ i l. key_in-below b h.valid i) h.index (key_of k s) (key_below b h.valid k s l r) w
