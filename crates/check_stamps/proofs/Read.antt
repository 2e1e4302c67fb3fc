-- What the code reads, test by test, is what the definitions say.
use mathlib.Core.Bool.{true, false, cond, not}
use mathlib.Core.List.{List}
use mathlib.Core.Logic.{◌≢◌}
use mathlib.Core.Path.{◌≡◌, refl, sym, ap, ◌∙◌, subst}
use Prim.Native.Nat.{ℕ, ◌+◌, ◌-◌, ◌*◌, ◌/◌, ◌%◌, ◌≤◌, ◌<◌}
use lib.Dec.{eqb, ltb}
use native.Mathlib.Omega.{arith}
use borrow.Author.Tests.{eq-eqb, ne_eqb, ltb-true, ltb-false, lt-ltb}
use Rattle.std.specs.Prelude.{Option, Some, None, unwrap_or}
use Rattle.basics.proofs.Cases.{by-test}
use Rattle.basics.specs.Lists.{all, table}
use Rattle.protocol.specs.declared.Version.{Version}
use Rattle.protocol.specs.declared.Entry.{Entry}
use Rattle.protocol.specs.Tables.{Client, initial, entry_of}
use Rattle.protocol.specs.Steps.{stored}
use Rattle.protocol.specs.Check.{stored_value, write_set, written_by}
use Rattle.layout.specs.Layout.{most_versions, header, at, clients_at, versions_at}
use Rattle.layout.specs.Decode.{client_in, version_in, tables_of, valid_block}
use Rattle.index.specs.Index.{place}
use Rattle.check_stamps.specs.Stamps.{key_of, key_in, under_way, side_of, client_held, version_held}
use Rattle.check_stamps.specs.Stamps.{most_held, held_in, held_stamp, Keyed, Held, stamps_end}
use Rattle.check_stamps.proofs.Block.{small, stamped, block-stored, block-value}
use Rattle.check_stamps.proofs.Block.{block-no-value, block-set, block-some}

not-below : (i n : ℕ) → n ≤ i → ltb i n ≡ false
not-below i n l =
    by-test (ltb i n) (λ e. absurd (omega (arith, ltb-true i n e, l))) (λ e. e)

-- ---- a stored version

module _ (b : List ℕ) (i : ℕ) {n : ℕ} (c : n ≡ at b header versions_at) where
  below : i < n → ltb i (at b header versions_at) ≡ true
  below l = lt-ltb i (at b header versions_at) (omega (arith, c, l))

  past : n ≤ i → ltb i (at b header versions_at) ≡ false
  past l = not-below i (at b header versions_at) (omega (arith, c, l))

  pub held-some : {x : Version} → i < n → x ≡ version_in b i → entry_of x ≡ version_held b i
  unfolding version_held
  held-some l e = ap entry_of e ∙ sym (rw (below l) refl)

  pub held_none : n ≤ i → initial ≡ version_held b i
  unfolding version_held
  held_none l = sym (rw (past l) refl)

  pub key-some : {x : Version} → i < n → x ≡ version_in b i
      → 64 * x.stamp + x.item + 1 ≡ key_in b i
  unfolding key_in
  key-some l e =
      ap (λ (y : Version). 64 * y.stamp + y.item + 1) e ∙ sym (rw (below l) refl)

  pub key-none : n ≤ i → 0 ≡ key_in b i
  unfolding key_in
  key-none l = sym (rw (past l) refl)

  pub version-small : {x : Version} → valid_block b ≡ true → i < n → x ≡ version_in b i
      → (x.stamp < stamps_end) × (x.item < 64)
  version-small v l e =
      let inside : i < at b header versions_at = omega (arith, c, l) in (
        subst (λ (y : Version). y.stamp < stamps_end) (sym e) (stamped b v i inside),
        subst (λ (y : Version). y.item < 64) (sym e) (small b v i inside),
      )

-- ---- a client's

module _ (c : Client) {s : ℕ} (own : s ≡ c.write.set) where
  pub under_none : s ≡ 0 → initial ≡ under_way c
  unfolding under_way
  under_none e = sym (rw (eq-eqb c.write.set 0 (sym own ∙ e)) refl)

  pub under_some : {stamp : ℕ} → s ≢ 0 → stamp ≡ c.write.stamp
      → ◌≡◌ {A = Entry} (record { stamp = stamp; set = s }) (under_way c)
  unfolding under_way
  under_some n e =
      rw (own, e) (sym (rw (ne_eqb c.write.set 0 (λ z. n (own ∙ z))) refl))

pub ended_is : (c : Client) {stamp s : ℕ} → stamp ≡ c.last.write.stamp → s ≡ c.last.write.set
    → ◌≡◌ {A = Entry} (record { stamp = stamp; set = s }) (written_by c.last.write)
ended_is c e f = rw (e, f) refl

module _ (b : List ℕ) (q : ℕ) {n : ℕ} (c : n ≡ at b header clients_at) where
  one : q / 2 < n → ltb (q / 2) (at b header clients_at) ≡ true
  one l = lt-ltb (q / 2) (at b header clients_at) (omega (arith, c, l))

  pub client-none : n ≤ q / 2 → initial ≡ client_held b q
  unfolding client_held
  client-none l =
      sym (rw (not-below (q / 2) (at b header clients_at) (omega (arith, c, l))) refl)

  pub client-even : {r : Entry} → q / 2 < n → q % 2 ≡ 0 → r ≡ under_way (client_in b (q / 2 + 1))
      → r ≡ client_held b q
  unfolding client_held side_of
  client-even l e h = h ∙ sym (rw (one l, eq-eqb (q % 2) 0 e) refl)

  pub client-odd : {r : Entry} → q / 2 < n → q % 2 ≢ 0
      → r ≡ written_by (client_in b (q / 2 + 1)).last.write → r ≡ client_held b q
  unfolding client_held side_of
  client-odd l e h = h ∙ sym (rw (one l, ne_eqb (q % 2) 0 e) refl)

module _ (b : List ℕ) (p : ℕ) where
  pub held_low : {r : Entry} → p < most_versions → r ≡ version_held b p → r ≡ held_in b p
  unfolding held_in
  held_low l e = e ∙ sym (rw (lt-ltb p most_versions l) refl)

  pub held_high : {r : Entry} → most_versions ≤ p → r ≡ client_held b (p - most_versions)
      → r ≡ held_in b p
  unfolding held_in
  held_high l e = e ∙ sym (rw (not-below p most_versions l) refl)

-- ---- looks

pub value-or-zero : (b : List ℕ) → valid_block b ≡ true → (k s : ℕ) → k < 64
    → unwrap_or (cond (stored (tables_of b).versions k s) (Some (stored_value (tables_of b) k s)) None)
    0 ≡ stored_value (tables_of b) k s
value-or-zero b v k s l =
    by-test (stored (tables_of b).versions k s) (λ e. rw e refl)
    (λ e. rw e (block-no-value b v k s l (ltb-false (place (table most_versions (key_in b)) (key_of k s))
    most_versions (block-stored b v k s l ∙ e))))

module _ (b keys links : List ℕ) (h : Keyed b keys links) (k s : ℕ) {r : ℕ}
    (e : r ≡ place keys (64 * s + k + 1)) where
  found_at : r ≡ place (table most_versions (key_in b)) (key_of k s)
  found_at = e ∙ ap (λ (l : List ℕ). place l (64 * s + k + 1)) h.gathered

  pub look-stored : k < 64 → ltb r most_versions ≡ stored (tables_of b).versions k s
  look-stored l =
      ap (λ (x : ℕ). ltb x most_versions) found_at ∙ block-stored b h.valid k s l

  abbrev value : Option ℕ
  value =
      cond (stored (tables_of b).versions k s) (Some (stored_value (tables_of b) k s)) None

  pub value-some : {x : Version} → k < 64 → r < most_versions → x ≡ version_in b r
      → Some x.value ≡ value
  value-some {x = x} l m f =
      let same : x.value ≡ stored_value (tables_of b) k s =
      ap (λ (y : Version). y.value) f
      ∙ ap (λ (i : ℕ). (version_in b i).value) found_at
      ∙ block-value b h.valid k s l (omega (arith, found_at, m)) in
      rw (sym (look-stored l), lt-ltb r most_versions m, same) refl

  pub value-none : k < 64 → most_versions ≤ r → None ≡ value
  value-none l m = rw (sym (look-stored l), not-below r most_versions m) refl

module _ (b stamps links : List ℕ) (h : Held b stamps links) (s : ℕ) (some : s ≢ 0) {r : ℕ}
    (e : r ≡ place stamps s) where
  held_at : r ≡ place (table most_held (held_stamp b)) s
  held_at = e ∙ ap (λ (l : List ℕ). place l s) h.gathered

  pub look-set : {x : Entry} → x ≡ held_in b r → x.set ≡ write_set (tables_of b) s
  look-set f =
      ap (λ (y : Entry). y.set) f ∙ ap (λ (p : ℕ). (held_in b p).set) held_at
      ∙ block-set b h.valid s some

  pub look-some : ltb r most_versions
      ≡ not (all (λ v. not (eqb v.stamp s)) (tables_of b).versions)
  look-some = ap (λ (x : ℕ). ltb x most_versions) held_at ∙ block-some b h.valid s some
