-- The start of a write keeps the tables sound: its stamp is newer than any of its client's, so the
-- ledger has room for it.
use mathlib.Core.Bool.{true, false, cond, ◌&&◌}
use mathlib.Core.List.{List}
use mathlib.Core.Path.{◌≡◌, refl, sym, ap, ◌∙◌, subst}
use Prim.Native.Nat.{ℕ, suc, ◌^◌, ◌≤◌, ◌<◌}
use native.Mathlib.Omega.{arith}
use Rattle.basics.proofs.Cases.{by-test, not-both}
use lib.Dec.{eqb}
use Rattle.basics.specs.Lists.{counted}
use Rattle.itemset.proofs.Laws.{has-empty}
use Rattle.itemset.specs.Set.{has}
use Rattle.protocol.specs.declared.Message.TheVariants.{Prepare}
use Rattle.protocol.specs.Tables.{no_read, Tables, Client, WritePart, of_read, of_write, awaited_of}
use Rattle.protocol.specs.Tables.{stamp_of, number_of, writer_of, put}
use Rattle.protocol.specs.Message.{owner_of}
use Rattle.protocol.specs.Range.{Capacities}
use Rattle.protocol.specs.Steps.{writer, version, value_of, next_stamp, started_write, stored}
use Rattle.protocol.specs.Steps.{prepares, greatest_of}
use Rattle.protocol.proofs.FastRead.{no-first}
use Rattle.protocol.proofs.Each.{Each, each-upto}
use Rattle.protocol.proofs.Refusals.{Idle}
use Rattle.protocol.proofs.Put.{put_same, put_other}
use Rattle.protocol.proofs.Ranges.Values.{IsClient}
use Rattle.protocol.proofs.Ranges.Tables.{Valid}
use Rattle.condition3.proofs.Sound.{Ledger, Counted, Writes, Fits, SoundBy}
use Rattle.condition3.proofs.Sound.Carry.{Carries}
use Rattle.condition3.proofs.Sound.Counts.{stored-counted}
use Rattle.condition3.proofs.Sound.Start.{begin-sound, part-counted, part-uncounted}
use Rattle.condition3.proofs.Sound.Start.{none-due}
use Rattle.condition3.proofs.Common.{is_for, by_side}

-- the ledger with one more stamp
abbrev pub entered : Ledger → ℕ → ℕ → (ℕ → ℕ) → Ledger
entered L stamp s values = record {
  set = put L.set stamp s;
  value = put L.value stamp values;
}

module _ (caps : Capacities) (L : Ledger) (t : Tables) (sound : SoundBy caps L t) (d s : ℕ)
    (bytes : List ℕ) (is-client : IsClient t.sizes d) where
  abbrev stamp : ℕ
  stamp = next_stamp t d

  abbrev L' : Ledger
  L' = entered L stamp s (value_of s bytes)

  small : d < 16
  small = omega (arith, sound.valid.in_range.sizes.clients)

  writer-is : writer_of stamp ≡ d
  writer-is = let l : d < 16 = small in omega arith

  -- no stamp that is counted is the new one
  pub stamp-new : (r : ℕ) → Counted t.client r → r ≡ stamp → ⊥
  stamp-new r c e =
      let l : d < 16 = small in
      let low : number_of stamp ≤ (t.client (writer_of stamp)).count =
      subst (Counted t.client) e c in
      let here : number_of stamp ≤ (t.client d).count =
      subst (λ (x : ℕ). number_of stamp ≤ (t.client x).count) writer-is low in
      omega arith

  pub carries : (r : ℕ) → Counted t.client r → Carries L L' t.versions t.versions r
  carries r c =
      record {
        set = put_other L.set stamp s r (stamp-new r c);
        value = λ k e.
            ap (λ (f : ℕ → ℕ). f k)
            (put_other L.value stamp (value_of s bytes) r (stamp-new r c));
        keeps = λ k e. e;
      }

  unstored : (k : ℕ) → stored t.versions k stamp ≡ false
  unstored k = by-test (stored t.versions k stamp)
      (λ e. absurd (stamp-new stamp (stored-counted caps L t sound k stamp e) refl)) (λ e. e)

  zero-counted : Counted t.client 0
  zero-counted = omega arith

  set_is : L'.set stamp ≡ s
  set_is = put_same L.set stamp s

  value-is : (k : ℕ) → L'.value stamp k ≡ value_of s bytes k
  value-is k = ap (λ (f : ℕ → ℕ). f k) (put_same L.value stamp (value_of s bytes))

  -- a client with that write part and number, and the prepares that fit it
  module _ (c : Client) (part : c.write ≡ (writer t d s bytes).write)
      (number : c.count ≡ suc (greatest_of t d)) where
    is_set : c.write.set ≡ s
    is_set = ap (λ (p : WritePart). p.set) part

    is-stamp : c.write.stamp ≡ stamp
    is-stamp = ap (λ (p : WritePart). p.stamp) part

    pub writes-new : Writes L' t.versions d c
    writes-new =
        record {
          newest = is-stamp ∙ ap (λ (n : ℕ). stamp_of n d) (sym number);
          agrees = is_set ∙ sym set_is ∙ ap L'.set (sym is-stamp);
          values = λ k e. ap (λ (p : WritePart). p.values k) part ∙ sym (value-is k)
              ∙ ap (λ (x : ℕ). L'.value x k) (sym is-stamp);
          arrived = λ k e g. not-both (subst (λ (x : ℕ). has x k ≡ true) is_set e)
              (subst (λ (x : ℕ). has x k ≡ false) (ap (λ (p : WritePart). p.awaited) part) g);
        }

    pub prepares-fit : Each (λ x. Fits L' t.versions (put t.client d c (owner_of x)) x)
        (prepares t d s bytes)
    unfolding Fits
    prepares-fit =
        each-upto (λ x. Fits L' t.versions (put t.client d c (owner_of x)) x)
        (λ k. Prepare (version k (value_of s bytes k) stamp s)) t.sizes.items (has s)
        (λ k l e. rw (writer-is, put_same t.client d c)
        (record {
          mode = λ z. not-both e (rw (sym is_set ∙ z) (has-empty k));
          stamp = is-stamp;
          agrees = sym set_is;
          value = sym (value-is k);
          unstored = unstored k;
        }))

  -- the initial stamp stands for what it did
  pub new-no_set : L'.set 0 ≡ 0
  new-no_set = (carries 0 zero-counted).set ∙ sound.no_set

  pub new-no_value : (k : ℕ) → L'.value 0 k ≡ 0
  new-no_value k =
      ap (λ (f : ℕ → ℕ). f k)
      (put_other L.value stamp (value_of s bytes) 0 (stamp-new 0 zero-counted))
      ∙ sound.no_value k

  -- one message for each item of the set, of the write part
  pub prepares-counted : s < 2 ^ t.sizes.items → (e j : ℕ)
      → counted (is_for of_write e j) (prepares t d s bytes) ≡ cond (eqb e d && has s j) 1 0
  prepares-counted below =
      part-counted of_write t.sizes.items d s below
      (λ k. Prepare (version k (value_of s bytes k) stamp s)) (λ k. refl) (λ k. writer-is)
      (λ k. refl)

  pub prepares-uncounted : (e j : ℕ) → counted (is_for of_read e j) (prepares t d s bytes) ≡ 0
  prepares-uncounted e j =
      part-uncounted of_read t.sizes.items s
      (λ k. Prepare (version k (value_of s bytes k) stamp s)) (λ k. refl) e j

  pub sound-write : Idle (t.client d) → s < 2 ^ t.sizes.items
      → Valid caps (started_write t d s bytes) → SoundBy caps L' (started_write t d s bytes)
  sound-write rests below ok =
      begin-sound caps L t sound L' carries d (writer t d s bytes)
      (prepares t d s bytes) is-client rests
      (by_side (λ σ. (e j : ℕ) → counted (is_for σ e j) (prepares t d s bytes) ≡ cond
      (eqb e d && has (awaited_of σ (writer t d s bytes)) j) 1 0)
      (λ e j. prepares-uncounted e j ∙ sym (none-due d e j))
      (prepares-counted below))
      (omega arith) refl ok new-no_set new-no_value
      (λ m. writes-new (writer t d s bytes) refl refl)
      (λ k. no-first no_read k refl)
      (prepares-fit (writer t d s bytes) refl refl)
