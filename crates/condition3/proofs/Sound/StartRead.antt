-- The start of a read keeps the tables sound: the stamps it asks for are those of good entries of
-- the view.
use mathlib.Core.Bool.{true, ◌||◌, cond, ◌&&◌}
use mathlib.Core.Logic.{⊎_elim}
use mathlib.Core.Path.{◌≡◌, refl, sym, ap, subst, ◌∙◌}
use Prim.Native.Nat.{ℕ, ◌^◌, ◌<◌}
use native.Mathlib.Nat.{le_refl}
use native.Mathlib.Omega.{arith}
use lib.Dec.{eqb}
use Rattle.basics.proofs.Cases.{or_right, not-both}
use Rattle.basics.specs.Lists.{counted}
use Rattle.itemset.specs.Set.{has}
use Rattle.itemset.proofs.Laws.{has-below, has-empty}
use Rattle.protocol.specs.declared.Entry.{Entry}
use Rattle.protocol.specs.declared.Message.TheVariants.{Get}
use Rattle.protocol.specs.Tables.{Tables, Client, ReadPart, of_read, of_write, awaited_of, put}
use Rattle.protocol.specs.Message.{owner_of}
use Rattle.protocol.specs.Range.{Capacities}
use Rattle.protocol.specs.Steps.{choice, asks, reader, started_read, gets}
use Rattle.protocol.proofs.Each.{Each, each-upto}
use Rattle.protocol.proofs.Put.{put_same}
use Rattle.protocol.proofs.Refusals.{Idle}
use Rattle.protocol.proofs.Stored.{Chosen, choice-chosen}
use Rattle.protocol.proofs.FastRead.{no-first}
use Rattle.protocol.proofs.Ranges.Values.{IsClient}
use Rattle.protocol.proofs.Ranges.Tables.{Valid}
use Rattle.condition3.proofs.Sound.{Ledger, Good, GoodEntry, Fits, SoundBy}
use Rattle.condition3.proofs.Sound.Carry.{carries-self}
use Rattle.condition3.proofs.Sound.Start.{begin-sound, part-counted, part-uncounted}
use Rattle.condition3.proofs.Sound.Start.{none-due}
use Rattle.condition3.proofs.Common.{is_for, by_side}

-- the stamp chosen from a view of good entries is good
module _ (L : Ledger) (t : Tables) (view : ℕ → Entry) (n : ℕ)
    (good : (k : ℕ) → k < n → GoodEntry L t.versions k (view k)) where
  pub chosen-below : (k : ℕ) → k < n → (choice-chosen view k n).place < n
  chosen-below k l = ⊎_elim (λ q. subst (λ (j : ℕ). j < n) (sym q) l) (λ q. q.0)
      (choice-chosen view k n).why

  pub choice-good : (k : ℕ) → k < n → Good L t.versions k (choice view k n)
  choice-good k l =
      let r : Chosen view k n = choice-chosen view k n in
      let e : GoodEntry L t.versions r.place (view r.place) =
      good r.place (chosen-below k l) in
      subst (Good L t.versions k) (sym r.stamp)
      (record {
        mine = ⊎_elim
            (λ q. subst (λ (j : ℕ). (eqb (view r.place).stamp 0
            || has (L.set (view r.place).stamp) j) ≡ true) q e.good.mine)
            (λ q. or_right (eqb (view r.place).stamp 0)
            (has (L.set (view r.place).stamp) k)
            (subst (λ (x : ℕ). has x k ≡ true) e.agrees q.1))
            r.why;
        whole = e.good.whole;
      })

-- the gets of s fit a client with that read part
module _ (L : Ledger) (t : Tables) (d s : ℕ) (below : s < 2 ^ t.sizes.items)
    (good : (k : ℕ) → k < t.sizes.items → GoodEntry L t.versions k (t.view d k))
    (c : Client) (reads : c.read ≡ (reader t d s).read) where
  pub gets-fit : Each (λ x. Fits L t.versions (put t.client d c (owner_of x)) x) (gets t d s)
  unfolding Fits
  gets-fit =
      each-upto (λ x. Fits L t.versions (put t.client d c (owner_of x)) x)
      (λ k. Get d k (asks t d k)) t.sizes.items (has s)
      (λ k l e. rw (put_same t.client d c)
      (record {
        mode = λ z. not-both e
            (rw (sym (ap (λ (p : ReadPart). p.set) reads) ∙ z) (has-empty k));
        by_stamp = λ z. absurd (omega (arith, ap (λ (p : ReadPart). p.stage) reads));
        asked = ap (λ (p : ReadPart). p.asked k) reads ∙ rw e refl;
        good = choice-good L t (t.view d) t.sizes.items good k
            (has-below s k t.sizes.items below e);
      }))

module _ (caps : Capacities) (L : Ledger) (t : Tables) (sound : SoundBy caps L t) (d s : ℕ) where
  pub sound-read : IsClient t.sizes d → Idle (t.client d) → s < 2 ^ t.sizes.items
      → Valid caps (started_read t d s) → SoundBy caps L (started_read t d s)
  sound-read is-client rests below ok =
      begin-sound caps L t sound L (λ r e. carries-self L t.versions r) d (reader t d s)
      (gets t d s) is-client rests
      (by_side (λ σ. (e j : ℕ) → counted (is_for σ e j) (gets t d s) ≡ cond
      (eqb e d && has (awaited_of σ (reader t d s)) j) 1 0)
      (part-counted of_read t.sizes.items d s below (λ k. Get d k (asks t d k)) (λ k. refl)
      (λ k. refl) (λ k. refl))
      (λ e j. part-uncounted of_write t.sizes.items s (λ k. Get d k (asks t d k)) (λ k. refl) e j
      ∙ sym (none-due d e j)))
      (le_refl (t.client d).count) refl ok sound.no_set sound.no_value
      (λ m. absurd (m refl)) (λ k. no-first (reader t d s).read k refl)
      (gets-fit L t d s below (λ j l. sound.view d j is-client l) (reader t d s) refl)
