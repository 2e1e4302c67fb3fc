-- The start of a fast read keeps the tables sound: it asks for no stamp, and keeps no first reply.
use mathlib.Core.Bool.{false, cond, ◌&&◌}
use mathlib.Core.Path.{◌≡◌, refl, sym, ◌∙◌}
use Prim.Native.Nat.{ℕ, ◌^◌, ◌<◌}
use native.Mathlib.Nat.{le_refl}
use lib.Dec.{eqb}
use Rattle.basics.proofs.Cases.{by-test, not-both}
use Rattle.basics.specs.Lists.{counted}
use Rattle.itemset.specs.Set.{has}
use Rattle.itemset.proofs.Laws.{has-empty}
use Rattle.protocol.specs.declared.Message.TheVariants.{FirstGet}
use Rattle.protocol.specs.Tables.{Tables, of_read, of_write, awaited_of, put}
use Rattle.protocol.specs.Message.{owner_of}
use Rattle.protocol.specs.Range.{Capacities, has_first}
use Rattle.protocol.specs.FastRead.{fast_reader, first_gets, started_fast_read}
use Rattle.protocol.proofs.Each.{each-upto}
use Rattle.protocol.proofs.Put.{put_same}
use Rattle.protocol.proofs.Refusals.{Idle}
use Rattle.protocol.proofs.FastRead.{first-in-set, first-struck}
use Rattle.protocol.proofs.Ranges.Values.{IsClient}
use Rattle.protocol.proofs.Ranges.Tables.{Valid}
use Rattle.condition3.proofs.Sound.{Ledger, Fits, SoundBy}
use Rattle.condition3.proofs.Sound.Carry.{carries-self}
use Rattle.condition3.proofs.Sound.Start.{begin-sound, part-counted, part-uncounted}
use Rattle.condition3.proofs.Sound.Start.{none-due}
use Rattle.condition3.proofs.Common.{is_for, by_side}

-- all is awaited, so none has come
none-come : (t : Tables) (d s k : ℕ) → has_first (fast_reader t d s).read k ≡ false
none-come t d s k =
    let p = (fast_reader t d s).read in
    by-test (has_first p k)
    (λ e. not-both (first-in-set p k e) (first-struck p k refl e)) (λ e. e)

module _ (caps : Capacities) (L : Ledger) (t : Tables) (sound : SoundBy caps L t) (d s : ℕ) where
  pub sound-fast-read : IsClient t.sizes d → Idle (t.client d) → s < 2 ^ t.sizes.items
      → Valid caps (started_fast_read t d s) → SoundBy caps L (started_fast_read t d s)
  unfolding Fits
  sound-fast-read is-client rests below ok =
      begin-sound caps L t sound L (λ r e. carries-self L t.versions r) d (fast_reader t d s)
      (first_gets t d s) is-client rests
      (by_side (λ σ. (e j : ℕ) → counted (is_for σ e j) (first_gets t d s) ≡ cond
      (eqb e d && has (awaited_of σ (fast_reader t d s)) j) 1 0)
      (part-counted of_read t.sizes.items d s below (FirstGet d) (λ k. refl) (λ k. refl)
      (λ k. refl))
      (λ e j. part-uncounted of_write t.sizes.items s (FirstGet d) (λ k. refl) e j
      ∙ sym (none-due d e j)))
      (le_refl (t.client d).count) refl ok sound.no_set sound.no_value
      (λ m. absurd (m refl)) (none-come t d s)
      (each-upto (λ x. Fits L t.versions (put t.client d (fast_reader t d s) (owner_of x)) x)
      (FirstGet d) t.sizes.items (has s)
      (λ k l e. rw (put_same t.client d (fast_reader t d s))
      (record { mode = λ z. not-both e (rw z (has-empty k)); by_item = refl })))
