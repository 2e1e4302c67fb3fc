-- The start of a mixed transaction keeps the tables sound: its read part is a read's, its write
-- part a write's, and its gets ask for stamps that the ledger had before.
use mathlib.Core.Bool.{cond, ◌&&◌}
use mathlib.Core.List.{List}
use mathlib.Core.Path.{◌≡◌, refl, ◌∙◌}
use Prim.Native.Nat.{ℕ, ◌^◌, ◌<◌}
use native.Mathlib.Omega.{arith}
use lib.Dec.{eqb}
use Rattle.basics.specs.Lists.{counted}
use Rattle.basics.proofs.Lists.{counted-append}
use Rattle.itemset.specs.Set.{has}
use Rattle.protocol.specs.declared.Message.{Message}
use Rattle.protocol.specs.declared.Message.TheVariants.{Get}
use Rattle.protocol.specs.Tables.{Tables, of_read, of_write, awaited_of, put}
use Rattle.protocol.specs.Message.{owner_of}
use Rattle.protocol.specs.Range.{Capacities}
use Rattle.protocol.specs.Steps.{asks, reader, gets, next_stamp, value_of, prepares, mixer}
use Rattle.protocol.specs.Steps.{mixed_messages, started_mixed}
use Rattle.protocol.proofs.Each.{each_append}
use Rattle.protocol.proofs.FastRead.{no-first}
use Rattle.protocol.proofs.Refusals.{Idle}
use Rattle.protocol.proofs.Ranges.Values.{IsClient}
use Rattle.protocol.proofs.Ranges.Tables.{Valid}
use Rattle.condition3.proofs.Sound.{Ledger, Counted, Fits, SoundBy}
use Rattle.condition3.proofs.Sound.Carry.{view-carried}
use Rattle.condition3.proofs.Sound.Counts.{counted-covered}
use Rattle.condition3.proofs.Sound.Start.{begin-sound, part-counted, part-uncounted}
use Rattle.condition3.proofs.Sound.StartRead.{gets-fit}
use Rattle.condition3.proofs.Sound.StartWrite.{entered, carries, writes-new, prepares-fit}
use Rattle.condition3.proofs.Sound.StartWrite.{new-no_set, new-no_value, prepares-counted}
use Rattle.condition3.proofs.Sound.StartWrite.{prepares-uncounted}
use Rattle.condition3.proofs.Common.{is_for, by_side}

module _ (caps : Capacities) (L : Ledger) (t : Tables) (sound : SoundBy caps L t) (d r s : ℕ)
    (bytes : List ℕ) (is-client : IsClient t.sizes d) where
  abbrev L' : Ledger
  L' = entered L (next_stamp t d) s (value_of s bytes)

  pub sound-mixed : Idle (t.client d) → r < 2 ^ t.sizes.items → s < 2 ^ t.sizes.items
      → Valid caps (started_mixed t d r s bytes) → SoundBy caps L' (started_mixed t d r s bytes)
  sound-mixed rests below below' ok =
      let c = mixer t d r s bytes in
      let n = t.sizes.items in
      let newer = carries caps L t sound d s bytes is-client in
      let asking : ℕ → Message = λ k. Get d k (asks t d k) in
      begin-sound caps L t sound L' newer d c (mixed_messages t d r s bytes) is-client rests
      (by_side (λ σ. (e j : ℕ) → counted (is_for σ e j) (mixed_messages t d r s bytes) ≡ cond
      (eqb e d && has (awaited_of σ c) j) 1 0)
      (λ e j. counted-append (is_for of_read e j) (gets t d r) (prepares t d s bytes)
      ∙ omega (arith, prepares-uncounted caps L t sound d s bytes is-client e j)
      ∙ part-counted of_read n d r below asking (λ k. refl) (λ k. refl) (λ k. refl) e j)
      (λ e j. counted-append (is_for of_write e j) (gets t d r) (prepares t d s bytes)
      ∙ omega (arith, part-uncounted of_write n r asking (λ k. refl) e j)
      ∙ prepares-counted caps L t sound d s bytes is-client below' e j))
      (omega arith) refl ok
      (new-no_set caps L t sound d s bytes is-client)
      (new-no_value caps L t sound d s bytes is-client)
      (λ m. writes-new caps L t sound d s bytes is-client c refl refl)
      (λ k. no-first (reader t d r).read k refl)
      (each_append (λ x. Fits L' t.versions (put t.client d c (owner_of x)) x) (gets t d r)
      (prepares t d s bytes)
      (gets-fit L' t d r below
      (λ j l. view-carried caps L t sound (Counted t.client) (counted-covered caps L t sound) L'
      t.versions newer d j is-client l) c refl)
      (prepares-fit caps L t sound d s bytes is-client c refl refl))
