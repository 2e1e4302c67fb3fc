-- The delivery of a get, or of a first get, keeps the tables sound: its reply takes its place.
use mathlib.Core.Bool.{cond}
use mathlib.Core.List.{[], ◌∷◌, ◌++◌}
use mathlib.Core.Path.{◌≡◌, refl, ◌∙◌}
use Prim.Native.Nat.{ℕ}
use native.Mathlib.Omega.{arith}
use Rattle.basics.specs.Lists.{counted, without}
use Rattle.basics.proofs.Lists.{counted-append}
use Rattle.itemset.specs.Set.{has}
use Rattle.protocol.specs.declared.Message.{Message}
use Rattle.protocol.specs.declared.Message.TheVariants.{Get, Got, FirstGet, FirstReply}
use Rattle.protocol.specs.Tables.{Side, awaited_of, Tables, entry_of, with_messages}
use Rattle.protocol.specs.Message.{owner_of}
use Rattle.protocol.specs.Range.{Capacities}
use Rattle.protocol.specs.Steps.{delivered, joined, answer_of}
use Rattle.protocol.proofs.Each.{each-one, each_append}
use Rattle.protocol.proofs.Ranges.Values.{IsClient}
use Rattle.protocol.proofs.Ranges.Tables.{Valid}
use Rattle.condition3.proofs.Sound.{Ledger, Good, GoodEntry, FitsGet, FitsFirstGet, Fits}
use Rattle.condition3.proofs.Sound.{SoundBy}
use Rattle.condition3.proofs.Sound.Delivery.{Taken}
use Rattle.condition3.proofs.Sound.Staying.{after_delivery, staying, same-clients, found-set}
use Rattle.condition3.proofs.Sound.Staying.{found-value}
use Rattle.condition3.proofs.Common.{is_for, by_side}

module _ (caps : Capacities) (L : Ledger) (t : Tables) (sound : SoundBy caps L t) (i : ℕ) where
  -- what a partition answers under a good stamp
  answer-good : (k s : ℕ) → Good L t.versions k s
      → GoodEntry L t.versions k (entry_of (answer_of t k s))
  answer-good k s good = record { good = good; agrees = found-set caps L t sound i k s good }

  -- a reply of the same side, client and item, that fits
  module _ (m reply : Message) (taken : Taken t i m)
      (alike : (σ : Side) (e j : ℕ) → is_for σ e j reply ≡ is_for σ e j m)
      (fits : Fits L t.versions (t.client (owner_of reply)) reply) where
    one : (σ : Side) (e j : ℕ) → IsClient t.sizes e
        → counted (is_for σ e j) (without i t.messages ++ reply ∷ []) ≡ cond
        (has (awaited_of σ (t.client e)) j) 1 0
    unfolding counted
    one σ e j h =
        counted-append (is_for σ e j) (without i t.messages) (reply ∷ [])
        ∙ rw (alike σ e j) (omega (arith, taken.split (is_for σ e j))) ∙ sound.one σ e j h

    sound-answered : Valid caps (with_messages t (without i t.messages ++ reply ∷ []))
        → SoundBy caps L (with_messages t (without i t.messages ++ reply ∷ []))
    sound-answered ok =
        record {
          valid = ok;
          no_set = sound.no_set;
          no_value = sound.no_value;
          view = sound.view;
          latest = sound.latest;
          versions = sound.versions;
          distinct = sound.distinct;
          writes = sound.writes;
          last = sound.last;
          firsts = sound.firsts;
          first_values = sound.first_values;
          one = one;
          fits = each_append (λ x. Fits L t.versions (t.client (owner_of x)) x)
              (without i t.messages) (reply ∷ [])
              (staying caps L t sound i t.client (same-clients caps L t sound i))
              (each-one (λ x. Fits L t.versions (t.client (owner_of x)) x) reply fits);
        }

  pub sound-get : (d k s : ℕ) → Taken t i (Get d k s) → Valid caps (after_delivery t i (Get d k s))
      → SoundBy caps L (after_delivery t i (Get d k s))
  unfolding delivered joined Fits
  sound-get d k s taken ok =
      let fit : FitsGet L t.versions (t.client d) k s = sound.fits (Get d k s) taken.is_in in
      sound-answered (Get d k s) (Got d (answer_of t k s) (t.latest k)) taken
      (by_side (λ σ. (e j : ℕ) → is_for σ e j (Got d (answer_of t k s) (t.latest k))
      ≡ is_for σ e j (Get d k s)) (λ e j. refl) (λ e j. refl))
      (record {
        mode = fit.mode;
        by_stamp = fit.by_stamp;
        asked = fit.asked;
        version = answer-good k s fit.good;
        value = found-value caps L t sound i k s fit.good;
        latest = sound.latest k (sound.valid.in_range.messages (Get d k s) taken.is_in).item;
      }) ok

  -- the latest is good whenever it is delivered
  pub sound-first-get : (d k : ℕ) → Taken t i (FirstGet d k)
      → Valid caps (after_delivery t i (FirstGet d k))
      → SoundBy caps L (after_delivery t i (FirstGet d k))
  unfolding delivered joined Fits
  sound-first-get d k taken ok =
      let s = (t.latest k).stamp in
      let fit : FitsFirstGet (t.client d) = sound.fits (FirstGet d k) taken.is_in in
      let latest = sound.latest k
      (sound.valid.in_range.messages (FirstGet d k) taken.is_in).item in
      sound-answered (FirstGet d k) (FirstReply d (answer_of t k s) (t.latest k)) taken
      (by_side (λ σ. (e j : ℕ) → is_for σ e j (FirstReply d (answer_of t k s) (t.latest k))
      ≡ is_for σ e j (FirstGet d k)) (λ e j. refl) (λ e j. refl))
      (record {
        mode = fit.mode;
        by_item = fit.by_item;
        version = answer-good k s latest.good;
        value = found-value caps L t sound i k s latest.good;
        latest = latest;
      }) ok
