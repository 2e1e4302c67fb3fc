-- The delivery of a commit keeps the tables sound.
use mathlib.Core.Bool.{true, cond, ◌&&◌}
use mathlib.Core.List.{[], ◌++◌}
use mathlib.Core.Path.{◌≡◌, ap, ◌∙◌, subst}
use Prim.Native.Nat.{ℕ, ◌<◌}
use native.Mathlib.Omega.{arith}
use lib.Dec.{eqb}
use Rattle.basics.proofs.Cases.{by-test, and_right, or_right}
use Rattle.basics.specs.Lists.{counted, without}
use Rattle.basics.proofs.Lists.{counted-append}
use Rattle.itemset.specs.Set.{has}
use Rattle.protocol.specs.declared.Version.{Version}
use Rattle.protocol.specs.declared.Message.TheVariants.{Commit}
use Rattle.protocol.specs.Tables.{Side, of_read, of_write, awaited_of, Tables, partition_of}
use Rattle.protocol.specs.Message.{owner_of}
use Rattle.protocol.specs.Range.{Capacities}
use Rattle.protocol.specs.Steps.{delivered, joined, stored, found, committed}
use Rattle.protocol.proofs.Each.{each_none, each_append}
use Rattle.protocol.proofs.Stored.{found-held}
use Rattle.protocol.proofs.Ranges.Values.{IsClient}
use Rattle.protocol.proofs.Ranges.Tables.{Valid}
use Rattle.condition3.proofs.Sound.{Ledger, GoodEntry, Kept, FitsCommit, Fits, SoundBy}
use Rattle.condition3.proofs.Sound.Carry.{later-good}
use Rattle.condition3.proofs.Sound.Delivery.{Taken}
use Rattle.condition3.proofs.Sound.Staying.{after_delivery, staying, same-clients}
use Rattle.condition3.proofs.Common.{is_for}

module _ (caps : Capacities) (L : Ledger) (t : Tables) (sound : SoundBy caps L t) (i : ℕ) where
  module _ (p s : ℕ) (taken : Taken t i (Commit p s))
      (ok : Valid caps (after_delivery t i (Commit p s))) where
    fit : FitsCommit L t.versions s
    unfolding Fits
    fit = sound.fits (Commit p s) taken.is_in

    -- what is stored of the stamp holds its set
    entry : (k : ℕ) → stored t.versions k s ≡ true
        → GoodEntry L t.versions k (record { stamp = s; set = (found t.versions k s).set })
    entry k e =
        let v : Version = found t.versions k s in
        let held = found-held t.versions k s e in
        let kept : Kept L t.client v = sound.versions v held.is_in in
        let own : has v.set v.item ≡ true =
        (sound.valid.in_range.versions v held.is_in).own in
        let agrees : v.set ≡ L.set s = kept.agrees ∙ ap L.set held.stamp in
        record {
          good = record {
            mine = or_right (eqb s 0) (has (L.set s) k)
                (subst (λ (j : ℕ). has (L.set s) j ≡ true) held.item
                (subst (λ (x : ℕ). has x v.item ≡ true) agrees own));
            whole = fit.whole;
          };
          agrees = agrees;
        }

    latest : (k : ℕ) → k < t.sizes.items → GoodEntry L t.versions k (committed t p s k)
    latest k l =
        by-test (eqb (partition_of t k) p && stored t.versions k s)
        (λ e. rw e
        (later-good L t.versions k (t.latest k)
        (record { stamp = s; set = (found t.versions k s).set }) (sound.latest k l)
        (entry k (and_right (eqb (partition_of t k) p) (stored t.versions k s) e))))
        (λ e. rw e (sound.latest k l))

    one : (σ : Side) (d k : ℕ) → IsClient t.sizes d
        → counted (is_for σ d k) (without i t.messages ++ []) ≡ cond
        (has (awaited_of σ (t.client d)) k) 1 0
    unfolding counted
    one of_read d k h =
        counted-append (is_for of_read d k) (without i t.messages) []
        ∙ omega (arith, taken.split (is_for of_read d k)) ∙ sound.one of_read d k h
    one of_write d k h =
        counted-append (is_for of_write d k) (without i t.messages) []
        ∙ omega (arith, taken.split (is_for of_write d k)) ∙ sound.one of_write d k h

    pub sound-commit : SoundBy caps L (after_delivery t i (Commit p s))
    unfolding delivered joined
    sound-commit =
        record {
          valid = ok;
          no_set = sound.no_set;
          no_value = sound.no_value;
          view = sound.view;
          latest = latest;
          versions = sound.versions;
          distinct = sound.distinct;
          writes = sound.writes;
          last = sound.last;
          firsts = sound.firsts;
          first_values = sound.first_values;
          one = one;
          fits = each_append (λ x. Fits L t.versions (t.client (owner_of x)) x)
              (without i t.messages) []
              (staying caps L t sound i t.client (same-clients caps L t sound i))
              (each_none (λ x. Fits L t.versions (t.client (owner_of x)) x));
        }
