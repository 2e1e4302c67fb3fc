-- The delivery of a prepare keeps the tables sound.
use mathlib.Core.Bool.{false, cond}
use mathlib.Core.List.{List, [], ◌∷◌, ◌++◌}
use mathlib.Core.Logic.{inl}
use mathlib.Core.Path.{◌≡◌, refl, ◌∙◌, subst}
use Prim.Native.Nat.{ℕ, ◌≤◌}
use native.Mathlib.Omega.{arith}
use lib.Dec.{eqb}
use borrow.Author.Tests.{eqb-true}
use Rattle.basics.proofs.Cases.{by-test, not-both, and_left, and_right, eqb_same}
use Rattle.basics.specs.Lists.{In, counted, without}
use Rattle.basics.proofs.Lists.{in_right, in_without, counted-append}
use Rattle.itemset.specs.Set.{has}
use Rattle.protocol.specs.declared.Version.{Version}
use Rattle.protocol.specs.declared.Message.{Message}
use Rattle.protocol.specs.declared.Message.TheVariants.{Prepare, Prepared}
use Rattle.protocol.specs.Tables.{Side, of_read, of_write, awaited_of, Tables, number_of, writer_of}
use Rattle.protocol.specs.Message.{owner_of}
use Rattle.protocol.specs.Range.{Capacities}
use Rattle.protocol.specs.Steps.{delivered, joined, stored, alike}
use Rattle.protocol.proofs.Each.{each-one, each_append}
use Rattle.protocol.proofs.Stored.{in-stored, stored-append, stored_more}
use Rattle.protocol.proofs.Ranges.Values.{IsClient}
use Rattle.protocol.proofs.Ranges.Tables.{Valid}
use Rattle.condition3.proofs.Sound.{Ledger, Kept, FitsPrepare, Fits, SoundBy}
use Rattle.condition3.proofs.Sound.Carry.{Carries, Any, all-covered, owner-client}
use Rattle.condition3.proofs.Sound.Carry.{view-carried, latest-carried, writes-carried}
use Rattle.condition3.proofs.Sound.Carry.{firsts-carried, fits-carried}
use Rattle.condition3.proofs.Sound.Delivery.{Taken, not-again}
use Rattle.condition3.proofs.Sound.Distinct.{distinct_append}
use Rattle.condition3.proofs.Sound.Staying.{after_delivery, write-number, small}
use Rattle.condition3.proofs.Common.{is_for, like-self}

module _ (caps : Capacities) (L : Ledger) (t : Tables) (sound : SoundBy caps L t) (i : ℕ) where
  module _ (v : Version) (taken : Taken t i (Prepare v))
      (ok : Valid caps (after_delivery t i (Prepare v))) where
    abbrev vs' : List Version
    vs' = t.versions ++ v ∷ []

    abbrev d : ℕ
    d = writer_of v.stamp

    fit : FitsPrepare L t.versions (t.client d) v
    unfolding Fits
    fit = sound.fits (Prepare v) taken.is_in

    is-client : IsClient t.sizes d
    is-client = owner-client caps L t sound (Prepare v) taken.is_in

    carries : (s : ℕ) → Any s → Carries L L t.versions vs' s
    carries s e = record {
      set = refl;
      value = λ k f. refl;
      keeps = λ k f. stored_more t.versions (v ∷ []) k s f;
    }

    new : Kept L t.client v
    new =
        record {
          agrees = fit.agrees;
          value = fit.value;
          number = subst (λ (s : ℕ). number_of s ≤ (t.client d).count) fit.stamp
              (write-number L t.versions d (t.client d) (small caps L t sound i d is-client)
              (sound.writes d is-client fit.mode));
        }

    unstored : (x : Message) → In x (without i t.messages) → (u : Version) → x ≡ Prepare u
        → stored t.versions u.item u.stamp ≡ false
        → stored vs' u.item u.stamp ≡ false
    unfolding stored
    unstored x p u e f =
        stored-append t.versions (v ∷ []) u.item u.stamp
        ∙ rw f
        (by-test (alike u.item u.stamp v)
        (λ a.
        let item : v.item ≡ u.item =
        eqb-true v.item u.item
        (and_left (eqb v.item u.item) (eqb v.stamp u.stamp) a) in
        let stamp : v.stamp ≡ u.stamp =
        eqb-true v.stamp u.stamp
        (and_right (eqb v.item u.item) (eqb v.stamp u.stamp) a) in
        not-both {b = is_for of_write d v.item x}
        (rw e (rw (item, stamp, eqb_same (writer_of u.stamp)) (eqb_same u.item)))
        (not-again caps L t sound i (Prepare v) taken of_write d v.item is-client
        (rw (eqb_same d) (eqb_same v.item)) x p))
        (λ a. rw a refl))

    one : (σ : Side) (e k : ℕ) → IsClient t.sizes e
        → counted (is_for σ e k) (without i t.messages ++ Prepared v.item v.stamp ∷ [])
        ≡ cond (has (awaited_of σ (t.client e)) k) 1 0
    unfolding counted
    one of_read e k h =
        counted-append (is_for of_read e k) (without i t.messages)
        (Prepared v.item v.stamp ∷ [])
        ∙ omega (arith, taken.split (is_for of_read e k)) ∙ sound.one of_read e k h
    one of_write e k h =
        counted-append (is_for of_write e k) (without i t.messages)
        (Prepared v.item v.stamp ∷ [])
        ∙ omega (arith, taken.split (is_for of_write e k)) ∙ sound.one of_write e k h

    joins : Fits L vs' (t.client (owner_of (Prepared v.item v.stamp)))
        (Prepared v.item v.stamp)
    unfolding Fits
    joins = record {
      mode = fit.mode;
      stamp = fit.stamp;
      is_stored = in-stored v vs' (in_right v t.versions (v ∷ []) (inl refl));
    }

    pub sound-prepare : SoundBy caps L (after_delivery t i (Prepare v))
    unfolding delivered joined
    sound-prepare =
        record {
          valid = ok;
          no_set = sound.no_set;
          no_value = sound.no_value;
          view = view-carried caps L t sound Any (all-covered t) L vs' carries;
          latest = latest-carried caps L t sound Any (all-covered t) L vs' carries;
          versions = each_append (Kept L t.client) t.versions (v ∷ []) sound.versions
              (each-one (Kept L t.client) v new);
          distinct = distinct_append t.versions v sound.distinct fit.unstored;
          writes = writes-carried caps L t sound Any (all-covered t) L vs' carries;
          last = sound.last;
          firsts = firsts-carried caps L t sound Any (all-covered t) L vs' carries;
          first_values = sound.first_values;
          one = one;
          fits = each_append (λ x. Fits L vs' (t.client (owner_of x)) x) (without i t.messages)
              (Prepared v.item v.stamp ∷ [])
              (λ x p. fits-carried caps L t sound Any (all-covered t) L vs' carries x
              (in_without x i t.messages p) (t.client (owner_of x))
              (λ e. like-self (t.client (owner_of x))) (unstored x p))
              (each-one (λ x. Fits L vs' (t.client (owner_of x)) x)
              (Prepared v.item v.stamp) joins);
        }
