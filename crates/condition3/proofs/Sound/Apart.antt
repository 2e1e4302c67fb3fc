-- A call apart keeps the tables sound: a good entry of one client's view is one of another's, and
-- every stamp that a rule speaks of is in use, so that all its versions stay.
use mathlib.Core.Bool.{false}
use mathlib.Core.Path.{◌≡◌, refl, sym, subst}
use Prim.Native.Nat.{ℕ}
use Rattle.basics.proofs.Lists.{sublist-in}
use Rattle.protocol.specs.Tables.{Tables}
use Rattle.protocol.specs.Message.{owner_of}
use Rattle.protocol.specs.Range.{Capacities}
use Rattle.protocol.specs.Clear.{unused}
use Rattle.protocol.specs.Calls.{Call}
use Rattle.protocol.proofs.Stored.{unstored-sublist}
use Rattle.protocol.proofs.Cleared.{used-covered}
use Rattle.protocol.proofs.Sorts.{aside, Apart}
use Rattle.protocol.proofs.Keeps.{valid-apart}
use Rattle.condition3.proofs.Sound.{Ledger, GoodEntry, SoundBy}
use Rattle.condition3.proofs.Sound.Carry.{Carries, view-carried, latest-carried}
use Rattle.condition3.proofs.Sound.Carry.{writes-carried, firsts-carried, fits-carried}
use Rattle.condition3.proofs.Sound.Distinct.{distinct-sublist}
use Rattle.condition3.proofs.Common.{like-self}

module _ (caps : Capacities) (L : Ledger) (t : Tables) (sound : SoundBy caps L t) (c : Call)
    (a : Apart t c) where
  abbrev Used : ℕ → Type 0
  Used s = unused t s ≡ false

  carries : (s : ℕ) → Used s → Carries L L t.versions a.versions s
  carries s used = record { set = refl; value = λ k e. refl; keeps = a.spares s used }

  pub sound-apart : SoundBy caps L (aside t a.view a.versions)
  sound-apart =
      record {
        valid = valid-apart caps t c sound.valid a;
        no_set = sound.no_set;
        no_value = sound.no_value;
        view = λ d k i l.
            let from = a.taken d k i l in
            subst (GoodEntry L a.versions k) (sym from.2)
            (view-carried caps L t sound Used (used-covered t) L a.versions carries
            from.0 k from.1 l);
        latest = latest-carried caps L t sound Used (used-covered t) L a.versions carries;
        versions = λ v i. sound.versions v (sublist-in a.fewer v i);
        distinct = distinct-sublist a.fewer sound.distinct;
        writes = writes-carried caps L t sound Used (used-covered t) L a.versions carries;
        last = sound.last;
        firsts = firsts-carried caps L t sound Used (used-covered t) L a.versions carries;
        first_values = sound.first_values;
        one = sound.one;
        fits = λ m i.
            fits-carried caps L t sound Used (used-covered t) L a.versions carries m i
            (t.client (owner_of m)) (λ e. like-self (t.client (owner_of m)))
            (λ v e. unstored-sublist a.versions t.versions a.fewer v.item v.stamp);
      }
