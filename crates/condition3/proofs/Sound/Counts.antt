-- No stamp anywhere in sound tables is above its client's count: what is whole is stored, and what
-- is stored or under way is counted.
use mathlib.Core.Bool.{true}
use mathlib.Core.Logic.{◌≢◌, ⊎_elim}
use mathlib.Core.Path.{◌≡◌, refl, sym, subst}
use Prim.Native.Nat.{ℕ, ◌≤◌, ◌<◌}
use native.Mathlib.Omega.{arith}
use lib.Dec.{eqb}
use borrow.Author.Tests.{eqb-true}
use Rattle.basics.proofs.Cases.{or_cases, not-both}
use Rattle.basics.specs.Lists.{In}
use Rattle.itemset.specs.Set.{has}
use Rattle.protocol.specs.declared.Message.{Message}
use Rattle.protocol.specs.declared.Message.TheVariants.{Prepare, Prepared, Commit, Get, Got}
use Rattle.protocol.specs.declared.Message.TheVariants.{FirstGet, FirstReply}
use Rattle.protocol.specs.Tables.{Tables, number_of, writer_of}
use Rattle.protocol.specs.Message.{parts_of, is_any_get, item_of}
use Rattle.protocol.specs.Calls.{sought_by}
use Rattle.protocol.specs.Range.{Capacities}
use Rattle.protocol.specs.Steps.{stored, found}
use Rattle.protocol.specs.Clear.{mentions}
use Rattle.protocol.proofs.Cleared.{Covers}
use Rattle.protocol.proofs.Stored.{found-held}
use Rattle.protocol.proofs.Ranges.Values.{IsClient}
use Rattle.condition3.proofs.Sound.{Ledger, Good, Counted, Fits, SoundBy}
use Rattle.condition3.proofs.Sound.Carry.{owner-client}
use Rattle.condition3.proofs.Sound.Staying.{write-number}

module _ (caps : Capacities) (L : Ledger) (t : Tables) (sound : SoundBy caps L t) where
  pub stored-counted : (k s : ℕ) → stored t.versions k s ≡ true → Counted t.client s
  stored-counted k s e =
      let held = found-held t.versions k s e in
      subst (Counted t.client) held.stamp
      (sound.versions (found t.versions k s) held.is_in).number

  zero-counted : Counted t.client 0
  zero-counted = omega arith

  pub good-counted : (k s : ℕ) → Good L t.versions k s → Counted t.client s
  good-counted k s x =
      ⊎_elim (λ e. subst (Counted t.client) (sym (eqb-true s 0 e)) zero-counted)
      (λ e. stored-counted k s (x.whole k e)) (or_cases (eqb s 0) (has (L.set s) k) x.mine)

  pub write-counted : (d : ℕ) → IsClient t.sizes d → (t.client d).write.set ≢ 0
      → Counted t.client (t.client d).write.stamp
  write-counted d i m =
      let w = sound.writes d i m in
      let small : d < 16 = omega (arith, sound.valid.in_range.sizes.clients) in
      let writer : writer_of (t.client d).write.stamp ≡ d = omega (arith, w.newest) in
      subst (λ (e : ℕ). number_of (t.client d).write.stamp ≤ (t.client e).count) (sym writer)
      (write-number L t.versions d (t.client d) small w)

  -- the stamps of a message, its own and its latest's, are counted; the one that a get is for, of
  -- either kind, is good
  pub record Stamps (m : Message) : Type 0 where
    pub own : Counted t.client (parts_of m).stamp
    pub latest : Counted t.client (parts_of m).latest.stamp
    pub asked : is_any_get m ≡ true → Good L t.versions (item_of m) (sought_by t m)

  pub stamps : (m : Message) → In m t.messages → Stamps m
  unfolding Fits
  stamps (Prepare v) i =
      let fit = sound.fits (Prepare v) i in
      record {
        own = subst (Counted t.client) fit.stamp
            (write-counted (writer_of v.stamp) (owner-client caps L t sound (Prepare v) i)
            fit.mode);
        latest = zero-counted;
        asked = λ e. not-both e refl;
      }
  stamps (Prepared k r) i =
      record {
        own = stored-counted k r (sound.fits (Prepared k r) i).is_stored;
        latest = zero-counted;
        asked = λ e. not-both e refl;
      }
  stamps (Commit p r) i =
      let fit = sound.fits (Commit p r) i in
      record {
        own = stored-counted fit.item r fit.some;
        latest = zero-counted;
        asked = λ e. not-both e refl;
      }
  stamps (Get d k r) i =
      let good = (sound.fits (Get d k r) i).good in
      record { own = good-counted k r good; latest = zero-counted; asked = λ e. good }
  stamps (Got d v l) i =
      let fit = sound.fits (Got d v l) i in
      record {
        own = good-counted v.item v.stamp fit.version.good;
        latest = good-counted v.item l.stamp fit.latest.good;
        asked = λ e. not-both e refl;
      }
  stamps (FirstGet d k) i =
      record {
        own = zero-counted;
        latest = zero-counted;
        asked = λ e. (sound.latest k (sound.valid.in_range.messages (FirstGet d k) i).item).good;
      }
  stamps (FirstReply d v l) i =
      let fit = sound.fits (FirstReply d v l) i in
      record {
        own = good-counted v.item v.stamp fit.version.good;
        latest = good-counted v.item l.stamp fit.latest.good;
        asked = λ e. not-both e refl;
      }

  message-counted : (m : Message) → In m t.messages → (s : ℕ) → mentions s m ≡ true
      → Counted t.client s
  unfolding mentions
  message-counted m i s e =
      let own = (parts_of m).stamp in
      let latest = (parts_of m).latest.stamp in
      ⊎_elim (λ f. subst (Counted t.client) (eqb-true own s f) (stamps m i).own)
      (λ f. subst (Counted t.client) (eqb-true latest s f) (stamps m i).latest)
      (or_cases (eqb own s) (eqb latest s) e)

  pub counted-covered : Covers (Counted t.client) t
  counted-covered =
      record {
        view = λ d k i l. good-counted k (t.view d k).stamp (sound.view d k i l).good;
        latest = λ k l. good-counted k (t.latest k).stamp (sound.latest k l).good;
        message = message-counted;
        write = write-counted;
        first = λ d k i l e. good-counted k ((t.client d).read.firsts k).stamp
            (sound.firsts d k i e).good;
      }
