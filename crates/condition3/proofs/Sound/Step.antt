-- Freshly made tables are sound, every call keeps them so, and no delivery from sound tables is
-- refused.
use mathlib.Core.Bool.{true, false, cond, not, ◌||◌}
use mathlib.Core.List.{List, [], ◌∷◌}
use mathlib.Core.Logic.{⊎_elim}
use mathlib.Core.Path.{◌≡◌, refl, sym, subst}
use Prim.Native.Nat.{ℕ, zero, suc, ◌<◌}
use native.Mathlib.Omega.{arith}
use lib.Dec.{eqb}
use lib.ListN.{length}
use Rattle.basics.proofs.Cases.{not-both, or_cases, or_right, eqb_same}
use Rattle.basics.specs.Lists.{In, counted}
use Rattle.itemset.specs.Set.{has}
use Rattle.itemset.proofs.Laws.{has-empty}
use Rattle.protocol.specs.declared.Message.{Message}
use Rattle.protocol.specs.declared.Message.TheVariants.{Prepare, Prepared, Commit, Get, Got}
use Rattle.protocol.specs.declared.Message.TheVariants.{FirstGet, FirstReply}
use Rattle.protocol.specs.Tables.{Sizes, Tables, of_read, of_write, initial, fresh, writer_of}
use Rattle.protocol.specs.Tables.{WritePart, awaited_of, no_read, resting, nothing}
use Rattle.protocol.specs.Range.{Capacities, sizes_in_range}
use Rattle.protocol.specs.Steps.{stored, message_at}
use Rattle.protocol.proofs.FastRead.{no-first}
use Rattle.protocol.specs.Calls.{unexpected, missing, Call, deliver, refusal, Effects, effects}
use Rattle.protocol.specs.Calls.{effect, pick, step}
use Rattle.protocol.proofs.Refusals.{Expected, tells-prepared, tells-got, tells-first-reply}
use Rattle.protocol.proofs.Refusals.{accepted-deliver}
use Rattle.protocol.proofs.Sorts.{Sort, reads, reads_fast, writes, mixes, delivers, apart, sort}
use Rattle.protocol.proofs.Keeps.{keeps}
use Rattle.protocol.proofs.Valid.{valid-fresh}
use Rattle.protocol.proofs.Ranges.Values.{IsClient}
use Rattle.protocol.proofs.Ranges.Tables.{Valid, Stamps, valid-facts}
use Rattle.condition3.proofs.Sound.{Ledger, Good, GoodEntry, Fits, Sound, SoundBy, distinct}
use Rattle.condition3.proofs.Sound.Apart.{sound-apart}
use Rattle.condition3.proofs.Sound.Carry.{owner-client}
use Rattle.condition3.proofs.Sound.Delivery.{Taken, taken, awaited-in}
use Rattle.condition3.proofs.Sound.Staying.{after_delivery}
use Rattle.condition3.proofs.Sound.DeliverPrepare.{sound-prepare}
use Rattle.condition3.proofs.Sound.DeliverPrepared.{sound-prepared}
use Rattle.condition3.proofs.Sound.DeliverCommit.{sound-commit}
use Rattle.condition3.proofs.Sound.DeliverGet.{sound-get, sound-first-get}
use Rattle.condition3.proofs.Sound.DeliverGot.{sound-got}
use Rattle.condition3.proofs.Sound.DeliverFirst.{sound-first-reply}
use Rattle.condition3.proofs.Sound.StartRead.{sound-read}
use Rattle.condition3.proofs.Sound.StartFast.{sound-fast-read}
use Rattle.condition3.proofs.Sound.StartWrite.{entered, sound-write}
use Rattle.condition3.proofs.Sound.StartMixed.{sound-mixed}
use Rattle.condition3.proofs.Common.{is_for, by_side}

-- ---- fresh tables

abbrev pub blank : Ledger
blank = record { set = λ s. 0; value = λ s k. 0 }

pub sound-fresh : (caps : Capacities) (z : Sizes) → sizes_in_range z ≡ true
    → SoundBy caps blank (fresh z)
unfolding counted distinct
sound-fresh caps z ok =
    let entry : (k : ℕ) → GoodEntry blank [] k initial =
    λ k. record {
      good = record {
        mine = refl;
        whole = λ j e. not-both e (has-empty j);
      };
      agrees = refl;
    } in
    record {
      valid = valid-facts caps (fresh z) (valid-fresh caps z ok);
      no_set = refl;
      no_value = λ k. refl;
      view = λ d k i l. entry k;
      latest = λ k l. entry k;
      versions = λ v i. absurd i;
      distinct = refl;
      writes = λ d i m. absurd (m refl);
      last = λ d i shows. not-both shows refl;
      firsts = λ d k i e. not-both e (no-first no_read k refl);
      first_values = λ d k i e. not-both e (no-first no_read k refl);
      one = by_side (λ σ. (d k : ℕ) → IsClient z d → counted (is_for σ d k) [] ≡ cond
          (has (awaited_of σ (resting 0 nothing)) k) 1 0)
          (λ d k i. rw (has-empty k) refl) (λ d k i. rw (has-empty k) refl);
      fits = λ m i. absurd i;
    }

-- ---- a call

-- each write that begins enters the ledger
abbrev pub ledger_after : Ledger → List WritePart → Ledger
ledger_after L [] = L
ledger_after L (p ∷ ps) = entered (ledger_after L ps) p.stamp p.set p.values

module _ (caps : Capacities) (L : Ledger) (t : Tables) (sound : SoundBy caps L t) where
  delivery : (i : ℕ) (m : Message) → Taken t i m → Valid caps (after_delivery t i m)
      → SoundBy caps L (after_delivery t i m)
  delivery i (Prepare v) taken ok = sound-prepare caps L t sound i v taken ok
  delivery i (Prepared k s) taken ok = sound-prepared caps L t sound i k s taken ok
  delivery i (Commit p s) taken ok = sound-commit caps L t sound i p s taken ok
  delivery i (Get d k s) taken ok = sound-get caps L t sound i d k s taken ok
  delivery i (Got d v latest) taken ok = sound-got caps L t sound i d v latest taken ok
  delivery i (FirstGet d k) taken ok = sound-first-get caps L t sound i d k taken ok
  delivery i (FirstReply d v latest) taken ok =
      sound-first-reply caps L t sound i d v latest taken ok

  sort-sound : {c : Call} → Sort caps t c → Valid caps (effects t c).tables
      → SoundBy caps (ledger_after L (effects t c).begins) (effects t c).tables
  sort-sound (reads d s a) ok =
      sound-read caps L t sound d s a.client a.idle a.set ok
  sort-sound (reads_fast d s a) ok =
      sound-fast-read caps L t sound d s a.client a.idle a.set ok
  sort-sound (writes d s bytes a) ok =
      let start = a.start in
      sound-write caps L t sound d s bytes start.client start.idle start.set ok
  sort-sound (mixes d r s bytes a) ok =
      sound-mixed caps L t sound d r s bytes a.read.client a.read.idle a.read.set
      a.write.start.set ok
  sort-sound (delivers i a) ok = delivery i (message_at t i) (taken t i a.place) ok
  sort-sound (apart c v a) ok =
      subst (λ (x : Effects). SoundBy caps (ledger_after L x.begins) x.tables) (sym a.does)
      (sound-apart caps L t sound c a)

  -- a write part under way has its client's stamp
  pub sound-stamps : Stamps t
  sound-stamps d is r w z = absurd (omega (arith, (sound.writes d is w).newest, is.0))

  pub sound-accepted : (c : Call) → refusal caps t c ≡ 0
      → SoundBy caps (ledger_after L (effects t c).begins) (effect t c)
  unfolding effect
  sound-accepted c e = sort-sound (sort caps t c e) ((keeps caps t c e).valid sound-stamps)

  -- accepted or refused
  pub sound-step : (c : Call) → Sound caps (step caps t c).tables
  unfolding step
  sound-step c = at (refusal caps t c) refl
    where
      at : (n : ℕ) → refusal caps t c ≡ n → Sound caps (pick n (effect t c) t)
      at zero e = (ledger_after L (effects t c).begins, sound-accepted c e)
      at (suc n) e = (L, sound)

  -- ---- no delivery is refused by 11 or 12

  -- a good stamp's version is stored, or initial
  is_found : (k s : ℕ) → Good L t.versions k s
      → not (eqb s 0 || stored t.versions k s) ≡ false
  is_found k s good =
      ⊎_elim (λ e. rw e refl) (λ e. rw (good.whole k e, or_right (eqb s 0) true refl) refl)
      (or_cases (eqb s 0) (has (L.set s) k) good.mine)

  expected : (m : Message) → In m t.messages → Expected t m
  unfolding Fits unexpected missing
  expected (Prepare v) here =
      record { expected = (sound.fits (Prepare v) here).unstored; found = refl }
  expected (Prepared k s) here =
      (tells-prepared t k s).1
      (record {
        awaited = awaited-in caps L t sound (Prepared k s) here of_write (writer_of s) k
            (owner-client caps L t sound (Prepared k s) here)
            (rw (eqb_same (writer_of s)) (eqb_same k));
        stamp = (sound.fits (Prepared k s) here).stamp;
      })
  expected (Commit p s) here = record { expected = refl; found = refl }
  expected (Get d k s) here =
      record { expected = refl; found = is_found k s (sound.fits (Get d k s) here).good }
  expected (Got d v latest) here =
      (tells-got t d v latest).1
      (record {
        awaited = awaited-in caps L t sound (Got d v latest) here of_read d v.item
            (owner-client caps L t sound (Got d v latest) here)
            (rw (eqb_same d) (eqb_same v.item));
        by_stamp = (sound.fits (Got d v latest) here).by_stamp;
        stamp = (sound.fits (Got d v latest) here).asked;
      })
  expected (FirstGet d k) here =
      record {
        expected = refl;
        found = is_found k (t.latest k).stamp
            (sound.latest k (sound.valid.in_range.messages (FirstGet d k) here).item).good;
      }
  expected (FirstReply d v latest) here =
      (tells-first-reply t d v latest).1
      (record {
        awaited = awaited-in caps L t sound (FirstReply d v latest) here of_read d v.item
            (owner-client caps L t sound (FirstReply d v latest) here)
            (rw (eqb_same d) (eqb_same v.item));
        by_item = (sound.fits (FirstReply d v latest) here).by_item;
      })

  pub deliverable : (i : ℕ) → i < length t.messages → refusal caps t (deliver i) ≡ 0
  deliverable i h =
      (accepted-deliver caps t i).1
      (record {
        valid = sound.valid;
        place = h;
        expected = expected (message_at t i) (taken t i h).is_in;
      })
