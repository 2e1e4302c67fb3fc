-- The delivery of a prepared reply keeps the tables sound.
use mathlib.Core.Bool.{true, false, cond, Bool}
use mathlib.Core.List.{List, []}
use mathlib.Core.Logic.{◌≢◌, ◌⊎◌, inl, inr}
use mathlib.Core.Path.{◌≡◌, refl, sym, ◌∙◌, subst}
use Prim.Native.Nat.{ℕ, ◌≤◌, ◌<◌}
use native.Mathlib.Nat.{le_refl}
use lib.Dec.{eqb}
use borrow.Author.Tests.{eqb-true, eqb-false}
use Rattle.basics.proofs.Cases.{by-test, not-both}
use Rattle.basics.specs.Lists.{counted, without}
use Rattle.itemset.specs.Set.{has, remove}
use Rattle.itemset.proofs.Laws.{has-empty, has-remove-other}
use Rattle.protocol.specs.declared.Entry.{Entry}
use Rattle.protocol.specs.declared.Message.{Message}
use Rattle.protocol.specs.declared.Message.TheVariants.{Prepared}
use Rattle.protocol.specs.Tables.{Tables, Client, Side, of_read, of_write, awaited_of, rested, no_read}
use Rattle.protocol.specs.Tables.{writer_of, put}
use Rattle.protocol.specs.Message.{owner_of}
use Rattle.protocol.specs.Range.{Capacities, has_first}
use Rattle.protocol.specs.Steps.{delivered, joined, stored, prepared, struck, ended, seen, is_last}
use Rattle.protocol.specs.Steps.{commits}
use Rattle.protocol.proofs.Each.{Each, each_none, each_append}
use Rattle.protocol.proofs.Put.{by_cond, put-every}
use Rattle.protocol.proofs.FastRead.{no-first}
use Rattle.protocol.proofs.Ranges.Values.{IsClient}
use Rattle.protocol.proofs.Ranges.Tables.{Valid}
use Rattle.condition3.proofs.Sound.{Ledger, GoodEntry, Writes, Last, FitsPrepared, Fits}
use Rattle.condition3.proofs.Sound.{FirstValue, SoundBy}
use Rattle.condition3.proofs.Sound.Carry.{owner-client, recounted, last-recounted}
use Rattle.condition3.proofs.Sound.End.{commits-for, ended-last, seen-good, commits-fit}
use Rattle.condition3.proofs.Sound.Delivery.{Taken, one-after, likes}
use Rattle.condition3.proofs.Sound.Staying.{after_delivery, staying}
use Rattle.condition3.proofs.Common.{is_for, of_side, by_side, left_of, Like, struck-last}

module _ (caps : Capacities) (L : Ledger) (t : Tables) (sound : SoundBy caps L t) (i : ℕ) (k s : ℕ)
    (taken : Taken t i (Prepared k s))
    (ok : Valid caps (after_delivery t i (Prepared k s))) where
  abbrev d : ℕ
  d = writer_of s

  abbrev c : Client
  c = t.client d

  fit : FitsPrepared t.versions c k s
  unfolding Fits
  fit = sound.fits (Prepared k s) taken.is_in

  is-client : IsClient t.sizes d
  is-client = owner-client caps L t sound (Prepared k s) taken.is_in

  writes : Writes L t.versions d c
  writes = sound.writes d is-client fit.mode

  abbrev last : Bool
  last = is_last of_write c k

  -- an item of the set that isn't awaited once k is struck is stored
  left-arrived : (j : ℕ) → has c.write.set j ≡ true
      → has (remove c.write.awaited k) j ≡ false
      → stored t.versions j c.write.stamp ≡ true
  left-arrived j e f =
      by-test (eqb j k)
      (λ u. rw (fit.stamp, eqb-true j k u) fit.is_stored)
      (λ u. writes.arrived j e (sym (has-remove-other c.write.awaited k j (eqb-false j k u))
      ∙ f))

  arrived : last ≡ true → (j : ℕ) → has c.write.set j ≡ true
      → stored t.versions j c.write.stamp ≡ true
  arrived l j e = left-arrived j e (struck-last of_write c k l of_write j)

  abbrev entries : ℕ → Entry
  entries = cond last (seen (t.view d) c.write.set s) (t.view d)

  entries-good : (j : ℕ) → j < t.sizes.items → GoodEntry L t.versions j (entries j)
  entries-good j l =
      by-test last
      (λ e. rw e (subst (λ (x : ℕ). GoodEntry L t.versions j
      (seen (t.view d) c.write.set x j)) fit.stamp
      (seen-good caps L t sound d is-client (arrived e) (t.view d) j
      (sound.view d j is-client l))))
      (λ e. rw e (sound.view d j is-client l))

  abbrev c' : Client
  c' = prepared c k

  view : (e j : ℕ) → IsClient t.sizes e → j < t.sizes.items
      → GoodEntry L t.versions j (put t.view d entries e j)
  view e j h l =
      put-every (λ (e : ℕ) (f : ℕ → Entry). IsClient t.sizes e
      → GoodEntry L t.versions j (f j)) t.view d entries
      (λ h. entries-good j l) (λ e n h. sound.view e j h l) e h

  struck-awaited : (τ : Side) (j : ℕ) → has (awaited_of τ c') j ≡ has (left_of of_write c k τ) j
  struck-awaited =
      by_side (λ τ. (j : ℕ) → has (awaited_of τ c') j ≡ has (left_of of_write c k τ) j)
      (λ j. by-test last (λ l. rw l (has-empty j ∙ sym (struck-last of_write c k l of_read j)))
      (λ f. rw f refl))
      (λ j. by-test last (λ l. rw l (has-empty j ∙ sym (struck-last of_write c k l of_write j)))
      (λ f. rw f refl))

  like : last ≡ false → Like c c'
  like f =
      rw f (record {
        reads = refl;
        writes = refl;
        stamp = refl;
        asked = λ j. refl;
        stage = refl;
      })

  count : (e : ℕ) → (t.client e).count ≤ (put t.client d c' e).count
  count =
      put-every (λ (e : ℕ) (x : Client). (t.client e).count ≤ x.count) t.client d c'
      (by-test last (λ l. rw l (le_refl c.count)) (λ f. rw f (le_refl c.count)))
      (λ e n. le_refl (t.client e).count)

  writes-here : c'.write.set ≢ 0 → Writes L t.versions d c'
  writes-here =
      by-test last
      (λ l. rw l (λ m. absurd (m refl)))
      (λ f. rw f (λ m. record {
        newest = writes.newest;
        agrees = writes.agrees;
        values = writes.values;
        arrived = left-arrived;
      }))

  firsts-here : (j : ℕ) → has_first c'.read j ≡ true
      → GoodEntry L t.versions j (c'.read.firsts j)
  firsts-here j =
      by-test last (λ l. rw l (λ e. not-both e (no-first no_read j refl)))
      (λ f. rw f (sound.firsts d j is-client))

  first-values-here : (j : ℕ) → FirstValue L c'.read j
  first-values-here j =
      by-test last (λ l. rw l (λ e. not-both e (no-first no_read j refl)))
      (λ f. rw f (sound.first_values d j is-client))

  ended_here : Last L (put t.client d c') c'.last
  ended_here =
      by-test last
      (λ l. subst (λ (x : Client). Last L (put t.client d c') x.last) (sym (by-cond-true l))
      (ended-last caps L t sound d is-client (put t.client d c') count
      c.read))
      (λ f. subst (λ (x : Client). Last L (put t.client d c') x.last) (sym (by-cond-false f))
      (last-recounted L t.client (put t.client d c') count c.last
      (sound.last d is-client)))
    where
      by-cond-true : last ≡ true → c' ≡ rested c (ended c)
      by-cond-true e = rw e refl

      by-cond-false : last ≡ false → c' ≡ struck c k
      by-cond-false e = rw e refl

  -- what joins: commits of the whole write, for no item
  abbrev js : List Message
  js = cond last (commits t c.write.set s) []

  none-for : (σ : Side) (e j : ℕ) → counted (is_for σ e j) js ≡ 0
  unfolding counted
  none-for σ e j = by-test last (λ l. rw l (commits-for t c.write.set s σ e j)) (λ f. rw f refl)

  joins : Each (λ x. Fits L t.versions (put t.client d c' (owner_of x)) x) js
  joins =
      by_cond (Each (λ x. Fits L t.versions (put t.client d c' (owner_of x)) x)) last _ _
      (λ l. subst (λ (y : ℕ). Each (λ x. Fits L t.versions (put t.client d c' (owner_of x)) x)
      (commits t c.write.set y)) fit.stamp
      (commits-fit caps L t sound d is-client (arrived l) (λ x. put t.client d c' (owner_of x))))
      (λ f. each_none (λ x. Fits L t.versions (put t.client d c' (owner_of x)) x))

  mine : (τ : Side) → ((of_side τ (Prepared k s) ≡ true)
      × (left_of of_write c k τ ≡ remove (awaited_of τ c) k))
      ⊎ ((of_side τ (Prepared k s) ≡ false) × (left_of of_write c k τ ≡ awaited_of τ c))
  mine of_read = inr (refl, refl)
  mine of_write = inl (refl, refl)

  pub sound-prepared : SoundBy caps L (after_delivery t i (Prepared k s))
  unfolding delivered joined
  sound-prepared =
      record {
        valid = ok;
        no_set = sound.no_set;
        no_value = sound.no_value;
        view = view;
        latest = sound.latest;
        versions =
            λ v q. recounted L t.client (put t.client d c') count v (sound.versions v q);
        distinct = sound.distinct;
        writes = put-every (λ (e : ℕ) (x : Client). IsClient t.sizes e → x.write.set ≢ 0
            → Writes L t.versions e x) t.client d c'
            (λ h. writes-here) (λ e n h m. sound.writes e h m);
        last = put-every (λ (e : ℕ) (x : Client). IsClient t.sizes e
            → Last L (put t.client d c') x.last) t.client d c'
            (λ h. ended_here) (λ e n h. last-recounted L t.client (put t.client d c') count
            (t.client e).last (sound.last e h));
        firsts = λ e j h. put-every (λ (e : ℕ) (x : Client). IsClient t.sizes e
            → has_first x.read j ≡ true → GoodEntry L t.versions j (x.read.firsts j))
            t.client d c' (λ h. firsts-here j) (λ e n h. sound.firsts e j h) e h;
        first_values = λ e j h. put-every (λ (e : ℕ) (x : Client). IsClient t.sizes e
            → FirstValue L x.read j) t.client d c' (λ h. first-values-here j)
            (λ e n h. sound.first_values e j h) e h;
        one = one-after caps L t sound i
            (Prepared k s) taken of_write d k refl refl mine c' struck-awaited js none-for;
        fits = each_append (λ x. Fits L t.versions (put t.client d c' (owner_of x)) x)
            (without i t.messages) js
            (staying caps L t sound i (put t.client d c')
            (likes caps L t sound i
            (Prepared k s) taken of_write d k refl refl mine c' like)) joins;
      }
