-- The delivery of a got keeps the tables sound.
use mathlib.Core.Bool.{true, false, Bool, cond}
use mathlib.Core.List.{List, []}
use mathlib.Core.Logic.{◌≢◌, ◌⊎◌, inl, inr}
use mathlib.Core.Path.{◌≡◌, refl, sym, ap, ◌∙◌, subst}
use Prim.Native.Nat.{ℕ, ◌≤◌, ◌<◌}
use native.Mathlib.Nat.{le_refl}
use lib.Dec.{eqb}
use borrow.Author.Tests.{eqb-true, eqb-false}
use Rattle.basics.proofs.Cases.{by-test, not-both}
use Rattle.basics.specs.Lists.{counted, without}
use Rattle.itemset.specs.Set.{has, remove}
use Rattle.itemset.proofs.Laws.{has-empty, has-remove-same, has-remove-other}
use Rattle.protocol.specs.declared.Version.{Version}
use Rattle.protocol.specs.declared.Entry.{Entry}
use Rattle.protocol.specs.declared.Message.{Message}
use Rattle.protocol.specs.declared.Message.TheVariants.{Got}
use Rattle.protocol.specs.Tables.{Tables, Client, Side, of_read, of_write, awaited_of, rested, no_read}
use Rattle.protocol.specs.Tables.{put}
use Rattle.protocol.specs.Message.{owner_of}
use Rattle.protocol.specs.Range.{Capacities, has_first}
use Rattle.protocol.specs.Steps.{delivered, joined, stored, seen, commits, got, answered, offered}
use Rattle.protocol.specs.Steps.{ended, is_last}
use Rattle.protocol.proofs.Each.{Each, each_none, each_append}
use Rattle.protocol.proofs.Put.{by_cond, put-every}
use Rattle.protocol.proofs.FastRead.{no-first, first-apart, answered-first, answered-other}
use Rattle.protocol.proofs.Ranges.Values.{IsClient}
use Rattle.protocol.proofs.Ranges.Tables.{Valid}
use Rattle.condition3.proofs.Sound.{Ledger, GoodEntry, Writes, Last, FitsGot, Fits}
use Rattle.condition3.proofs.Sound.{FirstValue, SoundBy}
use Rattle.condition3.proofs.Sound.Carry.{owner-client, recounted, last-recounted}
use Rattle.condition3.proofs.Sound.End.{has_some, commits-for, ended-last, seen-good}
use Rattle.condition3.proofs.Sound.End.{commits-fit}
use Rattle.condition3.proofs.Sound.Delivery.{Taken, one-after, likes}
use Rattle.condition3.proofs.Sound.Staying.{after_delivery, staying, grown-good}
use Rattle.condition3.proofs.Common.{is_for, of_side, by_side, left_of, Like, struck-last}

module _ (caps : Capacities) (L : Ledger) (t : Tables) (sound : SoundBy caps L t) (i : ℕ) (d : ℕ)
    (v : Version) (latest : Entry)
    (taken : Taken t i (Got d v latest))
    (ok : Valid caps (after_delivery t i (Got d v latest))) where
  abbrev c : Client
  c = t.client d

  abbrev k : ℕ
  k = v.item

  fit : FitsGot L t.versions c v latest
  unfolding Fits
  fit = sound.fits (Got d v latest) taken.is_in

  is-client : IsClient t.sizes d
  is-client = owner-client caps L t sound (Got d v latest) taken.is_in

  abbrev last : Bool
  last = is_last of_read c k

  -- a write part that ends with this got has arrived
  arrived : last ≡ true → (j : ℕ) → has c.write.set j ≡ true
      → stored t.versions j c.write.stamp ≡ true
  arrived l j e = (sound.writes d is-client (has_some c.write.set j e)).arrived j e
      (struck-last of_read c k l of_write j)

  abbrev grown : ℕ → Entry
  grown = put (t.view d) k (offered (t.view d k) v latest)

  abbrev entries : ℕ → Entry
  entries = cond last (seen grown c.write.set c.write.stamp) grown

  entries-good : (j : ℕ) → j < t.sizes.items → GoodEntry L t.versions j (entries j)
  entries-good j l =
      let good = grown-good caps L t sound d is-client v latest fit.version fit.latest j l in
      by-test last
      (λ e. rw e (seen-good caps L t sound d is-client (arrived e) grown j good))
      (λ e. rw e good)

  view : (e j : ℕ) → IsClient t.sizes e → j < t.sizes.items
      → GoodEntry L t.versions j (put t.view d entries e j)
  view e j h l =
      put-every (λ (e : ℕ) (f : ℕ → Entry). IsClient t.sizes e
      → GoodEntry L t.versions j (f j)) t.view d entries
      (λ h. entries-good j l) (λ e n h. sound.view e j h l) e h

  -- the client's record after it
  abbrev c' : Client
  c' = got c k v.value

  struck-awaited : (τ : Side) (j : ℕ) → has (awaited_of τ c') j ≡ has (left_of of_read c k τ) j
  struck-awaited =
      by_side (λ τ. (j : ℕ) → has (awaited_of τ c') j ≡ has (left_of of_read c k τ) j)
      (λ j. by-test last (λ l. rw l (has-empty j ∙ sym (struck-last of_read c k l of_read j)))
      (λ f. rw f refl))
      (λ j. by-test last (λ l. rw l (has-empty j ∙ sym (struck-last of_read c k l of_write j)))
      (λ f. rw f refl))

  like : last ≡ false → Like c c'
  like f =
      rw f (record {
        reads = refl;
        writes = refl;
        stamp = refl;
        asked = λ j. refl;
        stage = refl;
      })

  count : (e : ℕ) → (t.client e).count ≤ (put t.client d c' e).count
  count =
      put-every (λ (e : ℕ) (x : Client). (t.client e).count ≤ x.count) t.client d c'
      (by-test last (λ l. rw l (le_refl c.count)) (λ f. rw f (le_refl c.count)))
      (λ e n. le_refl (t.client e).count)

  writes-here : c'.write.set ≢ 0 → Writes L t.versions d c'
  writes-here =
      by-test last
      (λ l. rw l (λ m. absurd (m refl)))
      (λ f. rw f (λ m. let w = sound.writes d is-client m in
      record { newest = w.newest; agrees = w.agrees; values = w.values; arrived = w.arrived }))

  -- in a second part the first replies stay
  firsts-here : (j : ℕ) → has_first c'.read j ≡ true
      → GoodEntry L t.versions j (c'.read.firsts j)
  firsts-here j =
      by-test last (λ l. rw l (λ e. not-both e (no-first no_read j refl)))
      (λ f. rw f (λ e. sound.firsts d j is-client
      (sym (first-apart c.read (answered c k v.value).read j fit.by_stamp refl refl)
      ∙ e)))

  -- its own item's value is the answer to the stamp asked for, the others' stay
  answered-value : (j : ℕ) → FirstValue L (answered c k v.value).read j
  answered-value j e again =
      let q = (answered c k v.value).read in
      let kept : has_first c.read j ≡ true =
      sym (first-apart c.read q j fit.by_stamp refl refl) ∙ e in
      by-test (eqb j k)
      (λ u.
      let same : j ≡ k = eqb-true j k u in
      let asked : c.read.asked j ≡ (c.read.firsts j).stamp =
      answered-first q j fit.by_stamp e again
      (rw same (has-remove-same c.read.awaited k)) in
      let stamp : (c.read.firsts j).stamp ≡ v.stamp =
      sym asked ∙ ap c.read.asked same ∙ fit.asked in
      rw u (fit.value ∙ sym (ap (L.value v.stamp) same)
      ∙ ap (λ (s : ℕ). L.value s j) (sym stamp)))
      (λ u. rw u (sound.first_values d j is-client kept
      (sym (answered-other c.read q j refl refl refl
      (has-remove-other c.read.awaited k j (eqb-false j k u))) ∙ again)))

  first-values-here : (j : ℕ) → FirstValue L c'.read j
  first-values-here j =
      by-test last (λ l. rw l (λ e. not-both e (no-first no_read j refl)))
      (λ f. rw f (answered-value j))

  ended_here : Last L (put t.client d c') c'.last
  ended_here =
      by-test last
      (λ l. subst (λ (x : Client). Last L (put t.client d c') x.last) (sym (by-cond-true l))
      (ended-last caps L t sound d is-client (put t.client d c') count
      (answered c k v.value).read))
      (λ f. subst (λ (x : Client). Last L (put t.client d c') x.last) (sym (by-cond-false f))
      (last-recounted L t.client (put t.client d c') count c.last
      (sound.last d is-client)))
    where
      by-cond-true : last ≡ true → c' ≡ rested c (ended (answered c k v.value))
      by-cond-true e = rw e refl

      by-cond-false : last ≡ false → c' ≡ answered c k v.value
      by-cond-false e = rw e refl

  -- what joins: the commits of a write part that ends
  abbrev js : List Message
  js = cond last (commits t c.write.set c.write.stamp) []

  none-for : (σ : Side) (e j : ℕ) → counted (is_for σ e j) js ≡ 0
  unfolding counted
  none-for σ e j = by-test last (λ l. rw l (commits-for t c.write.set c.write.stamp σ e j))
      (λ f. rw f refl)

  joins : Each (λ x. Fits L t.versions (put t.client d c' (owner_of x)) x) js
  joins =
      by_cond (Each (λ x. Fits L t.versions (put t.client d c' (owner_of x)) x)) last _ _
      (λ l. commits-fit caps L t sound d is-client (arrived l)
      (λ x. put t.client d c' (owner_of x)))
      (λ f. each_none (λ x. Fits L t.versions (put t.client d c' (owner_of x)) x))

  mine : (τ : Side) → ((of_side τ (Got d v latest) ≡ true)
      × (left_of of_read c k τ ≡ remove (awaited_of τ c) k))
      ⊎ ((of_side τ (Got d v latest) ≡ false) × (left_of of_read c k τ ≡ awaited_of τ c))
  mine of_read = inl (refl, refl)
  mine of_write = inr (refl, refl)

  pub sound-got : SoundBy caps L (after_delivery t i (Got d v latest))
  unfolding delivered joined
  sound-got =
      record {
        valid = ok;
        no_set = sound.no_set;
        no_value = sound.no_value;
        view = view;
        latest = sound.latest;
        versions =
            λ u q. recounted L t.client (put t.client d c') count u (sound.versions u q);
        distinct = sound.distinct;
        writes = put-every (λ (e : ℕ) (x : Client). IsClient t.sizes e → x.write.set ≢ 0
            → Writes L t.versions e x) t.client d c'
            (λ h. writes-here) (λ e n h m. sound.writes e h m);
        last = put-every (λ (e : ℕ) (x : Client). IsClient t.sizes e
            → Last L (put t.client d c') x.last) t.client d c'
            (λ h. ended_here) (λ e n h. last-recounted L t.client (put t.client d c') count
            (t.client e).last (sound.last e h));
        firsts = λ e j h. put-every (λ (e : ℕ) (x : Client). IsClient t.sizes e
            → has_first x.read j ≡ true → GoodEntry L t.versions j (x.read.firsts j))
            t.client d c' (λ h. firsts-here j) (λ e n h. sound.firsts e j h) e h;
        first_values = λ e j h. put-every (λ (e : ℕ) (x : Client). IsClient t.sizes e
            → FirstValue L x.read j) t.client d c' (λ h. first-values-here j)
            (λ e n h. sound.first_values e j h) e h;
        one = one-after caps L t sound i
            (Got d v latest) taken of_read d k refl refl mine c' struck-awaited js none-for;
        fits = each_append (λ x. Fits L t.versions (put t.client d c' (owner_of x)) x)
            (without i t.messages) js
            (staying caps L t sound i (put t.client d c')
            (likes caps L t sound i
            (Got d v latest) taken of_read d k refl refl mine c' like))
            joins;
      }
