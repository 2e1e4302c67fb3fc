-- The delivery of a first reply keeps the tables sound: what it brings is good, and so is every
-- stamp that the second part chooses from the first replies.
use mathlib.Core.Bool.{Bool, true, false, cond}
use mathlib.Core.List.{List, [], ◌++◌, map}
use mathlib.Core.Logic.{◌≢◌, ◌⊎◌, inl, inr}
use mathlib.Core.Path.{◌≡◌, refl, sym, ap, ◌∙◌, subst}
use Prim.Native.Nat.{ℕ, ◌+◌, ◌≤◌, ◌<◌}
use native.Mathlib.Nat.{le_refl}
use native.Mathlib.Omega.{arith}
use lib.Dec.{eqb}
use borrow.Author.Tests.{eqb-true, eqb-false}
use Rattle.basics.proofs.Cases.{by-test, not-both, eqb_same}
use Rattle.basics.specs.Lists.{counted, without}
use Rattle.basics.proofs.Lists.{counted-append}
use Rattle.itemset.specs.Set.{has, remove, members}
use Rattle.itemset.proofs.Laws.{has-empty}
use Rattle.protocol.specs.declared.Version.{Version}
use Rattle.protocol.specs.declared.Entry.{Entry}
use Rattle.protocol.specs.declared.Message.{Message}
use Rattle.protocol.specs.declared.Message.TheVariants.{Get, FirstReply}
use Rattle.protocol.specs.Tables.{Tables, Client, ReadPart, Side, of_read, of_write, awaited_of}
use Rattle.protocol.specs.Tables.{no_read, initial, entry_of, put, rested, with_read}
use Rattle.protocol.specs.Message.{owner_of}
use Rattle.protocol.specs.Range.{Capacities, has_first}
use Rattle.protocol.specs.FastRead.{replies_of, freshest, stale, first_kept, second_part, first_replied}
use Rattle.protocol.specs.FastRead.{second_gets}
use Rattle.protocol.specs.Steps.{delivered, joined, got_first, offered, ended, is_last}
use Rattle.protocol.proofs.Each.{Each, each_none, each_append, each-upto}
use Rattle.protocol.proofs.Put.{by_cond, put_same, put-every}
use Rattle.protocol.proofs.FastRead.{first-in-set, no-first, first-come, first-other, stale-below}
use Rattle.protocol.proofs.FastRead.{stale-in-set, first-unanswered}
use Rattle.protocol.proofs.Kept.Values.{no-write-awaited, fast-alone}
use Rattle.protocol.proofs.Ranges.Values.{IsClient}
use Rattle.protocol.proofs.Ranges.Clients.{ClientInRange}
use Rattle.protocol.proofs.Ranges.Tables.{Valid}
use Rattle.condition3.proofs.Sound.{Ledger, Good, GoodEntry, Writes, Last, FitsFirstReply}
use Rattle.condition3.proofs.Sound.{FitsGet, Fits, FirstValue, SoundBy}
use Rattle.condition3.proofs.Sound.Carry.{owner-client, recounted, last-recounted}
use Rattle.condition3.proofs.Sound.End.{ended-last}
use Rattle.condition3.proofs.Sound.Start.{part-counted, part-uncounted}
use Rattle.condition3.proofs.Sound.StartRead.{choice-good}
use Rattle.condition3.proofs.Sound.Delivery.{Taken, awaited-in, one-struck, likes}
use Rattle.condition3.proofs.Sound.Staying.{after_delivery, staying, grown-good}
use Rattle.condition3.proofs.Common.{is_for, of_side, by_side, left_of, Like}

-- the initial entry is good
initial-good : (caps : Capacities) (L : Ledger) (t : Tables) → SoundBy caps L t → (k : ℕ)
    → GoodEntry L t.versions k initial
initial-good caps L t sound k =
    record {
      good = record {
        mine = refl;
        whole = λ j e. not-both (rw sound.no_set at e) (has-empty j);
      };
      agrees = sym sound.no_set;
    }

-- the first replies of client d, once a good version v has come
module _ (caps : Capacities) (L : Ledger) (t : Tables) (sound : SoundBy caps L t) (d : ℕ)
    (is-client : IsClient t.sizes d) (v : Version)
    (version : GoodEntry L t.versions v.item (entry_of v)) where
  abbrev kept : ReadPart
  kept = first_kept (t.client d).read v

  kept-good : (j : ℕ) → has_first kept j ≡ true → GoodEntry L t.versions j (kept.firsts j)
  kept-good =
      put-every (λ (j : ℕ) (x : Entry). has_first kept j ≡ true → GoodEntry L t.versions j x)
      (t.client d).read.firsts v.item (entry_of v) (λ h. version)
      (λ j other h. sound.firsts d j is-client
      (sym (first-other (t.client d).read v j other) ∙ h))

  -- and their values, in the first part
  kept-value : v.value ≡ L.value v.stamp v.item → kept.stage ≡ 1
      → (j : ℕ) → has_first kept j ≡ true
      → kept.values j ≡ L.value (kept.firsts j).stamp j
  kept-value value first j h =
      by-test (eqb j v.item)
      (λ u. rw u (value ∙ sym (ap (L.value v.stamp) (eqb-true j v.item u))))
      (λ u. rw u (sound.first_values d j is-client
      (sym (first-other (t.client d).read v j (eqb-false j v.item u)) ∙ h)
      (first-unanswered (t.client d).read j first)))

  -- when all have come, as a view
  module _ (first : kept.stage ≡ 1) (over : eqb kept.awaited 0 ≡ true) where
    all_come : (j : ℕ) → has kept.set j ≡ true → has_first kept j ≡ true
    all_come j e = first-come kept j first e
        (subst (λ (x : ℕ). has x j ≡ false) (sym (eqb-true kept.awaited 0 over)) (has-empty j))

    all-good : (j : ℕ) → has kept.set j ≡ true → GoodEntry L t.versions j (kept.firsts j)
    all-good j e = kept-good j (all_come j e)

    pub replies-good : (j : ℕ) → j < t.sizes.items
        → GoodEntry L t.versions j (replies_of kept j)
    replies-good j l =
        by_cond (GoodEntry L t.versions j) (has kept.set j) (kept.firsts j) initial
        (all-good j) (λ f. initial-good caps L t sound j)

    -- what they show is good
    freshest-good : (j : ℕ) → j < t.sizes.items → has kept.set j ≡ true
        → Good L t.versions j (freshest t.sizes.items kept j)
    freshest-good j l e =
        rw e (choice-good L t (replies_of kept) t.sizes.items replies-good j l)

module _ (caps : Capacities) (L : Ledger) (t : Tables) (sound : SoundBy caps L t) (i : ℕ) (d : ℕ)
    (v : Version) (latest : Entry)
    (taken : Taken t i (FirstReply d v latest))
    (ok : Valid caps (after_delivery t i (FirstReply d v latest))) where
  abbrev c : Client
  c = t.client d

  abbrev k : ℕ
  k = v.item

  abbrev n : ℕ
  n = t.sizes.items

  -- its part with the reply kept, and as it is then
  abbrev part : ReadPart
  part = first_kept c.read v

  abbrev p : ReadPart
  p = first_replied n c.read v

  abbrev c' : Client
  c' = got_first n c v

  -- the first part is over; the read ends
  abbrev over : Bool
  over = eqb (remove c.read.awaited k) 0

  abbrev ends : Bool
  ends = eqb p.awaited 0

  fit : FitsFirstReply L t.versions c v latest
  unfolding Fits
  fit = sound.fits (FirstReply d v latest) taken.is_in

  is-client : IsClient t.sizes d
  is-client = owner-client caps L t sound (FirstReply d v latest) taken.is_in

  range : ClientInRange t.sizes c
  range = sound.valid.in_range.client d is-client

  awaited : has c.read.awaited k ≡ true
  awaited = awaited-in caps L t sound (FirstReply d v latest) taken.is_in of_read d k is-client
      (rw (eqb_same d) (eqb_same k))

  no_write_lem : c.write.set ≡ 0
  no_write_lem = fast-alone t.sizes c range fit.by_item

  none_written : c.write.awaited ≡ 0
  none_written = no-write-awaited t.sizes c.write range.write no_write_lem

  -- ---- the part and the client's record after it

  part-over : over ≡ true → p ≡ second_part n part
  part-over o = rw o refl

  part-more : over ≡ false → p ≡ part
  part-more o = rw o refl

  is-ended : ends ≡ true → c' ≡ rested c (ended (with_read c p))
  is-ended e = rw e refl

  is_open : ends ≡ false → c' ≡ with_read c p
  is_open e = rw e refl

  -- the first part goes on
  is-kept : over ≡ false → c' ≡ with_read c part
  is-kept o =
      is_open (ap (λ (q : ReadPart). eqb q.awaited 0) (part-more o) ∙ o)
      ∙ ap (with_read c) (part-more o)

  -- the second begins, with an item to fetch
  is-second : over ≡ true → (j : ℕ) → has (stale n part) j ≡ true
      → c' ≡ with_read c (second_part n part)
  is-second o j e =
      is_open (ap (λ (q : ReadPart). eqb q.awaited 0) (part-over o)
      ∙ by-test (eqb (stale n part) 0)
      (λ z. not-both e (subst (λ (x : ℕ). has x j ≡ false) (sym (eqb-true (stale n part) 0 z))
      (has-empty j))) (λ z. z))
      ∙ ap (with_read c) (part-over o)

  read-awaited : (j : ℕ) → has c'.read.awaited j ≡ has p.awaited j
  read-awaited j =
      by-test ends
      (λ e. ap (λ (x : Client). has x.read.awaited j) (is-ended e) ∙ has-empty j
      ∙ sym (subst (λ (x : ℕ). has x j ≡ false) (sym (eqb-true p.awaited 0 e)) (has-empty j)))
      (λ e. ap (λ (x : Client). has x.read.awaited j) (is_open e))

  write-awaited : (j : ℕ) → has c'.write.awaited j ≡ false
  write-awaited j =
      by-test ends
      (λ e. ap (λ (x : Client). has x.write.awaited j) (is-ended e) ∙ has-empty j)
      (λ e. ap (λ (x : Client). has x.write.awaited j) (is_open e)
      ∙ ap (λ (x : ℕ). has x j) none_written ∙ has-empty j)

  writes-none : c'.write.set ≡ 0
  writes-none =
      by-test ends (λ e. ap (λ (x : Client). x.write.set) (is-ended e))
      (λ e. ap (λ (x : Client). x.write.set) (is_open e) ∙ no_write_lem)

  count : (e : ℕ) → (t.client e).count ≤ (put t.client d c' e).count
  count =
      put-every (λ (e : ℕ) (x : Client). (t.client e).count ≤ x.count) t.client d c'
      (by-test ends (λ e. rw (is-ended e) (le_refl c.count))
      (λ e. rw (is_open e) (le_refl c.count)))
      (λ e m. le_refl (t.client e).count)

  ended_here : Last L (put t.client d c') c'.last
  ended_here =
      by-test ends
      (λ e. subst (λ (x : Client). Last L (put t.client d c') x.last) (sym (is-ended e))
      (ended-last caps L t sound d is-client (put t.client d c') count p))
      (λ e. subst (λ (x : Client). Last L (put t.client d c') x.last) (sym (is_open e))
      (last-recounted L t.client (put t.client d c') count c.last
      (sound.last d is-client)))

  -- ---- the first replies, and what they show

  abbrev FirstsGood : ReadPart → Type 0
  FirstsGood q = (j : ℕ) → has_first q j ≡ true → GoodEntry L t.versions j (q.firsts j)

  firsts-here : FirstsGood c'.read
  firsts-here =
      by-test ends
      (λ e. subst (λ (x : Client). FirstsGood x.read) (sym (is-ended e))
      (λ j h. not-both h (no-first no_read j refl)))
      (λ e. subst (λ (x : Client). FirstsGood x.read) (sym (is_open e))
      (by-test over
      (λ o. subst FirstsGood (sym (part-over o))
      (λ j h. all-good caps L t sound d is-client v fit.version fit.by_item o j
      (first-in-set (second_part n part) j h)))
      (λ o. subst FirstsGood (sym (part-more o))
      (kept-good caps L t sound d is-client v fit.version))))

  abbrev ValuesKept : ReadPart → Type 0
  ValuesKept q = (j : ℕ) → FirstValue L q j

  first-values-here : ValuesKept c'.read
  first-values-here =
      by-test ends
      (λ e. subst (λ (x : Client). ValuesKept x.read) (sym (is-ended e))
      (λ j h. not-both h (no-first no_read j refl)))
      (λ e. subst (λ (x : Client). ValuesKept x.read) (sym (is_open e))
      (by-test over
      (λ o. subst ValuesKept (sym (part-over o))
      (λ j h again. kept-value caps L t sound d is-client v fit.version fit.value
      fit.by_item j (all_come caps L t sound d is-client v fit.version fit.by_item o j
      (first-in-set (second_part n part) j h))))
      (λ o. subst ValuesKept (sym (part-more o))
      (λ j h again. kept-value caps L t sound d is-client v fit.version fit.value
      fit.by_item j h))))

  -- ---- the view

  abbrev grown : ℕ → Entry
  grown = put (t.view d) k (offered (t.view d k) v latest)

  view : (e j : ℕ) → IsClient t.sizes e → j < t.sizes.items
      → GoodEntry L t.versions j (put t.view d grown e j)
  view e j h l =
      put-every (λ (e : ℕ) (f : ℕ → Entry). IsClient t.sizes e
      → GoodEntry L t.versions j (f j)) t.view d grown
      (λ h. grown-good caps L t sound d is-client v latest fit.version fit.latest j l)
      (λ e m h. sound.view e j h l) e h

  -- ---- the messages

  abbrev js : List Message
  js = second_gets n d p

  gets-over : over ≡ true → js ≡ map (λ j. Get d j (freshest n part j)) (members n (stale n part))
  gets-over o = ap (second_gets n d) (part-over o)

  gets_more : over ≡ false → js ≡ []
  gets_more o = ap (second_gets n d) (part-more o) ∙ rw fit.by_item refl

  mine : (τ : Side) → ((of_side τ (FirstReply d v latest) ≡ true)
      × (left_of of_read c k τ ≡ remove (awaited_of τ c) k))
      ⊎ ((of_side τ (FirstReply d v latest) ≡ false) × (left_of of_read c k τ ≡ awaited_of τ c))
  mine of_read = inl (refl, refl)
  mine of_write = inr (refl, refl)

  -- one message for each item still awaited, once this one is struck
  struck : (τ : Side) (e j : ℕ) → IsClient t.sizes e
      → counted (is_for τ e j) (without i t.messages) ≡ cond
      (has (awaited_of τ (put t.client d (with_read c part) e)) j) 1 0
  struck = one-struck caps L t sound i (FirstReply d v latest) taken of_read d k refl refl mine
      (with_read c part)
      (by_side (λ τ. (j : ℕ) → has (awaited_of τ (with_read c part)) j ≡ has (left_of of_read c k τ) j)
      (λ j. refl) (λ j. refl))

  -- what is due of client e, and the gets that join: of client d those of the second part
  due-more : over ≡ false → (τ : Side) (e j : ℕ) → IsClient t.sizes e
      → counted (is_for τ e j) (without i t.messages ++ js) ≡ cond
      (has (awaited_of τ (put t.client d c' e)) j) 1 0
  unfolding counted
  due-more o τ e j h =
      counted-append (is_for τ e j) (without i t.messages) js
      ∙ ap (λ (l : List Message). counted (is_for τ e j) (without i t.messages) + counted
      (is_for τ e j) l) (gets_more o)
      ∙ omega arith
      ∙ subst (λ (x : Client). counted (is_for τ e j) (without i t.messages) ≡ cond
      (has (awaited_of τ (put t.client d x e)) j) 1 0) (sym (is-kept o)) (struck τ e j h)

  none_left : over ≡ true → (j : ℕ) → has part.awaited j ≡ false
  none_left o j = subst (λ (x : ℕ). has x j ≡ false) (sym (eqb-true part.awaited 0 o))
      (has-empty j)

  due-over : over ≡ true → (τ : Side) (e j : ℕ) → IsClient t.sizes e
      → counted (is_for τ e j) (without i t.messages ++ js) ≡ cond
      (has (awaited_of τ (put t.client d c' e)) j) 1 0
  due-over o of_read e j h =
      let gets = map (λ j. Get d j (freshest n part j)) (members n (stale n part)) in
      counted-append (is_for of_read e j) (without i t.messages) js
      ∙ ap (λ (l : List Message). counted (is_for of_read e j) (without i t.messages) + counted
      (is_for of_read e j) l) (gets-over o)
      ∙ rw (
        struck of_read e j h,
        part-counted of_read n d (stale n part) (stale-below n part)
            (λ j. Get d j (freshest n part j)) (λ j. refl) (λ j. refl) (λ j. refl) e j,
      )
      (by-test (eqb e d)
      (λ u. rw (
        u,
        none_left o j,
        read-awaited j ∙ ap (λ (q : ReadPart). has q.awaited j)
            (part-over o),
      ) (omega arith))
      (λ u. rw u (omega arith)))
  due-over o of_write e j h =
      counted-append (is_for of_write e j) (without i t.messages) js
      ∙ ap (λ (l : List Message). counted (is_for of_write e j) (without i t.messages) + counted
      (is_for of_write e j) l) (gets-over o)
      ∙ rw (
        struck of_write e j h,
        part-uncounted of_write n (stale n part) (λ j. Get d j (freshest n part j)) (λ j. refl) e j,
      )
      (by-test (eqb e d)
      (λ u. rw (u, none_written, has-empty j, write-awaited j) (omega arith))
      (λ u. rw u (omega arith)))

  one : (τ : Side) (e j : ℕ) → IsClient t.sizes e
      → counted (is_for τ e j) (without i t.messages ++ js) ≡ cond
      (has (awaited_of τ (put t.client d c' e)) j) 1 0
  one τ e j h = by-test over (λ o. due-over o τ e j h) (λ o. due-more o τ e j h)

  like : is_last of_read c k ≡ false → Like c c'
  like f =
      by-test over
      (λ o. not-both {b = is_last of_read c k} (rw (o, none_written) refl) f)
      (λ o. subst (Like c) (sym (is-kept o))
      (record {
        reads = refl;
        writes = refl;
        stamp = refl;
        asked = λ j. refl;
        stage = refl;
      }))

  abbrev FitsHere : Message → Type 0
  FitsHere x = Fits L t.versions (put t.client d c' (owner_of x)) x

  -- a get of the second part
  get-fits : over ≡ true → (j : ℕ) → j < n → has (stale n part) j ≡ true
      → FitsHere (Get d j (freshest n part j))
  unfolding Fits
  get-fits o j l e =
      let member = stale-in-set n part j e in
      subst (λ (x : Client). FitsGet L t.versions x j (freshest n part j))
      (sym (put_same t.client d c' ∙ is-second o j e))
      (record {
        mode = fit.mode;
        by_stamp = λ z. absurd (omega arith);
        asked = refl;
        good = freshest-good caps L t sound d is-client v fit.version fit.by_item o j l member;
      })

  joins : Each FitsHere js
  joins =
      by-test over
      (λ o. subst (Each FitsHere) (sym (gets-over o))
      (each-upto FitsHere (λ j. Get d j (freshest n part j)) n (has (stale n part)) (get-fits o)))
      (λ o. subst (Each FitsHere) (sym (gets_more o)) (each_none FitsHere))

  pub sound-first-reply : SoundBy caps L (after_delivery t i (FirstReply d v latest))
  unfolding delivered joined
  sound-first-reply =
      record {
        valid = ok;
        no_set = sound.no_set;
        no_value = sound.no_value;
        view = view;
        latest = sound.latest;
        versions =
            λ u q. recounted L t.client (put t.client d c') count u (sound.versions u q);
        distinct = sound.distinct;
        writes = put-every (λ (e : ℕ) (x : Client). IsClient t.sizes e → x.write.set ≢ 0
            → Writes L t.versions e x) t.client d c'
            (λ h m. absurd (m writes-none)) (λ e n h m. sound.writes e h m);
        last = put-every (λ (e : ℕ) (x : Client). IsClient t.sizes e
            → Last L (put t.client d c') x.last) t.client d c'
            (λ h. ended_here) (λ e n h. last-recounted L t.client (put t.client d c') count
            (t.client e).last (sound.last e h));
        firsts = λ e j h. put-every (λ (e : ℕ) (x : Client). IsClient t.sizes e
            → has_first x.read j ≡ true → GoodEntry L t.versions j (x.read.firsts j))
            t.client d c' (λ h. firsts-here j) (λ e n h. sound.firsts e j h) e h;
        first_values = λ e j h. put-every (λ (e : ℕ) (x : Client). IsClient t.sizes e
            → FirstValue L x.read j) t.client d c' (λ h. first-values-here j)
            (λ e n h. sound.first_values e j h) e h;
        one = one;
        fits = each_append FitsHere (without i t.messages) js
            (staying caps L t sound i (put t.client d c')
            (likes caps L t sound i
            (FirstReply d v latest) taken of_read d k refl refl mine c' like))
            joins;
      }
