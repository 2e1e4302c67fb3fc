-- Tables that pass the check are sound, by the ledger that they themselves give: of each stamp the
-- set that its first copy has, and its values as they are stored or under way.
use mathlib.Core.Bool.{true, false, cond, not, ◌||◌}
use mathlib.Core.Logic.{◌≢◌, ⊎_elim}
use mathlib.Core.Path.{◌≡◌, refl, sym, ap, ◌∙◌, subst}
use Prim.Native.Nat.{ℕ, ◌^◌, ◌≤◌, ◌<◌}
use native.Mathlib.Omega.{arith}
use lib.Dec.{eqb}
use borrow.Author.Tests.{eqb-true, eqb-false, ne_eqb, leb-true}
use Rattle.basics.proofs.Cases.{by-test, not-both, and_left, and_right, or_cases, not-true}
use Rattle.basics.proofs.Cases.{eqb_same}
use Rattle.basics.specs.Lists.{In, all, counted, every}
use Rattle.basics.proofs.Lists.{every-at, at_every, counted-in}
use Rattle.itemset.specs.Set.{has}
use Rattle.itemset.proofs.Laws.{has-empty, has-below}
use Rattle.protocol.specs.declared.Version.{Version}
use Rattle.protocol.specs.declared.Entry.{Entry}
use Rattle.protocol.specs.declared.Message.{Message}
use Rattle.protocol.specs.declared.Message.TheVariants.{Prepare, Prepared, Commit, Get, Got}
use Rattle.protocol.specs.declared.Message.TheVariants.{FirstGet, FirstReply}
use Rattle.protocol.specs.Tables.{Tables, Client, Side, of_read, of_write, awaited_of, stamp_of}
use Rattle.protocol.specs.Tables.{entry_of, writer_of}
use Rattle.protocol.specs.Message.{parts_of, is_any_got, item_of, owner_of}
use Rattle.protocol.specs.Range.{Capacities, is_writing, has_first}
use Rattle.protocol.specs.Steps.{stored, found}
use Rattle.protocol.specs.Check.{entry_in, written_by, sets_held, write_set, is_whole, whole_or_initial}
use Rattle.protocol.specs.Check.{writes, agrees, stored_value, answered_again, fits_client, one_each}
use Rattle.protocol.proofs.Stored.{in-stored, found-held, held-stored, not_found}
use Rattle.protocol.proofs.FastRead.{first-in-set}
use Rattle.protocol.proofs.Each.{Each}
use Rattle.protocol.proofs.Tells.{tells}
use Rattle.protocol.proofs.Ranges.Values.{IsClient, owner-in-range}
use Rattle.protocol.proofs.Ranges.Tables.{Valid}
use Rattle.protocol.proofs.CheckWords.{one-all}
use Rattle.protocol.proofs.Checks.{whole-version, Checks, held-each, version-held, write-held}
use Rattle.protocol.proofs.Checks.{last-held, write_set-below, found-itself}
use Rattle.condition3.specs.Held.{under_way, held_value}
use Rattle.condition3.proofs.Sound.{Ledger, Good, GoodEntry, Kept, Writes, Last, FirstValue}
use Rattle.condition3.proofs.Sound.{Fits, SoundBy}
use Rattle.condition3.proofs.Sound.End.{has_some}
use Rattle.condition3.proofs.Common.{is_for, of_side, by_side}

abbrev pub ledger_of : Tables → Ledger
ledger_of t = record { set = write_set t; value = held_value t }

-- a set that isn't empty is one of a write under way
pub is-writing : (c : Client) → c.write.set ≢ 0 → is_writing c ≡ true
is-writing c m = rw (ne_eqb c.write.set 0 m) refl

pub writing-some : (c : Client) → is_writing c ≡ true → c.write.set ≢ 0
writing-some c e = eqb-false c.write.set 0 (not-true (eqb c.write.set 0) e)

module _ (caps : Capacities) (t : Tables) (valid : Valid caps t) (c : Checks t) where
  abbrev L : Ledger
  L = ledger_of t

  abbrev n : ℕ
  n = t.sizes.items

  -- ---- sets

  sets_below : Each (λ e. e.set < 2 ^ n) (sets_held t)
  sets_below =
      held-each (λ e. e.set < 2 ^ n) t
      (λ v i. (valid.in_range.versions v i).set)
      (λ d i w. (valid.in_range.client d i).write.set)
      (λ d i s. ((valid.in_range.client d i).last.write s).set)

  set-zero : write_set t 0 ≡ 0
  unfolding write_set
  set-zero = refl

  held-agrees : (e : Entry) → In e (sets_held t) → e.set ≡ write_set t e.stamp
  held-agrees e i = eqb-true e.set (write_set t e.stamp) (c.agree_held e i)

  -- ---- whole stamps

  none-held : (j : ℕ) → has (write_set t 0) j ≡ false
  none-held j = rw set-zero (has-empty j)

  all-stored : (s : ℕ) → is_whole t s ≡ true → (j : ℕ) → has (write_set t s) j ≡ true
      → stored t.versions j s ≡ true
  unfolding is_whole
  all-stored s e j h =
      let f : (not (has (write_set t s) j) || stored t.versions j s) ≡ true =
      every-at n (λ k. not (has (write_set t s) k) || stored t.versions k s)
      (and_right (not (all (λ v. not (eqb v.stamp s)) t.versions))
      (every n (λ k. not (has (write_set t s) k) || stored t.versions k s)) e) j
      (has-below (write_set t s) j n (write_set-below t n sets_below s) h) in
      rw h at f

  good : (k s : ℕ) → whole_or_initial t s ≡ true → writes t k s ≡ true → Good L t.versions k s
  good k s w h =
      record {
        mine = h;
        whole = ⊎_elim
            (λ z j e. not-both e (subst (λ (r : ℕ). has (write_set t r) j ≡ false)
            (sym (eqb-true s 0 z)) (none-held j)))
            (λ x. all-stored s x) (or_cases (eqb s 0) (is_whole t s) w);
      }

  good-entry : (k : ℕ) (e : Entry) → whole_or_initial t e.stamp ≡ true
      → writes t k e.stamp ≡ true → agrees t e ≡ true → GoodEntry L t.versions k e
  good-entry k e w h a =
      record {
        good = good k e.stamp w h;
        agrees = eqb-true e.set (write_set t e.stamp) a;
      }

  -- ---- values

  -- what is stored of a write under way are its values
  stored-under : (k s : ℕ) → IsClient t.sizes (writer_of s) → under_way t s ≡ true
      → has (write_set t s) k ≡ true → stored t.versions k s ≡ true
      → stored_value t k s ≡ (t.client (writer_of s)).write.values k
  stored-under k s i u h e =
      let d = writer_of s in
      let p = (t.client d).write in
      let w : is_writing (t.client d) ≡ true =
      and_left (is_writing (t.client d)) (eqb p.stamp s) u in
      let same : p.stamp ≡ s =
      eqb-true p.stamp s (and_right (is_writing (t.client d)) (eqb p.stamp s) u) in
      let set : p.set ≡ write_set t s =
      held-agrees (written_by p) (write-held t d i w) ∙ ap (write_set t) same in
      let member : has p.set k ≡ true = rw set h in
      let below : k < n =
      has-below p.set k n (valid.in_range.client d i).write.set member in
      ap (stored_value t k) (sym same)
      ∙ eqb-true (stored_value t k p.stamp) (p.values k)
      ((c.arrived d k i below member).1 (rw same e))

  -- the ledger's value of what is stored, or of the initial version
  held-value : (k s : ℕ) → (s ≢ 0 → IsClient t.sizes (writer_of s))
      → (s ≢ 0 → (has (write_set t s) k ≡ true) × (stored t.versions k s ≡ true))
      → stored_value t k s ≡ held_value t s k
  unfolding held_value
  held-value k s i here =
      by-test (eqb s 0)
      (λ z. rw z (ap (λ (v : Version). v.value)
      (not_found t.versions k s (rw (eqb-true s 0 z) (none-initial k)))))
      (λ z. rw z
      (let other = eqb-false s 0 z in
      by-test (under_way t s)
      (λ u. rw u (stored-under k s (i other) u (here other).0 (here other).1))
      (λ u. rw u refl)))
    where
      none-initial : (j : ℕ) → stored t.versions j 0 ≡ false
      none-initial j =
          by-test (stored t.versions j 0)
          (λ e. let held = found-held t.versions j 0 e in
          let r = (valid.in_range.versions (found t.versions j 0) held.is_in).stamp in
          let zero : (found t.versions j 0).stamp ≡ 0 = held.stamp in
          absurd (omega (arith, r.number)))
          (λ e. e)

  -- the client of a stored stamp exists
  stored-writer : (k s : ℕ) → stored t.versions k s ≡ true → IsClient t.sizes (writer_of s)
  stored-writer k s e =
      let held = found-held t.versions k s e in
      subst (λ (r : ℕ). IsClient t.sizes (writer_of r)) held.stamp
      (valid.in_range.versions (found t.versions k s) held.is_in).stamp.writer

  good-value : (k s : ℕ) → Good L t.versions k s → stored_value t k s ≡ held_value t s k
  good-value k s x =
      held-value k s
      (λ z. stored-writer k s (here z).1) here
    where
      here : s ≢ 0 → (has (write_set t s) k ≡ true) × (stored t.versions k s ≡ true)
      here z =
          ⊎_elim (λ e. absurd (z (eqb-true s 0 e))) (λ h. (h, x.whole k h))
          (or_cases (eqb s 0) (has (write_set t s) k) x.mine)

  -- ---- the fields

  versions : (v : Version) → In v t.versions → Kept L t.client v
  versions v i =
      let r = valid.in_range.versions v i in
      let set : v.set ≡ write_set t v.stamp = held-agrees (entry_of v) (version-held t v i) in
      let itself = found-itself t.versions v c.distinct i in
      record {
        agrees = set;
        value = sym (ap (λ (u : Version). u.value) itself)
            ∙ held-value v.item v.stamp (λ z. r.stamp.writer)
            (λ z. (
              rw (← set) r.own,
              held-stored t.versions v.item v.stamp v
                  (record { is_in = i; item = refl; stamp = refl }),
            ));
        number = leb-true _ _ (c.numbers_held (entry_of v) (version-held t v i));
      }

  writing : (d : ℕ) → IsClient t.sizes d → (t.client d).write.set ≢ 0
      → Writes L t.versions d (t.client d)
  unfolding held_value
  writing d i m =
      let p = (t.client d).write in
      let w = is-writing (t.client d) m in
      let newest : p.stamp ≡ stamp_of (t.client d).count d = eqb-true _ _ (c.stamped d i w) in
      let small : d < 16 = omega (arith, valid.in_range.sizes.clients) in
      let writer : writer_of p.stamp ≡ d = omega (arith, newest) in
      let later : p.stamp ≢ 0 = λ z. omega (arith, newest, i) in
      let here : t.client (writer_of p.stamp) ≡ t.client d = ap t.client writer in
      record {
        newest = newest;
        agrees = held-agrees (written_by p) (write-held t d i w);
        values = λ k h. rw (
          ne_eqb p.stamp 0 later,
          here,
          w,
          eqb_same p.stamp,
        ) refl;
        arrived = λ k h a.
            let below : k < n =
            has-below p.set k n (valid.in_range.client d i).write.set h in
            ⊎_elim (λ e. not-both e a) (λ e. e)
            (or_cases (has p.awaited k) (stored t.versions k p.stamp)
            (c.arrived d k i below h).0);
      }

  last : (d : ℕ) → IsClient t.sizes d → Last L t.client (t.client d).last
  last d i shows =
      let e = written_by (t.client d).last.write in
      let held = last-held t d i shows in
      record {
        agrees = held-agrees e held;
        number = leb-true _ _ (c.numbers_held e held);
      }

  -- a first reply that is kept
  first_below : (d k : ℕ) → IsClient t.sizes d → has_first (t.client d).read k ≡ true → k < n
  first_below d k i h =
      let p = (t.client d).read in
      has-below p.set k n (valid.in_range.client d i).read.set (first-in-set p k h)

  firsts : (d k : ℕ) → IsClient t.sizes d → has_first (t.client d).read k ≡ true
      → GoodEntry L t.versions k ((t.client d).read.firsts k)
  firsts d k i h =
      let l = first_below d k i h in
      good-entry k ((t.client d).read.firsts k) (c.whole.first d k i l h)
      (c.written.first d k i l h) (c.agree.first d k i l h)

  first-values : (d k : ℕ) → IsClient t.sizes d → FirstValue L (t.client d).read k
  first-values d k i h again =
      let p = (t.client d).read in
      let s = (p.firsts k).stamp in
      eqb-true (p.values k) (stored_value t k s)
      (⊎_elim (λ e. not-both e again) (λ e. e)
      (or_cases (answered_again p k) (eqb (p.values k) (stored_value t k s))
      (c.first_values d k i (first_below d k i h) h)))
      ∙ good-value k s (firsts d k i h).good

  -- ---- messages

  one : (σ : Side) (d k : ℕ) → IsClient t.sizes d
      → counted (is_for σ d k) t.messages ≡ cond (has (awaited_of σ (t.client d)) k) 1 0
  one σ d k i =
      one-all t σ d (λ m j. (valid.in_range.messages m j).item) (below σ) (each σ) k
    where
      below : (σ : Side) → awaited_of σ (t.client d) < 2 ^ t.sizes.items
      below =
          by_side (λ σ. awaited_of σ (t.client d) < 2 ^ t.sizes.items)
          (valid.in_range.client d i).read.awaited (valid.in_range.client d i).write.awaited

      each : (σ : Side) → one_each t σ d ≡ true
      each =
          by_side (λ σ. one_each t σ d ≡ true)
          (at_every n _ (c.one d i).0) (at_every n _ (c.one d i).1)

  owner : (m : Message) → In m t.messages → IsClient t.sizes (owner_of m)
  owner m i = owner-in-range t.sizes m (valid.in_range.messages m i)

  -- its item is awaited, so that its client has that part
  awaited : (σ : Side) (m : Message) → In m t.messages → of_side σ m ≡ true
      → has (awaited_of σ (t.client (owner_of m))) (item_of m) ≡ true
  awaited σ m i e =
      let d = owner_of m in
      let k = item_of m in
      let some : 1 ≤ counted (is_for σ d k) t.messages =
      counted-in (is_for σ d k) t.messages m i (rw (e, eqb_same d) (eqb_same k)) in
      by-test (has (awaited_of σ (t.client d)) k) (λ h. h)
      (λ f. let none : counted (is_for σ d k) t.messages ≡ 0 =
      one σ d k (owner m i) ∙ rw f refl in
      absurd (omega arith))

  reads : (m : Message) → In m t.messages → of_side of_read m ≡ true
      → (t.client (owner_of m)).read.set ≢ 0
  reads m i e =
      let p = (t.client (owner_of m)).read in
      has_some p.set (item_of m)
      ((valid.in_range.client (owner_of m) (owner m i)).read.within (item_of m)
      (awaited of_read m i e))

  wrote : (m : Message) → In m t.messages → of_side of_write m ≡ true
      → (t.client (owner_of m)).write.set ≢ 0
  wrote m i e =
      let p = (t.client (owner_of m)).write in
      has_some p.set (item_of m)
      ((valid.in_range.client (owner_of m) (owner m i)).write.within (item_of m)
      (awaited of_write m i e))

  got-good : (m : Message) (i : In m t.messages) → is_any_got m ≡ true
      → GoodEntry L t.versions (item_of m) (entry_in m)
      × GoodEntry L t.versions (item_of m) (parts_of m).latest
  got-good m i g =
      let w = c.whole.got m i g in
      let h = c.written.got m i g in
      let a = c.agree.got m i g in (
        good-entry (item_of m) (entry_in m) w.0 h.0 a.0,
        good-entry (item_of m) (parts_of m).latest w.1 h.1 a.1,
      )

  got-value : (m : Message) (i : In m t.messages) → is_any_got m ≡ true
      → (parts_of m).value ≡ held_value t (parts_of m).stamp (item_of m)
  got-value m i g =
      eqb-true _ _ (c.got_values m i g)
      ∙ good-value (item_of m) (parts_of m).stamp (got-good m i g).0.good

  fits : (m : Message) → In m t.messages → Fits L t.versions (t.client (owner_of m)) m
  unfolding Fits fits_client held_value
  fits (Prepare v) i =
      let m = Prepare v in
      let d = owner_of m in
      let some = wrote m i refl in
      let w = writing d (owner m i) some in
      let f = simp tells at (c.fits m i) in
      let stamp : v.stamp ≡ (t.client d).write.stamp = f.0.0.0 in
      let set : v.set ≡ (t.client d).write.set = f.0.0.1 in
      record {
        mode = some;
        stamp = sym stamp;
        agrees = set ∙ w.agrees ∙ ap (write_set t) (sym stamp);
        value = f.0.1 ∙ w.values v.item
            (rw (← set) ((valid.in_range.messages m i).own refl))
            ∙ ap (λ (s : ℕ). held_value t s v.item) (sym stamp);
        unstored = f.1;
      }
  fits (Prepared k s) i =
      let m = Prepared k s in
      record {
        mode = wrote m i refl;
        stamp = sym (eqb-true s (t.client (writer_of s)).write.stamp (c.fits m i));
        is_stored = c.replied m i refl;
      }
  fits (Commit p s) i =
      let m = Commit p s in
      let range = (valid.in_range.messages m i).written (omega arith) in
      let later : s ≢ 0 = λ z. omega (arith, range.number) in
      let whole : is_whole t s ≡ true =
      ⊎_elim (λ e. absurd (later (eqb-true s 0 e))) (λ e. e)
      (or_cases (eqb s 0) (is_whole t s) (c.whole_sent m i refl)) in
      let (v, j, same) = whole-version t s whole in
      record {
        item = v.item;
        some = rw same at (in-stored v t.versions j);
        whole = all-stored s whole;
      }
  fits (Get d k s) i =
      let m = Get d k s in
      let f = simp tells at (c.fits m i) in
      record {
        mode = reads m i refl;
        by_stamp = f.0;
        asked = sym f.1;
        good = good k s (c.whole_sent m i refl) (c.written_sent m i refl);
      }
  fits (Got d v e) i =
      let m = Got d v e in
      let f = simp tells at (c.fits m i) in
      let g = got-good m i refl in
      record {
        mode = reads m i refl;
        by_stamp = f.0;
        asked = sym f.1;
        version = g.0;
        value = got-value m i refl;
        latest = g.1;
      }
  fits (FirstGet d k) i =
      let m = FirstGet d k in
      record { mode = reads m i refl; by_item = eqb-true _ _ (c.fits m i) }
  fits (FirstReply d v e) i =
      let m = FirstReply d v e in
      let g = got-good m i refl in
      record {
        mode = reads m i refl;
        by_item = eqb-true _ _ (c.fits m i);
        version = g.0;
        value = got-value m i refl;
        latest = g.1;
      }

  pub checks-sound : SoundBy caps (ledger_of t) t
  unfolding held_value
  checks-sound =
      record {
        valid = valid;
        no_set = set-zero;
        no_value = λ k. refl;
        view = λ d k i l. good-entry k (t.view d k) (c.whole.view d k i l)
            (c.written.view d k i l) (c.agree.view d k i l);
        latest = λ k l. good-entry k (t.latest k) (c.whole.latest k l)
            (c.written.latest k l) (c.agree.latest k l);
        versions = versions;
        distinct = c.distinct;
        writes = writing;
        last = last;
        firsts = firsts;
        first_values = first-values;
        one = one;
        fits = fits;
      }
