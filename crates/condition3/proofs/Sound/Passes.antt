-- Sound tables pass the check, whatever the ledger: every copy of a set agrees with the ledger's,
-- so that the first copy of a stamp's set is the ledger's too.
use mathlib.Core.Bool.{true, false, not, ◌||◌}
use mathlib.Core.Logic.{◌≢◌, ⊎_elim}
use mathlib.Core.Path.{◌≡◌, refl, sym, ap, ◌∙◌, subst}
use Prim.Native.Nat.{ℕ}
use lib.Dec.{eqb}
use borrow.Author.Tests.{eqb-true, eq-eqb, le-leb}
use Rattle.basics.proofs.Cases.{by-test, not-both, or_cases, or_left, or_right}
use Rattle.basics.specs.Lists.{In, all}
use Rattle.basics.proofs.Lists.{all_in, at_every}
use Rattle.itemset.specs.Set.{has}
use Rattle.protocol.specs.declared.Entry.{Entry}
use Rattle.protocol.specs.declared.Message.{Message}
use Rattle.protocol.specs.declared.Message.TheVariants.{Prepare, Prepared, Commit, Get, Got}
use Rattle.protocol.specs.declared.Message.TheVariants.{FirstGet, FirstReply}
use Rattle.protocol.specs.Tables.{Tables, of_read, of_write, entry_of, number_of, writer_of}
use Rattle.protocol.specs.Message.{parts_of, is_prepare, is_prepared, is_commit, is_get, is_any_got}
use Rattle.protocol.specs.Message.{item_of, owner_of}
use Rattle.protocol.specs.Range.{Capacities}
use Rattle.protocol.specs.Steps.{stored, found}
use Rattle.protocol.specs.Check.{entry_in, written_by, sets_held, write_set, is_whole, whole_or_initial}
use Rattle.protocol.specs.Check.{writes, agrees, stored_value, answered_again, is_counted, fits_client}
use Rattle.protocol.specs.Check.{sound}
use Rattle.protocol.proofs.Each.{Each}
use Rattle.protocol.proofs.Tells.{tells}
use Rattle.protocol.proofs.Stored.{found-held}
use Rattle.protocol.proofs.Ranges.Values.{IsClient}
use Rattle.protocol.proofs.Checks.{EveryEntry, Checks, held-each, version-held, write-held}
use Rattle.protocol.proofs.Checks.{first-agrees}
use Rattle.condition3.proofs.Sound.{Ledger, Good, GoodEntry, Counted, Fits, SoundBy}
use Rattle.condition3.proofs.Sound.Carry.{owner-client}
use Rattle.condition3.proofs.Sound.Counts.{good-counted, write-counted, stamps}
use Rattle.condition3.proofs.Sound.Staying.{found-value}
use Rattle.condition3.proofs.Sound.End.{has_some}
use Rattle.condition3.proofs.Sound.Check.{is-writing, writing-some}

module _ (caps : Capacities) (L : Ledger) (t : Tables) (sound : SoundBy caps L t) where
  abbrev n : ℕ
  n = t.sizes.items

  -- ---- sets

  copies-agree : Each (λ e. e.set ≡ L.set e.stamp) (sets_held t)
  copies-agree =
      held-each (λ e. e.set ≡ L.set e.stamp) t
      (λ v i. (sound.versions v i).agrees)
      (λ d i w. (sound.writes d i (writing-some (t.client d) w)).agrees)
      (λ d i s. (sound.last d i s).agrees)

  -- the write set of a stamp that has a copy
  set-held : (e : Entry) → In e (sets_held t) → write_set t e.stamp ≡ L.set e.stamp
  unfolding write_set
  set-held e i =
      by-test (eqb e.stamp 0)
      (λ z. rw z (sym (ap L.set (eqb-true e.stamp 0 z) ∙ sound.no_set)))
      (λ z. rw z (first-agrees L.set (sets_held t) copies-agree e i))

  set-initial : write_set t 0 ≡ L.set 0
  unfolding write_set
  set-initial = sym sound.no_set

  set-stored : (k s : ℕ) → stored t.versions k s ≡ true → write_set t s ≡ L.set s
  set-stored k s e =
      let held = found-held t.versions k s e in
      let v = found t.versions k s in
      subst (λ (r : ℕ). write_set t r ≡ L.set r) held.stamp
      (set-held (entry_of v) (version-held t v held.is_in))

  set-good : (k s : ℕ) → Good L t.versions k s → write_set t s ≡ L.set s
  set-good k s x =
      ⊎_elim (λ z. subst (λ (r : ℕ). write_set t r ≡ L.set r) (sym (eqb-true s 0 z)) set-initial)
      (λ h. set-stored k s (x.whole k h)) (or_cases (eqb s 0) (has (L.set s) k) x.mine)

  -- ---- rules 1, 2, 3 and 6 of one entry

  some-version : (k s : ℕ) → stored t.versions k s ≡ true
      → all (λ v. not (eqb v.stamp s)) t.versions ≡ false
  some-version k s e =
      let held = found-held t.versions k s e in
      let v = found t.versions k s in
      by-test (all (λ v. not (eqb v.stamp s)) t.versions)
      (λ a. not-both (all_in (λ v. not (eqb v.stamp s)) t.versions a v held.is_in)
      (rw (eq-eqb v.stamp s held.stamp) refl))
      (λ a. a)

  pub is-whole : (k s : ℕ) → stored t.versions k s ≡ true
      → ((j : ℕ) → has (L.set s) j ≡ true → stored t.versions j s ≡ true)
      → is_whole t s ≡ true
  unfolding is_whole
  is-whole k s e whole =
      let set = set-stored k s e in
      rw (some-version k s e)
      (at_every n (λ j. not (has (write_set t s) j) || stored t.versions j s)
      (λ j l. by-test (has (write_set t s) j)
      (λ h. rw (h, whole j (rw (← set) h)) refl) (λ h. rw h refl)))

  pub whole : (k s : ℕ) → Good L t.versions k s → whole_or_initial t s ≡ true
  whole k s x =
      ⊎_elim (λ z. or_left (eqb s 0) (is_whole t s) z)
      (λ h. or_right (eqb s 0) (is_whole t s) (is-whole k s (x.whole k h) x.whole))
      (or_cases (eqb s 0) (has (L.set s) k) x.mine)

  written : (k s : ℕ) → Good L t.versions k s → writes t k s ≡ true
  written k s x = rw (set-good k s x) x.mine

  agree : (k : ℕ) (e : Entry) → GoodEntry L t.versions k e → agrees t e ≡ true
  agree k e x = eq-eqb e.set (write_set t e.stamp)
      (x.agrees ∙ sym (set-good k e.stamp x.good))

  is-counted : (s : ℕ) → Counted t.client s → is_counted t s ≡ true
  is-counted s l = le-leb (number_of s) (t.client (writer_of s)).count l

  -- ---- of every place

  pub got-good : (m : Message) → In m t.messages → is_any_got m ≡ true
      → GoodEntry L t.versions (item_of m) (entry_in m)
      × GoodEntry L t.versions (item_of m) (parts_of m).latest
      × ((parts_of m).value ≡ L.value (parts_of m).stamp (item_of m))
  unfolding Fits
  got-good (Prepare v) i e = not-both e refl
  got-good (Prepared k s) i e = not-both e refl
  got-good (Commit p s) i e = not-both e refl
  got-good (Get d k s) i e = not-both e refl
  got-good (Got d v l) i e =
      let fit = sound.fits (Got d v l) i in (fit.version, fit.latest, fit.value)
  got-good (FirstGet d k) i e = not-both e refl
  got-good (FirstReply d v l) i e =
      let fit = sound.fits (FirstReply d v l) i in (fit.version, fit.latest, fit.value)

  every-entry : (P : ℕ → Entry → Type 0)
      → ((k : ℕ) (e : Entry) → GoodEntry L t.versions k e → P k e) → EveryEntry t P
  every-entry P h =
      record {
        view = λ d k i l. h k (t.view d k) (sound.view d k i l);
        latest = λ k l. h k (t.latest k) (sound.latest k l);
        first = λ d k i l e. h k ((t.client d).read.firsts k) (sound.firsts d k i e);
        got = λ m i e. let g = got-good m i e in
            (h (item_of m) (entry_in m) g.0, h (item_of m) (parts_of m).latest g.1);
      }

  get-good : (m : Message) → In m t.messages → is_get m ≡ true
      → Good L t.versions (item_of m) (parts_of m).stamp
  unfolding Fits
  get-good (Prepare v) i e = not-both e refl
  get-good (Prepared k s) i e = not-both e refl
  get-good (Commit p s) i e = not-both e refl
  get-good (Get d k s) i e = (sound.fits (Get d k s) i).good
  get-good (Got d v l) i e = not-both e refl
  get-good (FirstGet d k) i e = not-both e refl
  get-good (FirstReply d v l) i e = not-both e refl

  commit-whole : (m : Message) → In m t.messages → is_commit m ≡ true
      → is_whole t (parts_of m).stamp ≡ true
  unfolding Fits
  commit-whole (Prepare v) i e = not-both e refl
  commit-whole (Prepared k s) i e = not-both e refl
  commit-whole (Commit p s) i e =
      let fit = sound.fits (Commit p s) i in is-whole fit.item s fit.some fit.whole
  commit-whole (Get d k s) i e = not-both e refl
  commit-whole (Got d v l) i e = not-both e refl
  commit-whole (FirstGet d k) i e = not-both e refl
  commit-whole (FirstReply d v l) i e = not-both e refl

  -- ---- writes under way

  -- a prepare's set is the write's under way
  set-writing : (d : ℕ) → IsClient t.sizes d → (t.client d).write.set ≢ 0
      → write_set t (t.client d).write.stamp ≡ L.set (t.client d).write.stamp
  set-writing d i m =
      set-held (written_by (t.client d).write)
      (write-held t d i (is-writing (t.client d) m))

  prepare-agrees : (m : Message) → In m t.messages → is_prepare m ≡ true
      → agrees t (entry_in m) ≡ true
  unfolding Fits
  prepare-agrees (Prepare v) i e =
      let fit = sound.fits (Prepare v) i in
      eq-eqb v.set (write_set t v.stamp)
      (fit.agrees ∙ sym (subst (λ (s : ℕ). write_set t s ≡ L.set s) fit.stamp
      (set-writing (writer_of v.stamp) (owner-client caps L t sound (Prepare v) i)
      fit.mode)))
  prepare-agrees (Prepared k s) i e = not-both e refl
  prepare-agrees (Commit p s) i e = not-both e refl
  prepare-agrees (Get d k s) i e = not-both e refl
  prepare-agrees (Got d v l) i e = not-both e refl
  prepare-agrees (FirstGet d k) i e = not-both e refl
  prepare-agrees (FirstReply d v l) i e = not-both e refl

  prepared-stored : (m : Message) → In m t.messages → is_prepared m ≡ true
      → stored t.versions (item_of m) (parts_of m).stamp ≡ true
  unfolding Fits
  prepared-stored (Prepare v) i e = not-both e refl
  prepared-stored (Prepared k s) i e = (sound.fits (Prepared k s) i).is_stored
  prepared-stored (Commit p s) i e = not-both e refl
  prepared-stored (Get d k s) i e = not-both e refl
  prepared-stored (Got d v l) i e = not-both e refl
  prepared-stored (FirstGet d k) i e = not-both e refl
  prepared-stored (FirstReply d v l) i e = not-both e refl

  arrived : (d k : ℕ) → IsClient t.sizes d → has (t.client d).write.set k ≡ true
      → ((has (t.client d).write.awaited k
      || stored t.versions k (t.client d).write.stamp) ≡ true)
      × (stored t.versions k (t.client d).write.stamp ≡ true
      → eqb (stored_value t k (t.client d).write.stamp) ((t.client d).write.values k) ≡ true)
  arrived d k i h =
      let p = (t.client d).write in
      let w = sound.writes d i (has_some p.set k h) in (
        by-test (has p.awaited k)
            (λ a. or_left (has p.awaited k) (stored t.versions k p.stamp) a)
            (λ a. or_right (has p.awaited k) (stored t.versions k p.stamp)
            (w.arrived k h a)),
        λ e.
            let held = found-held t.versions k p.stamp e in
            let v = found t.versions k p.stamp in
            let stamp : v.stamp ≡ p.stamp = held.stamp in
            eq-eqb v.value (p.values k)
            ((sound.versions v held.is_in).value
            ∙ ap (λ (s : ℕ). L.value s v.item) stamp ∙ ap (L.value p.stamp) held.item
            ∙ sym (w.values k h)),
      )

  -- ---- messages

  fits : (m : Message) → In m t.messages → fits_client t (t.client (owner_of m)) m ≡ true
  unfolding Fits fits_client
  fits (Prepare v) i =
      let fit = sound.fits (Prepare v) i in
      let d = writer_of v.stamp in
      let w = sound.writes d (owner-client caps L t sound (Prepare v) i) fit.mode in
      let p = (t.client d).write in
      let set : v.set ≡ p.set =
      fit.agrees ∙ ap L.set (sym fit.stamp) ∙ sym w.agrees in
      let own : has p.set v.item ≡ true =
      rw (← set) ((sound.valid.in_range.messages (Prepare v) i).own refl) in
      simp tells (
        (
          (sym fit.stamp, set),
          fit.value ∙ ap (λ (s : ℕ). L.value s v.item) (sym fit.stamp)
              ∙ sym (w.values v.item own),
        ),
        fit.unstored,
      )
  fits (Prepared k s) i =
      let fit = sound.fits (Prepared k s) i in
      eq-eqb s (t.client (writer_of s)).write.stamp (sym fit.stamp)
  fits (Commit p s) i = refl
  fits (Get d k s) i =
      let fit = sound.fits (Get d k s) i in simp tells (fit.by_stamp, sym fit.asked)
  fits (Got d v l) i =
      let fit = sound.fits (Got d v l) i in simp tells (fit.by_stamp, sym fit.asked)
  fits (FirstGet d k) i = eq-eqb (t.client d).read.stage 1 (sound.fits (FirstGet d k) i).by_item
  fits (FirstReply d v l) i =
      eq-eqb (t.client d).read.stage 1 (sound.fits (FirstReply d v l) i).by_item

  pub sound-checks : Checks t
  sound-checks =
      record {
        whole = every-entry (λ k e. whole_or_initial t e.stamp ≡ true)
            (λ k e x. whole k e.stamp x.good);
        whole_sent = λ m i e.
            let s = (parts_of m).stamp in
            ⊎_elim (λ x. or_right (eqb s 0) (is_whole t s) (commit-whole m i x))
            (λ x. whole (item_of m) s (get-good m i x)) (or_cases (is_commit m) (is_get m) e);
        written = every-entry (λ k e. writes t k e.stamp ≡ true)
            (λ k e x. written k e.stamp x.good);
        written_sent = λ m i e. written (item_of m) (parts_of m).stamp (get-good m i e);
        agree = every-entry (λ k e. agrees t e ≡ true) agree;
        agree_held = λ e i. eq-eqb e.set (write_set t e.stamp)
            (copies-agree e i ∙ sym (set-held e i));
        agree_sent = prepare-agrees;
        distinct = sound.distinct;
        got_values = λ m i e.
            let g = got-good m i e in
            eq-eqb (parts_of m).value (stored_value t (item_of m) (parts_of m).stamp)
            (g.2 ∙ sym (found-value caps L t sound 0 (item_of m) (parts_of m).stamp
            g.0.good));
        first_values = λ d k i l h.
            let p = (t.client d).read in
            let s = (p.firsts k).stamp in
            by-test (answered_again p k)
            (λ a. or_left (answered_again p k) (eqb (p.values k) (stored_value t k s)) a)
            (λ a. or_right (answered_again p k) (eqb (p.values k) (stored_value t k s))
            (eq-eqb (p.values k) (stored_value t k s) (sound.first_values d k i h a
            ∙ sym (found-value caps L t sound 0 k s (sound.firsts d k i h).good))));
        numbers = every-entry (λ k e. is_counted t e.stamp ≡ true)
            (λ k e x. is-counted e.stamp (good-counted caps L t sound k e.stamp x.good));
        numbers_held = held-each (λ e. is_counted t e.stamp ≡ true) t
            (λ v i. is-counted v.stamp (sound.versions v i).number)
            (λ d i w. is-counted (t.client d).write.stamp
            (write-counted caps L t sound d i (writing-some (t.client d) w)))
            (λ d i s. is-counted (t.client d).last.write.stamp (sound.last d i s).number);
        numbers_sent = λ m i. is-counted (parts_of m).stamp (stamps caps L t sound m i).own;
        stamped = λ d i w. eq-eqb _ _
            (sound.writes d i (writing-some (t.client d) w)).newest;
        arrived = λ d k i l h. arrived d k i h;
        replied = prepared-stored;
        one = λ d i. (
          λ k l. eq-eqb _ _ (sound.one of_read d k i),
          λ k l. eq-eqb _ _ (sound.one of_write d k i),
        );
        fits = fits;
      }
