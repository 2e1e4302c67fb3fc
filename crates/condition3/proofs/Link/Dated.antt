-- Whatever a list of calls stores goes back to a start of its own or to a message that was in
-- flight before it. So of the writes that accepted tables hold only those that are whole or under
-- way are ever stored in all their partitions.
use mathlib.Core.Bool.{true, false, not, ◌||◌}
use mathlib.Core.List.{List, [], ◌∷◌, map}
use mathlib.Core.Logic.{◌⊎◌, ◌≢◌, inl, inr, ⊎_elim}
use mathlib.Core.Path.{◌≡◌, refl, sym, ap, ◌∙◌, subst}
use Prim.Native.Nat.{ℕ, zero, suc, ◌^◌, ◌≤◌, ◌<◌}
use native.Mathlib.Nat.{le_trans, le-suc}
use native.Mathlib.Omega.{arith}
use lib.Dec.{eqb}
use lib.ListN.{get_or}
use borrow.Author.Tests.{eqb-true}
use Rattle.basics.proofs.Cases.{by-test, not-both, or_left, or_right, or_cases, eqb_same}
use Rattle.basics.specs.Lists.{In, all, every}
use Rattle.basics.proofs.Lists.{all_in, in-append, in_map, not-every}
use Rattle.itemset.specs.Set.{has, upto}
use Rattle.protocol.specs.declared.Version.{Version}
use Rattle.protocol.specs.declared.Message.{Message}
use Rattle.protocol.specs.declared.Message.TheVariants.{Prepare, Prepared, Commit, Get, Got}
use Rattle.protocol.specs.declared.Message.TheVariants.{FirstGet, FirstReply}
use Rattle.protocol.specs.Tables.{Tables, writer_of}
use Rattle.protocol.specs.Message.{parts_of}
use Rattle.protocol.specs.Range.{Capacities, is_writing}
use Rattle.protocol.specs.Steps.{stored}
use Rattle.protocol.specs.Check.{write_set, is_whole}
use Rattle.protocol.specs.Calls.{Call, Origin, nobody, starts, follows}
use Rattle.protocol.proofs.Each.{Each, each_append, upto-in}
use Rattle.protocol.proofs.Stored.{in-stored}
use Rattle.protocol.proofs.Ranges.Values.{IsClient, Stamped}
use Rattle.protocol.proofs.Ranges.Tables.{is-client}
use Rattle.condition3.specs.World.{World, Labelled, Write, Store, label_for, labelled}
use Rattle.condition3.specs.World.{does, joining, staying, storing, moved, next, after}
use Rattle.condition3.specs.Condition3.{StoredBefore}
use Rattle.condition3.specs.Held.{under_way, held_write, held_writes, held_stores, held_message}
use Rattle.condition3.specs.Held.{held}
use Rattle.condition3.proofs.Sound.{Ledger, Good, Fits, SoundBy}
use Rattle.condition3.proofs.Sound.Carry.{owner-client}
use Rattle.condition3.proofs.Sound.Check.{ledger_of, is-writing, writing-some}
use Rattle.condition3.proofs.Sound.Passes.{whole, is-whole}
use Rattle.condition3.proofs.Runs.Run.{next-all}
use Rattle.condition3.proofs.Runs.Provenance.{stores-iff}
use Rattle.condition3.proofs.Runs.FirstReplies.{in-staying}

-- what holds of the rest and of each element holds of the one at a place
get_or-each : {A : Type 0} (P : A → Type 0) (xs : List A) (i : ℕ) (d : A) → P d → Each P xs
    → P (get_or xs i d)
get_or-each P [] i d p h = p
get_or-each P (x ∷ xs) zero d p h = h x (inl refl)
get_or-each P (x ∷ xs) (suc i) d p h = get_or-each P xs i d p (λ y j. h y (inr j))

-- ---- where the labels go back to

-- P holds of 0, of every time from T on, and of the starts of what was in flight at T

module _ (caps : Capacities) (P : ℕ → Type 0) (none : P 0) (T : ℕ)
    (late : (n : ℕ) → T ≤ n → P n) where
  record Dated (w : World) : Type 0 where
    time : T ≤ w.time
    starts : Each (λ l. P l.label.start) w.in_flight

  label-dated : (w : World) → Dated w → (o : Origin) → P (label_for w o).start
  label-dated w dated nobody = late w.time dated.time
  label-dated w dated (starts d) = late w.time dated.time
  label-dated w dated (follows i) =
      get_or-each (λ (l : Labelled). P l.label.start) w.in_flight i
      (labelled 0 0 0 (Commit 0 0)) none dated.starts

  moved-dated : (w : World) (c : Call) → Dated w → Dated (moved w c)
  unfolding joining
  moved-dated w c dated =
      record {
        time = le_trans dated.time (le-suc w.time);
        starts = each_append (λ (l : Labelled). P l.label.start) (staying w c) (joining w c)
            (λ l i. dated.starts l (in-staying w c l i))
            (λ l i.
            let o = label_for w (does w c).origin in
            let y = in_map (labelled o.client o.start o.since) l (does w c).joins i in
            subst (λ (x : Labelled). P x.label.start) (sym y.2)
            (label-dated w dated (does w c).origin));
      }

  after-dated : (w : World) → Dated w → (cs : List Call) → Dated (after caps w cs)
  unfolding after
  after-dated w dated [] = dated
  after-dated w dated (c ∷ cs) =
      after-dated (next caps w c)
      (next-all caps Dated w c (λ e. moved-dated w c dated)
      (record { time = le_trans dated.time (le-suc w.time); starts = dated.starts })) cs

  storing-dated : (w : World) → Dated w → (c : Call) (σ : Store) → In σ (storing w c)
      → P σ.start
  unfolding storing
  storing-dated w dated c σ i =
      let o = label_for w (does w c).origin in
      let y = in_map (λ (k : ℕ). record { start = o.start; item = k; time = w.time }) σ
      (does w c).stores i in
      subst (λ (x : Store). P x.start) (sym y.2)
      (label-dated w dated (does w c).origin)

  -- what is stored after the list was stored before it, or has such a start
  stored-dated : (w : World) → Dated w → (calls : List Call) (σ : Store)
      → In σ (after caps w calls).stores → In σ w.stores ⊎ P σ.start
  stored-dated w dated calls σ i =
      ⊎_elim (λ p. inl p)
      (λ a. inr (storing-dated (after caps w a.0) (after-dated w dated a.0) a.2.0 σ
      a.2.3))
      ((stores-iff caps w calls σ).0 i)

-- ---- from accepted tables

module _ (caps : Capacities) (t : Tables) (sound : SoundBy caps (ledger_of t) t) where
  abbrev L : Ledger
  L = ledger_of t

  abbrev InUse : ℕ → Type 0
  InUse s = (is_whole t s || under_way t s) ≡ true

  abbrev Old : ℕ → Type 0
  Old s = (s ≡ 0) ⊎ ((2 ^ 40 ≤ s) ⊎ InUse s)

  under-way : (d : ℕ) → IsClient t.sizes d → (t.client d).write.set ≢ 0
      → under_way t (t.client d).write.stamp ≡ true
  under-way d i m =
      let s = (t.client d).write.stamp in
      let small : d < 16 = omega (arith, sound.valid.in_range.sizes.clients) in
      let writer : writer_of s ≡ d = omega (arith, (sound.writes d i m).newest) in
      let here : t.client (writer_of s) ≡ t.client d = ap t.client writer in
      rw (here, is-writing (t.client d) m) (eqb_same s)

  under-use : (d s : ℕ) → IsClient t.sizes d → (t.client d).write.set ≢ 0
      → (t.client d).write.stamp ≡ s → Old s
  under-use d s i m e =
      inr (inr (or_right (is_whole t s) (under_way t s)
      (subst (λ (r : ℕ). under_way t r ≡ true) e (under-way d i m))))

  good-use : (k s : ℕ) → Good L t.versions k s → Old s
  good-use k s x =
      ⊎_elim (λ z. inl (eqb-true s 0 z)) (λ h. inr (inr (or_left (is_whole t s) (under_way t s) h)))
      (or_cases (eqb s 0) (is_whole t s) (whole caps L t sound k s x))

  -- the stamp of a message is initial, whole or under way
  message-use : (m : Message) → In m t.messages → Old (parts_of m).stamp
  unfolding Fits
  message-use (Prepare v) i =
      let fit = sound.fits (Prepare v) i in
      under-use (writer_of v.stamp) v.stamp (owner-client caps L t sound (Prepare v) i)
      fit.mode fit.stamp
  message-use (Prepared k s) i =
      let fit = sound.fits (Prepared k s) i in
      under-use (writer_of s) s (owner-client caps L t sound (Prepared k s) i) fit.mode
      fit.stamp
  message-use (Commit p s) i =
      let fit = sound.fits (Commit p s) i in
      inr (inr (or_left (is_whole t s) (under_way t s)
      (is-whole caps L t sound fit.item s fit.some fit.whole)))
  message-use (Get d k s) i = good-use k s (sound.fits (Get d k s) i).good
  message-use (Got d v e) i =
      good-use v.item v.stamp (sound.fits (Got d v e) i).version.good
  message-use (FirstGet d k) i = inl refl
  message-use (FirstReply d v e) i =
      good-use v.item v.stamp (sound.fits (FirstReply d v e) i).version.good

  -- an item of a stored stamp that is stored after the list was stored before it
  module _ (calls : List Call) (v : Version) (i : In v t.versions) where
    abbrev s : ℕ
    s = v.stamp

    stored-before : (j n : ℕ) (σ : Store) → In σ (after caps (held t) calls).stores
        → σ.start ≡ s → σ.item ≡ j → (stored t.versions j s ≡ true) ⊎ InUse s
    unfolding held_stores
    stored-before j n σ k start item =
        ⊎_elim
        (λ p.
        let (u, q, e) = in_map (λ (x : Version). record
        { start = x.stamp; item = x.item; time = 0 }) σ t.versions p in
        let stamp : u.stamp ≡ s = sym (ap (λ (x : Store). x.start) e) ∙ start in
        let same : u.item ≡ j = sym (ap (λ (x : Store). x.item) e) ∙ item in
        inl (rw (same, stamp) at (in-stored u t.versions q)))
        (λ old. inr (⊎_elim (λ z. absurd (omega (arith, range.number, z, start)))
        (⊎_elim (λ l. absurd (omega (
          arith,
          range.fits,
          range.writer,
          sound.valid.in_range.sizes.clients,
          l,
          start,
        )))
        (λ u. subst InUse start u)) old))
        (stored-dated caps Old (inl refl) (2 ^ 40) (λ n l. inr (inl l)) (held t)
        (record {
          time = omega arith;
          starts = λ l q.
              let (m, r, e) = in_map held_message l t.messages q in
              subst (λ (x : Labelled). Old x.label.start) (sym e) (message-use m r);
        }) calls σ k)
      where
        range : Stamped t.sizes s
        range = (sound.valid.in_range.versions v i).stamp

    version-use : (n : ℕ) → StoredBefore (after caps (held t) calls).stores (held_write t s) n
        → InUse s
    unfolding is_whole
    version-use n stores =
        by-test (every t.sizes.items (λ k. not (has (write_set t s) k)
        || stored t.versions k s))
        (λ e. or_left (is_whole t s) (under_way t s) (rw (some, e) refl))
        (λ e.
        let (j, l, f) = not-every t.sizes.items (λ k. not (has (write_set t s) k)
        || stored t.versions k s) e in
        let member : has (write_set t s) j ≡ true =
        by-test (has (write_set t s) j) (λ h. h) (λ h. not-both (rw h refl) f) in
        let σ = stores j member in
        ⊎_elim
        (λ h. not-both (or_right (not (has (write_set t s) j)) (stored t.versions j s) h) f)
        (λ u. u) (stored-before j n σ.0 σ.1 σ.2 σ.3))
      where
        some : all (λ u. not (eqb u.stamp s)) t.versions ≡ false
        some =
            by-test (all (λ u. not (eqb u.stamp s)) t.versions)
            (λ a. not-both (all_in (λ u. not (eqb u.stamp s)) t.versions a v i)
            (rw (eqb_same s) refl))
            (λ a. a)

  pub held-in-use : (calls : List Call) (a : Write) → In a (held_writes t) → (n : ℕ)
      → StoredBefore (after caps (held t) calls).stores a n → InUse a.stamp
  unfolding held_writes
  held-in-use calls a i n stores =
      ⊎_elim
      (λ p.
      let (v, q, e) = in_map (λ v. held_write t v.stamp) a t.versions p in
      subst (λ (x : Write). InUse x.stamp) (sym e)
      (version-use calls v q n
      (subst (λ (x : Write). StoredBefore (after caps (held t) calls).stores x n) e stores)))
      (λ p.
      let (k, q, e) = in_map (λ i. held_write t (t.client (suc i)).write.stamp) a
      (upto t.sizes.clients (λ i. is_writing (t.client (suc i)))) p in
      let (l, w) = upto-in t.sizes.clients (λ i. is_writing (t.client (suc i))) k q in
      let d = suc k in
      let s = (t.client d).write.stamp in
      subst (λ (x : Write). InUse x.stamp) (sym e)
      (or_right (is_whole t s) (under_way t s)
      (under-way d (is-client t.sizes k l) (writing-some (t.client d) w))))
      (in-append a (map (λ v. held_write t v.stamp) t.versions)
      (map (λ i. held_write t (t.client (suc i)).write.stamp)
      (upto t.sizes.clients (λ i. is_writing (t.client (suc i))))) i)
