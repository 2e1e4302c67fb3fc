-- What is said of a stamp against a ledger and stored versions is said against others that carry
-- the stamp.
use mathlib.Core.Bool.{true, false, ◌||◌}
use mathlib.Core.List.{List}
use mathlib.Core.Logic.{◌≢◌}
use mathlib.Core.Path.{◌≡◌, refl, sym, ◌∙◌, subst}
use Prim.Native.Nat.{ℕ, ◌≤◌, ◌<◌}
use native.Mathlib.Nat.{le_trans}
use lib.Dec.{eqb, ltb}
use Rattle.basics.proofs.Cases.{by-test, or_left, or_right, eqb_same}
use Rattle.basics.specs.Lists.{In}
use Rattle.itemset.specs.Set.{has}
use Rattle.itemset.proofs.Laws.{has-below}
use Rattle.protocol.specs.declared.Version.{Version}
use Rattle.protocol.specs.declared.Entry.{Entry}
use Rattle.protocol.specs.declared.Message.{Message}
use Rattle.protocol.specs.declared.Message.TheVariants.{Prepare, Prepared, Commit, Get, Got}
use Rattle.protocol.specs.declared.Message.TheVariants.{FirstGet, FirstReply}
use Rattle.protocol.specs.Tables.{Tables, Client, Ended, writer_of, later_of, entry_of}
use Rattle.protocol.specs.Message.{parts_of, owner_of}
use Rattle.protocol.specs.Range.{Capacities, has_first}
use Rattle.protocol.specs.Steps.{stored}
use Rattle.protocol.specs.Clear.{mentions}
use Rattle.protocol.proofs.Cleared.{Covers}
use Rattle.protocol.proofs.FastRead.{first-in-set}
use Rattle.protocol.proofs.Ranges.Values.{IsClient, owner-in-range}
use Rattle.condition3.proofs.Sound.{Ledger, Good, GoodEntry, Kept, Last, Writes, Fits}
use Rattle.condition3.proofs.Sound.{FirstValue, SoundBy}
use Rattle.condition3.proofs.Common.{has_item, Like}

-- L' and vs' say of stamp s what L and vs say
pub record Carries (L L' : Ledger) (vs vs' : List Version) (s : ℕ) : Type 0 where
  pub set : L'.set s ≡ L.set s
  pub value : (k : ℕ) → (eqb s 0 || has (L.set s) k) ≡ true → L'.value s k ≡ L.value s k
  pub keeps : (k : ℕ) → stored vs k s ≡ true → stored vs' k s ≡ true

pub carries-self : (L : Ledger) (vs : List Version) (s : ℕ) → Carries L L vs vs s
carries-self L vs s = record { set = refl; value = λ k e. refl; keeps = λ k e. e }

-- the later of two good entries is good
pub later-good : (L : Ledger) (vs : List Version) (k : ℕ) (a b : Entry) → GoodEntry L vs k a
    → GoodEntry L vs k b → GoodEntry L vs k (later_of a b)
later-good L vs k a b x y = by-test (ltb a.stamp b.stamp) (λ e. rw e y) (λ e. rw e x)

mentions-own : (m : Message) → mentions (parts_of m).stamp m ≡ true
unfolding mentions
mentions-own m = let s = (parts_of m).stamp in
    or_left (eqb s s) (eqb (parts_of m).latest.stamp s) (eqb_same s)

mentions-latest : (m : Message) → mentions (parts_of m).latest.stamp m ≡ true
unfolding mentions
mentions-latest m = let s = (parts_of m).latest.stamp in
    or_right (eqb (parts_of m).stamp s) (eqb s s) (eqb_same s)

module _ (L L' : Ledger) (vs vs' : List Version) where
  pub carry-whole : (s : ℕ) → Carries L L' vs vs' s
      → ((j : ℕ) → has (L.set s) j ≡ true → stored vs j s ≡ true)
      → (j : ℕ) → has (L'.set s) j ≡ true → stored vs' j s ≡ true
  carry-whole s c x j e = c.keeps j (x j (rw c.set at e))

  pub carry-good : (k s : ℕ) → Carries L L' vs vs' s → Good L vs k s → Good L' vs' k s
  carry-good k s c x = record { mine = rw c.set x.mine; whole = carry-whole s c x.whole }

  pub carry-entry : (k : ℕ) (e : Entry) → Carries L L' vs vs' e.stamp → GoodEntry L vs k e
      → GoodEntry L' vs' k e
  carry-entry k e c x = record {
    good = carry-good k e.stamp c x.good;
    agrees = x.agrees ∙ sym c.set;
  }

  pub carry-writes : (d : ℕ) (c : Client) → Carries L L' vs vs' c.write.stamp → Writes L vs d c
      → Writes L' vs' d c
  carry-writes d c a x =
      record {
        newest = x.newest;
        agrees = x.agrees ∙ sym a.set;
        values = λ k e. x.values k e
            ∙ sym (a.value k (or_right (eqb c.write.stamp 0) (has (L.set c.write.stamp) k)
            (rw x.agrees at e)));
        arrived = λ k p q. a.keeps k (x.arrived k p q);
      }

  -- a message that fits still does, where its client's transaction is alike, and its item isn't
  -- stored meanwhile
  pub carry-fits : (c c' : Client) (m : Message) → (has_item m ≡ true → Like c c')
      → ((v : Version) → m ≡ Prepare v → has v.set v.item ≡ true)
      → ((v : Version) → m ≡ Prepare v → stored vs v.item v.stamp ≡ false
      → stored vs' v.item v.stamp ≡ false)
      → ((s : ℕ) → mentions s m ≡ true → Carries L L' vs vs' s)
      → Fits L vs c m → Fits L' vs' c' m
  unfolding Fits
  carry-fits c c' (Prepare v) like own keep carries x =
      let s : Like c c' = like refl in
      let a : Carries L L' vs vs' v.stamp = carries v.stamp (mentions-own (Prepare v)) in
      record {
        mode = λ z. x.mode (sym s.writes ∙ z);
        stamp = s.stamp ∙ x.stamp;
        agrees = x.agrees ∙ sym a.set;
        value = x.value ∙ sym (a.value v.item (or_right (eqb v.stamp 0)
            (has (L.set v.stamp) v.item) (rw x.agrees at (own v refl))));
        unstored = keep v refl x.unstored;
      }
  carry-fits c c' (Prepared k s₀) like own keep carries x =
      let s : Like c c' = like refl in
      record {
        mode = λ z. x.mode (sym s.writes ∙ z);
        stamp = s.stamp ∙ x.stamp;
        is_stored = (carries s₀ (mentions-own (Prepared k s₀))).keeps k x.is_stored;
      }
  carry-fits c c' (Commit p s₀) like own keep carries x =
      record {
        item = x.item;
        some = (carries s₀ (mentions-own (Commit p s₀))).keeps x.item x.some;
        whole = carry-whole s₀ (carries s₀ (mentions-own (Commit p s₀))) x.whole;
      }
  carry-fits c c' (Get d k s₀) like own keep carries x =
      let s : Like c c' = like refl in
      record {
        mode = λ z. x.mode (sym s.reads ∙ z);
        by_stamp = λ z. x.by_stamp (sym s.stage ∙ z);
        asked = s.asked k ∙ x.asked;
        good = carry-good k s₀ (carries s₀ (mentions-own (Get d k s₀))) x.good;
      }
  carry-fits c c' (Got d v e) like own keep carries x =
      let s : Like c c' = like refl in
      let a : Carries L L' vs vs' v.stamp =
      carries v.stamp (mentions-own (Got d v e)) in
      let b : Carries L L' vs vs' e.stamp =
      carries e.stamp (mentions-latest (Got d v e)) in
      record {
        mode = λ z. x.mode (sym s.reads ∙ z);
        by_stamp = λ z. x.by_stamp (sym s.stage ∙ z);
        asked = s.asked v.item ∙ x.asked;
        version = carry-entry v.item (entry_of v) a x.version;
        value = x.value ∙ sym (a.value v.item x.version.good.mine);
        latest = carry-entry v.item e b x.latest;
      }
  carry-fits c c' (FirstGet d k) like own keep carries x =
      let s : Like c c' = like refl in
      record { mode = λ z. x.mode (sym s.reads ∙ z); by_item = s.stage ∙ x.by_item }
  carry-fits c c' (FirstReply d v e) like own keep carries x =
      let s : Like c c' = like refl in
      let a : Carries L L' vs vs' v.stamp =
      carries v.stamp (mentions-own (FirstReply d v e)) in
      let b : Carries L L' vs vs' e.stamp =
      carries e.stamp (mentions-latest (FirstReply d v e)) in
      record {
        mode = λ z. x.mode (sym s.reads ∙ z);
        by_item = s.stage ∙ x.by_item;
        version = carry-entry v.item (entry_of v) a x.version;
        value = x.value ∙ sym (a.value v.item x.version.good.mine);
        latest = carry-entry v.item e b x.latest;
      }

-- ---- the stamps in use

abbrev pub Any : ℕ → Type 0
Any s = Unit

pub all-covered : (t : Tables) → Covers Any t
all-covered t = record {
  view = λ d k i l. tt;
  latest = λ k l. tt;
  message = λ m i s e. tt;
  write = λ d i m. tt;
  first = λ d k i l e. tt;
}

-- ---- what changes neither place nor message is carried

pub owner-client : (caps : Capacities) (L : Ledger) (t : Tables) → SoundBy caps L t → (m : Message)
    → In m t.messages → IsClient t.sizes (owner_of m)
owner-client caps L t sound m i =
    owner-in-range t.sizes m (sound.valid.in_range.messages m i)

module _ (caps : Capacities) (L : Ledger) (t : Tables) (sound : SoundBy caps L t) (P : ℕ → Type 0)
    (covers : Covers P t)
    (L' : Ledger) (vs' : List Version)
    (carries : (s : ℕ) → P s → Carries L L' t.versions vs' s) where
  pub view-carried : (d k : ℕ) → IsClient t.sizes d → k < t.sizes.items
      → GoodEntry L' vs' k (t.view d k)
  view-carried d k i l = carry-entry L L' t.versions vs' k (t.view d k)
      (carries (t.view d k).stamp (covers.view d k i l)) (sound.view d k i l)

  pub latest-carried : (k : ℕ) → k < t.sizes.items → GoodEntry L' vs' k (t.latest k)
  latest-carried k l = carry-entry L L' t.versions vs' k (t.latest k)
      (carries (t.latest k).stamp (covers.latest k l)) (sound.latest k l)

  pub writes-carried : (d : ℕ) → IsClient t.sizes d → (t.client d).write.set ≢ 0
      → Writes L' vs' d (t.client d)
  writes-carried d i m = carry-writes L L' t.versions vs' d (t.client d)
      (carries (t.client d).write.stamp (covers.write d i m)) (sound.writes d i m)

  pub firsts-carried : (d k : ℕ) → IsClient t.sizes d → has_first (t.client d).read k ≡ true
      → GoodEntry L' vs' k ((t.client d).read.firsts k)
  firsts-carried d k i e =
      let p = (t.client d).read in
      let l : k < t.sizes.items = has-below p.set k t.sizes.items
      (sound.valid.in_range.client d i).read.set (first-in-set p k e) in
      carry-entry L L' t.versions vs' k (p.firsts k)
      (carries (p.firsts k).stamp (covers.first d k i l e)) (sound.firsts d k i e)

  pub first-values-carried : (d k : ℕ) → IsClient t.sizes d
      → FirstValue L' (t.client d).read k
  first-values-carried d k i e again =
      let p = (t.client d).read in
      let l : k < t.sizes.items = has-below p.set k t.sizes.items
      (sound.valid.in_range.client d i).read.set (first-in-set p k e) in
      sound.first_values d k i e again
      ∙ sym ((carries (p.firsts k).stamp (covers.first d k i l e)).value k
      (sound.firsts d k i e).good.mine)

  pub fits-carried : (m : Message) → In m t.messages → (c' : Client)
      → (has_item m ≡ true → Like (t.client (owner_of m)) c')
      → ((v : Version) → m ≡ Prepare v → stored t.versions v.item v.stamp ≡ false
      → stored vs' v.item v.stamp ≡ false)
      → Fits L' vs' c' m
  fits-carried m i c' like keep =
      carry-fits L L' t.versions vs' (t.client (owner_of m)) c' m like
      (λ v e. (sound.valid.in_range.messages (Prepare v)
      (subst (λ (x : Message). In x t.messages) e i)).own refl)
      keep (λ s e. carries s (covers.message m i s e)) (sound.fits m i)

-- ---- counts

pub recounted : (L : Ledger) (client client' : ℕ → Client)
    → ((d : ℕ) → (client d).count ≤ (client' d).count)
    → (v : Version) → Kept L client v → Kept L client' v
recounted L client client' rises v x =
    record {
      agrees = x.agrees;
      value = x.value;
      number = le_trans x.number (rises (writer_of v.stamp));
    }

pub last-recounted : (L : Ledger) (client client' : ℕ → Client)
    → ((d : ℕ) → (client d).count ≤ (client' d).count)
    → (e : Ended) → Last L client e → Last L client' e
last-recounted L client client' rises e x shows =
    let past = x shows in
    record {
      agrees = past.agrees;
      number = le_trans past.number (rises (writer_of e.write.stamp));
    }
