-- What all starts share: an idle client takes a transaction, with one message for each item of its
-- set; the ledger may take a stamp that is new.
use mathlib.Core.Bool.{true, false, cond, ◌&&◌, ◌||◌, and-false}
use mathlib.Core.List.{List, ◌++◌, map}
use mathlib.Core.Logic.{◌≢◌}
use mathlib.Core.Path.{◌≡◌, refl, sym, ◌∙◌, subst}
use Prim.Native.Nat.{ℕ, ◌^◌, ◌≤◌, ◌<◌}
use native.Mathlib.Omega.{arith}
use native.Mathlib.Nat.{le_trans}
use lib.Dec.{eqb}
use borrow.Author.Tests.{eqb-true, eqb-false, eq-eqb, ne_eqb}
use Rattle.basics.proofs.Cases.{by-test, not-both, or_right}
use Rattle.basics.specs.Lists.{In, counted}
use Rattle.basics.proofs.Lists.{counted-append, counted-map, counted-ext, none-counted}
use Rattle.itemset.specs.Set.{has, members}
use Rattle.itemset.proofs.Laws.{has-empty}
use Rattle.protocol.specs.declared.Version.{Version}
use Rattle.protocol.specs.declared.Message.{Message}
use Rattle.protocol.specs.Tables.{Tables, Client, Side, awaited_of, Ended, with_client, with_messages}
use Rattle.protocol.specs.Message.{owner_of, item_of}
use Rattle.protocol.specs.Range.{Capacities, has_first}
use Rattle.protocol.proofs.Each.{each_append}
use Rattle.protocol.proofs.Put.{put-every}
use Rattle.protocol.proofs.Ranges.Values.{IsClient}
use Rattle.protocol.proofs.Refusals.{Idle, idle-awaits}
use Rattle.protocol.proofs.Ranges.Tables.{Valid}
use Rattle.condition3.proofs.Sound.{Ledger, GoodEntry, Kept, Counted, Writes, Last, Fits}
use Rattle.condition3.proofs.Sound.{FirstValue, SoundBy}
use Rattle.condition3.proofs.Sound.Carry.{Carries, view-carried, latest-carried}
use Rattle.condition3.proofs.Sound.Carry.{writes-carried, firsts-carried, fits-carried}
use Rattle.condition3.proofs.Sound.Carry.{first-values-carried}
use Rattle.condition3.proofs.Sound.Delivery.{no-message}
use Rattle.condition3.proofs.Sound.Counts.{counted-covered}
use Rattle.condition3.proofs.Common.{is_for, has_item, of_side, Like, like-self, members-once}

abbrev pub after_start : Tables → ℕ → Client → List Message → Tables
after_start t d c' ms = with_messages (with_client t d c') (t.messages ++ ms)

-- one message of side σ for each item of s, of client d alone
pub part-counted : (σ : Side) (n d s : ℕ) → s < 2 ^ n → (f : ℕ → Message)
    → ((k : ℕ) → of_side σ (f k) ≡ true)
    → ((k : ℕ) → owner_of (f k) ≡ d) → ((k : ℕ) → item_of (f k) ≡ k)
    → (e j : ℕ) → counted (is_for σ e j) (map f (members n s)) ≡ cond (eqb e d && has s j) 1 0
part-counted σ n d s below f side owner item e j =
    counted-map f (is_for σ e j) (members n s)
    ∙ counted-ext (λ k. is_for σ e j (f k)) (λ k. eqb d e && eqb k j) (members n s)
    (λ k p. rw (side k, owner k, item k) refl)
    ∙ by-test (eqb e d)
    (λ u. rw (u, eq-eqb d e (sym (eqb-true e d u))) (members-once n s j below))
    (λ u. rw (u, ne_eqb d e (λ q. eqb-false e d u (sym q)))
    (none-counted (λ (k : ℕ). false) (members n s) (λ k p. refl)))

-- and none of the other side
pub part-uncounted : (σ : Side) (n s : ℕ) (f : ℕ → Message) → ((k : ℕ) → of_side σ (f k) ≡ false)
    → (e j : ℕ) → counted (is_for σ e j) (map f (members n s)) ≡ 0
part-uncounted σ n s f side e j =
    counted-map f (is_for σ e j) (members n s)
    ∙ none-counted (λ k. is_for σ e j (f k)) (members n s) (λ k p. rw (side k) refl)

-- an empty part awaits nothing
pub none-due : (d e j : ℕ) → ◌≡◌ {A = ℕ} (cond (eqb e d && has 0 j) 1 0) 0
none-due d e j = rw (has-empty j, and-false (eqb e d)) refl

module _ (caps : Capacities) (L : Ledger) (t : Tables) (sound : SoundBy caps L t) (L' : Ledger)
    (carries : (s : ℕ) → Counted t.client s → Carries L L' t.versions t.versions s)
    (d : ℕ) (c' : Client) (ms : List Message)
    (is-client : IsClient t.sizes d) (rests : Idle (t.client d))
    (new-counted : (σ : Side) (e j : ℕ)
    → counted (is_for σ e j) ms ≡ cond (eqb e d && has (awaited_of σ c') j) 1 0)
    (rises : (t.client d).count ≤ c'.count) (last : c'.last ≡ (t.client d).last) where
  abbrev t' : Tables
  t' = after_start t d c' ms

  awaits-none : (σ : Side) (k : ℕ) → has (awaited_of σ (t.client d)) k ≡ false
  awaits-none = idle-awaits (t.client d) rests

  one : (σ : Side) (e j : ℕ) → IsClient t.sizes e
      → counted (is_for σ e j) t'.messages ≡ cond (has (awaited_of σ (t'.client e)) j) 1 0
  one σ e j h =
      counted-append (is_for σ e j) t.messages ms
      ∙ rw (sound.one σ e j h, new-counted σ e j)
      (by-test (eqb e d)
      (λ u. rw (
        u,
        subst (λ (x : ℕ). has (awaited_of σ (t.client x)) j ≡ false)
            (sym (eqb-true e d u)) (awaits-none σ j),
      ) (omega arith))
      (λ u. rw u (omega arith)))

  -- an idle client has no message in flight but commits
  likes : (x : Message) → In x t.messages → has_item x ≡ true
      → Like (t.client (owner_of x)) (t'.client (owner_of x))
  likes x p e =
      by-test (eqb (owner_of x) d)
      (λ u. absurd (no-message caps L t sound x p e
      (subst (λ (y : ℕ). Idle (t.client y)) (sym (eqb-true (owner_of x) d u)) rests)))
      (λ u. rw u (like-self (t.client (owner_of x))))

  counts : (e : ℕ) → (t.client e).count ≤ (t'.client e).count
  counts =
      put-every (λ (e : ℕ) (x : Client). (t.client e).count ≤ x.count) t.client d c' rises
      (λ e n. omega arith)

  versions : (v : Version) → In v t.versions → Kept L' t'.client v
  versions v i =
      let k = sound.versions v i in
      let c : Carries L L' t.versions t.versions v.stamp =
      carries v.stamp k.number in
      record {
        agrees = k.agrees ∙ sym c.set;
        value = k.value ∙ sym (c.value v.item (mine v i));
        number = le_trans k.number (counts _);
      }
    where
      mine : (v : Version) → In v t.versions
          → (eqb v.stamp 0 || has (L.set v.stamp) v.item) ≡ true
      mine v i = or_right (eqb v.stamp 0) (has (L.set v.stamp) v.item)
          (rw (sound.versions v i).agrees at (sound.valid.in_range.versions v i).own)

  last-kept : (e : Ended) → Last L t.client e → Last L' t'.client e
  last-kept e x shows =
      let past = x shows in
      record {
        agrees = past.agrees ∙ sym (carries e.write.stamp past.number).set;
        number = le_trans past.number (counts _);
      }

  pub begin-sound : Valid caps t' → (L'.set 0 ≡ 0) → ((k : ℕ) → L'.value 0 k ≡ 0)
      → (c'.write.set ≢ 0 → Writes L' t.versions d c')
      → ((k : ℕ) → has_first c'.read k ≡ false)
      → ((x : Message) → In x ms → Fits L' t.versions (t'.client (owner_of x)) x)
      → SoundBy caps L' t'
  begin-sound ok no_set no_value writes none joins =
      record {
        valid = ok;
        no_set = no_set;
        no_value = no_value;
        view = view-carried caps L t sound (Counted t.client) (counted-covered caps L t sound) L'
            t.versions carries;
        latest = latest-carried caps L t sound (Counted t.client)
            (counted-covered caps L t sound) L' t.versions carries;
        versions = versions;
        distinct = sound.distinct;
        writes = put-every (λ (e : ℕ) (x : Client). IsClient t.sizes e → x.write.set ≢ 0
            → Writes L' t.versions e x) t.client d c' (λ h. writes)
            (λ e n. writes-carried caps L t sound (Counted t.client)
            (counted-covered caps L t sound) L' t.versions carries e);
        last = put-every (λ (e : ℕ) (x : Client). IsClient t.sizes e
            → Last L' t'.client x.last) t.client d c'
            (λ h. subst (λ (e : Ended). Last L' t'.client e) (sym last)
            (last-kept (t.client d).last (sound.last d h)))
            (λ e n h. last-kept (t.client e).last (sound.last e h));
        firsts = λ e k h. put-every (λ (e : ℕ) (x : Client). IsClient t.sizes e
            → has_first x.read k ≡ true → GoodEntry L' t.versions k (x.read.firsts k))
            t.client d c' (λ h f. not-both f (none k))
            (λ e n h. firsts-carried caps L t sound (Counted t.client)
            (counted-covered caps L t sound) L' t.versions carries e k h) e h;
        first_values = λ e k h. put-every (λ (e : ℕ) (x : Client). IsClient t.sizes e
            → FirstValue L' x.read k) t.client d c' (λ h f. not-both f (none k))
            (λ e n h. first-values-carried caps L t sound (Counted t.client)
            (counted-covered caps L t sound) L' t.versions carries e k h) e h;
        one = one;
        fits = each_append (λ x. Fits L' t.versions (t'.client (owner_of x)) x) t.messages ms
            (λ x p. fits-carried caps L t sound (Counted t.client)
            (counted-covered caps L t sound) L' t.versions carries x p
            (t'.client (owner_of x)) (likes x p) (λ v e g. g))
            joins;
      }
