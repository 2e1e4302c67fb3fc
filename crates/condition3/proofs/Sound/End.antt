-- What the end of a transaction does for its write part, whichever reply ends it: the entries that
-- its items' views take are good, its commits fit and are for no item, and the ended write agrees
-- with the ledger.
use mathlib.Core.Bool.{true}
use mathlib.Core.Path.{◌≡◌, refl, sym, ap, subst}
use mathlib.Core.Logic.{◌≢◌}
use Prim.Native.Nat.{ℕ, zero, suc, ◌≤◌}
use native.Mathlib.Nat.{le_trans}
use lib.Dec.{eqb}
use borrow.Author.Tests.{eqb-false}
use Rattle.basics.proofs.Cases.{by-test, not-both, and_left, or_right}
use Rattle.basics.specs.Lists.{counted}
use Rattle.basics.proofs.Lists.{in_map, none-counted}
use Rattle.itemset.specs.Set.{has, upto}
use Rattle.itemset.proofs.Laws.{has-empty}
use Rattle.protocol.specs.declared.Entry.{Entry}
use Rattle.protocol.specs.declared.Message.{Message}
use Rattle.protocol.specs.declared.Message.TheVariants.{Commit}
use Rattle.protocol.specs.Tables.{Tables, Client, ReadPart, Side, of_read, of_write, writer_of}
use Rattle.protocol.specs.Range.{Capacities}
use Rattle.protocol.specs.Steps.{stored, seen, commits, touches, ended_read, ended_write, kind_ended}
use Rattle.protocol.proofs.Each.{Each, each-upto}
use Rattle.protocol.proofs.Ranges.Values.{IsClient}
use Rattle.condition3.proofs.Sound.{Ledger, GoodEntry, Last, Fits, SoundBy}
use Rattle.condition3.proofs.Sound.Carry.{later-good}
use Rattle.condition3.proofs.Sound.Counts.{write-counted}
use Rattle.condition3.proofs.Common.{is_for, by_side}

-- a partition touched has an item of the set
touches-some : (t : Tables) (s p n : ℕ) → touches t s p n ≡ true → (j : ℕ) × (has s j ≡ true)
unfolding touches
touches-some t s p zero e = not-both e refl
touches-some t s p (suc n) e =
    by-test (touches t s p n)
    (λ f. touches-some t s p n f)
    (λ f. (n, and_left (has s n) _ (rw f at e)))

-- a set with an item isn't empty
pub has_some : (s j : ℕ) → has s j ≡ true → s ≢ 0
has_some s j e z = not-both e (rw z (has-empty j))

-- commits are for no item
pub commits-for : (t : Tables) (s stamp : ℕ) (σ : Side) (e j : ℕ)
    → counted (is_for σ e j) (commits t s stamp) ≡ 0
commits-for t s stamp =
    by_side (λ σ. (e j : ℕ) → counted (is_for σ e j) (commits t s stamp) ≡ 0)
    (λ e j. none-counted (is_for of_read e j) (commits t s stamp)
    (λ x i. ap (is_for of_read e j)
    (in_map (λ p. Commit p stamp) x
    (upto t.sizes.partitions (λ p. touches t s p t.sizes.items)) i).2))
    (λ e j. none-counted (is_for of_write e j) (commits t s stamp)
    (λ x i. ap (is_for of_write e j)
    (in_map (λ p. Commit p stamp) x
    (upto t.sizes.partitions (λ p. touches t s p t.sizes.items)) i).2))

module _ (caps : Capacities) (L : Ledger) (t : Tables) (sound : SoundBy caps L t) (d : ℕ)
    (is-client : IsClient t.sizes d) where
  abbrev c : Client
  c = t.client d

  abbrev stamp : ℕ
  stamp = c.write.stamp

  pub ended-last : (client' : ℕ → Client) → ((e : ℕ) → (t.client e).count ≤ (client' e).count)
      → (p : ReadPart)
      → Last L client' (record {
        kind = kind_ended p c.write;
        read = ended_read p;
        write = ended_write c.write;
      })
  ended-last client' rises p shows =
      by-test (eqb c.write.set 0)
      (λ e. not-both (rw e at shows)
      (by-test (eqb p.stage 0) (λ f. rw f refl) (λ f. rw f refl)))
      (λ e. let some = eqb-false c.write.set 0 e in
      record {
        agrees = (sound.writes d is-client some).agrees;
        number = le_trans (write-counted caps L t sound d is-client some) (rises (writer_of stamp));
      })

  -- once every item of the write part is stored
  module _ (arrived : (j : ℕ) → has c.write.set j ≡ true → stored t.versions j stamp ≡ true)
    where
      whole : c.write.set ≢ 0 → (j : ℕ) → has (L.set stamp) j ≡ true
          → stored t.versions j stamp ≡ true
      whole some j e = arrived j (subst (λ (x : ℕ). has x j ≡ true)
          (sym (sound.writes d is-client some).agrees) e)

      entry : (j : ℕ) → has c.write.set j ≡ true
          → GoodEntry L t.versions j (record { stamp = stamp; set = c.write.set })
      entry j e =
          let some = has_some c.write.set j e in
          let agrees : c.write.set ≡ L.set stamp = (sound.writes d is-client some).agrees in
          record {
            good = record {
              mine = or_right (eqb stamp 0) (has (L.set stamp) j)
                  (subst (λ (x : ℕ). has x j ≡ true) agrees e);
              whole = whole some;
            };
            agrees = agrees;
          }

      pub seen-good : (view : ℕ → Entry) (j : ℕ) → GoodEntry L t.versions j (view j)
          → GoodEntry L t.versions j (seen view c.write.set stamp j)
      seen-good view j x =
          by-test (has c.write.set j)
          (λ e. rw e (later-good L t.versions j (view j)
          (record { stamp = stamp; set = c.write.set }) x (entry j e)))
          (λ e. rw e x)

      pub commits-fit : (of : Message → Client)
          → Each (λ x. Fits L t.versions (of x) x) (commits t c.write.set stamp)
      unfolding Fits
      commits-fit of =
          each-upto (λ x. Fits L t.versions (of x) x) (λ p. Commit p stamp)
          t.sizes.partitions
          (λ p. touches t c.write.set p t.sizes.items)
          (λ p l e. let q = touches-some t c.write.set p t.sizes.items e in
          record {
            item = q.0;
            some = arrived q.0 q.1;
            whole = whole (has_some c.write.set q.0 q.1);
          })
