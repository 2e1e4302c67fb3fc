-- What a read asks for, chosen from good entries, is of a write of the history that is whole, and
-- where it is a write's, no other item of that write is asked older; what a got brings is that
-- write's value.
use mathlib.Core.Bool.{true, ◌||◌}
use mathlib.Core.List.{List}
use mathlib.Core.Logic.{inl, ⊎_elim}
use mathlib.Core.Path.{◌≡◌, refl, sym, ap, ◌∙◌, subst}
use Prim.Native.Nat.{ℕ, ◌≤◌, ◌<◌}
use native.Mathlib.Omega.{arith}
use lib.Dec.{eqb}
use borrow.Author.Tests.{eqb-true}
use Rattle.basics.proofs.Cases.{or_cases}
use Rattle.basics.specs.Lists.{In}
use Rattle.itemset.specs.Set.{has}
use Rattle.protocol.specs.declared.Entry.{Entry}
use Rattle.protocol.specs.Range.{Capacities}
use Rattle.protocol.specs.Steps.{choice}
use Rattle.condition3.specs.World.{World, Label, Write}
use Rattle.protocol.proofs.Stored.{choice-ge, Chosen, choice-chosen}
use Rattle.condition3.proofs.Sound.{Good, GoodEntry}
use Rattle.condition3.proofs.Sound.StartRead.{chosen-below, choice-good}
use Rattle.condition3.proofs.Link.{FromAnswer, Inv}
use Rattle.condition3.proofs.Link.Grows.{Grows, grow-known}
use Rattle.condition3.proofs.Link.Messages.{WriteOf, write-of}
use Rattle.condition3.proofs.Common.{known, origin}

-- stamps chosen for the items of s: each is of a known write of its item, of which no item is
-- chosen older
pub record Picked (writes : List Write) (s : ℕ) (stamps : ℕ → ℕ) : Type 0 where
  pub write : (k : ℕ) → has s k ≡ true → Write
  pub is_known : (k : ℕ) (m : has s k ≡ true) → In (write k m) (known writes)
  pub same : (k : ℕ) (m : has s k ≡ true) → (write k m).stamp ≡ stamps k
  pub mine : (k : ℕ) (m : has s k ≡ true) → (eqb (stamps k) 0 || has (write k m).set k) ≡ true
  pub not_older : (j k : ℕ) (m : has s j ≡ true) → has s k ≡ true → has (write j m).set k ≡ true
      → stamps j ≤ stamps k

pub picked-grows : (w w' : World) → Grows w w' → (s : ℕ) (stamps : ℕ → ℕ)
    → Picked w.writes s stamps → Picked w'.writes s stamps
picked-grows w w' g s stamps p =
    record {
      write = p.write;
      is_known = λ k m. grow-known w w' g (p.write k m) (p.is_known k m);
      same = p.same;
      mine = p.mine;
      not_older = p.not_older;
    }

module _ (caps : Capacities) (w : World) (inv : Inv caps w) where
  pub answer-value : (l : Label) (k s : ℕ) → Good inv.ledger w.tables.versions k s
      → (x : FromAnswer w.writes w.stores l s)
      → x.write.values k ≡ inv.ledger.value s k
  answer-value l k s g x =
      let e = inv.entered x.write x.is_known in
      ⊎_elim
      (λ z. let zero : s ≡ 0 = eqb-true s 0 z in
      let first : x.write ≡ origin =
      inv.unique x.write origin x.is_known (inl refl) (x.same ∙ zero) in
      ap (λ (a : Write). a.values k) first
      ∙ sym (ap (λ (r : ℕ). inv.ledger.value r k) zero ∙ inv.sound.no_value k))
      (λ h. e.values k (subst (λ (r : ℕ). has r k ≡ true)
      (sym (e.set ∙ ap inv.ledger.set x.same)) h)
      ∙ ap (λ (r : ℕ). inv.ledger.value r k) x.same)
      (or_cases (eqb s 0) (has (inv.ledger.set s) k) g.mine)

  -- from good entries, of a view or of first replies
  module _ (view : ℕ → Entry)
      (good : (j : ℕ) → j < w.tables.sizes.items
      → GoodEntry inv.ledger w.tables.versions j (view j)) where
    abbrev n : ℕ
    n = w.tables.sizes.items

    asked : (k : ℕ) → k < n → WriteOf caps w inv k (choice view k n)
    asked k l = write-of caps w inv k (choice view k n)
        (choice-good inv.ledger w.tables view n good k l)

    not-older : (k : ℕ) (l : k < n) (j : ℕ) → has (asked k l).write.set j ≡ true
        → choice view k n ≤ choice view j n
    not-older k l j e =
        let r : Chosen view k n = choice-chosen view k n in
        let below = chosen-below inv.ledger w.tables view n good k l in
        let a = asked k l in
        let set : a.write.set ≡ (view r.place).set =
        (inv.entered a.write a.is_known).set ∙ ap inv.ledger.set (a.same ∙ r.stamp)
        ∙ sym (good r.place below).agrees in
        subst (λ (x : ℕ). x ≤ choice view j n) (sym r.stamp)
        (choice-ge view j n r.place below (subst (λ (x : ℕ). has x j ≡ true) set e))

    pub picked : (s : ℕ) (stamps : ℕ → ℕ) → ((k : ℕ) → has s k ≡ true → k < n)
        → ((k : ℕ) → has s k ≡ true → stamps k ≡ choice view k n)
        → Picked w.writes s stamps
    picked s stamps below is =
        record {
          write = λ k m. (asked k (below k m)).write;
          is_known = λ k m. (asked k (below k m)).is_known;
          same = λ k m. (asked k (below k m)).same ∙ sym (is k m);
          mine = λ k m. subst (λ (x : ℕ). (eqb x 0 || has (asked k (below k m)).write.set k)
              ≡ true) (sym (is k m)) (asked k (below k m)).mine;
          not_older = λ j k m h e. omega (arith, is j m, is k h, not-older j (below j m) k e);
        }
