-- What is latest of an item, by the commits that were delivered: no older than any of them, and one
-- of them where it has changed.
use mathlib.Core.Bool.{true}
use mathlib.Core.List.{List, [], ◌∷◌}
use mathlib.Core.Logic.{◌⊎◌, inl, inr, ⊎_elim}
use mathlib.Core.Path.{◌≡◌, refl, sym, ap, ◌∙◌, subst}
use Prim.Native.Nat.{ℕ, ◌%◌, ◌≤◌}
use native.Mathlib.Nat.{le_trans}
use Rattle.basics.specs.Lists.{In}
use Rattle.itemset.specs.Set.{has}
use Rattle.protocol.specs.declared.Message.{Message}
use Rattle.protocol.specs.declared.Message.TheVariants.{Commit}
use Rattle.protocol.specs.Tables.{Sizes, partition_of}
use Rattle.protocol.specs.Message.{owner_of}
use Rattle.protocol.specs.Range.{Capacities}
use Rattle.protocol.specs.Steps.{stored, delivered}
use Rattle.protocol.specs.Calls.{Call, deliver, refusal, effect}
use Rattle.condition3.specs.World.{World, Write, placed, moved, next, after}
use Rattle.condition3.specs.Condition3.{DeliveredBy}
use Rattle.protocol.proofs.Behaviour.{committed-raised, latest-by}
use Rattle.protocol.proofs.Refusals.{accepted-deliver}
use Rattle.protocol.proofs.Sorts.{Sort, reads, reads_fast, writes, mixes, delivers, apart, sort}
use Rattle.condition3.proofs.Sound.{Fits, FitsCommit}
use Rattle.condition3.proofs.Link.{Landed, Inv}
use Rattle.condition3.proofs.Link.Step.{next-inv}
use Rattle.condition3.proofs.Link.Messages.{placed-message, placed-here, fits, stored-landed}
use Rattle.condition3.proofs.Runs.Run.{after-append, next-accepted, next-all, after-sizes}
use Rattle.condition3.proofs.Runs.Run.{after-latest, after-writes, after-inv}

-- ---- no older than a write of the item whose commit was delivered

module _ (caps : Capacities) (w : World) (inv : Inv caps w) (before : List Call) (k : ℕ)
    (a : Write) (i : In a (after caps w before).writes) (h : has a.set k ≡ true)
    (x : DeliveredBy caps w before (Commit (partition_of w.tables k) a.stamp)) where
  abbrev j : ℕ
  j = x.2.0

  abbrev u : World
  u = after caps w x.0

  inv-u : Inv caps u
  inv-u = after-inv caps w inv x.0

  -- it is whole
  fit : FitsCommit inv-u.ledger u.tables.versions a.stamp
  unfolding Fits
  fit =
      subst (λ (m : Message). Fits inv-u.ledger u.tables.versions
      (u.tables.client (owner_of m)) m) x.2.3
      (fits caps u inv-u (placed u j)
      (placed-here caps u inv-u j ((accepted-deliver caps u.tables j).0 x.2.2).place))

  landed : Landed u.writes u.stores u.time a.stamp fit.item
  landed = stored-landed caps u inv-u fit.item a.stamp fit.some

  -- by the write itself
  since : after caps w before ≡ after caps u (deliver j ∷ x.1)
  since = ap (after caps w) x.2.1 ∙ after-append caps w x.0 (deliver j ∷ x.1)

  same : landed.write ≡ a
  same =
      (after-inv caps w inv before).unique landed.write a
      (inr (subst (λ (v : World). In landed.write v.writes) (sym since)
      (after-writes caps u (deliver j ∷ x.1) landed.write landed.is_in)))
      (inr i) landed.same

  stored_here : stored u.tables.versions k a.stamp ≡ true
  stored_here =
      fit.whole k (subst (λ (s : ℕ). has s k ≡ true)
      ((inv-u.entered landed.write (inr landed.is_in)).set
      ∙ ap inv-u.ledger.set landed.same)
      (subst (λ (b : Write). has b.set k ≡ true) (sym same) h))

  raised : a.stamp ≤ ((next caps u (deliver j)).tables.latest k).stamp
  unfolding effect delivered
  raised =
      subst (λ (v : World). a.stamp ≤ (v.tables.latest k).stamp)
      (sym (next-accepted caps u (deliver j) x.2.2))
      (subst (λ (m : Message). a.stamp ≤ ((delivered u.tables m).latest k).stamp)
      (sym (sym (placed-message caps u inv-u j) ∙ x.2.3))
      (committed-raised u.tables (partition_of w.tables k) a.stamp k
      (ap (λ (z : Sizes). k % z.partitions) (after-sizes caps w x.0)) stored_here))

  pub committed-latest : a.stamp ≤ ((after caps w before).tables.latest k).stamp
  unfolding after
  committed-latest =
      subst (λ (v : World). a.stamp ≤ (v.tables.latest k).stamp) (sym since)
      (le_trans raised (after-latest caps (next caps u (deliver j)) x.1 k))

-- ---- what it was at first, or what a delivered commit brought

module _ (caps : Capacities) (k : ℕ) where
  -- the message at place i is the commit of this stamp at item k's partition
  abbrev Commits : World → ℕ → ℕ → Type 0
  Commits w i stamp = (placed w i).message ≡ Commit (partition_of w.tables k) stamp

  abbrev Changed : World → Call → World → Type 0
  Changed w c v = (i : ℕ) × (c ≡ deliver i) × Commits w i (v.tables.latest k).stamp

  sort-latest : (w : World) → Inv caps w → {c : Call} → Sort caps w.tables c
      → (((moved w c).tables.latest k).stamp ≡ (w.tables.latest k).stamp) ⊎ Changed w c (moved w c)
  unfolding effect
  sort-latest w inv (reads d s a) = inl refl
  sort-latest w inv (reads_fast d s a) = inl refl
  sort-latest w inv (writes d s bytes a) = inl refl
  sort-latest w inv (mixes d r s bytes a) = inl refl
  sort-latest w inv (delivers i a) =
      ⊎_elim (λ e. inl e) (λ e. inr (i, refl, placed-message caps w inv i ∙ e))
      (latest-by w.tables _ k)
  sort-latest w inv (apart c ok a) = inl (rw a.does refl)

  latest-step : (w : World) → Inv caps w → (c : Call)
      → (((next caps w c).tables.latest k).stamp ≡ (w.tables.latest k).stamp)
      ⊎ ((refusal caps w.tables c ≡ 0) × Changed w c (next caps w c))
  latest-step w inv c =
      next-all caps (λ v. ((v.tables.latest k).stamp ≡ (w.tables.latest k).stamp)
      ⊎ ((refusal caps w.tables c ≡ 0) × Changed w c v)) w c
      (λ e. ⊎_elim (λ q. inl q) (λ q. inr (e, q)) (sort-latest w inv (sort caps w.tables c e)))
      (inl refl)

  pub latest-from : (w : World) → Inv caps w → (cs : List Call)
      → (((after caps w cs).tables.latest k).stamp ≡ (w.tables.latest k).stamp)
      ⊎ DeliveredBy caps w cs (Commit (partition_of w.tables k)
      ((after caps w cs).tables.latest k).stamp)
  unfolding after
  latest-from w inv [] = inl refl
  latest-from w inv (c ∷ cs) =
      ⊎_elim
      (λ e. ⊎_elim (λ q. inl (e ∙ q))
      (λ q. inr (
        [],
        cs,
        (
          q.1.0,
          ap (λ (x : Call). x ∷ cs) q.1.1,
          subst (λ (x : Call). refusal caps w.tables x ≡ 0) q.1.1 q.0,
          q.1.2 ∙ ap (Commit (partition_of w.tables k)) (sym e),
        ),
      ))
      (latest-step w inv c))
      (λ y. inr (
        c ∷ y.0,
        y.1,
        (
          y.2.0,
          ap (λ (l : List Call). c ∷ l) y.2.1,
          y.2.2,
          y.2.3 ∙ ap (λ (z : Sizes). Commit (k % z.partitions)
              ((after caps (next caps w c) cs).tables.latest k).stamp)
              (after-sizes caps w (c ∷ [])),
        ),
      ))
      (latest-from (next caps w c) (next-inv caps w inv c) cs)
