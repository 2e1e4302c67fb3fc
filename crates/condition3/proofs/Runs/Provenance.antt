-- Where the history comes from: each write that a run adds is an accepted start of the list, and
-- each store the delivery of a prepare.
use mathlib.Core.List.{List, [], ◌∷◌}
use mathlib.Core.Logic.{◌⊎◌, ◌↔◌, inl, inr, ⊎_elim}
use mathlib.Core.Path.{◌≡◌, refl, sym, ap, ◌∙◌, subst}
use Rattle.basics.specs.Lists.{In}
use Rattle.basics.proofs.Lists.{in_right, in-append}
use Rattle.protocol.specs.Range.{Capacities}
use Rattle.protocol.specs.Calls.{Call, refusal}
use Rattle.condition3.specs.Condition3.{AddedBy}
use Rattle.condition3.specs.World.{World, Write, Store, begun, storing, next, after}
use Rattle.condition3.proofs.Runs.Run.{next-all, next-accepted, after-append, after-writes}
use Rattle.condition3.proofs.Runs.Run.{after-stores}

-- what a list of calls adds, from the first call that adds it on
module _ {A : Type 0} (caps : Capacities) (kept : World → List A) (added : World → Call → List A)
    (step : (w : World) (c : Call) (x : A) → In x (kept (next caps w c)) → In x (kept w)
    ⊎ ((refusal caps w.tables c ≡ 0) × In x (added w c))) where
  pub added-from : (w : World) (calls : List Call) (x : A) → In x (kept (after caps w calls))
      → In x (kept w) ⊎ AddedBy caps w added calls x
  unfolding after
  added-from w [] x i = inl i
  added-from w (c ∷ cs) x i =
      ⊎_elim
      (λ p. ⊎_elim (λ q. inl q) (λ q. inr ([], cs, (c, refl, q.0, q.1))) (step w c x p))
      (λ p. inr (
        c ∷ p.0,
        p.1,
        (
          p.2.0,
          ap (λ (l : List Call). c ∷ l)
              p.2.1,
          p.2.2,
          p.2.3,
        ),
      ))
      (added-from (next caps w c) cs x i)

writes-from : (caps : Capacities) (w : World) (calls : List Call) (a : Write)
    → In a (after caps w calls).writes → In a w.writes ⊎ AddedBy caps w begun calls a
writes-from caps = added-from caps (λ v. v.writes) begun step
  where
    step : (w : World) (c : Call) (a : Write) → In a (next caps w c).writes → In a w.writes
        ⊎ ((refusal caps w.tables c ≡ 0) × In a (begun w c))
    step w c a =
        next-all caps (λ v. In a v.writes → In a w.writes
        ⊎ ((refusal caps w.tables c ≡ 0) × In a (begun w c))) w c
        (λ e i. ⊎_elim (λ p. inl p) (λ p. inr (e, p)) (in-append a w.writes (begun w c) i))
        (λ i. inl i)

stores-from : (caps : Capacities) (w : World) (calls : List Call) (σ : Store)
    → In σ (after caps w calls).stores → In σ w.stores ⊎ AddedBy caps w storing calls σ
stores-from caps = added-from caps (λ v. v.stores) storing step
  where
    step : (w : World) (c : Call) (σ : Store) → In σ (next caps w c).stores → In σ w.stores
        ⊎ ((refusal caps w.tables c ≡ 0) × In σ (storing w c))
    step w c σ =
        next-all caps (λ v. In σ v.stores → In σ w.stores
        ⊎ ((refusal caps w.tables c ≡ 0) × In σ (storing w c))) w c
        (λ e i. ⊎_elim (λ p. inl p) (λ p. inr (e, p)) (in-append σ w.stores (storing w c) i))
        (λ i. inl i)

-- what an accepted call of the list adds is in the history from then on
module _ {A : Type 0} (caps : Capacities) (kept : World → List A) (added : World → Call → List A)
    (stays : (w : World) (cs : List Call) (x : A) → In x (kept w) → In x (kept (after caps w cs)))
    (takes : (w : World) (c : Call) (x : A) → refusal caps w.tables c ≡ 0 → In x (added w c)
    → In x (kept (next caps w c))) where
  pub from-added : (w : World) (calls : List Call) (x : A) → In x (kept w)
      ⊎ AddedBy caps w added calls x → In x (kept (after caps w calls))
  unfolding after
  from-added w calls x (inl i) = stays w calls x i
  from-added w calls x (inr p) =
      subst (λ (v : World). In x (kept v))
      (sym (ap (after caps w) p.2.1 ∙ after-append caps w p.0 (p.2.0 ∷ p.1)))
      (stays (next caps (after caps w p.0) p.2.0) p.1 x
      (takes (after caps w p.0) p.2.0 x p.2.2 p.2.3))

pub writes-iff : (caps : Capacities) (w : World) (calls : List Call) (a : Write)
    → In a (after caps w calls).writes ↔ (In a w.writes ⊎ AddedBy caps w begun calls a)
writes-iff caps w calls a = (
  writes-from caps w calls a,
  from-added caps (λ v. v.writes) begun (after-writes caps)
      (λ v c x e i. subst (λ (u : World). In x u.writes) (sym (next-accepted caps v c e))
      (in_right x v.writes (begun v c) i)) w calls a,
)

pub stores-iff : (caps : Capacities) (w : World) (calls : List Call) (σ : Store)
    → In σ (after caps w calls).stores ↔ (In σ w.stores ⊎ AddedBy caps w storing calls σ)
stores-iff caps w calls σ = (
  stores-from caps w calls σ,
  from-added caps (λ v. v.stores) storing (after-stores caps)
      (λ v c x e i. subst (λ (u : World). In x u.stores) (sym (next-accepted caps v c e))
      (in_right x v.stores (storing v c) i)) w calls σ,
)
