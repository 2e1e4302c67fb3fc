-- Lists of calls: a run of two lists is a run of the second after the first, the invariant holds
-- throughout, and sizes, views and the history only stay or grow.
use mathlib.Core.Bool.{false, cond}
use mathlib.Core.List.{List, [], ◌∷◌, ◌++◌, append_assoc}
use mathlib.Core.Logic.{inl, inr}
use mathlib.Core.Path.{◌≡◌, refl, sym, ap, ◌∙◌, subst}
use Prim.Native.Nat.{ℕ, ◌≤◌}
use native.Mathlib.Nat.{le_refl, le_trans}
use borrow.Author.Tests.{eqb-true, eq-eqb}
use Rattle.basics.proofs.Cases.{by-test}
use Rattle.basics.specs.Lists.{In}
use Rattle.basics.proofs.Lists.{in_left}
use Rattle.protocol.specs.Tables.{Sizes, Tables}
use Rattle.protocol.specs.Range.{Capacities}
use Rattle.protocol.specs.Calls.{Call, refusal, effect}
use Rattle.condition3.specs.World.{World, Labelled, Write, Store, begun, storing, accepts}
use Rattle.condition3.specs.World.{moved, passed, next, after, joining_over, leaving_over}
use Rattle.condition3.specs.World.{joining, leaving}
use Rattle.protocol.proofs.Ranges.Values.{IsClient}
use Rattle.protocol.proofs.Sorts.{ViewGrows, LatestGrows}
use Rattle.protocol.proofs.Keeps.{keeps}
use Rattle.condition3.proofs.Link.{Inv}
use Rattle.condition3.proofs.Link.Step.{next-inv}
use Rattle.condition3.proofs.Common.{known}

-- ---- append

pub after-append : (caps : Capacities) (w : World) (xs ys : List Call)
    → after caps w (xs ++ ys) ≡ after caps (after caps w xs) ys
unfolding after
after-append caps w [] ys = refl
after-append caps w (c ∷ xs) ys = after-append caps (next caps w c) xs ys

pub leaving-append : (caps : Capacities) (w : World) (xs ys : List Call)
    → leaving_over caps w (xs ++ ys) ≡ leaving_over caps w xs ++ leaving_over caps (after caps w xs) ys
unfolding after leaving_over
leaving-append caps w [] ys = refl
leaving-append caps w (c ∷ xs) ys =
    ap (λ (l : List Labelled). cond (accepts caps w c) (leaving w c) [] ++ l)
    (leaving-append caps (next caps w c) xs ys)
    ∙ sym (append_assoc (cond (accepts caps w c) (leaving w c) [])
    (leaving_over caps (next caps w c) xs) (leaving_over caps (after caps (next caps w c) xs) ys))

pub joining-append : (caps : Capacities) (w : World) (xs ys : List Call)
    → joining_over caps w (xs ++ ys) ≡ joining_over caps w xs ++ joining_over caps (after caps w xs) ys
unfolding after joining_over
joining-append caps w [] ys = refl
joining-append caps w (c ∷ xs) ys =
    ap (λ (l : List Labelled). cond (accepts caps w c) (joining w c) [] ++ l)
    (joining-append caps (next caps w c) xs ys)
    ∙ sym (append_assoc (cond (accepts caps w c) (joining w c) [])
    (joining_over caps (next caps w c) xs) (joining_over caps (after caps (next caps w c) xs) ys))

-- ---- what an accepted and a refused call make of a world

pub next-accepted : (caps : Capacities) (w : World) (c : Call) → refusal caps w.tables c ≡ 0
    → next caps w c ≡ moved w c
unfolding next
next-accepted caps w c e = rw (eq-eqb (refusal caps w.tables c) 0 e) refl

pub next-refused : (caps : Capacities) (w : World) (c : Call) → accepts caps w c ≡ false
    → next caps w c ≡ passed w
unfolding next
next-refused caps w c e = rw e refl

-- what holds of what a call makes, accepted or refused
pub next-all : (caps : Capacities) (P : World → Type 0) (w : World) (c : Call)
    → (refusal caps w.tables c ≡ 0 → P (moved w c)) → P (passed w) → P (next caps w c)
unfolding next
next-all caps P w c yes' no' =
    by-test (accepts caps w c) (λ e. rw e (yes' (eqb-true (refusal caps w.tables c) 0 e)))
    (λ e. rw e no')

-- a relation that every call keeps, and that goes on, is kept by a list of calls
pub after-all : (caps : Capacities) (R : World → World → Type 0) → ((w : World) → R w w)
    → ((u v w : World) → R u v → R v w → R u w)
    → ((w : World) (c : Call) → R w (next caps w c)) → (w : World) (cs : List Call)
    → R w (after caps w cs)
unfolding after
after-all caps R same on step w [] = same w
after-all caps R same on step w (c ∷ cs) =
    on w (next caps w c) (after caps (next caps w c) cs) (step w c)
    (after-all caps R same on step (next caps w c) cs)

-- ---- sizes

pub after-sizes : (caps : Capacities) (w : World) (cs : List Call)
    → (after caps w cs).tables.sizes ≡ w.tables.sizes
unfolding effect
after-sizes caps =
    after-all caps (λ (u v : World). v.tables.sizes ≡ u.tables.sizes) (λ w. refl)
    (λ u v w p q. q ∙ p)
    (λ w c. next-all caps (λ (v : World). v.tables.sizes ≡ w.tables.sizes) w c
    (λ e. (keeps caps w.tables c e).sizes) refl)

-- so a client that exists does on
pub still-client : (caps : Capacities) (w : World) (d : ℕ) (xs ys : List Call)
    → IsClient (after caps w xs).tables.sizes d
    → IsClient (after caps w (xs ++ ys)).tables.sizes d
still-client caps w d xs ys =
    subst (λ (z : Sizes). IsClient z d)
    (after-sizes caps w xs ∙ sym (after-sizes caps w (xs ++ ys)))

-- ---- a number that no accepted call lowers: views and latest only grow, and counts rise

module _ (caps : Capacities) (f : Tables → ℕ)
    (grows : (t : Tables) (c : Call) → refusal caps t c ≡ 0 → f t ≤ f (effect t c)) where
  after-grows : (w : World) (cs : List Call) → f w.tables ≤ f (after caps w cs).tables
  after-grows =
      after-all caps (λ (u v : World). f u.tables ≤ f v.tables) (λ w. le_refl (f w.tables))
      (λ u v w p q. le_trans p q)
      (λ w c. next-all caps (λ (v : World). f w.tables ≤ f v.tables) w c
      (grows w.tables c) (le_refl (f w.tables)))

pub after-view : (caps : Capacities) (w : World) (cs : List Call)
    → ViewGrows w.tables (after caps w cs).tables
unfolding effect
after-view caps w cs d k =
    after-grows caps (λ t. (t.view d k).stamp) (λ t c e. (keeps caps t c e).view d k) w cs

abbrev pub CountsRise : Tables → Tables → Type 0
CountsRise t u = (d : ℕ) → (t.client d).count ≤ (u.client d).count

pub after-count : (caps : Capacities) (w : World) (cs : List Call)
    → CountsRise w.tables (after caps w cs).tables
unfolding effect
after-count caps w cs d =
    after-grows caps (λ t. (t.client d).count) (λ t c e. (keeps caps t c e).rises d) w cs

pub after-latest : (caps : Capacities) (w : World) (cs : List Call)
    → LatestGrows w.tables (after caps w cs).tables
unfolding effect
after-latest caps w cs k =
    after-grows caps (λ t. (t.latest k).stamp) (λ t c e. (keeps caps t c e).latest k) w cs

-- by the end of a longer list
pub longer-view : (caps : Capacities) (w : World) (xs ys : List Call)
    → ViewGrows (after caps w xs).tables (after caps w (xs ++ ys)).tables
longer-view caps w xs ys =
    subst (λ (v : World). ViewGrows (after caps w xs).tables v.tables)
    (sym (after-append caps w xs ys)) (after-view caps (after caps w xs) ys)

-- and since any call of it
pub since-view : (caps : Capacities) (w : World) (xs : List Call) (c : Call) (ys : List Call)
    → ViewGrows (next caps (after caps w xs) c).tables (after caps w (xs ++ c ∷ ys)).tables
unfolding after
since-view caps w xs c ys =
    subst (λ (v : World). ViewGrows (next caps (after caps w xs) c).tables v.tables)
    (sym (after-append caps w xs (c ∷ ys))) (after-view caps (next caps (after caps w xs) c) ys)

-- ---- the history grows

pub after-writes : (caps : Capacities) (w : World) (cs : List Call) (a : Write) → In a w.writes
    → In a (after caps w cs).writes
after-writes caps =
    after-all caps (λ (u v : World). (a : Write) → In a u.writes → In a v.writes) (λ w a i. i)
    (λ u v w p q a i. q a (p a i))
    (λ w c. next-all caps (λ (v : World). (a : Write) → In a w.writes → In a v.writes) w c
    (λ e a i. in_left a w.writes (begun w c) i) (λ a i. i))

pub longer-writes : (caps : Capacities) (w : World) (xs ys : List Call) (a : Write)
    → In a (after caps w xs).writes → In a (after caps w (xs ++ ys)).writes
longer-writes caps w xs ys a i =
    subst (λ (v : World). In a v.writes) (sym (after-append caps w xs ys))
    (after-writes caps (after caps w xs) ys a i)

pub after-stores : (caps : Capacities) (w : World) (cs : List Call) (σ : Store) → In σ w.stores
    → In σ (after caps w cs).stores
after-stores caps =
    after-all caps (λ (u v : World). (σ : Store) → In σ u.stores → In σ v.stores) (λ w σ i. i)
    (λ u v w p q σ i. q σ (p σ i))
    (λ w c. next-all caps (λ (v : World). (σ : Store) → In σ w.stores → In σ v.stores) w c
    (λ e σ i. in_left σ w.stores (storing w c) i) (λ σ i. i))

pub after-known : (caps : Capacities) (w : World) (cs : List Call) (a : Write)
    → In a (known w.writes) → In a (known (after caps w cs).writes)
after-known caps w cs a (inl e) = inl e
after-known caps w cs a (inr i) = inr (after-writes caps w cs a i)

-- ---- the invariant holds throughout

pub after-inv : (caps : Capacities) (w : World) → Inv caps w → (cs : List Call)
    → Inv caps (after caps w cs)
unfolding after
after-inv caps w inv [] = inv
after-inv caps w inv (c ∷ cs) = after-inv caps (next caps w c) (next-inv caps w inv c) cs
