-- What the invariant says of a labelled message, and the write of a good stamp: it has landed.
use mathlib.Core.Bool.{true, ◌||◌}
use mathlib.Core.List.{List}
use mathlib.Core.Logic.{inl, inr, ⊎_elim}
use mathlib.Core.Path.{◌≡◌, refl, sym, ap, ◌∙◌, subst}
use Prim.Native.Nat.{ℕ, ◌<◌}
use lib.Dec.{eqb}
use lib.ListN.{length, get_or, length-map, get_or-map}
use borrow.Author.Tests.{eqb-true}
use Rattle.basics.proofs.Cases.{not-both, or_cases}
use Rattle.basics.specs.Lists.{In}
use Rattle.basics.proofs.Lists.{in-get_or, map-in}
use Rattle.itemset.specs.Set.{has}
use Rattle.itemset.proofs.Laws.{has-empty}
use Rattle.protocol.specs.declared.Message.{Message}
use Rattle.protocol.specs.declared.Message.TheVariants.{Commit}
use Rattle.protocol.specs.Message.{owner_of}
use Rattle.protocol.specs.Range.{Capacities}
use Rattle.protocol.specs.Steps.{message_at, stored, found}
use Rattle.condition3.specs.World.{World, Labelled, Write, placed}
use Rattle.protocol.proofs.Stored.{found-held}
use Rattle.condition3.proofs.Sound.{Ledger, Good, Fits}
use Rattle.condition3.proofs.Link.{LandedBefore, Landed, Inv}
use Rattle.condition3.proofs.Common.{known, origin}

module _ (caps : Capacities) (w : World) (inv : Inv caps w) where
  abbrev L : Ledger
  L = inv.ledger

  -- the labelled message at a place is the tables' own
  pub placed-message : (i : ℕ) → (placed w i).message ≡ message_at w.tables i
  placed-message i =
      sym (get_or-map (λ (l : Labelled). l.message) w.in_flight i
      (record { label = record { client = 0; start = 0; since = 0 }; message = Commit 0 0 }))
      ∙ ap (λ (ms : List Message). get_or ms i (Commit 0 0)) inv.in_flight

  pub length-in-flight : length w.in_flight ≡ length w.tables.messages
  length-in-flight = sym (length-map w.in_flight (λ (l : Labelled). l.message))
      ∙ ap length inv.in_flight

  pub in-message : (l : Labelled) → In l w.in_flight → In l.message w.tables.messages
  in-message l i = subst (λ (ms : List Message). In l.message ms) inv.in_flight
      (map-in (λ (x : Labelled). x.message) l w.in_flight i)

  pub fits : (l : Labelled) → In l w.in_flight
      → Fits L w.tables.versions (w.tables.client (owner_of l.message)) l.message
  fits l i = inv.sound.fits l.message (in-message l i)

  pub placed-here : (i : ℕ) → i < length w.tables.messages → In (placed w i) w.in_flight
  placed-here i h =
      in-get_or w.in_flight i (record {
        label = record { client = 0; start = 0; since = 0 };
        message = Commit 0 0;
      })
      (subst (λ (n : ℕ). i < n) (sym length-in-flight) h)

  -- ---- the write of a good stamp

  pub record WriteOf (k s : ℕ) : Type 0 where
    pub write : Write
    pub is_known : In write (known w.writes)
    pub same : write.stamp ≡ s
    pub mine : (eqb s 0 || has write.set k) ≡ true
    pub landed : (j : ℕ) → has write.set j ≡ true → LandedBefore w.stores write j w.time

  pub stored-landed : (k s : ℕ) → stored w.tables.versions k s ≡ true
      → Landed w.writes w.stores w.time s k
  stored-landed k s e =
      let held = found-held w.tables.versions k s e in
      let x = inv.stored (found w.tables.versions k s) held.is_in in
      subst (λ (r : ℕ). Landed w.writes w.stores w.time r k) held.stamp
      (subst (λ (j : ℕ). Landed w.writes w.stores w.time
      (found w.tables.versions k s).stamp j) held.item x)

  pub write-of : (k s : ℕ) → Good L w.tables.versions k s → WriteOf k s
  write-of k s x =
      ⊎_elim
      (λ e. record {
        write = origin;
        is_known = inl refl;
        same = sym (eqb-true s 0 e);
        mine = rw e refl;
        landed = λ j f. not-both f (has-empty j);
      })
      (λ e.
      let here = stored-landed k s (x.whole k e) in
      let set : here.write.set ≡ L.set s =
      (inv.entered here.write (inr here.is_in)).set ∙ ap L.set here.same in
      record {
        write = here.write;
        is_known = inr here.is_in;
        same = here.same;
        mine = subst (λ (r : ℕ). (eqb s 0 || has r k) ≡ true) (sym set) x.mine;
        landed = λ j f.
            let there = stored-landed j s (x.whole j (subst (λ (r : ℕ). has r j ≡ true) set f)) in
            subst (λ (a : Write). LandedBefore w.stores a j w.time)
            (inv.unique there.write here.write (inr there.is_in) (inr here.is_in)
            (there.same ∙ sym here.same)) there.before;
      })
      (or_cases (eqb s 0) (has (L.set s) k) x.mine)
