-- What a delivery owes the link: a prepare is stored for its own write, and a got brings a version
-- of a write that has landed.
use mathlib.Core.Bool.{cond}
use mathlib.Core.List.{List, [], ◌∷◌, ◌++◌, map}
use mathlib.Core.Logic.{◌⊎◌, inl, inr, ⊎_elim, ◌≢◌}
use mathlib.Core.Path.{◌≡◌, refl, sym, ap, ◌∙◌, subst}
use Prim.Native.Nat.{ℕ, suc, ◌<◌}
use native.Mathlib.Omega.{arith}
use Rattle.basics.proofs.Cases.{not-both}
use Rattle.basics.specs.Lists.{In, without}
use Rattle.basics.proofs.Lists.{in_left, in_right, in_map, map-without, in_without}
use Rattle.protocol.specs.declared.Version.{Version}
use Rattle.protocol.specs.declared.Message.{Message}
use Rattle.protocol.specs.Tables.{writer_of}
use Rattle.protocol.specs.Message.{parts_of, is_prepare, item_of, owner_of}
use Rattle.protocol.specs.Range.{Capacities}
use Rattle.protocol.specs.Steps.{delivered, joined, message_at}
use Rattle.protocol.specs.Calls.{sought_by, deliver, effect}
use Rattle.condition3.specs.World.{World, Label, Labelled, Store, placed, labelled}
use Rattle.condition3.specs.World.{without_all, joining, staying, begun, storing}
use Rattle.protocol.proofs.Ranges.Values.{IsClient}
use Rattle.protocol.proofs.Delivered.{delivered-work, joined-each, answer-kind}
use Rattle.condition3.proofs.Sound.{Ledger}
use Rattle.condition3.proofs.Sound.Carry.{owner-client}
use Rattle.condition3.proofs.Sound.StartWrite.{entered}
use Rattle.condition3.proofs.Sound.Counts.{stamps}
use Rattle.condition3.proofs.Link.{FromStart, Landed, Comes, Inv}
use Rattle.condition3.proofs.Link.Messages.{placed-message, in-message, WriteOf, write-of}
use Rattle.condition3.proofs.Link.Owes.{Owes, same-unique, same-entered, joining-messages}
use Rattle.condition3.proofs.Common.{known, joined-owner}

module _ (caps : Capacities) (w : World) (inv : Inv caps w) where
  abbrev L : Ledger
  L = inv.ledger

  -- what the delivery of m stores, by its label
  abbrev landed : Label → Message → List Store
  landed l m = map (λ k. record { start = l.start; item = k; time = w.time })
      (cond (is_prepare m) (item_of m ∷ []) [])

  stored-after : (l : Label) (m : Message) → Comes w.writes w.stores l m → (v : Version)
      → In v (delivered w.tables m).versions
      → In v w.tables.versions
      ⊎ Landed (w.writes ++ []) (w.stores ++ landed l m) (suc w.time) v.stamp
      v.item
  stored-after l m x v i =
      ⊎_elim (λ p. inl p)
      (λ e.
      let σ : Store = record { start = l.start; item = v.item; time = w.time } in
      let y : FromStart w.writes l v.stamp =
      subst (λ (u : Message). FromStart w.writes l (parts_of u).stamp) e
      (x.prepare (ap is_prepare e)) in
      inr (subst (λ (u : Message). Landed (w.writes ++ []) (w.stores ++ landed l u)
      (suc w.time) v.stamp v.item) (sym e)
      (record {
        write = y.write;
        is_in = in_left y.write w.writes [] y.is_in;
        same = y.same;
        before = (
          σ,
          in_right σ w.stores (σ ∷ []) (inl refl),
          sym y.started,
          refl,
          omega arith,
        );
      })))
      ((delivered-work w.tables m).stores v i)

  -- a got joins where a get is delivered, of either kind, and its write has landed
  joins-come : (l : Label) (m : Message) → In m w.tables.messages → (σs : List Store)
      → (j : Message) → In j (joined w.tables m)
      → Comes (w.writes ++ []) (w.stores ++ σs)
      (record { client = l.client; start = l.start; since = w.time }) j
  joins-come l m here σs =
      joined-each (Comes (w.writes ++ []) (w.stores ++ σs)
      (record { client = l.client; start = l.start; since = w.time })) w.tables m
      (λ j r. record {
        prepare = λ e. not-both e (answer-kind j r.answer);
        got = λ e.
            let s = sought_by w.tables m in
            let x : WriteOf caps w inv (item_of m) s = write-of caps w inv (item_of m) s
            ((stamps caps L w.tables inv.sound m here).asked (sym r.got ∙ e)) in
            record {
              write = x.write;
              is_known = in_left x.write (known w.writes) [] x.is_known;
              same = x.same ∙ sym r.stamp;
              landed = λ k f. let σ = x.landed k f in
                  (σ.0, in_left σ.0 w.stores σs σ.1, σ.2, σ.3, σ.4);
            };
      })
      (λ p s some o. record { prepare = λ e. not-both e refl; got = λ e. not-both e refl })
      (λ f k s. record { prepare = λ e. not-both e refl; got = λ e. not-both e refl })

  -- a write part under way is stamped by its client
  own-stamp : (m : Message) → In m w.tables.messages → (d : ℕ) → owner_of m ≡ d
      → (w.tables.client d).write.set ≢ 0
      → writer_of (w.tables.client d).write.stamp ≡ d
  own-stamp m here d e some =
      let is : IsClient w.tables.sizes d = subst (λ (x : ℕ). IsClient w.tables.sizes x) e
      (owner-client caps inv.ledger w.tables inv.sound m here) in
      let small : d < 16 = omega (arith, inv.sound.valid.in_range.sizes.clients) in
      omega (arith, (inv.sound.writes d is some).newest)

  pub deliver-owes : (i : ℕ) → In (placed w i) w.in_flight → Owes caps w inv (deliver i)
  unfolding effect joining staying without_all begun storing
  deliver-owes i here =
      let l : Label = (placed w i).label in
      let m : Message = message_at w.tables i in
      let same : (placed w i).message ≡ m = placed-message caps w inv i in
      let in-flight : In m w.tables.messages =
      subst (λ (x : Message). In x w.tables.messages) same
      (in-message caps w inv (placed w i) here) in
      record {
        in_flight = joining-messages l.client l.start w.time
            (without i w.in_flight) (joined w.tables m) (without i w.tables.messages)
            (map-without (λ (x : Labelled). x.message) i w.in_flight
            ∙ ap (without i) inv.in_flight);
        stays = λ x p. in_without x i w.in_flight p;
        owners = λ x p.
            let y = in_map (labelled l.client l.start w.time) x (joined w.tables m) p in
            ap (λ (z : Labelled). z.label.client) y.2 ∙ inv.owners (placed w i) here
            ∙ ap owner_of same
            ∙ sym (joined-owner w.tables m y.0 (own-stamp m in-flight) y.1)
            ∙ sym (ap (λ (z : Labelled). owner_of z.message) y.2);
        unique = same-unique caps w inv;
        entered = same-entered caps w inv (effect w.tables (deliver i)).client
            (delivered-work w.tables m).rises;
        stored = λ v p. stored-after l m
            (subst (λ (x : Message). Comes w.writes w.stores l x) same
            (inv.comes (placed w i) here)) v p;
        comes = λ x p.
            let y = in_map (labelled l.client l.start w.time) x (joined w.tables m) p in
            subst (λ (z : Labelled). Comes (w.writes ++ []) (w.stores ++ landed l m) z.label
            z.message) (sym y.2)
            (joins-come l m in-flight (landed l m) y.0 y.1);
      }
