-- What an accepted call owes the link: for the labels that join, the writes that begin and the
-- versions that are stored.
use mathlib.Core.List.{List, [], ◌++◌, map, append-nil}
use mathlib.Core.Logic.{◌⊎◌, ⊎_elim}
use mathlib.Core.Path.{◌≡◌, sym, ap, ap₂, ◌∙◌, subst}
use Prim.Native.Nat.{ℕ, suc, ◌+◌, ◌≤◌}
use native.Mathlib.Nat.{le_trans}
use Rattle.basics.specs.Lists.{In}
use Rattle.basics.proofs.Lists.{in-append, in_map, map-append}
use Rattle.protocol.specs.declared.Version.{Version}
use Rattle.protocol.specs.declared.Message.{Message}
use Rattle.protocol.specs.Tables.{Client, writer_of}
use Rattle.protocol.specs.Message.{owner_of}
use Rattle.protocol.specs.Range.{Capacities}
use Rattle.protocol.specs.Steps.{stored}
use Rattle.protocol.specs.Calls.{Call, refusal, effect}
use Rattle.condition3.specs.World.{World, Labelled, Write, labelled, does, joining, staying}
use Rattle.condition3.specs.World.{begun, storing, moved}
use Rattle.condition3.proofs.Sound.{Ledger}
use Rattle.condition3.proofs.Sound.Step.{sound-accepted, ledger_after}
use Rattle.condition3.proofs.Sound.StartWrite.{entered}
use Rattle.condition3.proofs.Link.{Entered, Landed, Comes, Inv}
use Rattle.condition3.proofs.Link.Grows.{Grows, grow-stored, grow-comes, moved-grows}
use Rattle.condition3.proofs.Common.{known, unlabelled}

pub joining-owners : (d n : ℕ) (ms : List Message) → ((m : Message) → In m ms → owner_of m ≡ d)
    → (l : Labelled) → In l (map (labelled d n n) ms) → l.label.client ≡ owner_of l.message
joining-owners d n ms own l i =
    let y = in_map (labelled d n n) l ms i in
    ap (λ (r : Labelled). r.label.client) y.2 ∙ sym (own y.0 y.1)
    ∙ sym (ap (λ (r : Labelled). owner_of r.message) y.2)

pub joining-messages : (d a b : ℕ) (ls : List Labelled) (ms ns : List Message)
    → map (λ l. l.message) ls ≡ ns
    → map (λ l. l.message) (ls ++ map (labelled d a b) ms) ≡ ns ++ ms
joining-messages d a b ls ms ns e =
    map-append (λ (x : Labelled). x.message) ls (map (labelled d a b) ms)
    ∙ ap₂ (λ (x y : List Message). x ++ y) e (unlabelled d a b ms)

module _ (caps : Capacities) (w : World) (inv : Inv caps w) where
  abbrev L : Ledger
  L = inv.ledger

  pub record Owes (c : Call) : Type 0 where
    pub in_flight : map (λ l. l.message) (staying w c ++ joining w c) ≡ (effect
        w.tables c).messages
    pub stays : (l : Labelled) → In l (staying w c) → In l w.in_flight
    pub owners : (l : Labelled) → In l (joining w c) → l.label.client ≡ owner_of l.message
    pub unique : (a b : Write) → In a (known (w.writes ++ begun w c))
        → In b (known (w.writes ++ begun w c)) → a.stamp ≡ b.stamp → a ≡ b
    pub entered : (a : Write) → In a (known (w.writes ++ begun w c))
        → Entered (ledger_after L (does w c).begins) (effect w.tables c).client a
    pub stored : (v : Version) → In v (effect w.tables c).versions
        → In v w.tables.versions
        ⊎ Landed (w.writes ++ begun w c) (w.stores ++ storing w c) (suc w.time) v.stamp
        v.item
    pub comes : (l : Labelled) → In l (joining w c)
        → Comes (w.writes ++ begun w c) (w.stores ++ storing w c) l.label l.message

  pub pay : (c : Call) → refusal caps w.tables c ≡ 0 → Owes c → Inv caps (moved w c)
  pay c e o =
      let g : Grows w (moved w c) = moved-grows caps w c e in
      record {
        ledger = ledger_after L (does w c).begins;
        sound = sound-accepted caps L w.tables inv.sound c e;
        in_flight = o.in_flight;
        owners = λ l i.
            ⊎_elim (λ p. inv.owners l (o.stays l p)) (λ p. o.owners l p)
            (in-append l (staying w c) (joining w c) i);
        unique = o.unique;
        entered = o.entered;
        stored = λ v i.
            ⊎_elim (λ p. grow-stored w (moved w c) g v.stamp v.item (inv.stored v p))
            (λ p. p) (o.stored v i);
        comes = λ l i.
            ⊎_elim
            (λ p. grow-comes w (moved w c) g l.label l.message (inv.comes l (o.stays l p)))
            (λ p. o.comes l p) (in-append l (staying w c) (joining w c) i);
      }

  -- where no write begins and the ledger stays
  pub same-unique : (a b : Write) → In a (known (w.writes ++ [])) → In b (known (w.writes ++ []))
      → a.stamp ≡ b.stamp → a ≡ b
  same-unique = subst (λ (ws : List Write). (a b : Write) → In a (known ws) → In b (known ws)
      → a.stamp ≡ b.stamp → a ≡ b) (sym (append-nil w.writes)) inv.unique

  pub same-entered : (client' : ℕ → Client)
      → ((d : ℕ) → (w.tables.client d).count ≤ (client' d).count)
      → (a : Write) → In a (known (w.writes ++ [])) → Entered L client' a
  same-entered client' rises a i =
      let x = inv.entered a (subst (λ (ws : List Write). In a (known ws))
      (append-nil w.writes) i) in
      record {
        set = x.set;
        values = x.values;
        number = le_trans x.number (rises (writer_of a.stamp));
      }
