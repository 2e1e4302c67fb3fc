-- What a start owes the link, and that a call apart owes nothing: a new write has a stamp that no
-- other write has.
use mathlib.Core.Bool.{true, false}
use mathlib.Core.List.{List, [], ◌∷◌, ◌++◌, map, append-nil}
use mathlib.Core.Logic.{◌⊎◌, inl, inr, ⊎_elim}
use mathlib.Core.Path.{◌≡◌, refl, sym, ap, ◌∙◌, subst}
use Prim.Native.Nat.{ℕ, suc, ◌<◌}
use native.Mathlib.Nat.{le_refl, le_trans}
use native.Mathlib.Omega.{arith}
use lib.Dec.{eqb}
use Rattle.basics.proofs.Cases.{not-both, or_right}
use Rattle.basics.specs.Lists.{In}
use Rattle.basics.proofs.Lists.{in_right, in-append, in_map, sublist-in}
use Rattle.itemset.specs.Set.{has}
use Rattle.protocol.specs.declared.Message.{Message}
use Rattle.protocol.specs.declared.Message.TheVariants.{Prepare, Get, FirstGet}
use Rattle.protocol.specs.Tables.{Client, writer_of, put}
use Rattle.protocol.specs.Message.{parts_of, is_prepare, is_any_got, owner_of}
use Rattle.protocol.specs.Range.{Capacities}
use Rattle.protocol.specs.FastRead.{fast_reader, first_gets}
use Rattle.protocol.specs.Steps.{stored, gets, prepares, next_stamp, value_of, writer, reader, asks}
use Rattle.protocol.specs.Steps.{version, greatest_of, mixer, mixed_messages}
use Rattle.protocol.specs.Calls.{Call, start_read, start_fast_read, start_write, start_mixed, effect}
use Rattle.condition3.specs.World.{World, Labelled, Write, labelled, without_all, joining}
use Rattle.condition3.specs.World.{staying, begun, storing}
use Rattle.protocol.proofs.Each.{Each, each-upto, each_append}
use Rattle.protocol.proofs.Put.{put_same}
use Rattle.protocol.proofs.Ranges.Values.{IsClient}
use Rattle.protocol.proofs.Sorts.{Apart}
use Rattle.protocol.proofs.Delivered.{put-rises}
use Rattle.condition3.proofs.Sound.{Ledger}
use Rattle.condition3.proofs.Sound.StartWrite.{entered, stamp-new, carries}
use Rattle.condition3.proofs.Link.{Entered, Comes, Inv}
use Rattle.condition3.proofs.Link.Apart.{apart-tables, apart-begins, apart-joining}
use Rattle.condition3.proofs.Link.Apart.{apart-staying, apart-begun}
use Rattle.condition3.proofs.Link.Owes.{Owes, same-unique, same-entered, joining-owners}
use Rattle.condition3.proofs.Link.Owes.{joining-messages}
use Rattle.condition3.proofs.Common.{known}

module _ (caps : Capacities) (w : World) (inv : Inv caps w) where
  abbrev L : Ledger
  L = inv.ledger

  -- the messages of a read's start, of client d: each is a request
  module _ (d : ℕ) (ms : List Message)
      (requests : Each (λ m. (owner_of m ≡ d) × (is_prepare m ≡ false) × (is_any_got m ≡ false)) ms)
    where
      request-owners : (l : Labelled) → In l (map (labelled d w.time w.time) ms)
          → l.label.client ≡ owner_of l.message
      request-owners = joining-owners d w.time ms (λ m i. (requests m i).0)

      requests-come : (l : Labelled) → In l (map (labelled d w.time w.time) ms)
          → Comes (w.writes ++ []) (w.stores ++ []) l.label l.message
      requests-come l i =
          let y = in_map (labelled d w.time w.time) l ms i in
          let x = requests y.0 y.1 in
          subst (λ (x : Labelled). Comes (w.writes ++ []) (w.stores ++ []) x.label
          x.message) (sym y.2)
          (record { prepare = λ p. not-both p x.1; got = λ p. not-both p x.2 })

  pub read-owes : (d s : ℕ) → Owes caps w inv (start_read d s)
  unfolding effect joining staying without_all begun storing
  read-owes d s =
      let ms = gets w.tables d s in
      let requests = each-upto (λ m. (owner_of m ≡ d) × (is_prepare m ≡ false)
      × (is_any_got m ≡ false)) (λ k. Get d k (asks w.tables d k)) w.tables.sizes.items
      (has s) (λ k l e. (refl, refl, refl)) in
      record {
        in_flight = joining-messages d w.time w.time w.in_flight ms w.tables.messages
            inv.in_flight;
        stays = λ l i. i;
        owners = request-owners d ms requests;
        unique = same-unique caps w inv;
        entered = same-entered caps w inv (effect w.tables (start_read d s)).client
            (put-rises w.tables.client d (reader w.tables d s)
            (le_refl (w.tables.client d).count));
        stored = λ v i. inl i;
        comes = requests-come d ms requests;
      }

  pub fast-read-owes : (d s : ℕ) → Owes caps w inv (start_fast_read d s)
  unfolding effect joining staying without_all begun storing
  fast-read-owes d s =
      let ms = first_gets w.tables d s in
      let requests = each-upto (λ m. (owner_of m ≡ d) × (is_prepare m ≡ false)
      × (is_any_got m ≡ false)) (FirstGet d) w.tables.sizes.items (has s)
      (λ k l e. (refl, refl, refl)) in
      record {
        in_flight = joining-messages d w.time w.time w.in_flight ms w.tables.messages
            inv.in_flight;
        stays = λ l i. i;
        owners = request-owners d ms requests;
        unique = same-unique caps w inv;
        entered = same-entered caps w inv (effect w.tables (start_fast_read d s)).client
            (put-rises w.tables.client d (fast_reader w.tables d s)
            (le_refl (w.tables.client d).count));
        stored = λ v i. inl i;
        comes = requests-come d ms requests;
      }

  -- a call apart owes nothing
  pub apart-owes : (c : Call) → Apart w.tables c → Owes caps w inv c
  apart-owes c a =
      record {
        in_flight = rw (apart-staying w c a, apart-joining w c a, apart-tables w c a)
            (ap (map (λ (l : Labelled). l.message)) (append-nil w.in_flight) ∙ inv.in_flight);
        stays = λ l i. rw (apart-staying w c a) at i;
        owners = λ l i. absurd (rw (apart-joining w c a) at i);
        unique = rw (apart-begun w c a) (same-unique caps w inv);
        entered = rw (apart-begun w c a, apart-begins w c a, apart-tables w c a)
            (same-entered caps w inv w.tables.client
            (λ d. le_refl (w.tables.client d).count));
        stored = λ v i. inl (sublist-in a.fewer v (rw (apart-tables w c a) at i));
        comes = λ l i. absurd (rw (apart-joining w c a) at i);
      }

  -- ---- the start of a write, alone or in a mixed transaction

  module _ (d s : ℕ) (bytes : List ℕ) (is-client : IsClient w.tables.sizes d) where
    abbrev stamp : ℕ
    stamp = next_stamp w.tables d

    abbrev new : Write
    new = record { start = w.time; stamp = stamp; set = s; values = value_of s bytes }

    abbrev L' : Ledger
    L' = entered L stamp s (value_of s bytes)

    writer-is : writer_of stamp ≡ d
    writer-is = let small : d < 16 = omega (arith, inv.sound.valid.in_range.sizes.clients) in
        omega arith

    old-or-new : (a : Write) → In a (known (w.writes ++ new ∷ [])) → In a (known w.writes)
        ⊎ (a ≡ new)
    old-or-new a p = ⊎_elim (λ q. inl q) (⊎_elim (λ e. inr e) (λ z. absurd z))
        (in-append a (known w.writes) (new ∷ []) p)

    fresh-stamp : (a : Write) → In a (known w.writes) → a.stamp ≡ stamp → ⊥
    fresh-stamp a p e = stamp-new caps L w.tables inv.sound d s bytes is-client a.stamp
        (inv.entered a p).number e

    write-unique : (a b : Write) → In a (known (w.writes ++ new ∷ []))
        → In b (known (w.writes ++ new ∷ [])) → a.stamp ≡ b.stamp → a ≡ b
    write-unique a b p q e =
        ⊎_elim
        (λ x. ⊎_elim (λ y. inv.unique a b x y e)
        (λ y. absurd (fresh-stamp a x (e ∙ ap (λ (z : Write). z.stamp) y))) (old-or-new b q))
        (λ x. ⊎_elim (λ y. absurd (fresh-stamp b y (sym e ∙ ap (λ (z : Write). z.stamp) x)))
        (λ y. x ∙ sym y) (old-or-new b q))
        (old-or-new a p)

    -- with a client c that has its number as count
    module _ (c : Client) (number : c.count ≡ suc (greatest_of w.tables d)) where
      abbrev client' : ℕ → Client
      client' = put w.tables.client d c

      new-entered : Entered L' client' new
      new-entered =
          record {
            set = sym (put_same L.set stamp s);
            values = λ k e.
                sym (ap (λ (f : ℕ → ℕ). f k) (put_same L.value stamp (value_of s bytes)));
            number = rw (writer-is, put_same w.tables.client d c) (omega (arith, number));
          }

      write-entered : (a : Write) → In a (known (w.writes ++ new ∷ [])) → Entered L' client' a
      write-entered a p =
          ⊎_elim
          (λ q. let x = inv.entered a q in
          let carried = carries caps L w.tables inv.sound d s bytes is-client a.stamp
          x.number in
          record {
            set = x.set ∙ sym carried.set;
            values = λ k e. x.values k e
                ∙ sym (carried.value k (or_right (eqb a.stamp 0) (has (L.set a.stamp) k)
                (subst (λ (r : ℕ). has r k ≡ true) x.set e)));
            number = le_trans x.number
                (put-rises w.tables.client d c (omega (arith, number)) (writer_of a.stamp));
          })
          (λ q. subst (λ (z : Write). Entered L' client' z) (sym q) new-entered)
          (old-or-new a p)

    abbrev prepare : ℕ → Message
    prepare k = Prepare (version k (value_of s bytes k) stamp s)

    -- the messages of such a start: each is of client d, a prepare of this write or a request
    pub record Joins (m : Message) : Type 0 where
      pub owner : owner_of m ≡ d
      pub stamp_of_prepare : is_prepare m ≡ true → (parts_of m).stamp ≡ stamp
      pub no_got : is_any_got m ≡ false

    prepares-join : Each Joins (prepares w.tables d s bytes)
    prepares-join =
        each-upto Joins prepare w.tables.sizes.items (has s)
        (λ k l e. record { owner = writer-is; stamp_of_prepare = λ p. refl; no_got = refl })

    gets-join : (r : ℕ) → Each Joins (gets w.tables d r)
    gets-join r =
        each-upto Joins (λ k. Get d k (asks w.tables d k)) w.tables.sizes.items (has r)
        (λ k l e. record { owner = refl; stamp_of_prepare = λ p. not-both p refl; no_got = refl })

    module _ (ms : List Message) (joins : Each Joins ms) where
      joins-owners : (l : Labelled) → In l (map (labelled d w.time w.time) ms)
          → l.label.client ≡ owner_of l.message
      joins-owners = joining-owners d w.time ms (λ m i. (joins m i).owner)

      joins-come : (l : Labelled) → In l (map (labelled d w.time w.time) ms)
          → Comes (w.writes ++ new ∷ []) (w.stores ++ []) l.label l.message
      joins-come l i =
          let y = in_map (labelled d w.time w.time) l ms i in
          let x = joins y.0 y.1 in
          subst (λ (x : Labelled). Comes (w.writes ++ new ∷ []) (w.stores ++ []) x.label
          x.message) (sym y.2)
          (record {
            prepare = λ p. record {
              write = new;
              is_in = in_right new w.writes (new ∷ []) (inl refl);
              same = sym (x.stamp_of_prepare p);
              started = refl;
            };
            got = λ p. not-both p x.no_got;
          })

    pub write-owes : Owes caps w inv (start_write d s bytes)
    unfolding effect joining staying without_all begun storing
    write-owes =
        let ms = prepares w.tables d s bytes in
        record {
          in_flight = joining-messages d w.time w.time w.in_flight ms w.tables.messages
              inv.in_flight;
          stays = λ l i. i;
          owners = joins-owners ms prepares-join;
          unique = write-unique;
          entered = write-entered (writer w.tables d s bytes) refl;
          stored = λ v i. inl i;
          comes = joins-come ms prepares-join;
        }

    pub mixed-owes : (r : ℕ) → Owes caps w inv (start_mixed d r s bytes)
    unfolding effect joining staying without_all begun storing
    mixed-owes r =
        let ms = mixed_messages w.tables d r s bytes in
        let joins : Each Joins ms = each_append Joins (gets w.tables d r)
        (prepares w.tables d s bytes) (gets-join r) prepares-join in
        record {
          in_flight = joining-messages d w.time w.time w.in_flight ms w.tables.messages
              inv.in_flight;
          stays = λ l i. i;
          owners = joins-owners ms joins;
          unique = write-unique;
          entered = write-entered (mixer w.tables d r s bytes) refl;
          stored = λ v i. inl i;
          comes = joins-come ms joins;
        }
