-- Freshly made tables are linked to the empty history, and every call keeps the link.
use mathlib.Core.Bool.{true}
use mathlib.Core.List.{[]}
use mathlib.Core.Logic.{⊎_elim}
use mathlib.Core.Path.{◌≡◌, refl, sym, ◌∙◌, subst}
use native.Mathlib.Omega.{arith}
use borrow.Author.Tests.{eqb-true}
use Rattle.basics.proofs.Cases.{by-test}
use Rattle.basics.specs.Lists.{In}
use Rattle.protocol.specs.Tables.{Sizes}
use Rattle.protocol.specs.Range.{Capacities, sizes_in_range}
use Rattle.protocol.specs.Steps.{stored}
use Rattle.protocol.specs.Calls.{Call, refusal}
use Rattle.condition3.specs.World.{World, Write, begin, accepts, moved, passed, next}
use Rattle.protocol.proofs.Sorts.{Sort, reads, reads_fast, writes, mixes, delivers, apart, sort}
use Rattle.condition3.proofs.Sound.Step.{blank, sound-fresh}
use Rattle.condition3.proofs.Sound.StartWrite.{entered}
use Rattle.condition3.proofs.Link.{Entered, Inv}
use Rattle.condition3.proofs.Link.Grows.{grow-stored, grows_self}
use Rattle.condition3.proofs.Link.Messages.{placed-here}
use Rattle.condition3.proofs.Link.Owes.{Owes, pay}
use Rattle.condition3.proofs.Link.Starts.{read-owes, fast-read-owes, write-owes, mixed-owes}
use Rattle.condition3.proofs.Link.Starts.{apart-owes}
use Rattle.condition3.proofs.Link.Delivery.{deliver-owes}
use Rattle.condition3.proofs.Common.{known, origin}

-- ---- fresh tables

pub begin-inv : (caps : Capacities) (z : Sizes) → sizes_in_range z ≡ true → Inv caps (begin z)
begin-inv caps z ok =
    record {
      ledger = blank;
      sound = sound-fresh caps z ok;
      in_flight = refl;
      owners = λ l i. absurd i;
      unique = λ a b p q e. only-origin a p ∙ sym (only-origin b q);
      entered =
          λ a p. subst (λ (x : Write). Entered blank (begin z).tables.client x)
          (sym (only-origin a p))
          (record { set = refl; values = λ k e. refl; number = omega arith });
      stored = λ v i. absurd i;
      comes = λ l i. absurd i;
    }
  where
    only-origin : (a : Write) → In a (known []) → a ≡ origin
    only-origin a p = ⊎_elim (λ e. e) (λ x. absurd x) p

module _ (caps : Capacities) (w : World) (inv : Inv caps w) where
  -- a call that changes nothing takes its time
  pub passed-inv : Inv caps (passed w)
  passed-inv =
      record {
        ledger = inv.ledger;
        sound = inv.sound;
        in_flight = inv.in_flight;
        owners = inv.owners;
        unique = inv.unique;
        entered = inv.entered;
        stored = λ v i.
            grow-stored w (passed w) (grows_self w) v.stamp v.item (inv.stored v i);
        comes = inv.comes;
      }

  sort-owes : {c : Call} → Sort caps w.tables c → Owes caps w inv c
  sort-owes (reads d s a) = read-owes caps w inv d s
  sort-owes (reads_fast d s a) = fast-read-owes caps w inv d s
  sort-owes (writes d s bytes a) = write-owes caps w inv d s bytes a.start.client
  sort-owes (mixes d r s bytes a) = mixed-owes caps w inv d s bytes a.read.client r
  sort-owes (delivers i a) = deliver-owes caps w inv i (placed-here caps w inv i a.place)
  sort-owes (apart c v a) = apart-owes caps w inv c a

  pub moved-inv : (c : Call) → refusal caps w.tables c ≡ 0 → Inv caps (moved w c)
  moved-inv c e = pay caps w inv c e (sort-owes (sort caps w.tables c e))

  pub next-inv : (c : Call) → Inv caps (next caps w c)
  unfolding next
  next-inv c =
      by-test (accepts caps w c)
      (λ e. rw e (moved-inv c (eqb-true (refusal caps w.tables c) 0 e)))
      (λ e. rw e passed-inv)
