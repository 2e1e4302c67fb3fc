-- The history of calls only grows, and what the link says of it with it; so do views.
use mathlib.Core.Logic.{inl, inr}
use Prim.Native.Nat.{ℕ, ◌≤◌}
use mathlib.Core.Path.{◌≡◌}
use native.Mathlib.Nat.{le_refl, le-suc, lt_of_lt_of_le}
use Rattle.basics.specs.Lists.{In}
use Rattle.basics.proofs.Lists.{in_left}
use Rattle.protocol.specs.declared.Message.{Message}
use Rattle.protocol.specs.Range.{Capacities}
use Rattle.protocol.specs.Calls.{Call, refusal, effect}
use Rattle.condition3.specs.World.{World, Label, Write, Store, begun, storing, moved, passed}
use Rattle.protocol.proofs.Sorts.{ViewGrows}
use Rattle.protocol.proofs.Keeps.{keeps}
use Rattle.condition3.proofs.Link.{LandedBefore, Landed, Comes}
use Rattle.condition3.proofs.Common.{known}

pub record Grows (w w' : World) : Type 0 where
  pub writes : (a : Write) → In a w.writes → In a w'.writes
  pub stores : (σ : Store) → In σ w.stores → In σ w'.stores
  pub time : w.time ≤ w'.time
  pub view : ViewGrows w.tables w'.tables

pub grow-known : (w w' : World) → Grows w w' → (a : Write) → In a (known w.writes)
    → In a (known w'.writes)
grow-known w w' g a (inl e) = inl e
grow-known w w' g a (inr i) = inr (g.writes a i)

pub grow-landed : (w w' : World) → Grows w w' → (a : Write) (j n : ℕ)
    → LandedBefore w.stores a j n → LandedBefore w'.stores a j n
grow-landed w w' g a j n σ = (σ.0, g.stores σ.0 σ.1, σ.2, σ.3, σ.4)

pub grow-stored : (w w' : World) → Grows w w' → (s k : ℕ)
    → Landed w.writes w.stores w.time s k
    → Landed w'.writes w'.stores w'.time s k
grow-stored w w' g s k x =
    record {
      write = x.write;
      is_in = g.writes x.write x.is_in;
      same = x.same;
      before = (
        x.before.0,
        g.stores x.before.0
            x.before.1,
        x.before.2,
        x.before.3,
        lt_of_lt_of_le x.before.4 g.time,
      );
    }

pub grow-comes : (w w' : World) → Grows w w' → (l : Label) (m : Message)
    → Comes w.writes w.stores l m → Comes w'.writes w'.stores l m
grow-comes w w' g l m x =
    record {
      prepare = λ e. let y = x.prepare e in record {
        write = y.write;
        is_in = g.writes y.write y.is_in;
        same = y.same;
        started = y.started;
      };
      got = λ e. let y = x.got e in record {
        write = y.write;
        is_known = grow-known w w' g y.write y.is_known;
        same = y.same;
        landed = λ j h. grow-landed w w' g y.write j l.since (y.landed j h);
      };
    }

pub moved-grows : (caps : Capacities) (w : World) (c : Call) → refusal caps w.tables c ≡ 0
    → Grows w (moved w c)
unfolding effect
moved-grows caps w c e =
    record {
      writes = λ a i. in_left a w.writes (begun w c) i;
      stores = λ σ i. in_left σ w.stores (storing w c) i;
      time = le-suc w.time;
      view = (keeps caps w.tables c e).view;
    }

pub grows_self : (w : World) → Grows w (passed w)
grows_self w =
    record {
      writes = λ a i. i;
      stores = λ σ i. i;
      time = le-suc w.time;
      view = λ d k. le_refl (w.tables.view d k).stamp;
    }
