-- What the starts' code requires, of a block that holds tables for which the start is accepted.
use mathlib.Core.List.{List}
use Prim.Native.Nat.{ℕ, ◌*◌, ◌^◌, ◌≤◌, ◌<◌}
use native.Mathlib.Nat.{le_refl}
use native.Mathlib.Omega.{arith}
use lib.ListN.{length}
use Rattle.itemset.specs.Set.{count}
use Rattle.protocol.specs.Tables.{Tables}
use Rattle.protocol.specs.Range.{capacities}
use Rattle.protocol.proofs.Refusals.{AcceptedStart, AcceptedWrite}
use Rattle.layout.specs.Layout.{needed, header, at, items_at}
use Rattle.layout.specs.Encodes.{Encodes}
use Rattle.protocol.proofs.Known.{greatest-fits}
use Rattle.start.specs.Start.{greatest_on}
use Rattle.start.proofs.Numbers.{greatest-held}

pub record ReadyStart (b : List ℕ) (d : ℕ) : Type 0 where
  pub first : 1 ≤ d
  pub last : d ≤ 8
  pub items : at b header items_at ≤ 64

pub record ReadyWrite (b : List ℕ) (d s : ℕ) (bytes : List ℕ) : Type 0 where
  pub start : ReadyStart b d
  pub number_fits : greatest_on b d (at b header items_at) < 2 ^ 32
  pub long : needed ≤ length b
  pub values : 4 * count s ≤ length bytes

pub ready-start : (b : List ℕ) (t : Tables) (d s : ℕ) → Encodes b t → AcceptedStart capacities t d s
    → ReadyStart b d
ready-start b t d s n a =
    let z = a.valid.in_range.sizes in
    record {
      first = a.client.0;
      last = omega (arith, a.client.1, z.clients);
      items = omega (arith, n.items, z.items);
    }

pub ready-write : (b : List ℕ) (t : Tables) (d s : ℕ) (bytes : List ℕ) → Encodes b t
    → AcceptedWrite capacities t d s bytes → ReadyWrite b d s bytes
ready-write b t d s bytes n w =
    let a = w.start in
    record {
      start = ready-start b t d s n a;
      number_fits =
          rw (n.items, greatest-held b t d n a.client.0 a.client.1)
          (omega (
            arith,
            (a.valid.in_range.client d a.client).count,
            greatest-fits t.sizes (t.view d) (a.valid.in_range.view d a.client)
                t.sizes.items (le_refl t.sizes.items),
          ));
      long = n.long;
      values = omega (arith, w.values);
    }
