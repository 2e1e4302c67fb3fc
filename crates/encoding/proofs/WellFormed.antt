-- What `well_formed` and `valid_block` tell of a block, as records of plain facts, both ways.
use mathlib.Core.Bool.{Bool, true, cond}
use mathlib.Core.List.{List}
use mathlib.Core.Logic.{◌↔◌}
use mathlib.Core.Path.{◌≡◌, ap, subst}
use Prim.Native.Nat.{ℕ, ◌≤◌, ◌<◌}
use lib.Dec.{eqb, leb}
use lib.ListN.{length}
use borrow.Author.Tests.{le-leb}
use Rattle.basics.proofs.Cases.{and_both}
use Rattle.protocol.specs.Tables.{Sizes, is_kind, nothing, resting}
use Rattle.protocol.specs.Message.{kinds}
use Rattle.protocol.specs.Range.{capacities, is_client}
use Rattle.protocol.proofs.Tells.{tells, tells-and}
use Rattle.protocol.proofs.Ranges.Values.{SizesInRange, IsClient, tells-sizes}
use Rattle.protocol.proofs.Ranges.Clients.{ClientInRange}
use Rattle.protocol.proofs.Ranges.Tables.{is-client, each-client, Valid, tells-valid}
use Rattle.layout.specs.Layout.{most_versions, most_messages}
use Rattle.layout.specs.Layout.{header, scalars, needed, at, versions_at, messages_at, mode_at}
use Rattle.layout.specs.Layout.{last_kind_at, modes}
use Rattle.layout.specs.Decode.{sizes_in, kind_in, client_in, tables_of, awaits_none, has_parts}
use Rattle.layout.specs.Decode.{well_formed, valid_block}

-- a client that exists passes its test
pub client-test : (z : Sizes) (d : ℕ) → IsClient z d → is_client z d ≡ true
client-test z d c = and_both (leb 1 d) (leb d z.clients) (le-leb 1 d c.0)
    (le-leb d z.clients c.1)

pub record WellFormed (b : List ℕ) : Type 0 where
  pub long : needed ≤ length b
  pub sizes : SizesInRange (sizes_in b)
  pub version_count : at b header versions_at ≤ most_versions
  pub message_count : at b header messages_at ≤ most_messages
  pub mode : (d : ℕ) → IsClient (sizes_in b) d → at b scalars (mode_at d) < modes
  pub idle : (d : ℕ) → IsClient (sizes_in b) d
      → eqb (at b scalars (mode_at d)) 0 ≡ awaits_none b d
  pub parts : (d : ℕ) → IsClient (sizes_in b) d → has_parts b d ≡ true
  pub last_kind : (d : ℕ) → IsClient (sizes_in b) d → is_kind (at b scalars (last_kind_at d)) ≡ true
  pub some_kind : (i : ℕ) → i < at b header messages_at → 1 ≤ kind_in b i
  pub kind : (i : ℕ) → i < at b header messages_at → kind_in b i ≤ kinds

pub tells-well-formed : (b : List ℕ) → (well_formed b ≡ true) ↔ WellFormed b
unfolding well_formed
tells-well-formed b = (
  λ e.
      let f = simp (tells, tells-sizes) at e in
      let client = each-client (sizes_in b)
      (λ d. (((at b scalars (mode_at d) < modes)
      × (eqb (at b scalars (mode_at d)) 0 ≡ awaits_none b d)) × (has_parts b d ≡ true))
      × (is_kind (at b scalars (last_kind_at d)) ≡ true)) f.0.1 in
      let mode : (d : ℕ) → IsClient (sizes_in b) d → at b scalars (mode_at d) < modes =
      λ d c. (client d c).0.0.0 in
      let idle : (d : ℕ) → IsClient (sizes_in b) d
      → eqb (at b scalars (mode_at d)) 0 ≡ awaits_none b d =
      λ d c. (client d c).0.0.1 in
      let parts : (d : ℕ) → IsClient (sizes_in b) d → has_parts b d ≡ true =
      λ d c. (client d c).0.1 in
      let last_kind : (d : ℕ) → IsClient (sizes_in b) d
      → is_kind (at b scalars (last_kind_at d)) ≡ true = λ d c. (client d c).1 in
      let some_kind : (i : ℕ) → i < at b header messages_at → 1 ≤ kind_in b i = λ i l. (f.1 i l).0 in
      let kind : (i : ℕ) → i < at b header messages_at → kind_in b i ≤ kinds = λ i l. (f.1 i l).1 in
      search,
  λ r. simp (tells, tells-sizes)
      (search (r.mode, r.idle, r.parts, r.last_kind, r.some_kind, r.kind, is-client)),
)

-- not refused by 1
pub record ValidBlock (b : List ℕ) : Type 0 where
  pub well_formed : WellFormed b
  pub valid : Valid capacities (tables_of b)

pub tells-valid-block : (b : List ℕ) → (valid_block b ≡ true) ↔ ValidBlock b
unfolding valid_block
tells-valid-block b = (
  λ e. let f = simp (tells-and, tells-well-formed, tells-valid) at e in
      search,
  λ r. simp (tells-and, tells-well-formed, tells-valid) search,
)

-- the client that the words are is in range
pub client-range : (b : List ℕ) → ValidBlock b → (d : ℕ) → IsClient (sizes_in b) d
    → ClientInRange (sizes_in b) (client_in b d)
unfolding tables_of
client-range b v d c =
    subst (ClientInRange (sizes_in b)) (ap (λ (x : Bool). cond x (client_in b d) (resting 0 nothing))
    (client-test (sizes_in b) d c)) (v.valid.in_range.client d c)
