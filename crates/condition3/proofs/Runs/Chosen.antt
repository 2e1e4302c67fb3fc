-- What a mixed transaction shows is what its start asked for: the stamps are kept until its end,
-- and its own write, which is later, enters no view before it.
use mathlib.Core.Bool.{true}
use mathlib.Core.List.{List, []}
use mathlib.Core.Logic.{⊎_elim}
use mathlib.Core.Path.{◌≡◌, refl, sym, ap, ◌∙◌, subst}
use Prim.Native.Nat.{ℕ, ◌≤◌, ◌<◌}
use native.Mathlib.Omega.{arith}
use lib.ListN.{length}
use Rattle.itemset.specs.Set.{has}
use Rattle.itemset.proofs.Laws.{has-below}
use Rattle.protocol.specs.Tables.{Tables, number_of, writer_of}
use Rattle.protocol.specs.Range.{Capacities}
use Rattle.protocol.specs.Steps.{asks, next_stamp}
use Rattle.protocol.specs.Calls.{Call, start_mixed}
use Rattle.condition3.specs.World.{World, after, rests}
use Rattle.condition3.specs.Condition3.{length_of, EndedBy, ShownWith, shown_number}
use Rattle.condition3.specs.Condition3.{shown_own_number, shown_at, output_of_read}
use Rattle.condition3.specs.Condition3.Manner.{writing}
use Rattle.condition3.specs.Condition3.Company.{reading}
use Rattle.protocol.proofs.Known.{greatest-ge}
use Rattle.protocol.proofs.Stored.{Chosen, choice-chosen}
use Rattle.condition3.proofs.Link.{Inv}
use Rattle.condition3.proofs.Runs.Ended.{EndedRead}
use Rattle.condition3.proofs.Runs.ReadCounts.{ended-read}
use Rattle.condition3.proofs.Runs.ReadShows.{number-shown, writer-shown}
use Rattle.condition3.proofs.Runs.WriteShows.{own-number}

-- what a start asks for the view shows, and its write is later than all of the view
asked-older : (t : Tables) (d k : ℕ) → d < 16 → k < t.sizes.items
    → number_of (asks t d k) < number_of (next_stamp t d)
asked-older t d k small below =
    let c : Chosen (t.view d) k t.sizes.items =
    choice-chosen (t.view d) k t.sizes.items in
    let here : c.place < t.sizes.items =
    ⊎_elim (λ e. subst (λ (x : ℕ). x < t.sizes.items) (sym e) below) (λ q. q.0) c.why in
    omega (
      arith,
      small,
      ap number_of c.stamp,
      greatest-ge (t.view d) t.sizes.items c.place here,
    )

module _ (caps : Capacities) (w : World) (inv : Inv caps w) (d s z : ℕ) (bytes : List ℕ)
    (before during until : List Call) (end : Call) (room : List ℕ)
    (u : EndedBy caps w d (start_mixed d s z bytes) before during end)
    (quietly : rests caps (shown_at caps w (start_mixed d s z bytes) before during end []) d until
    ≡ true)
    (enough : length_of (writing z bytes) s ≤ length room) (k : ℕ) (m : has s k ≡ true) where
  abbrev t : Tables
  t = (after caps w before).tables

  abbrev output : List ℕ
  output = output_of_read caps w (writing z bytes) d s before during end until room

  abbrev ended : EndedRead caps w (writing z bytes) d s before during end
  ended = ended-read caps w inv (writing z bytes) refl d s before during end u

  asked : ended.stamps k ≡ asks t d k
  unfolding ended-read
  asked = rw m refl

  number : shown_number s output k ≡ number_of (asks t d k)
  number = number-shown caps w inv (writing z bytes) d s before during end ended until [] room
      quietly enough k m ∙ ap number_of asked

  pub shows-chosen : ShownWith s output k (asks t d k)
  shows-chosen = (
    number,
    writer-shown caps w inv (writing z bytes) d s before during end ended until [] room quietly
        enough k m ∙ ap writer_of asked,
  )

  pub shown-older : shown_number s output k < shown_own_number (reading s) output
  shown-older =
      let start = ended.start in
      omega (
        arith,
        number,
        own-number caps w inv (reading s) d z bytes before during end until room u quietly enough,
        asked-older t d k
            (omega (arith, start.client.1, start.valid.in_range.sizes.clients))
            (has-below s k t.sizes.items start.set m),
      )
