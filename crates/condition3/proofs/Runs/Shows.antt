-- A showing of a read that is its client's last transaction, or part of it: accepted with room
-- enough, and its output bytes say the read's stamps and values.
use mathlib.Core.Bool.{true}
use mathlib.Core.List.{List, ◌∷◌, ◌++◌}
use mathlib.Core.Path.{◌≡◌, ap, ◌∙◌, subst}
use Prim.Native.Nat.{ℕ, ◌+◌, ◌*◌, ◌^◌, ◌≤◌, ◌<◌}
use native.Mathlib.Omega.{arith}
use lib.Dec.{eqb}
use lib.ListN.{length, take, drop}
use borrow.Author.Tests.{eqb-true, eqb-false}
use Rattle.basics.proofs.Cases.{by-test}
use Rattle.hexadecimal.specs.Number.{number_at, big_endian}
use Rattle.itemset.specs.Set.{has, rank}
use Rattle.itemset.proofs.Laws.{below-le}
use Rattle.protocol.specs.declared.Answer.TheVariants.{Shown}
use Rattle.protocol.specs.Tables.{Client, Ended, shows_read, rested, number_of, writer_of}
use Rattle.protocol.specs.Range.{Capacities}
use Rattle.protocol.specs.LogFrame.{frame_byte, frame}
use Rattle.protocol.specs.Calls.{show, refusal, step, reply, written, is_nothing, shown_frame}
use Rattle.condition3.specs.World.{World}
use Rattle.condition3.specs.Condition3.{shown_number, shown_writer, shown_value}
use Rattle.protocol.proofs.Ranges.Values.{SizesInRange, IsClient}
use Rattle.protocol.proofs.Ranges.Clients.{ReadPartInRange, EndedInRange}
use Rattle.protocol.proofs.Ranges.Tables.{Valid}
use Rattle.protocol.proofs.Refusals.{accepted-show, idle-rested}
use Rattle.protocol.proofs.Shown.{shows-some, frame-head-client, shown-number, shown-writer}
use Rattle.protocol.proofs.Shown.{shown-value}
use Rattle.condition3.proofs.Link.{Inv}

-- ---- a showing of a read that is the client's last transaction

module _ (caps : Capacities) (x : World) (inv : Inv caps x) (d : ℕ) (before : Client) (e : Ended)
    (room : List ℕ) (is_client : IsClient x.tables.sizes d)
    (shows : shows_read e.kind ≡ true)
    (kept : x.tables.client d ≡ rested before e) (size : ℕ)
    (long : SizesInRange x.tables.sizes → EndedInRange x.tables.sizes e
    → length (frame d e) ≡ size)
    (enough : size ≤ length room) where
  valid-here : Valid caps x.tables
  valid-here = inv.sound.valid

  sizes : SizesInRange x.tables.sizes
  sizes = valid-here.in_range.sizes

  abbrev s : ℕ
  s = e.read.set

  abbrev stamps : ℕ → ℕ
  stamps = e.read.asked

  in-range : EndedInRange x.tables.sizes e
  in-range = subst (λ (c : Client). EndedInRange x.tables.sizes c.last) kept
      (valid-here.in_range.client d is_client).last

  ended : ReadPartInRange x.tables.sizes e.read
  ended = in-range.read shows

  below_64 : s < 2 ^ 64
  below_64 = below-le s x.tables.sizes.items 64 ended.set sizes.items

  frame_is : shown_frame x.tables d ≡ frame d e
  frame_is = ap (λ (c : Client). frame d c.last) kept

  frame-length : length (shown_frame x.tables d) ≡ size
  frame-length = ap length frame_is ∙ long sizes in-range

  accepted : refusal caps x.tables (show d room) ≡ 0
  unfolding is_nothing
  accepted =
      (accepted-show caps x.tables d room).1
      (record {
        valid = valid-here;
        client = is_client;
        idle = idle-rested before e kept;
        ended = ap (λ (c : Client). is_nothing c.last) kept ∙ shows-some e.kind shows;
        room = omega (arith, frame-length, enough);
      })

  pub answer-is : (step caps x.tables (show d room)).answer ≡ Shown size
  unfolding step reply
  answer-is = rw accepted (ap Shown frame-length)

  abbrev output : List ℕ
  output = (step caps x.tables (show d room)).output

  abbrev rest : List ℕ
  rest = drop (length (shown_frame x.tables d)) room

  output-is : output ≡ frame d e ++ rest
  unfolding step written
  output-is = rw accepted (ap (λ (f : List ℕ). f ++ rest) frame_is)

  pub head-is : take 10 output ≡ frame_byte e.kind ∷ d ∷ big_endian 8 s
  head-is = ap (take 10) output-is
      ∙ frame-head-client d e shows rest (omega (arith, is_client.1, sizes.clients))

  module _ (k : ℕ) (member : has s k ≡ true) where
    number_fits_lem : number_of (stamps k) < 2 ^ 32
    number_fits_lem =
        by-test (eqb (stamps k) 0)
        (λ e. let z : stamps k ≡ 0 = eqb-true (stamps k) 0 e in omega arith)
        (λ e. (ended.asked k member (eqb-false (stamps k) 0 e)).fits)

    pub number_is : shown_number s output k ≡ number_of (stamps k)
    number_is = ap (λ (o : List ℕ). number_at 4 o (10 + 9 * rank s k)) output-is
        ∙ shown-number d e shows rest k member below_64 number_fits_lem

    pub writer-is : shown_writer s output k ≡ writer_of (stamps k)
    writer-is = ap (λ (o : List ℕ). number_at 1 o (14 + 9 * rank s k)) output-is
        ∙ shown-writer d e shows rest k member below_64

    pub value-is : shown_value s output k ≡ e.read.values k
    value-is = ap (λ (o : List ℕ). number_at 4 o (15 + 9 * rank s k)) output-is
        ∙ shown-value d e shows rest k member below_64 (ended.values k member)
