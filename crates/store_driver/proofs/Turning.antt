-- What a turn takes joins what was taken before it.
use mathlib.Core.Bool.{Bool, true, false}
use mathlib.Core.List.{List, ◌++◌}
use mathlib.Core.Path.{◌≡◌, refl, sym, ap, ◌∙◌}
use Prim.Native.Nat.{ℕ, ◌+◌, ◌≤◌, ◌<◌}
use Rattle.std.specs.Prelude.{Result, Ok}
use native.Mathlib.Omega.{arith}
use lib.ListN.{length, get_or, take, length-take}
use lib.Seq.{take-take}
use Rattle.lines.specs.Input.{Lent, fed, fed_all, closed}
use Rattle.lines.proofs.Feeding.{fed_all-append, fed_all-next}
use Rattle.store_driver.specs.Turn.{TookOf, turned, TurnOf, ServedBy}

-- one more byte is fed
pub fed-next : (start s after : Lent) (input : List ℕ) (i : ℕ) → i < length input
    → s ≡ fed_all start (take i input) → after ≡ fed s (get_or input i 0)
    → after ≡ fed_all start (take (i + 1) input)
fed-next start s after input i h so_far step =
    step
    ∙ ap (λ (t : Lent). fed t (get_or input i 0)) so_far
    ∙ sym (fed_all-next start input i h)

turned-append : (ended : Bool) (s : Lent) (xs ys : List ℕ) → turned ended (fed_all s xs) ys ≡ turned
    ended s (xs ++ ys)
unfolding turned
turned-append true s xs ys = ap closed (sym (fed_all-append s xs ys))
turned-append false s xs ys = sym (fed_all-append s xs ys)

take_part : (k n : ℕ) (l : List ℕ) → k ≤ length (take n l) → take k (take n l) ≡ take k l
take_part k n l h = take-take k n l (omega (arith, length-take n l))

-- the bytes taken of a read's are taken of what it left in the buffer of reads
pub took-part : {E F : Type 0} (n : ℕ) {before after : Lent} {chunk : List ℕ}
    {took : Result (Unit {0}) E} → (e : TookOf before after (take n chunk) took)
    → (result : Result Bool F) → (result ≡ Ok true → 1 ≤ e.taken) → (result ≡ Ok false → false ≡ true)
    → TurnOf before after chunk result
unfolding turned
took-part n {before} {after} {chunk} e result some stops =
    record {
      taken = e.taken;
      ended = false;
      goes = λ o. refl;
      some = some;
      stops = stops;
      folded = e.folded ∙ ap (fed_all before) (take_part e.taken n chunk e.within);
    }

module _ (before s after : Lent) (xs ys : List ℕ) (ended : Bool) (so_far : s ≡ fed_all before xs)
    (turn : after ≡ turned ended s ys) where
  turned-last : after ≡ turned ended before (xs ++ ys)
  turned-last =
      turn ∙ ap (λ (t : Lent). turned ended t ys) so_far ∙ turned-append ended before xs ys

  turned_on : ended ≡ false → after ≡ fed_all before (xs ++ ys)
  unfolding turned
  turned_on e = turned-last ∙ ap (λ (k : Bool). turned k before (xs ++ ys)) e

-- the bytes taken by all turns so far
pub record TakenBy (before s : Lent) : Type 0 where
  pub input : List ℕ
  pub folded : s ≡ fed_all before input

module _ {E : Type 0} {before s after : Lent} {chunk : List ℕ} {result : Result Bool E}
    (so_far : TakenBy before s) (turn : TurnOf s after chunk result) where
  abbrev bytes : List ℕ
  bytes = take turn.taken chunk

  pub went_on : result ≡ Ok true → TakenBy before after
  went_on o =
      record {
        input = so_far.input ++ bytes;
        folded =
            turned_on before s after so_far.input bytes turn.ended so_far.folded turn.folded
            (turn.goes o);
      }

  pub stopped : ServedBy before after
  stopped =
      record {
        input = so_far.input ++ bytes;
        ended = turn.ended;
        folded =
            turned-last before s after so_far.input bytes turn.ended so_far.folded turn.folded;
      }

-- no turn is left
pub served : {before s : Lent} → TakenBy before s → ServedBy before s
unfolding turned
served so_far = record { input = so_far.input; ended = false; folded = so_far.folded }
