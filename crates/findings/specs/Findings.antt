-- The three findings, their order, and the verdict on a log (document 01: findings; refusals 15 and
-- 16; document 02, P6: inherited writes, P7: fast reads, P8: mixed transactions, whose read part
-- stands above their own write). A line's number here counts from 0.
use Rattle.std.specs.Prelude.{Bool, cond, not, ◌&&◌, List, [], ◌∷◌, ◌++◌, ℕ, zero, suc, ◌+◌, ◌*◌, eqb, ltb, length, get_or}
use Rattle.hexadecimal.specs.Number.{big_endian}
use Rattle.itemset.specs.Set.{has, insert}
use Rattle.log_format.specs.Some.{some, some_from}
use Rattle.log_format.specs.Log.{too_long, first_line, frames_of, kind_of, client_of, hands_over, receiver_of}
use Rattle.log_format.specs.Log.{reads_own}
use Rattle.log_format.specs.Log.{written, written_stamp, written_value, shown, shown_stamp, shown_value}
use Rattle.log_format.specs.Log.{malformed_at}
use Rattle.findings.specs.declared.Verdict.{Verdict}
use Rattle.findings.specs.declared.Verdict.TheVariants.{TooLong, Malformed, Judged}

-- ---- findings: whether line i is at fault at an item that it shows

-- w wrote the item with that stamp and value
unfoldable pub wrote : ℕ → ℕ → ℕ → List ℕ → Bool
wrote item stamp value w =
    eqb (written_stamp w) stamp && (has (written w) item && eqb (written_value w item) value)

-- a stamp that isn't initial, and no write anywhere has that stamp, item and value; or the initial
-- stamp with a value not 0
unfoldable pub is_unwritten : List (List ℕ) → ℕ → ℕ → ℕ → Bool
is_unwritten frames item stamp value =
    cond (eqb stamp 0) (not (eqb value 0)) (not (some (wrote item stamp value) frames))

-- 1 unwritten
abbrev pub unwritten : List (List ℕ) → ℕ → ℕ → Bool
unwritten frames i item =
    let r = get_or frames i [] in
    is_unwritten frames item (shown_stamp r item) (shown_value r item)

-- r shows an item that w wrote, with an earlier stamp than w's
unfoldable pub behind : List ℕ → List ℕ → Bool
behind r w =
    some_from 64 0 (λ other. has (shown r) other && (has (written w) other
    && ltb (shown_stamp r other) (written_stamp w)))

-- w wrote the item with that stamp, and another item that r shows with an earlier one
unfoldable pub fractures : List ℕ → ℕ → ℕ → List ℕ → Bool
fractures r item stamp w =
    eqb (written_stamp w) stamp && (has (written w) item && behind r w)

-- 2 fractured: the shown stamp's write also wrote another shown item, shown with an earlier stamp
abbrev pub fractured : List (List ℕ) → ℕ → ℕ → Bool
fractured frames i item =
    let r = get_or frames i [] in
    some (fractures r item (shown_stamp r item)) frames

-- clients (desks), and at a hand-over from one of them also the receiver
unfoldable pub with_heir : ℕ → List ℕ → ℕ
with_heir clients f =
    cond (hands_over (kind_of f) && has clients (client_of f)) (insert clients (receiver_of f)) clients

-- the clients as whose own line j's write counts at line i: none down to line j; its own client
-- below it; and whoever takes over from one of them in between
unfoldable pub owners : List (List ℕ) → ℕ → ℕ → ℕ
owners frames j zero = 0
owners frames j (suc i) =
    let above = owners frames j i in
    cond (eqb i j) (insert 0 (client_of (get_or frames j []))) (with_heir above (get_or frames i []))

-- w wrote the item with a later stamp
unfoldable pub outdates : ℕ → ℕ → List ℕ → Bool
outdates item stamp w = has (written w) item && ltb stamp (written_stamp w)

-- the client is one of these, and w wrote the item with a later stamp
unfoldable pub misses_at : ℕ → ℕ → ℕ → ℕ → List ℕ → Bool
misses_at clients client item stamp w = has clients client && outdates item stamp w

-- 3 own write missed: a line above, which counts as its client's own, wrote that item with a later
-- stamp; of a read that is to see its client's own writes
abbrev pub own_write_missed : List (List ℕ) → ℕ → ℕ → Bool
own_write_missed frames i item =
    let r = get_or frames i [] in
    reads_own (kind_of r) && some_from i 0
    (λ j. misses_at (owners frames j i) (client_of r) item (shown_stamp r item) (get_or frames j []))

-- ---- their order

pub record Finding : Type 0 where
  pub number : ℕ
  pub holds : List (List ℕ) → ℕ → ℕ → Bool

-- the findings, lowest first
abbrev pub findings : List Finding
findings =
    record { number = 1; holds = unwritten }
    ∷ record { number = 2; holds = fractured }
    ∷ record { number = 3; holds = own_write_missed }
    ∷ []

-- line i shows an item at which the finding holds
unfoldable pub holds_at : (List (List ℕ) → ℕ → ℕ → Bool) → List (List ℕ) → ℕ → Bool
holds_at holds frames i = some_from 64 0
    (λ item. has (shown (get_or frames i [])) item && holds frames i item)

-- the first of the findings that holds at line i; 0 where none does
unfoldable pub lowest : List Finding → List (List ℕ) → ℕ → ℕ
lowest [] frames i = 0
lowest (f ∷ fs) frames i =
    let rest = lowest fs frames i in
    cond (holds_at f.holds frames i) f.number rest

-- line i is at fault
abbrev pub fault_at : List (List ℕ) → ℕ → Bool
fault_at frames i = some (λ (f : Finding). holds_at f.holds frames i) findings

-- ---- the verdict

-- of well-formed frames: the first line at fault, counted from 1, and there the lowest finding;
-- clean is 0 and 0
unfoldable pub judged : List (List ℕ) → Verdict
judged frames =
    let line = first_line fault_at frames in
    cond (ltb line (length frames)) (Judged (lowest findings frames line) (line + 1)) (Judged 0 0)

-- of frames: 15 with the first malformed line, counted from 1
unfoldable pub checked : List (List ℕ) → Verdict
checked frames =
    let line = first_line malformed_at frames in
    let well = judged frames in
    cond (ltb line (length frames)) (Malformed (line + 1)) well

unfoldable pub verdict : List ℕ → Verdict
verdict log =
    let known = checked (frames_of log) in
    cond (too_long log) TooLong known

-- ---- the verdict as the papers have it

-- as a number: the lowest byte is 0 or the refusal, bits 8 to 15 the finding, bits 16 to 31 the
-- line
abbrev pub number_of : Verdict → ℕ
number_of TooLong = 16
number_of (Malformed line) = 15 + line * 65536
number_of (Judged finding line) = finding * 256 + line * 65536

-- as bytes: `10`; `0f`, line (2); `00`, finding (1), line (2)
abbrev pub bytes_of : Verdict → List ℕ
bytes_of TooLong = 0x10 ∷ []
bytes_of (Malformed line) = 0x0f ∷ big_endian 2 line
bytes_of (Judged finding line) = 0x00 ∷ big_endian 1 finding ++ big_endian 2 line
