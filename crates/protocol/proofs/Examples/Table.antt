-- A row of the table of examples: where it begins, calls with the answers that document 01 gives
-- them, and a test of the tables after the last one. Answers are texts, as the paper prints them,
-- and owe nothing to the definitions that they are held against.
use mathlib.Core.Bool.{Bool, true, false, ◌&&◌}
use mathlib.Core.List.{List, [], ◌∷◌}
use Prim.Native.Nat.{ℕ, suc, ◌/◌, ◌%◌}
use Prim.Native.String.{String, slice, ◌++◌ as append}
use lib.Count.{ones, ones_in}
use lib.Dec.{eqb}
use lib.ListN.{drop, replicate}
use lib.Text.{eqt}
use Rattle.basics.specs.Lists.{every, all, counted, without, dropped}
use Rattle.hexadecimal.specs.Number.{big_endian, number_at}
use Rattle.itemset.specs.Set.{has, upto, insert, remove, set_of}
use Rattle.protocol.specs.declared.Message.{Message}
use Rattle.protocol.specs.declared.Message.TheVariants.{Prepare, Prepared, Commit, Get, Got}
use Rattle.protocol.specs.declared.Message.TheVariants.{FirstGet, FirstReply}
use Rattle.protocol.specs.declared.Answer.{Answer}
use Rattle.protocol.specs.declared.Answer.TheVariants.{Refused, Made, Started, Delivered}
use Rattle.protocol.specs.declared.Answer.TheVariants.{Shown, Cleared, HandedOver, Compared}
use Rattle.protocol.specs.declared.Answer.TheVariants.{Checked}
use Rattle.protocol.specs.declared.Version.{Version}
use Rattle.protocol.specs.declared.Entry.{Entry}
use Rattle.protocol.specs.Tables.{Sizes, Tables, is_kind, fresh, number_of, writer_of}
use Rattle.protocol.specs.Range.{capacities, valid, in_range, stamp_in_range, sizes_in_range}
use Rattle.protocol.specs.Range.{entry_in_range, version_in_range, message_in_range, ended_in_range}
use Rattle.protocol.specs.Range.{client_in_range, has_first, read_part_in_range, write_part_in_range}
use Rattle.protocol.specs.Range.{arrived, total, load, occupied}
use Rattle.protocol.specs.Steps.{greatest_in, choice, stored, found, delivered, joined}
use Rattle.protocol.specs.Steps.{touches}
use Rattle.protocol.specs.Clear.{mentions, unused}
use Rattle.protocol.specs.HandOver.{standing}
use Rattle.protocol.specs.Check.{every_entry, client_sets, clients_sets, sets_held, first_set}
use Rattle.protocol.specs.Check.{write_set, is_whole, all_whole, lines_written, sets_agree}
use Rattle.protocol.specs.Check.{distinct, answered_again, values_held, all_counted}
use Rattle.protocol.specs.Check.{writes_stamped, writes_stored, fits_client, messages_fit, sound}
use Rattle.protocol.specs.LogFrame.{listed, read_bytes, write_bytes, frame}
use Rattle.protocol.specs.Calls.{Call, Given, first, refusal, fresh_answer, unexpected}
use Rattle.protocol.specs.Calls.{missing, is_nothing, outcome_of, effect, reply, written, lent}
use Rattle.protocol.specs.Calls.{step, bytes_of_answer}

-- ---- A line: a call, its answer's digits, and the digits of what its output keeps

-- past the frame shown; after a refusal all of it
pub record Line : Type 0 where
  pub call : Call
  pub answer : String
  pub kept : String

infixl 70 ◌⇒◌
infixl 70 ◌keeping◌
abbrev pub ◌⇒◌ : Call → String → Line
c ⇒ answer = record { call = c; answer = answer; kept = "" }

abbrev pub ◌keeping◌ : Line → String → Line
l keeping kept = record { call = l.call; answer = l.answer; kept = kept }

-- what calls are lent: the bytes of a value below 256, and an output of n bytes
abbrev pub value : ℕ → List ℕ
value v = 0 ∷ 0 ∷ 0 ∷ v ∷ []

abbrev pub room : ℕ → List ℕ
room n = replicate n 0xee

-- ---- A row: a fresh start, or tables, with lines and a test of the tables after them

pub data Start : Type 0 where
  freshly : Sizes → String → Start
  on : Tables → Start
  on_each : List Tables → Start

pub record Row : Type 0 where
  pub start : Start
  pub lines : List Line
  pub after : Tables → Bool

-- the answers say it all
abbrev pub anything : Tables → Bool
anything t = true

-- ---- What the definitions give

unfoldable pub given : Tables → Call → Given
unfolding step refusal first unexpected missing is_nothing effect reply written lent outcome_of valid
    in_range sizes_in_range stamp_in_range entry_in_range version_in_range message_in_range is_kind
    ended_in_range client_in_range has_first read_part_in_range write_part_in_range load arrived total occupied
    greatest_in choice stored found delivered joined touches mentions unused standing listed
    read_bytes write_bytes frame every all counted without dropped has upto insert remove set_of ones
    ones_in big_endian number_at every_entry client_sets clients_sets sets_held first_set write_set is_whole
    all_whole lines_written sets_agree distinct answered_again values_held all_counted writes_stamped
    writes_stored fits_client messages_fit sound
given t c = step capacities t c

unfoldable pub made : Sizes → Answer
unfolding first sizes_in_range fresh_answer
made z = fresh_answer z

-- ---- Digits: two a byte, lowercase

unfoldable pub digits : List ℕ → String
digits [] = ""
digits (b ∷ bs) =
    append (append (slice "0123456789abcdef" (b / 16) (suc (b / 16)))
    (slice "0123456789abcdef" (b % 16) (suc (b % 16)))) (digits bs)

-- how much of the output is the frame shown
unfoldable pub framed : Answer → ℕ
framed (Refused n) = 0
framed Made = 0
framed (Started n) = 0
framed (Delivered kind n outcome) = 0
framed (Shown n) = n
framed (Cleared n) = 0
framed (HandedOver giver receiver) = 0
framed (Compared n) = 0
framed Checked = 0

-- ---- A row is right

unfoldable pub all_right : Tables → List Line → (Tables → Bool) → Bool
unfolding given digits framed bytes_of_answer
all_right t [] after = after t
all_right t (l ∷ ls) after =
    let g = given t l.call in
    eqt (digits (bytes_of_answer g.answer g.output)) l.answer
    && eqt (digits (drop (framed g.answer) g.output)) l.kept
    && all_right g.tables ls after

unfoldable pub begins : Start → List Line → (Tables → Bool) → Bool
unfolding all_right made digits bytes_of_answer all
begins (freshly z answer) ls after =
    eqt (digits (bytes_of_answer (made z) [])) answer && all_right (fresh z) ls after
begins (on t) ls after = all_right t ls after
begins (on_each ts) ls after = all (λ t. all_right t ls after) ts

unfoldable pub right : Row → Bool
unfolding begins
right r = begins r.start r.lines r.after

-- ---- Tests of tables

-- a message's fields: its kind, then desk, line or cabinet, value, stamp (number and writing desk)
-- and write set, so far as it has them
abbrev pub fields_of : Message → List ℕ
fields_of (Prepare v) = 1 ∷ v.item ∷ v.value ∷ number_of v.stamp ∷ writer_of v.stamp ∷ v.set
    ∷ []
fields_of (Prepared k stamp) = 2 ∷ k ∷ number_of stamp ∷ writer_of stamp ∷ []
fields_of (Commit p stamp) = 3 ∷ p ∷ number_of stamp ∷ writer_of stamp ∷ []
fields_of (Get d k stamp) = 4 ∷ d ∷ k ∷ number_of stamp ∷ writer_of stamp ∷ []
fields_of (Got d v latest) =
    5 ∷ d ∷ v.item ∷ v.value ∷ number_of v.stamp ∷ writer_of v.stamp ∷ v.set
    ∷ number_of latest.stamp ∷ writer_of latest.stamp ∷ latest.set ∷ []
fields_of (FirstGet d k) = 6 ∷ d ∷ k ∷ []
fields_of (FirstReply d v latest) =
    7 ∷ d ∷ v.item ∷ v.value ∷ number_of v.stamp ∷ writer_of v.stamp ∷ v.set
    ∷ number_of latest.stamp ∷ writer_of latest.stamp ∷ latest.set ∷ []

abbrev pub same : List ℕ → List ℕ → Bool
same [] [] = true
same [] (y ∷ ys) = false
same (x ∷ xs) [] = false
same (x ∷ xs) (y ∷ ys) = eqb x y && same xs ys

-- the elements have these fields, one after another
abbrev have_fields : {A : Type 0} → (A → List ℕ) → List A → List (List ℕ) → Bool
have_fields of [] [] = true
have_fields of [] (f ∷ fs) = false
have_fields of (x ∷ xs) [] = false
have_fields of (x ∷ xs) (f ∷ fs) = same (of x) f && have_fields of xs fs

abbrev pub messages_are : List Message → List (List ℕ) → Bool
messages_are = have_fields fields_of

-- a version's line, value, stamp (number and writing desk) and write set
abbrev pub versions_are : List Version → List (List ℕ) → Bool
versions_are = have_fields
    (λ v. v.item ∷ v.value ∷ number_of v.stamp ∷ writer_of v.stamp ∷ v.set ∷ [])

-- the entry has this number, writing desk and write set
abbrev pub entry_is : Entry → ℕ → ℕ → ℕ → Bool
entry_is e number writer set = eqb (number_of e.stamp) number && eqb (writer_of e.stamp) writer
    && eqb e.set set
