-- The calls: the refusal table, answers with document 01's numbers and bytes, and what each call
-- gives.
use Rattle.std.specs.Prelude.{Bool, false, cond, not, ◌&&◌, ◌||◌, List, [], ◌∷◌, ◌++◌, ℕ, zero, suc, ◌+◌, ◌*◌, ◌^◌, eqb, ltb, leb, length, take, drop}
use Rattle.hexadecimal.specs.Number.{big_endian}
use Rattle.itemset.specs.Set.{has, count, all_below}
use Rattle.protocol.specs.declared.Message.{Message}
use Rattle.protocol.specs.declared.Message.TheVariants.{Prepare, Prepared, Commit, Get, Got}
use Rattle.protocol.specs.declared.Message.TheVariants.{FirstGet, FirstReply}
use Rattle.protocol.specs.declared.Answer.{Answer}
use Rattle.protocol.specs.declared.Answer.TheVariants.{Refused, Made, Started, Delivered}
use Rattle.protocol.specs.declared.Answer.TheVariants.{Shown, Cleared, HandedOver, Compared}
use Rattle.protocol.specs.declared.Answer.TheVariants.{Checked}
use Rattle.protocol.specs.Tables.{Sizes, Tables, WritePart, Ended, is_first_part, writer_of}
use Rattle.protocol.specs.Message.{parts_of, kind_of, is_prepare, is_first_get, is_any_get, item_of}
use Rattle.protocol.specs.Range.{Capacities, valid, sizes_in_range, is_client, is_idle, load}
use Rattle.protocol.specs.Range.{occupied}
use Rattle.protocol.specs.FastRead.{started_fast_read, first_gets}
use Rattle.protocol.specs.Steps.{started_read, started_write, delivered_at, message_at, stored}
use Rattle.protocol.specs.Steps.{delivery_of, gets, prepares, writer, joined, greatest_of}
use Rattle.protocol.specs.Steps.{mixer, mixed_messages, started_mixed}
use Rattle.protocol.specs.Clear.{cleared, gone}
use Rattle.protocol.specs.HandOver.{handed_over, standing}
use Rattle.protocol.specs.Check.{sound}
use Rattle.protocol.specs.LogFrame.{frame, hand_over_frame}

-- The calls that follow a fresh start. A write brings its value bytes, a mixed start its read set
-- and its write set with their value bytes, a showing the lent output.
pub data Call : Type 0 where
  start_read : (client set : ℕ) → Call
  start_fast_read : (client set : ℕ) → Call
  start_write : (client set : ℕ) (values : List ℕ) → Call
  start_mixed : (client reads writes : ℕ) (values : List ℕ) → Call
  deliver : (place : ℕ) → Call
  show : (client : ℕ) (output : List ℕ) → Call
  clear : Call
  hand_over : (giver receiver : ℕ) → Call
  compare : (first second : ℕ) → Call
  check : Call

-- ---- Refusal table: each call's tests in their order

-- the first that applies is returned, 0 where none does
pub record Test : Type 0 where
  pub number : ℕ
  pub applies : Bool

abbrev pub test : ℕ → Bool → Test
test n b = record { number = n; applies = b }

unfoldable pub first : List Test → ℕ
first [] = 0
first (x ∷ xs) = cond x.applies x.number (first xs)

-- 5: the set is empty or holds an item that doesn't exist
abbrev pub bad_set : Tables → ℕ → Bool
bad_set t s = eqb s 0 || not (all_below s t.sizes.items)

-- 11: prepare of an item and stamp already stored; prepared that its client's write part, got that
-- its client's read part doesn't await with that item and stamp. 'A first reply is awaited by its
-- line alone, and only in the first part of such a read, where no got is' (document 02, P7).
unfoldable pub unexpected : Tables → Message → Bool
unexpected t (Prepare v) = stored t.versions v.item v.stamp
unexpected t (Prepared k stamp) =
    let c = t.client (writer_of stamp) in
    not (has c.write.awaited k && eqb c.write.stamp stamp)
unexpected t (Commit p stamp) = false
unexpected t (Get d k stamp) = false
unexpected t (Got d v latest) =
    let c = t.client d in
    not (not (is_first_part c.read) && has c.read.awaited v.item
    && eqb (c.read.asked v.item) v.stamp)
unexpected t (FirstGet d k) = false
unexpected t (FirstReply d v latest) =
    let p = (t.client d).read in
    not (is_first_part p && has p.awaited v.item)

-- the stamp that a get of either kind is for
abbrev pub sought_by : Tables → Message → ℕ
sought_by t m = cond (is_first_get m) (t.latest (item_of m)).stamp (parts_of m).stamp

-- 12: get of a version that isn't stored, the initial one excepted
unfoldable pub missing : Tables → Message → Bool
missing t m =
    let stamp = sought_by t m in
    is_any_get m && not (eqb stamp 0 || stored t.versions (item_of m) stamp)

-- 13: no transaction has ended
unfoldable pub is_nothing : Ended → Bool
is_nothing e = eqb e.kind 0

abbrev pub shown_frame : Tables → ℕ → List ℕ
shown_frame t d = frame d (t.client d).last

-- of a read, ordinary or fast
abbrev pub read_tests : Capacities → Tables → ℕ → ℕ → List Test
read_tests caps t d s =
    test 1 (not (valid caps t))
    ∷ test 3 (not (is_client t.sizes d))
    ∷ test 4 (not (is_idle (t.client d)))
    ∷ test 5 (bad_set t s)
    ∷ test 8 (ltb caps.load (load t + count s))
    ∷ []

-- Of a write of s, alone or in a mixed transaction: whether a set is bad, the items of s, its value
-- bytes, and how many messages would join. 17: 'Twelve becomes the limit for writing; reads may
-- still take 64', 'It refuses such a write with 17, tested after 6 and before 7' (document 02, P4);
-- twelve is this store's `widest`. '9 and 17 [count] the written ones' (P8).
abbrev pub write_tests : Capacities → Tables → ℕ → Bool → ℕ → List ℕ → ℕ → List Test
write_tests caps t d bad s bytes joining =
    test 1 (not (valid caps t))
    ∷ test 3 (not (is_client t.sizes d))
    ∷ test 4 (not (is_idle (t.client d)))
    ∷ test 5 bad
    ∷ test 6 (not (eqb (length bytes) (4 * count s)))
    ∷ test 17 (ltb caps.widest (count s))
    ∷ test 7 (eqb (greatest_of t d) 4294967295)
    ∷ test 8 (ltb caps.load (load t + joining))
    ∷ test 9 (ltb caps.versions (occupied t + count s))
    ∷ []

-- A mixed start's 'refusals are those of a read and a write, 5 for either set'; '8 counts both
-- sets' lines, a shared one twice' (document 02, P8).
unfoldable pub refusal : Capacities → Tables → Call → ℕ
refusal caps t (start_read d s) = first (read_tests caps t d s)
refusal caps t (start_fast_read d s) = first (read_tests caps t d s)
refusal caps t (start_write d s bytes) =
    first (write_tests caps t d (bad_set t s) s bytes (count s))
refusal caps t (start_mixed d r s bytes) =
    first (write_tests caps t d (bad_set t r || bad_set t s) s bytes (count r + count s))
refusal caps t (deliver i) =
    first
    (test 1 (not (valid caps t))
    ∷ test 10 (leb (length t.messages) i)
    ∷ test 11 (unexpected t (message_at t i))
    ∷ test 12 (missing t (message_at t i))
    ∷ [])
refusal caps t (show d output) =
    first
    (test 1 (not (valid caps t))
    ∷ test 3 (not (is_client t.sizes d))
    ∷ test 4 (not (is_idle (t.client d)))
    ∷ test 13 (is_nothing (t.client d).last)
    ∷ test 14 (ltb (length output) (length (shown_frame t d)))
    ∷ [])
refusal caps t clear = first (test 1 (not (valid caps t)) ∷ [])
-- 'refuses 18 for giver equal to receiver, tested after 3, and 4 if either isn't idle' (P6)
refusal caps t (hand_over giver receiver) =
    first
    (test 1 (not (valid caps t))
    ∷ test 3 (not (is_client t.sizes giver && is_client t.sizes receiver))
    ∷ test 18 (eqb giver receiver)
    ∷ test 4 (not (is_idle (t.client giver) && is_idle (t.client receiver)))
    ∷ [])
refusal caps t (compare d e) =
    first
    (test 1 (not (valid caps t))
    ∷ test 3 (not (is_client t.sizes d && is_client t.sizes e))
    ∷ [])
-- 'It refuses 19 for any other block, tested after 1' (document 02, P9)
refusal caps t check = first (test 1 (not (valid caps t)) ∷ test 19 (not (sound t)) ∷ [])

-- of a fresh start, a block's length apart; accepted, its tables are `fresh z`
abbrev pub fresh_refusal : Sizes → ℕ
fresh_refusal z = first (test 2 (not (sizes_in_range z)) ∷ [])

-- ---- Answers

unfoldable pub outcome_of : Tables → Message → ℕ
outcome_of t m = (delivery_of t m).outcome

-- ---- What an accepted call does, said once; a refused call does nothing

-- whose the joining messages are: a start's of its client, a delivery's of the same client as the
-- message at that place
pub data Origin : Type 0 where
  nobody : Origin
  starts : (client : ℕ) → Origin
  follows : (place : ℕ) → Origin

-- a start of client d
abbrev pub is_start : ℕ → Origin → Bool
is_start d nobody = false
is_start d (starts e) = eqb e d
is_start d (follows i) = false

pub record Effects : Type 0 where
  -- the tables after it
  pub tables : Tables
  -- the places of the messages that leave, the messages that join, and whose these are
  pub leaves : List ℕ
  pub joins : List Message
  pub origin : Origin
  -- the writes that begin, and the items that are stored
  pub begins : List WritePart
  pub stores : List ℕ
  -- the output after it, and the answer
  pub output : List ℕ
  pub answer : Answer

-- of a start of client d
abbrev pub started : ℕ → Tables → List Message → List WritePart → Effects
started d after joins begins =
    record {
      tables = after;
      leaves = [];
      joins = joins;
      origin = starts d;
      begins = begins;
      stores = [];
      output = [];
      answer = Started (length after.messages);
    }

-- of a call that makes no message leave or join
abbrev pub quiet : Tables → List ℕ → Answer → Effects
quiet after output answer =
    record {
      tables = after;
      leaves = [];
      joins = [];
      origin = nobody;
      begins = [];
      stores = [];
      output = output;
      answer = answer;
    }

-- a prepare stores its item; past the frame the output keeps its bytes
abbrev pub effects : Tables → Call → Effects
effects t (start_read d s) = started d (started_read t d s) (gets t d s) []
effects t (start_fast_read d s) = started d (started_fast_read t d s) (first_gets t d s) []
effects t (start_write d s bytes) = started d (started_write t d s bytes) (prepares t d s bytes)
    ((writer t d s bytes).write ∷ [])
effects t (start_mixed d r s bytes) = started d (started_mixed t d r s bytes)
    (mixed_messages t d r s bytes) ((mixer t d r s bytes).write ∷ [])
effects t (deliver i) =
    let m = message_at t i in
    record {
      tables = delivered_at t i;
      leaves = i ∷ [];
      joins = joined t m;
      origin = follows i;
      begins = [];
      stores = cond (is_prepare m) (item_of m ∷ []) [];
      output = [];
      answer = Delivered (kind_of m) (length (delivered_at t i).messages) (outcome_of t m);
    }
effects t (show d output) = quiet t (shown_frame t d ++ drop (length (shown_frame t d)) output)
    (Shown (length (shown_frame t d)))
effects t clear = quiet (cleared t) [] (Cleared (gone t))
effects t (hand_over giver receiver) = quiet (handed_over t giver receiver) []
    (HandedOver giver receiver)
effects t (compare d e) = quiet t [] (Compared (standing t d e))
effects t check = quiet t [] Checked

unfoldable pub effect : Tables → Call → Tables
effect t c = (effects t c).tables

unfoldable pub reply : Tables → Call → Answer
reply t c = (effects t c).answer

unfoldable pub written : Tables → Call → List ℕ
written t c = (effects t c).output

-- the lent output before a call
unfoldable pub lent : Call → List ℕ
lent (start_read d s) = []
lent (start_fast_read d s) = []
lent (start_write d s bytes) = []
lent (start_mixed d r s bytes) = []
lent (deliver i) = []
lent (show d output) = output
lent clear = []
lent (hand_over giver receiver) = []
lent (compare d e) = []
lent check = []

-- What a call gives: its answer, the tables after it, the output after it. A refusal changes
-- nothing.
pub record Given : Type 0 where
  pub answer : Answer
  pub tables : Tables
  pub output : List ℕ

abbrev pub pick : {A : Type 0} → ℕ → A → A → A
pick zero accepted refused = accepted
pick (suc n) accepted refused = refused

unfoldable pub fresh_answer : Sizes → Answer
fresh_answer z = pick (fresh_refusal z) Made (Refused (fresh_refusal z))

unfoldable pub step : Capacities → Tables → Call → Given
step caps t c =
    let r = refusal caps t c in
    record {
      answer = pick r (reply t c) (Refused r);
      tables = pick r (effect t c) t;
      output = pick r (written t c) (lent c);
    }

-- ---- numbers and bytes for each answer: document 01's, and of later calls our own

-- what the exported calls return
unfoldable pub number_of_answer : Answer → ℕ
number_of_answer (Refused n) = n
number_of_answer Made = 0
number_of_answer (Started n) = n * 2 ^ 8
number_of_answer (Delivered kind n outcome) = kind * 2 ^ 8 + n * 2 ^ 16 + outcome * 2 ^ 32
number_of_answer (Shown n) = n * 2 ^ 8
number_of_answer (Cleared n) = n * 2 ^ 8
number_of_answer (HandedOver giver receiver) = 0
number_of_answer (Compared n) = n * 2 ^ 8
number_of_answer Checked = 0

-- what the driver prints as digits; after a show or a hand-over, the log frame's bytes follow
unfoldable pub bytes_of_answer : Answer → List ℕ → List ℕ
bytes_of_answer (Refused n) output = big_endian 1 n
bytes_of_answer Made output = 0 ∷ []
bytes_of_answer (Started n) output = 0 ∷ big_endian 2 n
bytes_of_answer (Delivered kind n outcome) output =
    0 ∷ big_endian 1 kind ++ big_endian 2 n ++ big_endian 1 outcome
bytes_of_answer (Shown n) output = 0 ∷ take n output
bytes_of_answer (Cleared n) output = 0 ∷ big_endian 2 n
bytes_of_answer (HandedOver giver receiver) output = 0 ∷ hand_over_frame giver receiver
bytes_of_answer (Compared n) output = 0 ∷ big_endian 1 n
bytes_of_answer Checked output = 0 ∷ []
