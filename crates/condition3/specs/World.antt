-- A run of calls with provenance (document 01, 'Whole lists of calls'): the messages in flight
-- beside the tables, each message with a label that the start gives and a delivery passes on, and
-- the history of accepted writes and of delivered prepares.
use Rattle.std.specs.Prelude.{Bool, true, false, cond, not, ◌&&◌, ◌||◌, List, [], ◌∷◌, ◌++◌, map, ℕ, suc, eqb, get_or}
use Rattle.basics.specs.Lists.{without}
use Rattle.protocol.specs.declared.Message.{Message}
use Rattle.protocol.specs.declared.Message.TheVariants.{Commit}
use Rattle.protocol.specs.declared.Answer.{Answer}
use Rattle.protocol.specs.declared.Answer.TheVariants.{Refused, Made, Started, Delivered, Shown}
use Rattle.protocol.specs.declared.Answer.TheVariants.{Cleared, HandedOver, Compared, Checked}
use Rattle.protocol.specs.Tables.{Tables, Sizes, WritePart, fresh}
use Rattle.protocol.specs.Message.{is_prepare, is_prepared, is_commit, is_got, is_first_reply, is_any_get}
use Rattle.protocol.specs.Message.{is_any_got, item_of}
use Rattle.protocol.specs.Range.{Capacities}
use Rattle.protocol.specs.Calls.{is_start, Call, refusal, Origin, nobody, starts, follows, Effects}
use Rattle.protocol.specs.Calls.{effects, effect, step}

-- ---- Labels

-- A time is a number of calls: the first of a list is made at its world's time, each later one a
-- unit later.

-- whose message it is, the time of the start that it goes back to, and the time at which it joined
pub record Label : Type 0 where
  pub client : ℕ
  pub start : ℕ
  pub since : ℕ

pub record Labelled : Type 0 where
  pub label : Label
  pub message : Message

-- an accepted write: its start's time, the stamp that its start makes, its set and values
pub record Write : Type 0 where
  pub start : ℕ
  pub stamp : ℕ
  pub set : ℕ
  pub values : ℕ → ℕ

-- the prepare of this item that the write started at `start` put there was delivered at `time`
pub record Store : Type 0 where
  pub start : ℕ
  pub item : ℕ
  pub time : ℕ

pub record World : Type 0 where
  pub time : ℕ
  pub tables : Tables
  pub in_flight : List Labelled
  pub writes : List Write
  pub stores : List Store

-- freshly made tables, and nothing has happened
abbrev pub begin : Sizes → World
begin z = record { time = 0; tables = fresh z; in_flight = []; writes = []; stores = [] }

-- ---- What an accepted call makes join and leave, and what it adds to the history

abbrev pub labelled : ℕ → ℕ → ℕ → Message → Labelled
labelled client start since m = record
    { label = record { client = client; start = start; since = since }; message = m }

-- the message at a place, with its label
abbrev pub placed : World → ℕ → Labelled
placed w i = get_or w.in_flight i (labelled 0 0 0 (Commit 0 0))

-- the label of a message that joins
abbrev pub label_for : World → Origin → Label
label_for w nobody = record { client = 0; start = w.time; since = w.time }
label_for w (starts d) = record { client = d; start = w.time; since = w.time }
label_for w (follows i) =
    let l = (placed w i).label in
    record { client = l.client; start = l.start; since = w.time }

-- the elements without those at these places, which ascend
unfoldable pub without_all : {A : Type 0} → List ℕ → List A → List A
without_all [] xs = xs
without_all (i ∷ is) xs = without i (without_all is xs)

abbrev pub does : World → Call → Effects
does w c = effects w.tables c

unfoldable pub joining : World → Call → List Labelled
joining w c =
    let l = label_for w (does w c).origin in
    map (labelled l.client l.start l.since) (does w c).joins

unfoldable pub leaving : World → Call → List Labelled
leaving w c = map (placed w) (does w c).leaves

unfoldable pub staying : World → Call → List Labelled
staying w c = without_all (does w c).leaves w.in_flight

abbrev pub write_at : ℕ → WritePart → Write
write_at time p = record { start = time; stamp = p.stamp; set = p.set; values = p.values }

unfoldable pub begun : World → Call → List Write
begun w c = map (write_at w.time) (does w c).begins

unfoldable pub storing : World → Call → List Store
storing w c =
    let l = label_for w (does w c).origin in
    map (λ k. record { start = l.start; item = k; time = w.time }) (does w c).stores

-- ---- One call after another. A refused call takes its time and does nothing.

abbrev pub accepts : Capacities → World → Call → Bool
accepts caps w c = eqb (refusal caps w.tables c) 0

abbrev pub moved : World → Call → World
moved w c =
    record {
      time = suc w.time;
      tables = effect w.tables c;
      in_flight = staying w c ++ joining w c;
      writes = w.writes ++ begun w c;
      stores = w.stores ++ storing w c;
    }

abbrev pub passed : World → World
passed w =
    record {
      time = suc w.time;
      tables = w.tables;
      in_flight = w.in_flight;
      writes = w.writes;
      stores = w.stores;
    }

unfoldable pub next : Capacities → World → Call → World
next caps w c = cond (accepts caps w c) (moved w c) (passed w)

unfoldable pub after : Capacities → World → List Call → World
after caps w [] = w
after caps w (c ∷ cs) = after caps (next caps w c) cs

-- the messages that join, and those that are delivered, over a list of calls
unfoldable pub joining_over : Capacities → World → List Call → List Labelled
joining_over caps w [] = []
joining_over caps w (c ∷ cs) = cond (accepts caps w c) (joining w c) [] ++ joining_over caps
    (next caps w c) cs

unfoldable pub leaving_over : Capacities → World → List Call → List Labelled
leaving_over caps w [] = []
leaving_over caps w (c ∷ cs) = cond (accepts caps w c) (leaving w c) [] ++ leaving_over caps
    (next caps w c) cs

-- ---- Whose, and of which item

-- a request and a reply of client d, by its label: a get and a got, of either kind
abbrev pub is_request : ℕ → Labelled → Bool
is_request d l = eqb l.label.client d && is_any_get l.message

abbrev pub is_reply : ℕ → Labelled → Bool
is_reply d l = eqb l.label.client d && is_any_got l.message

-- a prepared reply of client d: with the gots, one of the replies 'of either kind' that a mixed
-- transaction awaits (document 02, P8)
abbrev pub is_prepared_reply : ℕ → Labelled → Bool
is_prepared_reply d l = eqb l.label.client d && is_prepared l.message

-- a prepare and a commit of client d
abbrev pub is_prepare_of : ℕ → Labelled → Bool
is_prepare_of d l = eqb l.label.client d && is_prepare l.message

abbrev pub is_commit_of : ℕ → Labelled → Bool
is_commit_of d l = eqb l.label.client d && is_commit l.message

-- of client d for item k: a request, a reply, and either of the two
abbrev pub is_request_for : ℕ → ℕ → Labelled → Bool
is_request_for d k l = is_request d l && eqb (item_of l.message) k

abbrev pub is_reply_for : ℕ → ℕ → Labelled → Bool
is_reply_for d k l = is_reply d l && eqb (item_of l.message) k

abbrev pub is_read_message : ℕ → ℕ → Labelled → Bool
is_read_message d k l = (is_request d l || is_reply d l) && eqb (item_of l.message) k

-- a prepared reply
abbrev pub is_prepared_reply_for : ℕ → ℕ → Labelled → Bool
is_prepared_reply_for d k l = is_prepared_reply d l && eqb (item_of l.message) k

-- a prepare
abbrev pub is_prepare_for : ℕ → ℕ → Labelled → Bool
is_prepare_for d k l = is_prepare_of d l && eqb (item_of l.message) k

-- a reply of one kind: a first reply, a got
abbrev pub is_first_reply_for : ℕ → ℕ → Labelled → Bool
is_first_reply_for d k l = is_reply_for d k l && is_first_reply l.message

abbrev pub is_got_for : ℕ → ℕ → Labelled → Bool
is_got_for d k l = is_reply_for d k l && is_got l.message

-- ---- Ends

unfoldable pub outcome_in : Answer → ℕ
outcome_in (Refused n) = 0
outcome_in Made = 0
outcome_in (Started n) = 0
outcome_in (Delivered kind n outcome) = outcome
outcome_in (Shown n) = 0
outcome_in (Cleared n) = 0
outcome_in (HandedOver giver receiver) = 0
outcome_in (Compared n) = 0
outcome_in Checked = 0

-- the call delivers a message of client d
abbrev pub is_delivery : World → ℕ → Origin → Bool
is_delivery w d nobody = false
is_delivery w d (starts e) = false
is_delivery w d (follows i) = eqb (placed w i).label.client d

unfoldable pub delivers : World → ℕ → Call → Bool
delivers w d c = is_delivery w d (does w c).origin

-- a delivery of a message of client d that answers 01 or 02 as outcome
abbrev pub ends_for : Capacities → World → ℕ → Call → Bool
ends_for caps w d c = delivers w d c && not (eqb (outcome_in (step caps w.tables c).answer) 0)

-- no call of the list ends client d's transaction
unfoldable pub stays : Capacities → World → ℕ → List Call → Bool
stays caps w d [] = true
stays caps w d (c ∷ cs) = not (ends_for caps w d c) && stays caps (next caps w c) d cs

-- the call starts a transaction of client d, once accepted
unfoldable pub starts_for : World → ℕ → Call → Bool
starts_for w d c = is_start d (does w c).origin

-- no accepted call of the list is a start of client d
unfoldable pub rests : Capacities → World → ℕ → List Call → Bool
rests caps w d [] = true
rests caps w d (c ∷ cs) = not (accepts caps w c && starts_for w d c)
    && rests caps (next caps w c) d cs
