-- Condition 3 of the tender: one claim about a list of calls, empty or as long as you like, made
-- one after another from a world. Each clause of the condition is one field, with the clause's own
-- words above it; document 01's line is an item here, its desk a client, its cabinet a partition.
-- It is proved for all capacities and all lists, from freshly made tables of all sizes that refusal
-- 2 allows (`begin`, specs/World.antt) and from all tables that the check accepts (`held`,
-- specs/Held.antt): `condition-3`, `condition-3-accepted`, proofs/Condition3.antt.
--
-- A clause about a read or a write is about those that the list itself begins. So from an accepted
-- block the clause holds 'of reads and writes begun from then on' (document 02, P9). A clause that
-- looks back at earlier reads or writes holds 'as to those begun from then on'. 'A write in the
-- list' is a write of the world after the list. From an accepted block these are also the writes
-- that the block held, 'whole or under way' (`entries`, specs/Held.antt).
use Rattle.std.specs.Prelude.{Bool, true, false, cond, List, [], ◌∷◌, ◌++◌, map, ◌⊎◌, ◌↔◌, ◌≡◌, ℕ, suc, ◌+◌, ◌*◌, ◌≤◌, ◌<◌, length, take}
use Rattle.basics.specs.Lists.{In, counted}
use Rattle.hexadecimal.specs.Number.{number_at, big_endian}
use Rattle.itemset.specs.Set.{has, count, rank}
use Rattle.protocol.specs.declared.Message.{Message}
use Rattle.protocol.specs.declared.Message.TheVariants.{Commit, FirstGet}
use Rattle.protocol.specs.declared.Answer.TheVariants.{Shown, Cleared}
use Rattle.protocol.specs.Tables.{number_of, writer_of, partition_of}
use Rattle.protocol.specs.Message.{parts_of, is_prepare, owner_of}
use Rattle.protocol.specs.Range.{Capacities}
use Rattle.protocol.specs.Steps.{asks, next_stamp, commits, value_of}
use Rattle.protocol.specs.Calls.{Call, start_read, start_fast_read, start_write, start_mixed, deliver}
use Rattle.protocol.specs.Calls.{show, clear, hand_over, check, refusal, step}
use Rattle.condition3.specs.World.{World, Labelled, Write, Store, placed, begun, storing}
use Rattle.condition3.specs.World.{joining, after, joining_over, leaving_over, is_request}
use Rattle.condition3.specs.World.{is_reply, is_prepared_reply, is_prepare_of, is_commit_of}
use Rattle.condition3.specs.World.{is_request_for, is_reply_for, is_prepared_reply_for, is_prepare_for}
use Rattle.condition3.specs.World.{is_first_reply_for, is_got_for, is_read_message, outcome_in}
use Rattle.condition3.specs.World.{ends_for, stays, rests}

-- ---- How a read is made

-- as an ordinary one, as a fast one (document 02, P7), or as the read part of a mixed transaction,
-- beside a write of a set with these value bytes (P8)

pub data Manner : Type 0 where
  ordinary fast : Manner
  writing : (set : ℕ) (values : List ℕ) → Manner

-- its start, its log frame's first byte and length
abbrev pub start_of : Manner → ℕ → ℕ → Call
start_of ordinary d s = start_read d s
start_of fast d s = start_fast_read d s
start_of (writing z bytes) d s = start_mixed d s z bytes

abbrev pub byte_of : Manner → ℕ
byte_of ordinary = 0x21
byte_of fast = 0x23
byte_of (writing z bytes) = 0x24

abbrev pub length_of : Manner → ℕ → ℕ
length_of ordinary s = 10 + 9 * count s
length_of fast s = 10 + 9 * count s
length_of (writing z bytes) s = 22 + 9 * count s + 4 * count z

-- it asks for stamps that its client's view shows: 'the read part [of a mixed transaction] keeps an
-- ordinary read's promises' (P8)
abbrev pub by_view : Manner → Bool
by_view ordinary = true
by_view fast = false
by_view (writing z bytes) = true

-- ---- How a write is made: alone, or as the write part of a mixed transaction that reads a set

pub data Company : Type 0 where
  alone : Company
  reading : (set : ℕ) → Company

-- its start, its log frame's head and length, and where in it the write's set and number stand
abbrev pub start_with : Company → ℕ → ℕ → List ℕ → Call
start_with alone d z bytes = start_write d z bytes
start_with (reading s) d z bytes = start_mixed d s z bytes

abbrev pub head_with : Company → ℕ → ℕ → List ℕ
head_with alone d z = 0x20 ∷ d ∷ big_endian 8 z
head_with (reading s) d z = 0x24 ∷ d ∷ big_endian 8 s

abbrev pub length_with : Company → ℕ → ℕ
length_with alone z = 14 + 4 * count z
length_with (reading s) z = 22 + 9 * count s + 4 * count z

abbrev pub set_with : Company → ℕ
set_with alone = 2
set_with (reading s) = 10 + 9 * count s

abbrev pub number_with : Company → ℕ
number_with alone = 10
number_with (reading s) = 18 + 9 * count s

-- ---- What a showing tells, in its output bytes: of a read of s, of each item k

-- number (4), writing client (1), value (4)

abbrev pub shown_number : ℕ → List ℕ → ℕ → ℕ
shown_number s output k = number_at 4 output (10 + 9 * rank s k)

abbrev pub shown_writer : ℕ → List ℕ → ℕ → ℕ
shown_writer s output k = number_at 1 output (14 + 9 * rank s k)

abbrev pub shown_value : ℕ → List ℕ → ℕ → ℕ
shown_value s output k = number_at 4 output (15 + 9 * rank s k)

-- of a write: its set and number, behind kind and client, and in a mixed transaction what it read
abbrev pub shown_own_set : Company → List ℕ → ℕ
shown_own_set κ output = number_at 8 output (set_with κ)

abbrev pub shown_own_number : Company → List ℕ → ℕ
shown_own_number κ output = number_at 4 output (number_with κ)

-- and behind the number the values (4 each), of a write of z that of item k at its rank
abbrev pub shown_own_value : Company → ℕ → List ℕ → ℕ → ℕ
shown_own_value κ z output k = number_at 4 output (number_with κ + 4 + 4 * rank z k)

-- 'An entry shown with number, desk and value 0 is initial'
abbrev pub Initial : ℕ → List ℕ → ℕ → Type 0
Initial s output k = (shown_number s output k ≡ 0) × (shown_writer s output k ≡ 0)
    × (shown_value s output k ≡ 0)

-- item k is shown with this stamp
abbrev pub ShownWith : ℕ → List ℕ → ℕ → ℕ → Type 0
ShownWith s output k stamp = (shown_number s output k ≡ number_of stamp)
    × (shown_writer s output k ≡ writer_of stamp)

-- 'Older means an earlier stamp': the smaller number, or with equal numbers the smaller client
abbrev pub ShownOlder : ℕ → List ℕ → ℕ → ℕ → Type 0
ShownOlder s output k stamp =
    (shown_number s output k < number_of stamp)
    ⊎ ((shown_number s output k ≡ number_of stamp) × (shown_writer s output k < writer_of stamp))

-- from an output of a read of s to one of a read of s' the stamp shown for item k falls
abbrev pub Falls : ℕ → List ℕ → ℕ → List ℕ → ℕ → Type 0
Falls s output s' output' k =
    (shown_number s' output' k < shown_number s output k)
    ⊎ ((shown_number s' output' k ≡ shown_number s output k)
    × (shown_writer s' output' k < shown_writer s output k))

-- 'it is stored in all its cabinets once its own prepare of each of its lines has been delivered':
-- before time t
abbrev pub StoredBefore : List Store → Write → ℕ → Type 0
StoredBefore stores a t = (j : ℕ) → has a.set j ≡ true → (σ : Store) × In σ stores
    × (σ.start ≡ a.start) × (σ.item ≡ j) × (σ.time < t)

-- the last reply of client d for item k among these
abbrev pub LastReply : ℕ → ℕ → List Labelled → Labelled → Type 0
LastReply d k ls reply = (above below : List Labelled) × (ls ≡ above ++ reply ∷ below)
    × (is_reply_for d k reply ≡ true) × (counted (is_reply_for d k) below ≡ 0)

-- 'The cabinet answers a line when the get behind its reply is delivered': a got joins at the
-- delivery of its get
abbrev pub answered_at : Labelled → ℕ
answered_at reply = reply.label.since

module _ (caps : Capacities) (w : World) where
  -- ---- Transactions in a list of calls

  -- accepted after the calls `before`, under way during the calls `during`, ended by the call `end`
  pub record UnderWay (d : ℕ) (start : Call) (before during : List Call) : Type 0 where
    pub accepted : refusal caps (after caps w before).tables start ≡ 0
    pub unended : stays caps (after caps w (before ++ start ∷ [])) d during ≡ true

  pub record EndedBy (d : ℕ) (start : Call) (before during : List Call) (end : Call) : Type 0 where
    pub under_way : UnderWay d start before during
    pub ended : ends_for caps (after caps w (before ++ start ∷ during)) d end ≡ true

  -- the write of v that client e started after the calls `earlier` counts as a client's own after
  -- the calls `before`: it is that client's, and ended among them; or one of them is an accepted
  -- hand-over to that client, and it counted as the giver's own before that ('writes the giver had
  -- ended or inherited before the handover count as the receiver's own', document 02, P6)
  pub data Own (e v : ℕ) (bytes : List ℕ) (earlier : List Call) : ℕ → List Call → Type 0 where
    own : (κ : Company) (before meanwhile : List Call) (finish : Call) (later : List Call)
        → before ≡ earlier ++ start_with κ e v bytes ∷ meanwhile ++ finish ∷ later
        → EndedBy e (start_with κ e v bytes) earlier meanwhile finish
        → Own e v bytes earlier e before
    inherited : (giver client : ℕ) (before above below : List Call)
        → before ≡ above ++ hand_over giver client ∷ below
        → refusal caps (after caps w above).tables (hand_over giver client) ≡ 0
        → Own e v bytes earlier giver above
        → Own e v bytes earlier client before

  -- the world now, what joined and what was delivered, from a read's start on, over the calls
  -- `during`
  abbrev pub now : Call → List Call → List Call → World
  now start before during = after caps w (before ++ start ∷ during)

  abbrev pub sent : Call → List Call → List Call → List Labelled
  sent start before during = joining_over caps (after caps w before) (start ∷ during)

  abbrev pub came : Call → List Call → List Call → List Labelled
  came start before during = leaving_over caps (after caps w before) (start ∷ during)

  -- a read 'awaits the lines of its set without a reply', and 'a line fetched again is awaited
  -- again' (document 02, P7): until its second request has its reply too
  abbrev pub Awaited : ℕ → ℕ → Call → List Call → List Call → Type 0
  Awaited d k start before during =
      (counted (is_reply_for d k) (came start before during) ≡ 0)
      ⊎ (counted (is_reply_for d k) (came start before during)
      < counted (is_request_for d k) (sent start before during))

  -- an accepted call of the list delivers message m
  abbrev pub DeliveredBy : List Call → Message → Type 0
  DeliveredBy calls m =
      (above below : List Call) × ((i : ℕ) × (calls ≡ above ++ deliver i ∷ below)
      × (refusal caps (after caps w above).tables (deliver i) ≡ 0)
      × ((placed (after caps w above) i).message ≡ m))

  -- an accepted call of the list adds x
  abbrev pub AddedBy : {A : Type 0} → (World → Call → List A) → List Call → A → Type 0
  AddedBy added calls x =
      (before rest : List Call) × ((c : Call) × (calls ≡ before ++ c ∷ rest)
      × (refusal caps (after caps w before).tables c ≡ 0)
      × In x (added (after caps w before) c))

  -- ---- A transaction of client d that ended, shown into `room` after the calls `until`

  abbrev pub shown_at : Call → List Call → List Call → Call → List Call → World
  shown_at start before during end until = after caps w (before ++ start ∷ during ++ end ∷ until)

  abbrev pub output : ℕ → Call → List Call → List Call → Call → List Call → List ℕ → List ℕ
  output d start before during end until room =
      (step caps (shown_at start before during end until).tables (show d room)).output

  -- the world at a later call, behind the calls `between` after the showing
  abbrev pub later : ℕ → Call → List Call → List Call → Call → List Call → List ℕ → List Call
      → World
  later d start before during end until room between =
      after caps w (before ++ start ∷ during ++ end ∷ until ++ show d room ∷ between)

  -- what a read of s by client d shows

  abbrev pub output_of_read : Manner → ℕ → ℕ → List Call → List Call → Call → List Call → List ℕ
      → List ℕ
  output_of_read μ d s before during end until room =
      output d (start_of μ d s) before during end until room

  pub record Shows (calls : List Call) (μ : Manner) (d s : ℕ) (before during : List Call)
      (end : Call) (until : List Call) (room : List ℕ) : Type 0 where
    -- 'A read shows what a showing of its desk with room enough gives after its end and before the
    -- desk's next start': it is accepted, and the frame's head is `21`, `23` of a fast read or `24`
    -- of a mixed transaction, client, set
    pub shown : (step caps (shown_at (start_of μ d s) before during end until).tables
        (show d room)).answer ≡ Shown (length_of μ s)
    pub head : take 10 (output_of_read μ d s before during end until room)
        ≡ byte_of μ ∷ d ∷ big_endian 8 s
    -- 'wherever it shows an entry of a write that also wrote another line it shows, that other line
    -- isn't shown older'
    pub unfractured : (a : Write) → In a (after caps w calls).writes → (j k : ℕ) → has s j ≡ true
        → has s k ≡ true
        → ShownWith s (output_of_read μ d s before during end until room) j a.stamp
        → has a.set j ≡ true → has a.set k ≡ true
        → ShownOlder s (output_of_read μ d s before during end until room) k a.stamp → ⊥
    -- each entry is what the last reply for its line brought, and 'each entry that isn't initial is
    -- what a write in the list put on that line, and that write was stored in all its cabinets
    -- before the cabinet answered the line' with that reply
    pub written : (k : ℕ) → has s k ≡ true
        → (reply : Labelled)
        × LastReply d k (came (start_of μ d s) before (during ++ end ∷ [])) reply
        × ShownWith s (output_of_read μ d s before during end until room) k
        (parts_of reply.message).stamp
        × (shown_value s (output_of_read μ d s before during end until room) k
        ≡ (parts_of reply.message).value)
        × (Initial s (output_of_read μ d s before during end until room) k
        ⊎ ((a : Write) × In a (after caps w calls).writes
        × ShownWith s (output_of_read μ d s before during end until room) k a.stamp
        × (has a.set k ≡ true) × (a.values k ≡ shown_value s
        (output_of_read μ d s before during end until room) k)
        × StoredBefore (after caps w calls).stores a (answered_at reply)))
    -- 'no entry is older than a write of that line which the desk itself had ended before starting
    -- the read', with those that count as its own after a hand-over 'for reads started after it'; a
    -- fast read 'may miss the desk's own uncommitted write' (document 02, P7)
    pub own : by_view μ ≡ true
        → (e v : ℕ) (bytes : List ℕ) (earlier : List Call) → Own e v bytes earlier d before
        → (k : ℕ) → has s k ≡ true → has v k ≡ true
        → ShownOlder s (output_of_read μ d s before during end until room) k
        (next_stamp (after caps w earlier).tables e) → ⊥
    -- 'A first get (kind 6) asks for the latest committed version' (document 02, P7): the first
    -- reply for a line has the stamp of the line's latest (`latest_committed`) when the first get
    -- behind it was delivered, after the calls `early` since the start, and nothing older is shown
    pub fresh : μ ≡ fast → (k : ℕ) → has s k ≡ true
        → (reply : Labelled) × In reply (came (start_of μ d s) before (during ++ end ∷ []))
        × (is_first_reply_for d k reply ≡ true)
        × ((early late : List Call) × ((i : ℕ) × (during ++ end ∷ [] ≡ early ++ deliver i ∷ late)
        × ((placed (now (start_of μ d s) before early) i).message ≡ FirstGet d k)
        × (answered_at reply ≡ (now (start_of μ d s) before early).time)
        × ((parts_of reply.message).stamp
        ≡ ((now (start_of μ d s) before early).tables.latest k).stamp)
        × (ShownOlder s (output_of_read μ d s before during end until room) k
        ((now (start_of μ d s) before early).tables.latest k).stamp → ⊥)))

  -- ---- The condition

  pub record Condition3 (calls : List Call) : Type 0 where
    -- 'each call gives the answer, output and tables that document 01's steps and refusal table
    -- give': answers and outputs are `step`'s own, and the tables go on from call to call as `step`
    -- leaves them
    pub steps : (before rest : List Call) (c : Call) → calls ≡ before ++ c ∷ rest
        → (after caps w (before ++ c ∷ [])).tables ≡ (step caps
        (after caps w before).tables c).tables
    -- 'A message is of the desk whose start put it there, or of the same desk as the message whose
    -- delivery did': the labelled messages are the tables' own, and a label's client is the one
    -- that the message's own fields name
    pub labels : (before rest : List Call) → calls ≡ before ++ rest
        → (map (λ l. l.message) (after caps w before).in_flight ≡ (after caps w
        before).tables.messages)
        × ((l : Labelled) → In l (after caps w before).in_flight
        → l.label.client ≡ owner_of l.message)
    -- the history's writes and stores are w's and those that accepted calls of the list add
    pub history : (a : Write) → In a (after caps w calls).writes
        ↔ (In a w.writes ⊎ AddedBy begun calls a)
    pub preparations : (σ : Store) → In σ (after caps w calls).stores
        ↔ (In σ w.stores ⊎ AddedBy storing calls σ)
    -- 'after it every read of n lines has exactly one message in the pile for each line it awaits',
    -- the read part of a mixed transaction too
    pub one_message : (μ : Manner) → by_view μ ≡ true → (before during rest : List Call) (d s : ℕ)
        → calls ≡ before ++ start_of μ d s ∷ during ++ rest
        → UnderWay d (start_of μ d s) before during
        → (k : ℕ) → has s k ≡ true
        → counted (is_reply_for d k) (came (start_of μ d s) before during) ≡ 0
        → counted (is_read_message d k) (now (start_of μ d s) before during).in_flight ≡ 1
    -- and a fast read for each line it awaits, in either part
    pub one_message_fast : (before during rest : List Call) (d s : ℕ)
        → calls ≡ before ++ start_fast_read d s ∷ during ++ rest
        → UnderWay d (start_fast_read d s) before during
        → (k : ℕ) → has s k ≡ true → Awaited d k (start_fast_read d s) before during
        → counted (is_read_message d k) (now (start_fast_read d s) before during).in_flight ≡ 1
    -- 'the delivery of its n-th reply, and no other, reports it ended'
    pub ends : (before during rest : List Call) (d s : ℕ) (c : Call)
        → calls ≡ before ++ start_read d s ∷ during ++ c ∷ rest
        → UnderWay d (start_read d s) before during
        → (ends_for caps (now (start_read d s) before during) d c ≡ true)
        ↔ ((counted (is_reply d) (came (start_read d s) before during) < count s)
        × (counted (is_reply d) (came (start_read d s) before (during ++ c ∷ [])) ≡ count s))
    -- of a fast read the delivery of the last reply to its requests, which are more than n where
    -- lines are fetched again
    pub ends_fast : (before during rest : List Call) (d s : ℕ) (c : Call)
        → calls ≡ before ++ start_fast_read d s ∷ during ++ c ∷ rest
        → UnderWay d (start_fast_read d s) before during
        → (ends_for caps (now (start_fast_read d s) before during) d c ≡ true)
        ↔ ((counted (is_reply d) (came (start_fast_read d s) before during)
        < counted (is_request d) (sent (start_fast_read d s) before during))
        × (counted (is_reply d) (came (start_fast_read d s) before (during ++ c ∷ []))
        ≡ counted (is_request d) (sent (start_fast_read d s) before (during ++ c ∷ []))))
    -- of a mixed transaction the delivery of the last reply of either kind: it 'ends with the last
    -- reply of either kind' (document 02, P8)
    pub ends_mixed : (before during rest : List Call) (d s z : ℕ) (bytes : List ℕ) (c : Call)
        → calls ≡ before ++ start_mixed d s z bytes ∷ during ++ c ∷ rest
        → UnderWay d (start_mixed d s z bytes) before during
        → (ends_for caps (now (start_mixed d s z bytes) before during) d c ≡ true)
        ↔ ((counted (is_reply d) (came (start_mixed d s z bytes) before during)
        + counted (is_prepared_reply d) (came (start_mixed d s z bytes) before during)
        < count s + count z)
        × (counted (is_reply d) (came (start_mixed d s z bytes) before (during ++ c ∷ [])) ≡ count s)
        × (counted (is_prepared_reply d) (came (start_mixed d s z bytes) before (during ++ c ∷ []))
        ≡ count z))
    -- and none after it, up to the client's next accepted start
    pub silent : (μ : Manner) (before during until rest : List Call) (d s : ℕ) (end : Call)
        → calls ≡ before ++ start_of μ d s ∷ during ++ end ∷ until ++ rest
        → EndedBy d (start_of μ d s) before during end
        → rests caps (shown_at (start_of μ d s) before during end []) d until ≡ true
        → stays caps (shown_at (start_of μ d s) before during end []) d until ≡ true
    -- 'after exactly n requests and n replies', one for each line; its outcome is 01, a read ended
    pub counts : (before during rest : List Call) (d s : ℕ) (end : Call)
        → calls ≡ before ++ start_read d s ∷ during ++ end ∷ rest
        → EndedBy d (start_read d s) before during end
        → (counted (is_request d) (sent (start_read d s) before (during ++ end ∷ [])) ≡ count s)
        × (counted (is_reply d) (came (start_read d s) before (during ++ end ∷ [])) ≡ count s)
        × ((k : ℕ) → has s k ≡ true
        → counted (is_reply_for d k) (came (start_read d s) before (during ++ end ∷ [])) ≡ 1)
        × (outcome_in (step caps (now (start_read d s) before during).tables end).answer ≡ 1)
    -- of a fast read 'a line fetched again is awaited again, and adds one request and one reply to
    -- the n' (document 02, P7): `again` are these lines, each fetched again once
    pub counts_fast : (before during rest : List Call) (d s : ℕ) (end : Call)
        → calls ≡ before ++ start_fast_read d s ∷ during ++ end ∷ rest
        → EndedBy d (start_fast_read d s) before during end
        → (again : ℕ) × ((k : ℕ) → has again k ≡ true → has s k ≡ true)
        × (counted (is_request d) (sent (start_fast_read d s) before (during ++ end ∷ []))
        ≡ count s + count again)
        × (counted (is_reply d) (came (start_fast_read d s) before (during ++ end ∷ []))
        ≡ count s + count again)
        × ((k : ℕ) → has s k ≡ true
        → (counted (is_request_for d k) (sent (start_fast_read d s) before (during ++ end ∷ []))
        ≡ suc (cond (has again k) 1 0))
        × (counted (is_reply_for d k) (came (start_fast_read d s) before (during ++ end ∷ []))
        ≡ suc (cond (has again k) 1 0)))
        × (outcome_in (step caps (now (start_fast_read d s) before during).tables end).answer ≡ 1)
    -- 'lines found older than a sibling shows are fetched by stamp in a second set of gets': until
    -- the n-th reply has come a fast read has sent its n first gets alone, and from then on, the
    -- second set having joined with that reply, it sends nothing
    pub two_rounds : (before during rest : List Call) (d s : ℕ) (c : Call)
        → calls ≡ before ++ start_fast_read d s ∷ during ++ c ∷ rest
        → UnderWay d (start_fast_read d s) before during
        → (counted (is_reply d) (came (start_fast_read d s) before during) < count s
        → counted (is_request d) (sent (start_fast_read d s) before during) ≡ count s)
        × (count s ≤ counted (is_reply d) (came (start_fast_read d s) before during)
        → counted (is_request d) (sent (start_fast_read d s) before (during ++ c ∷ []))
        ≡ counted (is_request d) (sent (start_fast_read d s) before during))
    -- ended or not, it asks for a line of its set at most twice, for no other, and has at most one
    -- first reply and one got of a line
    pub bounded_fast : (before during rest : List Call) (d s : ℕ) (c : Call)
        → calls ≡ before ++ start_fast_read d s ∷ during ++ c ∷ rest
        → UnderWay d (start_fast_read d s) before during
        → (k : ℕ)
        → (counted (is_request_for d k) (sent (start_fast_read d s) before (during ++ c ∷ []))
        ≤ cond (has s k) 2 0)
        × (counted (is_first_reply_for d k) (came (start_fast_read d s) before (during ++ c ∷ [])) ≤ 1)
        × (counted (is_got_for d k) (came (start_fast_read d s) before (during ++ c ∷ [])) ≤ 1)
    -- of a mixed transaction as of a read, with as many prepared replies as lines written, one for
    -- each; its outcome is 02
    pub counts_mixed : (before during rest : List Call) (d s z : ℕ) (bytes : List ℕ) (end : Call)
        → calls ≡ before ++ start_mixed d s z bytes ∷ during ++ end ∷ rest
        → EndedBy d (start_mixed d s z bytes) before during end
        → (counted (is_request d) (sent (start_mixed d s z bytes) before (during ++ end ∷ []))
        ≡ count s)
        × (counted (is_reply d) (came (start_mixed d s z bytes) before (during ++ end ∷ []))
        ≡ count s)
        × ((k : ℕ) → has s k ≡ true
        → counted (is_reply_for d k) (came (start_mixed d s z bytes) before (during ++ end ∷ [])) ≡ 1)
        × (counted (is_prepared_reply d) (came (start_mixed d s z bytes) before (during ++ end ∷ []))
        ≡ count z)
        × ((k : ℕ) → has z k ≡ true → counted (is_prepared_reply_for d k)
        (came (start_mixed d s z bytes) before (during ++ end ∷ [])) ≡ 1)
        × (outcome_in (step caps (now (start_mixed d s z bytes) before during).tables end).answer
        ≡ 2)
    -- of a write, alone or in a mixed transaction: with its start it sends as many prepares as
    -- lines written, one for each. Until its end it sends no other, and no commit. 'Written lines
    -- enter the view and commits go then' (document 02, P8): one to each cabinet touched, and the
    -- view has that write or a later one on each line
    pub commits_then : (κ : Company) (before during rest : List Call) (d z : ℕ)
        (written : List ℕ) (c : Call)
        → calls ≡ before ++ start_with κ d z written ∷ during ++ c ∷ rest
        → UnderWay d (start_with κ d z written) before during
        → (counted (is_prepare_of d) (sent (start_with κ d z written) before during) ≡ count z)
        × ((k : ℕ) → has z k ≡ true
        → counted (is_prepare_for d k) (sent (start_with κ d z written) before during) ≡ 1)
        × (counted (is_commit_of d) (sent (start_with κ d z written) before during) ≡ 0)
        × (ends_for caps (now (start_with κ d z written) before during) d c ≡ true
        → (map (λ l. l.message) (joining (now (start_with κ d z written) before during) c)
        ≡ commits (now (start_with κ d z written) before during).tables z
        (next_stamp (after caps w before).tables d))
        × ((k : ℕ) → has z k ≡ true → next_stamp (after caps w before).tables d
        ≤ ((now (start_with κ d z written) before (during ++ c ∷ [])).tables.view d k).stamp))
    -- what the read shows
    pub shows : (μ : Manner) (before during until rest : List Call) (d s : ℕ) (end : Call)
        (room : List ℕ)
        → calls ≡ before ++ start_of μ d s ∷ during ++ end ∷ until ++ show d room ∷ rest
        → EndedBy d (start_of μ d s) before during end
        → rests caps (shown_at (start_of μ d s) before during end []) d until ≡ true
        → length_of μ s ≤ length room
        → Shows calls μ d s before during end until room
    -- 'Its reads show the entries chosen at the start, also for lines it writes' (document 02, P8):
    -- a mixed transaction shows each line it reads with the stamp that its start asks for. That is
    -- older than its own write: it means 'reading the old entry and writing the new'
    pub shows_chosen : (before during until rest : List Call) (d s z : ℕ) (bytes : List ℕ)
        (end : Call) (room : List ℕ)
        → calls ≡ before ++ start_mixed d s z bytes ∷ during ++ end ∷ until ++ show d room ∷ rest
        → EndedBy d (start_mixed d s z bytes) before during end
        → rests caps (shown_at (start_mixed d s z bytes) before during end []) d until ≡ true
        → length_of (writing z bytes) s ≤ length room
        → (k : ℕ) → has s k ≡ true
        → ShownWith s (output_of_read (writing z bytes) d s before during end until room) k
        (asks (after caps w before).tables d k)
        × (shown_number s (output_of_read (writing z bytes) d s before during end until room) k
        < shown_own_number (reading s)
        (output_of_read (writing z bytes) d s before during end until room))
    -- 'Each write is later than every entry its desk was shown before' (document 02, P1): whatever
    -- a read showed is older than each write that its client starts after the showing
    pub wins : (μ : Manner) (before during until between rest : List Call) (d s : ℕ) (end : Call)
        (room : List ℕ) (κ : Company) (v : ℕ) (bytes : List ℕ)
        → calls ≡ before ++ start_of μ d s ∷ during ++ end ∷ until ++ show d room ∷ between
        ++ start_with κ d v bytes ∷ rest
        → EndedBy d (start_of μ d s) before during end
        → rests caps (shown_at (start_of μ d s) before during end []) d until ≡ true
        → length_of μ s ≤ length room
        → refusal caps (later d (start_of μ d s) before during end until room between).tables
        (start_with κ d v bytes) ≡ 0
        → (k : ℕ) → has s k ≡ true
        → ShownOlder s (output_of_read μ d s before during end until room) k
        (next_stamp (later d (start_of μ d s) before during end until room between).tables d)
    -- what a write shows: a frame of head `20`, client, set, with the write's own number behind it.
    -- Then comes each line's value, as its start brought it. In a mixed transaction set, number and
    -- values stand in the frame `24` behind what was read
    pub shows_own : (κ : Company) (before during until rest : List Call) (d z : ℕ)
        (written : List ℕ) (end : Call) (room : List ℕ)
        → calls ≡ before ++ start_with κ d z written ∷ during ++ end ∷ until ++ show d room ∷ rest
        → EndedBy d (start_with κ d z written) before during end
        → rests caps (shown_at (start_with κ d z written) before during end []) d until ≡ true
        → length_with κ z ≤ length room
        → ((step caps (shown_at (start_with κ d z written) before during end until).tables
        (show d room)).answer ≡ Shown (length_with κ z))
        × (take 10 (output d (start_with κ d z written) before during end until room)
        ≡ head_with κ d z)
        × (shown_own_set κ (output d (start_with κ d z written) before during end until room) ≡ z)
        × (shown_own_number κ (output d (start_with κ d z written) before during end until room)
        ≡ number_of (next_stamp (after caps w before).tables d))
        × ((k : ℕ) → has z k ≡ true
        → shown_own_value κ z (output d (start_with κ d z written) before during end until room) k
        ≡ value_of z written k)
    -- and that number is smaller than each that a later write of its client takes
    pub wins_own : (κ κ' : Company) (before during until between rest : List Call) (d z : ℕ)
        (written : List ℕ) (end : Call) (room : List ℕ) (v : ℕ) (bytes : List ℕ)
        → calls ≡ before ++ start_with κ d z written ∷ during ++ end ∷ until ++ show d room
        ∷ between ++ start_with κ' d v bytes ∷ rest
        → EndedBy d (start_with κ d z written) before during end
        → rests caps (shown_at (start_with κ d z written) before during end []) d until ≡ true
        → length_with κ z ≤ length room
        → refusal caps (later d (start_with κ d z written) before during end until room
        between).tables (start_with κ' d v bytes) ≡ 0
        → shown_own_number κ (output d (start_with κ d z written) before during end until room)
        < number_of (next_stamp (later d (start_with κ d z written) before during end until room
        between).tables d)
    -- 'Two reads of one line by one desk, the second started after the first ended, then show
    -- stamps that never fall' (document 02, P2). The first shows before its client's next start, so
    -- before the second's. The first may be a fast read, the second not: a fast read's 'stamps may
    -- fall against earlier reads' (P7). Either may be the read part of a mixed transaction (P8).
    pub never_falls : (μ μ' : Manner) → by_view μ' ≡ true
        → (before during until between before' during' until' rest : List Call)
        (d s s' : ℕ) (end end' : Call) (room room' : List ℕ)
        → before' ≡ before ++ start_of μ d s ∷ during ++ end ∷ until ++ show d room ∷ between
        → calls ≡ before' ++ start_of μ' d s' ∷ during' ++ end' ∷ until' ++ show d room' ∷ rest
        → EndedBy d (start_of μ d s) before during end
        → rests caps (shown_at (start_of μ d s) before during end []) d until ≡ true
        → length_of μ s ≤ length room
        → EndedBy d (start_of μ' d s') before' during' end'
        → rests caps (shown_at (start_of μ' d s') before' during' end' []) d until' ≡ true
        → length_of μ' s' ≤ length room'
        → (k : ℕ) → has s k ≡ true → has s' k ≡ true
        → Falls s (output_of_read μ d s before during end until room) s'
        (output_of_read μ' d s' before' during' end' until' room') k → ⊥
    -- what is latest of a line: no older than a write of the line whose commit its cabinet has got,
    -- and what such a commit brought, where it isn't w's own still (in freshly made tables initial)
    pub latest_committed : (before rest : List Call) → calls ≡ before ++ rest → (k : ℕ)
        → ((a : Write) → In a (after caps w before).writes → has a.set k ≡ true
        → DeliveredBy before (Commit (partition_of w.tables k) a.stamp)
        → a.stamp ≤ ((after caps w before).tables.latest k).stamp)
        × ((((after caps w before).tables.latest k).stamp ≡ (w.tables.latest k).stamp)
        ⊎ DeliveredBy before (Commit (partition_of w.tables k)
        ((after caps w before).tables.latest k).stamp))
    -- a clearing 'returns how many went' (document 02, P5): it is accepted, and so many versions
    -- fewer are stored after it
    pub clears : (before rest : List Call) → calls ≡ before ++ clear ∷ rest
        → (n : ℕ) × ((step caps (after caps w before).tables clear).answer ≡ Cleared n)
        × (length (after caps w (before ++ clear ∷ [])).tables.versions + n
        ≡ length (after caps w before).tables.versions)
    -- 'The freed places serve the next writes': a write isn't refused by 9 as long as its items and
    -- the prepares that have joined since are no more than the versions that went
    pub serves : (κ : Company) (before between rest : List Call) (n d s : ℕ) (bytes : List ℕ)
        → calls ≡ before ++ clear ∷ between ++ start_with κ d s bytes ∷ rest
        → (step caps (after caps w before).tables clear).answer ≡ Cleared n
        → counted (λ l. is_prepare l.message) (joining_over caps
        (after caps w (before ++ clear ∷ [])) between) + count s ≤ n
        → refusal caps (after caps w (before ++ clear ∷ between)).tables
        (start_with κ d s bytes) ≡ 9 → ⊥
    -- 'every block our own calls make from a fresh start or an accepted block is accepted'
    -- (document 02, P9)
    pub checks : (before rest : List Call) → calls ≡ before ++ rest
        → refusal caps (after caps w before).tables check ≡ 0
    -- 'a delivery at any place within the pile is accepted'
    -- and so, 'with clearings among the calls', a read 'meets no 12' (document 02, P5)
    pub deliverable : (before rest : List Call) → calls ≡ before ++ rest
        → (i : ℕ) → i < length (after caps w before).tables.messages
        → refusal caps (after caps w before).tables (deliver i) ≡ 0
