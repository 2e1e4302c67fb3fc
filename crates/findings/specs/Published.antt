-- The published definitions as statements about a log, with the lines and items that they speak of:
-- read atomicity and fractured reads (sources 001 and 002), reading one's own writes (source 000)
-- and inherited ones (document 02, P6), fast reads being free to miss them (P7), and what a
-- well-formed line is. A line is a transaction, or a hand-over; a mixed one (P8) reads as if above
-- its own write, so that this is its own only below. Lines and items count from 0.
use Rattle.std.specs.Prelude.{true, List, [], ◌∷◌, ◌++◌, ◌⊎◌, ◌≡◌, ℕ, ◌+◌, ◌≤◌, ◌<◌, eqb, length, get_or}
use Rattle.basics.specs.Lists.{counted}
use Rattle.hexadecimal.specs.Bytes.{EachByte}
use Rattle.hexadecimal.specs.Text.{hex_text}
use Rattle.itemset.specs.Set.{has}
use Rattle.log_format.specs.Log.{lines_of, frames_of, kind_of, client_of, has_read, has_write, hands_over}
use Rattle.log_format.specs.Log.{is_kind, reads_own, receiver_of, shown, count64}
use Rattle.log_format.specs.Log.{entry_number, entry_writer, shown_stamp, shown_value, written, number_of}
use Rattle.log_format.specs.Log.{written_stamp, written_value, end_of}
use Rattle.findings.specs.declared.Verdict.{Verdict}
use Rattle.findings.specs.declared.Verdict.TheVariants.{TooLong, Malformed, Judged}

-- ---- a log within the limits

abbrev pub Within : List ℕ → Type 0
Within log = (length log ≤ 32768) × (counted (λ c. eqb c 0x0a) log ≤ 256)

-- ---- a well-formed line

abbrev pub IsClient : ℕ → Type 0
IsClient d = (1 ≤ d) × (d ≤ 8)

-- a stamp that a read shows: both parts 0, or both in range
abbrev pub WholeStamp : ℕ → ℕ → Type 0
WholeStamp number d = ((number ≡ 0) × (d ≡ 0)) ⊎ ((1 ≤ number) × IsClient d)

-- the read part of a frame
pub record ReadPart (f : List ℕ) : Type 0 where
  pub items : 1 ≤ shown f
  pub entries : (k : ℕ) → k < count64 (shown f) → WholeStamp (entry_number f k) (entry_writer f k)

-- the write part of a frame
pub record WritePart (f : List ℕ) : Type 0 where
  pub items : 1 ≤ written f
  pub number : 1 ≤ number_of f

-- what a hand-over has behind the giver: another client
pub record HandOverPart (f : List ℕ) : Type 0 where
  pub receiver : IsClient (receiver_of f)
  pub other : receiver_of f ≡ client_of f → ⊥

-- a log frame, with the parts that its kind has and nothing behind them
pub record LogFrame (f : List ℕ) : Type 0 where
  pub kind : is_kind (kind_of f) ≡ true
  pub client : IsClient (client_of f)
  pub size : length f ≡ end_of f
  pub read : has_read (kind_of f) ≡ true → ReadPart f
  pub write : has_write (kind_of f) ≡ true → WritePart f
  pub hand-over : hands_over (kind_of f) ≡ true → HandOverPart f

-- line i of the log is the digits of frame f and then 0a
abbrev pub Holds : List ℕ → ℕ → List ℕ → Type 0
Holds log i f = EachByte f × (get_or (lines_of log) i [] ≡ hex_text f ++ 0x0a ∷ [])

-- every frame above line i of the client of f has a smaller number: that of its write, or 0
abbrev pub Rises : List ℕ → ℕ → List ℕ → Type 0
Rises log i f =
    (j : ℕ) (g : List ℕ) → j < i → Holds log j g → client_of g ≡ client_of f → number_of g < number_of f

-- line i holds a log frame; the number of its write, if it has one, rises
abbrev pub WellFormed : List ℕ → ℕ → Type 0
WellFormed log i =
    (f : List ℕ) × Holds log i f × LogFrame f × (1 ≤ number_of f → Rises log i f)

-- i is the first malformed line
abbrev pub FirstMalformed : List ℕ → ℕ → Type 0
FirstMalformed log i = (i < length (lines_of log)) × (WellFormed log i → ⊥)
    × ((j : ℕ) → j < i → WellFormed log j)

abbrev pub AllWellFormed : List ℕ → Type 0
AllWellFormed log = (i : ℕ) → i < length (lines_of log) → WellFormed log i

-- ---- versions written and read

module _ (frames : List (List ℕ)) where
  -- line j wrote the version of the item with that stamp
  abbrev pub Wrote : ℕ → ℕ → ℕ → Type 0
  Wrote j item stamp = (j < length frames) × (has (written (get_or frames j [])) item ≡ true)
      × (written_stamp (get_or frames j []) ≡ stamp)

  -- line i reads the version of the item with that stamp
  abbrev pub Reads : ℕ → ℕ → ℕ → Type 0
  Reads i item stamp = (i < length frames) × (has (shown (get_or frames i [])) item ≡ true)
      × (shown_stamp (get_or frames i []) item ≡ stamp)

  -- a read of data that nobody committed: a version, with its value, that is not the initial one
  -- and that no line wrote
  abbrev pub Unwritten : ℕ → Type 0
  Unwritten i =
      (item stamp : ℕ)
      × Reads i item stamp
      × ((stamp ≡ 0) × (shown_value (get_or frames i []) item ≡ 0) → ⊥)
      × ((j : ℕ) → Wrote j item stamp
      → written_value (get_or frames j []) item ≡ shown_value (get_or frames i []) item → ⊥)

  -- fractured reads: transaction j writes versions x and y at n, transaction i reads x at n and y
  -- at k, and k < n
  abbrev pub Fractured : ℕ → Type 0
  Fractured i = (j x y n k : ℕ) × Wrote j x n × Wrote j y n × Reads i x n × Reads i y k × (k < n)

  -- line h hands over from the giver to the receiver
  abbrev pub HandsOver : ℕ → ℕ → ℕ → Type 0
  HandsOver h giver receiver =
      (hands_over (kind_of (get_or frames h [])) ≡ true) × (client_of (get_or frames h []) ≡ giver)
      × (receiver_of (get_or frames h []) ≡ receiver)

  -- what line j wrote counts as a client's own at line i: line j stands above and is of that
  -- client; or a line h above hands over to it, and line j counts as the giver's own at h
  pub data Own : ℕ → ℕ → ℕ → Type 0 where
    own : {client i j : ℕ} → j < i → client_of (get_or frames j []) ≡ client → Own client i j
    inherited : {giver client h i j : ℕ} → h < i → HandsOver h giver client → Own giver h j
        → Own client i j

  -- a read, not a fast one, that misses an earlier write of its own session: line j, which counts
  -- as its client's own, wrote the item at n, line i reads it at k, and k < n
  abbrev pub OwnWriteMissed : ℕ → Type 0
  OwnWriteMissed i =
      (j item n k : ℕ) × (reads_own (kind_of (get_or frames i [])) ≡ true)
      × Own (client_of (get_or frames i [])) i j × Wrote j item n × Reads i item k × (k < n)

  abbrev pub Fault : ℕ → Type 0
  Fault i = Unwritten i ⊎ (Fractured i ⊎ OwnWriteMissed i)

  -- the finding of that number holds at line i, and no lower one
  abbrev pub Lowest : ℕ → ℕ → Type 0
  Lowest i finding =
      ((finding ≡ 1) × Unwritten i)
      ⊎ (((finding ≡ 2) × (Unwritten i → ⊥) × Fractured i)
      ⊎ ((finding ≡ 3) × (Unwritten i → ⊥) × (Fractured i → ⊥) × OwnWriteMissed i))

  -- i is the first line at fault, and that is the lowest finding there
  abbrev pub FirstFault : ℕ → ℕ → Type 0
  FirstFault i finding = (i < length frames) × Lowest i finding × ((j : ℕ) → j < i → Fault j → ⊥)

-- ---- what the judge's answer says

pub record Says (log : List ℕ) (answer : Verdict) : Type 0 where
  -- 16: if and only if the log is over a limit
  pub refused : answer ≡ TooLong → Within log → ⊥
  pub over : (Within log → ⊥) → answer ≡ TooLong
  -- 15: if and only if some line of a log within the limits is malformed; the line named is the
  -- first such, counted from 1
  pub malformed : (line : ℕ) → answer ≡ Malformed line → Within log
      × ((i : ℕ) × (line ≡ i + 1) × FirstMalformed log i)
  pub spoiled : Within log → (AllWellFormed log → ⊥) → (line : ℕ) × (answer ≡ Malformed line)
  -- a fault: if and only if the log is within the limits, well-formed and holds one; the line named
  -- is the first, the finding the lowest there
  pub fault : (finding line : ℕ) → answer ≡ Judged finding line → (finding ≡ 0 → ⊥)
      → Within log × AllWellFormed log
      × ((i : ℕ) × (line ≡ i + 1) × FirstFault (frames_of log) i finding)
  pub found : Within log → AllWellFormed log → (i : ℕ) → Fault (frames_of log) i → (finding line : ℕ)
      × (answer ≡ Judged finding line) × (finding ≡ 0 → ⊥)
  -- clean, 0 and 0: if and only if the log is within the limits, well-formed and holds no fault
  pub quiet : answer ≡ Judged 0 0 → Within log × AllWellFormed log
      × ((i : ℕ) → Fault (frames_of log) i → ⊥)
  pub clean : Within log → AllWellFormed log → ((i : ℕ) → Fault (frames_of log) i → ⊥)
      → answer ≡ Judged 0 0
