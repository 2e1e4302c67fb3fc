-- What the driver does with the bytes that it reads: those of one read join the ones kept before,
-- in order. What a read gives is assumed.
use Rattle.std.specs.Prelude.{List, [], ◌∷◌, ◌≡◌, ℕ, ◌+◌, ◌≤◌, length, take, Result, Ok, Err}
use Rattle.std.proofs.lemmas.List.Edits.{sets}

-- a buffer, and how many bytes it keeps
pub record Kept : Type 0 where
  pub buffer : List ℕ
  pub done : ℕ

-- the bytes of one read join behind those kept
abbrev pub keep : Kept → List ℕ → Kept
keep k chunk = record { buffer = sets k.buffer k.done chunk; done = k.done + length chunk }

-- the bytes of several reads, in order
abbrev pub keep_all : Kept → List (List ℕ) → Kept
keep_all k [] = k
keep_all k (chunk ∷ chunks) = keep_all (keep k chunk) chunks

-- one turn, with what the read left in the chunk: its bytes join those kept, as many as there is
-- room for; after a failed read the buffer is as it was
abbrev pub TurnOf : {E : Type 0} → List ℕ → ℕ → List ℕ → List ℕ → Result ℕ E → Type 0
TurnOf before done after chunk (Ok n) =
    (done + n ≤ length before) × (n ≤ length chunk) × (after ≡ sets before done (take n chunk))
TurnOf before done after chunk (Err e) = after ≡ before

-- all turns: the buffer and the number of bytes kept are those of the chunks that were read, in
-- order
abbrev pub FilledBy : {E : Type 0} → List ℕ → List ℕ → Result ℕ E → Type 0
FilledBy before after (Ok n) =
    (n ≤ length before) × ((chunks : List (List ℕ))
    × (record { buffer = after; done = n }
    ≡ keep_all (record { buffer = before; done = 0 }) chunks))
FilledBy before after (Err e) = Unit
